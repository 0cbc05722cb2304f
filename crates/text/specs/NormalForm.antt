-- Normal forms of numbers, and what the functions on them promise.
use Rattle.std.specs.Prelude.{◌≡◌, ℕ, ◌+◌, ◌-◌, ◌<◌, ◌≤◌, Bool, true, false, ◌≢◌, List, [], ◌∷◌, ◌++◌, length, take, drop, replicate, ℤ, pos, neg_ℤ, Some, None, Ok, Err, Option, Result, slice_index, slice_index_or, unsigned_abs}
use Rattle.text.specs.declared.fault.Fault.{Fault}
use Rattle.text.specs.declared.fault.Fault.TheVariants.{BadText, TooDeep, NoSpace, RepeatedName, LongNumber, NoMemory}
use Rattle.text.specs.declared.number.NumberKind.TheVariants.{Whole}
use Rattle.text.specs.declared.decimal.Scale.{Scale}
use Rattle.text.specs.declared.decimal.Parts.{Parts}
use Rattle.text.specs.NumberGrammar.{IsDigit, Digits, IsInt, Number}
use Rattle.text.specs.NumberWorth.{after, value, Power, Fraction, Writes, SameWorth, below}
use Rattle.text.specs.Cuts.{part}

-- each byte is a digit
abbrev pub Each : List ℕ → Type 0
Each ds = (k : ℕ) → k < length ds → IsDigit (slice_index ds k)

-- a decimal in normal form, sign, exponent and digits: 0 as one digit, or digits that neither begin nor end with a zero
pub data Form : Bool → ℤ → List ℕ → Type 0 where
  form_zero : Form false (pos 0) (48 ∷ [])
  form : {n : Bool} {x : ℤ} {ds : List ℕ} → Each ds → 0 < length ds → slice_index ds 0 ≢ 48 → slice_index ds (length ds - 1) ≢ 48 → Form n x ds

-- the decimal is in normal form, and worth what the text writes
pub record Normal (text : List ℕ) (d : Scale) (digits : List ℕ) : Type 0 where
  pub formed : Form d.negative d.exponent digits
  pub worth : (n : Bool) (a : ℕ) (s : ℤ) → Writes text n a s → SameWorth n a s d.negative (value digits) d.exponent

-- the text is at most 1,000 bytes, and its exponent has at most six digits after leading zeros
pub record Within (text : List ℕ) : Type 0 where
  pub short : length text ≤ 1000
  pub small : (n : Bool) (a : ℕ) (s : ℤ) (w : Writes text n a s) → unsigned_abs w.p < 1000000

-- the text has more bytes, or its exponent has more digits
pub data Beyond (text : List ℕ) : Type 0 where
  long : 1000 < length text → Beyond text
  great : length text ≤ 1000 → ((n : Bool) (a : ℕ) (s : ℤ) (w : Writes text n a s) → 1000000 ≤ unsigned_abs w.p) → Beyond text

-- the digits of the normal form are added at the end
pub record Added (text out out' : List ℕ) (d : Scale) : Type 0 where
  pub digits : List ℕ
  pub added : out' ≡ out ++ digits
  pub normal : Normal text d digits
  pub within : Within text

-- nothing is added, since there was no room for more bytes than the text has, and no memory for more
pub record Refused (text out out' : List ℕ) (capacity : ℕ) : Type 0 where
  pub kept : out' ≡ out
  pub full : capacity ≤ length out + length text
  pub within : Within text

-- the normal form is added, or the number is too long or memory is short, and then nothing is
abbrev pub Told : (text out out' : List ℕ) (capacity : ℕ) → Result Scale Fault → Type 0
Told text out out' capacity (Ok d) = Added text out out' d
Told text out out' capacity (Err (LongNumber k)) = (k ≡ 0) × (out' ≡ out) × Beyond text
Told text out out' capacity (Err NoMemory) = Refused text out out' capacity
Told text out out' capacity (Err (BadText k)) = ⊥
Told text out out' capacity (Err (TooDeep k)) = ⊥
Told text out out' capacity (Err (NoSpace k)) = ⊥
Told text out out' capacity (Err (RepeatedName k)) = ⊥

-- a whole number in normal form: no zero before other digits, and no minus before zero
pub data WholeForm : List ℕ → Type 0 where
  whole_zero : WholeForm (48 ∷ [])
  whole_above : {d : ℕ} {ds : List ℕ} → 49 ≤ d → d ≤ 57 → Digits ds → WholeForm (d ∷ ds)
  whole_below : {d : ℕ} {ds : List ℕ} → 49 ≤ d → d ≤ 57 → Digits ds → WholeForm (45 ∷ d ∷ ds)

-- the bytes are those of the text, but 0 for -0
pub record WholeOf (text r : List ℕ) : Type 0 where
  pub zero : text ≡ 45 ∷ 48 ∷ [] → r ≡ 48 ∷ []
  pub other : text ≢ 45 ∷ 48 ∷ [] → r ≡ text

-- the bytes are a whole number in normal form, and write what the text writes, with no minus before zero
pub record WholeNormal (text r : List ℕ) : Type 0 where
  pub formed : WholeForm r
  pub number : Number r Whole
  pub worth : (n : Bool) (a : ℕ) (s : ℤ) → Writes text n a s → Writes r (below n a) a s

-- the digits are a part of the text, and where the text is a whole number of at most 1,000 bytes its normal form; of more bytes all are given back
pub record OfWhole (text : List ℕ) (d : Scale) (digits : List ℕ) : Type 0 where
  pub from : ℕ
  pub to : ℕ
  pub forward : from ≤ to
  pub within : to ≤ length text
  pub stands : digits ≡ part text from to
  pub normal : length text ≤ 1000 → Number text Whole → Normal text d digits
  pub long : 1000 < length text → (d.negative ≡ false) × (d.exponent ≡ pos 0) × (digits ≡ text)

-- decimals in normal form that are worth the same are the same
abbrev pub FormsAreUnique : Type 0
FormsAreUnique = (n m : Bool) (x y : ℤ) (ds es : List ℕ) → Form n x ds → Form m y es → SameWorth n (value ds) x m (value es) y → (n ≡ m) × (x ≡ y) × (ds ≡ es)

-- numbers that are worth the same have the same normal form
abbrev pub EqualNumbersEqualForms : Type 0
EqualNumbersEqualForms = (xs ys ds es : List ℕ) (d e : Scale) (n m : Bool) (a b : ℕ) (s t : ℤ) → Normal xs d ds → Normal ys e es → Writes xs n a s → Writes ys m b t → SameWorth n a s m b t → (d ≡ e) × (ds ≡ es)

-- and numbers that have the same normal form are worth the same
abbrev pub EqualFormsEqualNumbers : Type 0
EqualFormsEqualNumbers = (xs ys ds : List ℕ) (d : Scale) (n m : Bool) (a b : ℕ) (s t : ℤ) → Normal xs d ds → Normal ys d ds → Writes xs n a s → Writes ys m b t → SameWorth n a s m b t

-- whole numbers in normal form that write the same are the same
abbrev pub WholesAreUnique : Type 0
WholesAreUnique = (xs ys : List ℕ) (n m : Bool) (a b : ℕ) (s t : ℤ) → WholeForm xs → WholeForm ys → Writes xs n a s → Writes ys m b t → SameWorth n a s m b t → xs ≡ ys

-- What the inner functions promise.

-- the text is those digits, and then what begins with no digit
pub record DigitsFirst (text digits rest : List ℕ) : Type 0 where
  pub spelled : text ≡ digits ++ rest
  pub each : Each digits
  pub stops : 0 < length rest → IsDigit (slice_index rest 0) → ⊥

-- the value of digits, if it has at most six after leading zeros
abbrev pub Sized : List ℕ → Option ℕ → Type 0
Sized ds None = Each ds → 1000000 ≤ value ds
Sized ds (Some v) = (v ≡ value ds) × (v < 1000000)

-- a number with its sign
abbrev pub signed : Bool → ℕ → ℤ
signed true n = neg_ℤ (pos n)
signed false n = pos n

-- the sign of an exponent whose mark stands before the text, and its digits
abbrev pub Led : List ℕ → Bool → List ℕ → Type 0
Led text negative digits = (e : ℕ) (p : ℤ) → Power (e ∷ text) p → (p ≡ signed negative (value digits)) × Each digits

-- the value of an exponent, if it has at most six digits after leading zeros
abbrev pub Powered : List ℕ → Option ℤ → Type 0
Powered e None = (p : ℤ) → Power e p → 1000000 ≤ unsigned_abs p
Powered e (Some q) = (unsigned_abs q < 1000000) × ((p : ℤ) → Power e p → q ≡ p)

-- digits with no zero before them that write v
pub record Held (ds : List ℕ) (v : ℕ) : Type 0 where
  pub each : Each ds
  pub led : slice_index_or ds 0 0 ≢ 48
  pub worth : value ds ≡ v

-- the digits of the text are added to those from base on, without zeros before the first
pub record Grown (base : ℕ) (before now text : List ℕ) : Type 0 where
  pub kept : take base now ≡ take base before
  pub more : length before ≤ length now
  pub most : length now ≤ length before + length text
  pub held : (v : ℕ) → Held (drop base before) v → Each text → Held (drop base now) (after v text)

-- what follows the digits that are kept are zeros, and the last that is kept is none
pub record Trimmed (digits kept : List ℕ) : Type 0 where
  pub zeros : digits ≡ kept ++ replicate (length digits - length kept) 48
  pub last : 0 < length kept → slice_index kept (length kept - 1) ≢ 48

-- whether there is a minus, and what follows it
abbrev pub Signs : List ℕ → Bool → List ℕ → Type 0
Signs text true rest = text ≡ 45 ∷ rest
Signs text false rest = (rest ≡ text) × ((r : List ℕ) → text ≡ 45 ∷ r → ⊥)

-- the parts of a number after its minus
pub record Split (text : List ℕ) (p : Parts) : Type 0 where
  pub within : length p.whole.now + length p.places.now ≤ length text
  pub wholes : Each p.whole.now
  pub fracs : Each p.places.now
  pub found : (i f e ds : List ℕ) (q : ℤ) → text ≡ i ++ (f ++ e) → IsInt i → Fraction f ds → Power e q → (p.whole.now ≡ i) × (p.places.now ≡ ds) × (p.power.now ≡ e)
