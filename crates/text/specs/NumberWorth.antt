-- What a number is worth.
use Rattle.std.specs.Prelude.{◌≡◌, ℕ, ◌+◌, ◌-◌, ◌*◌, ◌^◌, Bool, true, false, cond, ◌⊎◌, List, [], ◌∷◌, ◌++◌, length, ℤ, pos, ◌-ℤ◌, neg_ℤ, ◌==◌}
use Rattle.text.specs.declared.number.NumberKind.{NumberKind}
use Rattle.text.specs.NumberGrammar.{IsDigit, Digits, IsMark, IsInt, Number}

-- the number that digits write after those that write v
abbrev pub after : ℕ → List ℕ → ℕ
after v [] = v
after v (d ∷ ds) = after (v * 10 + (d - 48)) ds

-- the number that digits write
abbrev pub value : List ℕ → ℕ
value ds = after 0 ds

-- [ minus ], with whether it is there
pub data Minus : List ℕ → Bool → Type 0 where
  no_minus : Minus [] false
  one_minus : Minus (45 ∷ []) true

-- [ frac ], with its digits
pub data Fraction : List ℕ → List ℕ → Type 0 where
  no_fraction : Fraction [] []
  fraction : {d : ℕ} {ds : List ℕ} → IsDigit d → Digits ds → Fraction (46 ∷ d ∷ ds) (d ∷ ds)

-- [ exp ], with the power of ten
pub data Power : List ℕ → ℤ → Type 0 where
  no_power : Power [] (pos 0)
  plain : {e d : ℕ} {ds : List ℕ} → IsMark e → IsDigit d → Digits ds → Power (e ∷ d ∷ ds) (pos (value (d ∷ ds)))
  more : {e d : ℕ} {ds : List ℕ} → IsMark e → IsDigit d → Digits ds → Power (e ∷ 43 ∷ d ∷ ds) (pos (value (d ∷ ds)))
  less : {e d : ℕ} {ds : List ℕ} → IsMark e → IsDigit d → Digits ds → Power (e ∷ 45 ∷ d ∷ ds) (neg_ℤ (pos (value (d ∷ ds))))

-- number = [ minus ] int [ frac ] [ exp ]: what it writes is amount × 10 ^ scale, below zero if negative.
-- With the integer i, the fraction's digits ds and the power p that is
-- (i + ds / 10 ^ length ds) × 10 ^ p  =  (i × 10 ^ length ds + ds) × 10 ^ (p - length ds)
pub record Writes (text : List ℕ) (negative : Bool) (amount : ℕ) (scale : ℤ) : Type 0 where
  pub m : List ℕ
  pub i : List ℕ
  pub f : List ℕ
  pub e : List ℕ
  pub ds : List ℕ
  pub p : ℤ
  pub sign : Minus m negative
  pub whole : IsInt i
  pub part : Fraction f ds
  pub power : Power e p
  pub spelled : text ≡ m ++ (i ++ (f ++ e))
  pub amounts : amount ≡ value i * 10 ^ length ds + value ds
  pub scales : scale ≡ p -ℤ pos (length ds)

-- a × 10 ^ e and b × 10 ^ f are the same: written at the lesser of the exponents, which is k below e and l below f
pub record Equal (a : ℕ) (e : ℤ) (b : ℕ) (f : ℤ) : Type 0 where
  pub k : ℕ
  pub l : ℕ
  pub least : (k ≡ 0) ⊎ (l ≡ 0)
  pub level : e -ℤ pos k ≡ f -ℤ pos l
  pub same : a * 10 ^ k ≡ b * 10 ^ l

-- whether a number is below zero: zero is not, with a minus too
abbrev pub below : Bool → ℕ → Bool
below negative amount = cond (amount == 0) false negative

-- two numbers with their signs are the same
pub record SameWorth (n : Bool) (a : ℕ) (e : ℤ) (m : Bool) (b : ℕ) (f : ℤ) : Type 0 where
  pub signs : below n a ≡ below m b
  pub amounts : Equal a e b f

-- the text writes some number
pub record Written (text : List ℕ) : Type 0 where
  pub negative : Bool
  pub amount : ℕ
  pub scale : ℤ
  pub writes : Writes text negative amount scale

-- the text is a number of the grammar
pub record IsNumber (text : List ℕ) : Type 0 where
  pub kind : NumberKind
  pub number : Number text kind

-- each number of the grammar writes something
abbrev pub NumbersWrite : Type 0
NumbersWrite = (text : List ℕ) (kind : NumberKind) → Number text kind → Written text

-- what writes something is a number of the grammar
abbrev pub WritersAreNumbers : Type 0
WritersAreNumbers = (text : List ℕ) → Written text → IsNumber text

-- a text writes one thing only
abbrev pub WritesOnce : Type 0
WritesOnce = (text : List ℕ) (n m : Bool) (a b : ℕ) (s t : ℤ) (v : Writes text n a s) (w : Writes text m b t) → (n ≡ m) × (a ≡ b) × (s ≡ t) × (v.p ≡ w.p)

-- to be worth the same is an equivalence
pub record WorthIsEquivalence : Type 0 where
  pub itself : (n : Bool) (a : ℕ) (e : ℤ) → SameWorth n a e n a e
  pub back : {n m : Bool} {a b : ℕ} {e f : ℤ} → SameWorth n a e m b f → SameWorth m b f n a e
  pub onward : {n m o : Bool} {a b c : ℕ} {e f g : ℤ} → SameWorth n a e m b f → SameWorth m b f o c g → SameWorth n a e o c g
