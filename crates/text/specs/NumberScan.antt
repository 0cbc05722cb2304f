-- What a scan of a number comes to.
use Rattle.std.specs.Prelude.{◌≡◌, ℕ, ◌+◌, ◌-◌, ◌<◌, ◌≤◌, ◌⊎◌, List, ◌∷◌, ◌++◌, length, Ok, Err, Result}
use Rattle.text.specs.declared.fault.Fault.{Fault}
use Rattle.text.specs.declared.fault.Fault.TheVariants.{BadText, TooDeep, NoSpace, RepeatedName, LongNumber, NoMemory}
use Rattle.text.specs.declared.number.NumberKind.{NumberKind}
use Rattle.text.specs.NumberWorth.{value}
use Rattle.text.specs.NumberGrammar.{Optional, without, with, IsExp, exp, Number}
use Rattle.text.specs.Cuts.{part}

-- what the digits of an exponent write, sign aside
abbrev pub size_of : {e : List ℕ} → IsExp e → ℕ
size_of (exp {d = d} {ds = ds} a s h r) = value (d ∷ ds)

-- the same, and 0 where there is no exponent
abbrev pub size_in : {e : List ℕ} → Optional IsExp e → ℕ
size_in without = 0
size_in (with x) = size_of x

-- the size of a number's exponent: it has more than six digits after leading zeros where this is a million or more
abbrev pub exponent_of : {text : List ℕ} {kind : NumberKind} → Number text kind → ℕ
exponent_of n = size_in n.exponent

-- the bytes begin some number: they are the whole of it, or more bytes make it one
pub record Begins (xs : List ℕ) : Type 0 where
  pub rest : List ℕ
  pub kind : NumberKind
  pub number : Number (xs ++ rest) kind

-- the longest run from `at` that begins a number is the one that ends at `end`
-- (where a run begins a number, each shorter one does, so one more byte is enough to say);
-- past the end of the text the run is empty
pub record Longest (text : List ℕ) (at end : ℕ) : Type 0 where
  pub forward : at ≤ end
  pub within : end - at ≤ length text - at
  pub begins : Begins (part text at end)
  pub stops : end < length text → Begins (part text at (end + 1)) → ⊥

-- that run, at most 1,000 bytes, is a number, and its exponent has at most six digits
pub record Found (text : List ℕ) (at end : ℕ) (kind : NumberKind) : Type 0 where
  pub some : at < end
  pub inside : end ≤ length text
  pub longest : Longest text at end
  pub short : end ≤ at + 1000
  pub number : Number (part text at end) kind
  pub small : exponent_of number < 1000000

-- that run, at most 1,000 bytes, is no number
pub record Unfinished (text : List ℕ) (at : ℕ) : Type 0 where
  pub end : ℕ
  pub longest : Longest text at end
  pub short : end ≤ at + 1000
  pub no_number : (kind : NumberKind) → Number (part text at end) kind → ⊥

-- a run of 1,001 bytes begins a number
pub record Endless (text : List ℕ) (at : ℕ) : Type 0 where
  pub long : at + 1000 < length text
  pub begins : Begins (part text at (at + 1001))

-- the longest run, at most 1,000 bytes, is a number, and its exponent has more than six digits
pub record FarScaled (text : List ℕ) (at : ℕ) : Type 0 where
  pub end : ℕ
  pub kind : NumberKind
  pub longest : Longest text at end
  pub short : end ≤ at + 1000
  pub number : Number (part text at end) kind
  pub large : 1000000 ≤ exponent_of number

-- why the scan at `at` refuses
abbrev pub ScanRefused : List ℕ → ℕ → Fault → Type 0
ScanRefused text at (BadText k) = (k ≡ at) × Unfinished text at
ScanRefused text at (LongNumber k) = (k ≡ at) × (Endless text at ⊎ FarScaled text at)
ScanRefused text at (TooDeep k) = ⊥
ScanRefused text at (NoSpace k) = ⊥
ScanRefused text at (RepeatedName k) = ⊥
ScanRefused text at NoMemory = ⊥

-- the result of the scan at `at`
abbrev pub Scanned : List ℕ → ℕ → Result (ℕ × NumberKind) Fault → Type 0
Scanned text at (Ok r) = Found text at r.0 r.1
Scanned text at (Err f) = ScanRefused text at f

-- at each place of each text there is one result
abbrev pub OneScan : Type 0
OneScan = (text : List ℕ) (at : ℕ) (r s : Result (ℕ × NumberKind) Fault) → Scanned text at r → Scanned text at s → r ≡ s
