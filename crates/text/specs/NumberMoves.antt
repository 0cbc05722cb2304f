-- What one byte does to the scanner of a number.
use Rattle.std.specs.Prelude.{◌≡◌, ℕ, ◌+◌, ◌-◌, ◌*◌, ◌<◌, ◌≤◌, min, Bool, cond, ◌&&◌, ◌||◌, Some, None, Ok, Err, Option, Result, ◌==◌, nat_le}
use Rattle.text.specs.declared.fault.Fault.{Fault}
use Rattle.text.specs.declared.fault.Fault.TheVariants.{BadText, TooDeep, NoSpace, RepeatedName, LongNumber, NoMemory}
use Rattle.text.specs.declared.number.NumberKind.{NumberKind}
use Rattle.text.specs.declared.number.NumberKind.TheVariants.{Whole, Decimal}
use Rattle.text.specs.declared.number.State.{State}
use Rattle.text.specs.declared.number.State.TheVariants.{Start, Minus, Zero, Int, Point, Frac, Exp, ExpSign, ExpDigits}

abbrev pub is_digit : ℕ → Bool
is_digit b = nat_le 48 b && nat_le b 57

abbrev pub is_mark : ℕ → Bool
is_mark b = b == 101 || b == 69

abbrev pub is_sign : ℕ → Bool
is_sign b = b == 43 || b == 45

-- the state after the first digit
abbrev pub lead : ℕ → Option State
lead b = cond (b == 48) (Some Zero) (cond (is_digit b) (Some Int) None)

-- after a part that an exponent may follow
abbrev pub marked : ℕ → Option State
marked b = cond (is_mark b) (Some Exp) None

-- after a part that a fraction or an exponent may follow
abbrev pub pointed : ℕ → Option State
pointed b = cond (b == 46) (Some Point) (marked b)

-- a number, or a million where it is more
abbrev pub capped : ℕ → ℕ
capped n = min n 1000000

-- the state after one more byte, if it continues a number
abbrev pub next : State → ℕ → Option State
next Start b = cond (b == 45) (Some Minus) (lead b)
next Minus b = lead b
next Zero b = pointed b
next Int b = cond (is_digit b) (Some Int) (pointed b)
next Point b = cond (is_digit b) (Some Frac) None
next Frac b = cond (is_digit b) (Some Frac) (marked b)
next Exp b = cond (is_digit b) (Some (ExpDigits (b - 48))) (cond (is_sign b) (Some ExpSign) None)
next ExpSign b = cond (is_digit b) (Some (ExpDigits (b - 48))) None
next (ExpDigits v) b = cond (is_digit b) (Some (ExpDigits (capped (v * 10 + (b - 48))))) None

-- the kind of the number that ends in a state
abbrev pub kind_in : State → Option NumberKind
kind_in Start = None
kind_in Minus = None
kind_in Zero = Some Whole
kind_in Int = Some Whole
kind_in Point = None
kind_in Frac = Some Decimal
kind_in Exp = None
kind_in ExpSign = None
kind_in (ExpDigits v) = Some Decimal

-- what the exponent's digits write so far, up to a million
abbrev pub exponent_in : State → ℕ
exponent_in Start = 0
exponent_in Minus = 0
exponent_in Zero = 0
exponent_in Int = 0
exponent_in Point = 0
exponent_in Frac = 0
exponent_in Exp = 0
exponent_in ExpSign = 0
exponent_in (ExpDigits v) = v

-- what the bytes from `at` to `end` come to that led to s: a number, or none, or one with a long exponent
abbrev pub Finished : State → (at end : ℕ) → Result (ℕ × NumberKind) Fault → Type 0
Finished s at end (Ok r) = (r.0 ≡ end) × (kind_in s ≡ Some r.1) × (exponent_in s < 1000000)
Finished s at end (Err (BadText k)) = (k ≡ at) × (kind_in s ≡ None)
Finished s at end (Err (LongNumber k)) = (k ≡ at) × ((kind : NumberKind) × (kind_in s ≡ Some kind)) × (1000000 ≤ exponent_in s)
Finished s at end (Err (TooDeep k)) = ⊥
Finished s at end (Err (NoSpace k)) = ⊥
Finished s at end (Err (RepeatedName k)) = ⊥
Finished s at end (Err NoMemory) = ⊥
