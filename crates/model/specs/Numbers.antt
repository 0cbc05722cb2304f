-- What numbers are worth, and the ranges of Int and Float.
use Rattle.std.specs.Prelude.{ℕ, suc, ◌-◌, ◌*◌, ◌^◌, Bool, false, cond, List, [], ◌∷◌, length, ℤ, pos, negsuc, ◌==◌, nat_le, nat_lt}
use Rattle.text.specs.NumberWorth.{value, SameWorth}
use Rattle.text.specs.NormalForm.{Form as DecimalForm}
use Rattle.model.specs.Values.{Dec}

-- whether the text of a whole number has a minus, and its digits
abbrev pub is_negative : List ℕ → Bool
is_negative [] = false
is_negative (b ∷ bs) = b == 45

abbrev pub digits_in : List ℕ → List ℕ
digits_in [] = []
digits_in (b ∷ bs) = cond (b == 45) bs (b ∷ bs)

-- the magnitude of a whole number
abbrev pub magnitude : List ℕ → ℕ
magnitude s = value (digits_in s)

-- Int: from -2147483648 to 2147483647 (section 3.5.1)
abbrev pub in_int : List ℕ → Bool
in_int s = nat_le (magnitude s) (cond (is_negative s) 2147483648 2147483647)

-- JSON's whole numbers at Float: magnitude up to 2 ^ 53 - 1
abbrev pub is_safe : List ℕ → Bool
is_safe s = nat_le (magnitude s) 9007199254740991

-- 2 ^ 1024 - 2 ^ 970, the least magnitude that is no finite number of binary64
abbrev pub float_bound : ℕ
float_bound = 2 ^ 1024 - 2 ^ 970

-- digits × 10 ^ exponent is below the bound
abbrev pub below_bound : ℤ → ℕ → Bool
below_bound (pos e) v = nat_lt (v * 10 ^ e) float_bound
below_bound (negsuc e) v = nat_lt v (float_bound * 10 ^ suc e)

-- Float: finite in binary64 (section 3.5.2)
abbrev pub is_finite : Dec → Bool
is_finite d = below_bound d.exponent (value d.digits)

-- digits without the zeros at their end
abbrev pub add_front : ℕ → List ℕ → List ℕ
add_front d [] = cond (d == 48) [] (d ∷ [])
add_front d (e ∷ es) = d ∷ e ∷ es

abbrev pub trimmed : List ℕ → List ℕ
trimmed [] = []
trimmed (d ∷ ds) = add_front d (trimmed ds)

-- the decimal zero
abbrev pub zero_dec : Dec
zero_dec = record { negative = false; exponent = pos 0; digits = 48 ∷ [] }

-- digits with a sign as a decimal, with what is left of them without the zeros at their end
abbrev pub settled : Bool → List ℕ → List ℕ → Dec
settled n ds [] = zero_dec
settled n ds (t ∷ ts) = record { negative = n; exponent = pos (length ds - length (t ∷ ts)); digits = t ∷ ts }

-- a whole number as a decimal in normal form
abbrev pub decimal_of : List ℕ → Dec
decimal_of s = settled (is_negative s) (digits_in s) (trimmed (digits_in s))

-- a decimal is in normal form
abbrev pub NormalDec : Dec → Type 0
NormalDec d = DecimalForm d.negative d.exponent d.digits

-- decimals, and whole numbers, that are worth the same
abbrev pub SameDec : Dec → Dec → Type 0
SameDec d e = SameWorth d.negative (value d.digits) d.exponent e.negative (value e.digits) e.exponent

abbrev pub SameWhole : List ℕ → List ℕ → Type 0
SameWhole s t = SameWorth (is_negative s) (magnitude s) (pos 0) (is_negative t) (magnitude t) (pos 0)

-- a whole number and a decimal that are worth the same
abbrev pub WholeIsDec : List ℕ → Dec → Type 0
WholeIsDec s d = SameWorth (is_negative s) (magnitude s) (pos 0) d.negative (value d.digits) d.exponent
