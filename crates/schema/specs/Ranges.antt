-- Digits as the tests of ranges take them.
use Rattle.std.specs.Prelude.{ℕ, suc, ◌+◌, ◌-◌, ◌^◌, ◌≤◌, min, negsuc, Bool, true, false, cond, List, [], ◌∷◌, ℤ, pos, ◌==◌, nat_lt}
use Rattle.text.specs.NumberGrammar.{Digits}

-- digits that begin with no zero, or zero, at no other exponent than 0
pub data Numeral : ℤ → List ℕ → Type 0 where
  zero_numeral : Numeral (pos 0) (48 ∷ [])
  numeral : {x : ℤ} {d : ℕ} {ds : List ℕ} → 49 ≤ d → d ≤ 57 → Digits ds → Numeral x (d ∷ ds)

-- the first bytes that differ decide, and else the lengths
abbrev pub comes_before : List ℕ → List ℕ → Bool
comes_before [] [] = false
comes_before [] (y ∷ ys) = true
comes_before (x ∷ xs) [] = false
comes_before (x ∷ xs) (y ∷ ys) = cond (x == y) (comes_before xs ys) (nat_lt x y)

-- how many digits stand before the point, of so many with an exponent; past what a machine word holds it does not matter how many
abbrev pub places_of : ℤ → ℕ → ℕ
places_of (pos e) n = min (n + e) (2 ^ 64 - 1)
places_of (negsuc e) n = n - suc e
