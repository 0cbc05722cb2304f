-- The numbers of JSON (RFC 8259, section 6) and of GraphQL (IntValue and FloatValue):
--   number = [ minus ] int [ frac ] [ exp ]
--   int = zero / ( digit1-9 *DIGIT )
--   frac = decimal-point 1*DIGIT
--   exp = e [ minus / plus ] 1*DIGIT
use Rattle.std.specs.Prelude.{◌≡◌, ℕ, ◌≤◌, List, [], ◌∷◌, ◌++◌}
use Rattle.text.specs.declared.number.NumberKind.{NumberKind}
use Rattle.text.specs.declared.number.NumberKind.TheVariants.{Whole, Decimal}

-- DIGIT
abbrev pub IsDigit : ℕ → Type 0
IsDigit b = (48 ≤ b) × (b ≤ 57)

-- [ X ]
pub data Optional (X : List ℕ → Type 0) : List ℕ → Type 0 where
  without : Optional X []
  with : {xs : List ℕ} → X xs → Optional X xs

-- *DIGIT
pub data Digits : List ℕ → Type 0 where
  none : Digits []
  digit : {d : ℕ} {ds : List ℕ} → IsDigit d → Digits ds → Digits (d ∷ ds)

-- minus
pub data IsMinus : List ℕ → Type 0 where
  minus : IsMinus (45 ∷ [])

-- minus / plus
pub data IsSign : List ℕ → Type 0 where
  sign_minus : IsSign (45 ∷ [])
  sign_plus : IsSign (43 ∷ [])

-- e
pub data IsMark : ℕ → Type 0 where
  small_e : IsMark 101
  great_e : IsMark 69

-- int
pub data IsInt : List ℕ → Type 0 where
  zero_int : IsInt (48 ∷ [])
  int : {d : ℕ} {ds : List ℕ} → 49 ≤ d → d ≤ 57 → Digits ds → IsInt (d ∷ ds)

-- frac
pub data IsFrac : List ℕ → Type 0 where
  frac : {d : ℕ} {ds : List ℕ} → IsDigit d → Digits ds → IsFrac (46 ∷ d ∷ ds)

-- exp
pub data IsExp : List ℕ → Type 0 where
  exp : {e d : ℕ} {s ds : List ℕ} → IsMark e → Optional IsSign s → IsDigit d → Digits ds → IsExp (e ∷ (s ++ d ∷ ds))

-- Whole where there is neither a fraction nor an exponent
abbrev pub kind_of : (f e : List ℕ) → NumberKind
kind_of [] [] = Whole
kind_of [] (x ∷ xs) = Decimal
kind_of (x ∷ xs) e = Decimal

-- number, taken apart into its parts
pub record Number (text : List ℕ) (kind : NumberKind) : Type 0 where
  pub m : List ℕ
  pub i : List ℕ
  pub f : List ℕ
  pub e : List ℕ
  pub sign : Optional IsMinus m
  pub whole : IsInt i
  pub fraction : Optional IsFrac f
  pub exponent : Optional IsExp e
  pub spelled : text ≡ m ++ (i ++ (f ++ e))
  pub kinds : kind ≡ kind_of f e
