-- A whole number's decimal is within the limits.
use Rattle.std.proofs.Common.{ℕ, suc, ◌≤◌, Bool, eqb, List, [], ◌∷◌, length, arith}
use Rattle.std.proofs.lemmas.Bool.{cond_both}
use Rattle.model.specs.Numbers.{is_negative, digits_in, add_front, trimmed, settled, decimal_of}
use Rattle.model.specs.Records.{ExponentFits}
use Rattle.model.specs.Limits.{WholeLimits, DecLimits}
use Rattle.model.proofs.NumLaws.{whole_as_decimal}

front_short : (d : ℕ) (es : List ℕ) → length (add_front d es) ≤ suc (length es)
front_short d [] = cond_both (eqb d 48) [] (d ∷ []) (λ l. length l ≤ 1) (λ e. omega arith) (λ e. omega arith)
front_short d (e ∷ es) = omega arith

trimmed-short : (ds : List ℕ) → length (trimmed ds) ≤ length ds
trimmed-short [] = omega arith
trimmed-short (d ∷ ds) = omega (arith, front_short d (trimmed ds), trimmed-short ds)

digits_short : (s : List ℕ) → length (digits_in s) ≤ length s
digits_short [] = omega arith
digits_short (b ∷ bs) = cond_both (eqb b 45) bs (b ∷ bs) (λ l. length l ≤ suc (length bs)) (λ e. omega arith) (λ e. omega arith)

-- neither the digits nor the exponent are more than the digits that were written
settled-short : (n : Bool) (ds ts : List ℕ) → length ts ≤ length ds → length ds ≤ 1000 → (length (settled n ds ts).digits ≤ 1000) × ExponentFits (settled n ds ts).exponent
settled-short n ds [] h k = (omega arith, omega arith)
settled-short n ds (t ∷ ts) h k = (omega arith, omega arith)

pub decimal_limits : (s : List ℕ) → WholeLimits s → DecLimits (decimal_of s)
decimal_limits s w =
    let d = digits_short s in
    let b = settled-short (is_negative s) (digits_in s) (trimmed (digits_in s)) (trimmed-short (digits_in s)) (omega (arith, w.short)) in
    record { formed = (whole_as_decimal s w.formed).0; short = b.0; fits = b.1 }
