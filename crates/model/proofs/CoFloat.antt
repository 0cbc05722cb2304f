-- a whole number that is a Float is finite as a decimal
use Rattle.std.proofs.Common.{◌≡◌, ℕ, suc, ◌+◌, ◌-◌, ◌*◌, ◌^◌, ◌<◌, ◌≤◌, Bool, true, eqb, List, [], ◌∷◌, ◌++◌, length, replicate, sym, refl, ap, ◌∙◌, subst, ⊎_elim, arith, length-append}
use lib.ListN.{length-replicate}
use Rattle.std.proofs.lemmas.Bool.{cases_Bool, eqb-true, cond-true, cond-false, ltb-true, leb-true, lt-ltb}
use Rattle.text.specs.NumberWorth.{value}
use Rattle.text.proofs.NormValues.{value-zeros}
use Rattle.model.specs.Values.{Form, json, literal}
use Rattle.model.specs.Numbers.{magnitude, is_negative, digits_in, float_bound, is_finite, add_front, trimmed, settled, decimal_of}
use Rattle.model.specs.Scalars.{whole_is_float}

-- digits are some others and zeros after them
abbrev Zeros : List ℕ → List ℕ → Type 0
Zeros ds ts = (r : ℕ) × (ds ≡ ts ++ replicate r 48)

front_zeros : (d : ℕ) (ds ts : List ℕ) → Zeros ds ts → Zeros (d ∷ ds) (add_front d ts)
front_zeros d ds [] (r, e) = ⊎_elim
    (λ b. let q : d ≡ 48 = eqb-true d 48 b in (suc r, subst (λ ts. d ∷ ds ≡ ts ++ replicate (suc r) 48) (sym (cond-true (eqb d 48) [] (d ∷ []) b)) (cc)))
    (λ b. (r, subst (λ ts. d ∷ ds ≡ ts ++ replicate r 48) (sym (cond-false (eqb d 48) [] (d ∷ []) b)) (ap (λ l. d ∷ l) e)))
    (cases_Bool (eqb d 48))
front_zeros d ds (t ∷ ts) (r, e) = (r, ap (λ l. d ∷ l) e)

trimmed-zeros : (ds : List ℕ) → Zeros ds (trimmed ds)
trimmed-zeros [] = (0, refl)
trimmed-zeros (d ∷ ds) = front_zeros d ds (trimmed ds) (trimmed-zeros ds)

settled-finite : (n : Bool) (ds ts : List ℕ) → Zeros ds ts → value ds < float_bound → is_finite (settled n ds ts) ≡ true
settled-finite n ds [] z h = refl
settled-finite n ds (t ∷ ts) (r, e) h =
    let long : length ds ≡ length (t ∷ ts) + r = ap length e ∙ length-append (t ∷ ts) (replicate r 48) ∙ ap (λ k. length (t ∷ ts) + k) (length-replicate r 48) in
    let less : length ds - length (t ∷ ts) ≡ r = omega arith in
    let worth : value ds ≡ value (t ∷ ts) * 10 ^ r = ap value e ∙ value-zeros (t ∷ ts) r in
    lt-ltb (value (t ∷ ts) * 10 ^ (length ds - length (t ∷ ts))) float_bound
    (subst (λ k. value (t ∷ ts) * 10 ^ k < float_bound) (sym less) (subst (λ v. v < float_bound) worth h))

below_both : (a b c : ℕ) → a ≤ b → b < c → a < c
below_both a b c h k = omega arith

float_below : (p : Form) (s : List ℕ) → whole_is_float p s ≡ true → magnitude s < float_bound
float_below json s e = below_both (magnitude s) 9007199254740991 float_bound (leb-true (magnitude s) 9007199254740991 e) (ltb-true 9007199254740991 float_bound refl)
float_below literal s e = ltb-true (magnitude s) float_bound e

pub whole_finite : (p : Form) (s : List ℕ) → whole_is_float p s ≡ true → is_finite (decimal_of s) ≡ true
whole_finite p s e = settled-finite (is_negative s) (digits_in s) (trimmed (digits_in s)) (trimmed-zeros (digits_in s)) (float_below p s e)
