-- Rows by their index, and names that are found.
use Rattle.std.proofs.Common.{◌≡◌, ℕ, zero, suc, ◌<◌, ◌≤◌, true, List, [], ◌∷◌, Some, None, Option, length, get_or, is_some, refl, sym, ap, ◌∙◌, subst, ⊎_elim, arith}
use Rattle.std.proofs.lemmas.Bool.{cases_Bool, cond-true, cond-false}
use Rattle.model.specs.Values.{Name, same, has}
use Rattle.model.proofs.CoNames.{same_refl, same_true}
use Rattle.lookup.specs.First.{First}
use Rattle.schema.specs.declared.definition.TypeDef.{TypeDef}
use Rattle.schema.specs.Spans.{inside_at}

pub inside_there : (ts : List TypeDef) (k : ℕ) (t : TypeDef) → k < length ts → t ≡ get_or ts k t → t.inside ≡ inside_at ts k
inside_there [] k t h e = absurd (omega (arith, h))
inside_there (x ∷ ts) zero t h e = ap (λ (y : TypeDef). y.inside) e
inside_there (x ∷ ts) (suc k) t h e = inside_there ts k t (omega (arith, h)) e

pub inside_nowhere : (ts : List TypeDef) (k : ℕ) → length ts ≤ k → record { from = 0; to = 0 } ≡ inside_at ts k
inside_nowhere [] k h = refl
inside_nowhere (x ∷ ts) zero h = absurd (omega (arith, h))
inside_nowhere (x ∷ ts) (suc k) h = inside_nowhere ts k (omega (arith, h))

-- a name is among names where it is found
pub found_has : (ns : List Name) (n : Name) (r : Option ℕ) → First ns n r → is_some r ≡ has ns n
found_has [] n None f = refl
found_has [] n (Some i) f = absurd (omega (arith, f.0))
found_has (m ∷ ns) n None f = ⊎_elim
    (λ e. absurd (f 0 (omega arith) (same_true m n e)))
    (λ e. found_has ns n None (λ k h. f (suc k) (omega (arith, h))) ∙ sym (cond-false (same m n) true (has ns n) e))
    (cases_Bool (same m n))
found_has (m ∷ ns) n (Some zero) f = sym (cond-true (same m n) true (has ns n) (subst (λ k. same m k ≡ true) f.1 (same_refl m)))
found_has (m ∷ ns) n (Some (suc i)) f = ⊎_elim
    (λ e. absurd (f.2 0 (omega arith) (same_true m n e)))
    (λ e. found_has ns n (Some i) (omega (arith, f.0), f.1, λ k h. f.2 (suc k) (omega (arith, h))) ∙ sym (cond-false (same m n) true (has ns n) e))
    (cases_Bool (same m n))
