-- names, and what holds of each input type
use Rattle.std.proofs.Common.{◌≡◌, Bool, true, false, cond, List, [], ◌∷◌, codes, sym, refl, subst, ⊎_elim}
use Rattle.std.proofs.lemmas.Slice.Eq.{compares_Decides}
use Rattle.std.proofs.lemmas.Bool.{cases_Bool, both_ways, cond-true}
use Rattle.model.specs.Values.{Name, Field, Def, int_d, float_d, string_d, boolean_d, id_d, input_d, TypeDef, Schema, declared, find, same, has}
use Rattle.model.specs.Back.{OfDef, OfTypes, OfInputs}

pub same_refl : (n : Name) → same n n ≡ true
same_refl n = (compares_Decides same (record { empty = refl; shorter = λ y ys. refl; longer = λ x xs. refl; heads = λ x y xs ys. refl }) n n).1 refl

pub same_true : (m n : Name) → same m n ≡ true → m ≡ n
same_true m n = (compares_Decides same (record { empty = refl; shorter = λ y ys. refl; longer = λ x xs. refl; heads = λ x y xs ys. refl }) m n).0

pub has_head : (n : Name) (ns : List Name) → has (n ∷ ns) n ≡ true
has_head n ns = cond-true (same n n) true (has ns n) (same_refl n)

pub has_later : (m n : Name) (ns : List Name) → has ns n ≡ true → has (m ∷ ns) n ≡ true
has_later m n ns h = elim (same m n) as (λ b. cond b true (has ns n) ≡ true) [ true ↦ refl | false ↦ h ]

-- one that is among ns is not the one that is not
pub apart : (m n : Name) (ns : List Name) → has ns m ≡ false → has ns n ≡ true → same m n ≡ false
apart m n ns a b = ⊎_elim (λ e. absurd (both_ways (has ns m) a (subst (λ (k : Name). has ns k ≡ true) (sym (same_true m n e)) b))) (λ e. e) (cases_Bool (same m n))

cond_parts : (b c : Bool) → cond b true c ≡ false → (b ≡ false) × (c ≡ false)
cond_parts true c h = absurd (both_ways true h refl)
cond_parts false c h = (refl, h)

pub has_none : (m n : Name) (ns : List Name) → has (m ∷ ns) n ≡ false → (same m n ≡ false) × (has ns n ≡ false)
has_none m n ns h = cond_parts (same m n) (has ns n) h

-- what holds of every definition holds of the one that is found
of_cond : (Q : Def → Type 0) (b : Bool) (D E : Def) → Q D → Q E → Q (cond b D E)
of_cond Q true D E h k = h
of_cond Q false D E h k = k

of_declared : (P : List Field → Type 0) (ds : List TypeDef) → OfTypes P ds → (n : Name) → OfDef P (declared ds n)
of_declared P [] h n = tt
of_declared P (d ∷ ds) h n = of_cond (OfDef P) (same d.name n) d.def (declared ds n) h.0 (of_declared P ds h.1 n)

of_find : (P : List Field → Type 0) (S : Schema) → OfInputs P S → (n : Name) → OfDef P (find S n)
of_find P S h n =
    of_cond (OfDef P) (same (codes "Int") n) int_d _ tt
    (of_cond (OfDef P) (same (codes "Float") n) float_d _ tt
    (of_cond (OfDef P) (same (codes "String") n) string_d _ tt
    (of_cond (OfDef P) (same (codes "Boolean") n) boolean_d _ tt
    (of_cond (OfDef P) (same (codes "ID") n) id_d _ tt (of_declared P S.types h n)))))

pub of_input : (P : List Field → Type 0) (S : Schema) → OfInputs P S → (n : Name) (fs : List Field) → find S n ≡ input_d fs → P fs
of_input P S h n fs e = subst (OfDef P) e (of_find P S h n)
