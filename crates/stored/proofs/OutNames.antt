-- No name stands twice: each is new after those before it.
use Rattle.std.proofs.Common.{◌≡◌, false, List, [], ◌∷◌, ◌++◌, sym, refl, ap, ◌∙◌, ⊎_elim}
use Rattle.std.proofs.lemmas.Bool.{false≢true, cases_Bool}
use Rattle.model.specs.Values.{Name, Rmems, r_end, r_mem, same, has}
use Rattle.model.specs.Back.{Distinct}
use Rattle.model.specs.Limits.{rec_names}
use Rattle.model.proofs.CoNames.{same_refl, same_true, has_none}

abbrev pub New : List Name → Rmems → Type 0
New ns r_end = Unit {0}
New ns (r_mem n r ms) = (has ns n ≡ false) × New (ns ++ n ∷ []) ms

abbrev pub Apart : List Name → List Name → Type 0
Apart ns [] = Unit {0}
Apart ns (m ∷ ms) = (has ns m ≡ false) × Apart ns ms

same_flip : (m n : Name) → same m n ≡ false → same n m ≡ false
same_flip m n e = ⊎_elim (λ t. absurd (false≢true (sym e ∙ ap (λ x. same m x) (same_true n m t) ∙ same_refl m))) (λ f. f) (cases_Bool (same n m))

has_push : (ns : List Name) (n m : Name) → has ns m ≡ false → same n m ≡ false → has (ns ++ n ∷ []) m ≡ false
has_push [] n m h e = rw e
has_push (l ∷ ls) n m h e = let p = has_none l m ls h in rw p.0 (has_push ls n m p.1 e)

has_pushed : (ns : List Name) (n m : Name) → has (ns ++ n ∷ []) m ≡ false → (has ns m ≡ false) × (same n m ≡ false)
has_pushed [] n m h = (refl, (has_none n m [] h).0)
has_pushed (l ∷ ls) n m h = let p = has_none l m (ls ++ n ∷ []) h in let q = has_pushed ls n m p.1 in (rw p.0 q.0, q.1)

apart_more : (ns : List Name) (n : Name) (ms : List Name) → Apart ns ms → has ms n ≡ false → Apart (ns ++ n ∷ []) ms
apart_more ns n [] a h = tt
apart_more ns n (m ∷ ms) a h = let p = has_none m n ms h in (has_push ns n m a.0 (same_flip m n p.0), apart_more ns n ms a.1 p.1)

apart_less : (ns : List Name) (n : Name) (ms : List Name) → Apart (ns ++ n ∷ []) ms → Apart ns ms × (has ms n ≡ false)
apart_less ns n [] a = (tt, refl)
apart_less ns n (m ∷ ms) a =
    let p = has_pushed ns n m a.0 in
    let q = apart_less ns n ms a.1 in
    ((p.0, q.0), rw (same_flip n m p.1) q.1)

new_from : (ns : List Name) (ms : Rmems) → Apart ns (rec_names ms) → Distinct (rec_names ms) → New ns ms
new_from ns r_end a d = tt
new_from ns (r_mem n r ms) a d = (a.0, new_from (ns ++ n ∷ []) ms (apart_more ns n (rec_names ms) a.1 d.0) d.1)

new_to : (ns : List Name) (ms : Rmems) → New ns ms → Apart ns (rec_names ms) × Distinct (rec_names ms)
new_to ns r_end w = (tt, tt)
new_to ns (r_mem n r ms) w =
    let p = new_to (ns ++ n ∷ []) ms w.1 in
    let q = apart_less ns n (rec_names ms) p.0 in
    ((w.0, q.0), (q.1, p.1))

none_apart : (ms : List Name) → Apart [] ms
none_apart [] = tt
none_apart (m ∷ ms) = (refl, none_apart ms)

pub distinct_new : (ms : Rmems) → Distinct (rec_names ms) → New [] ms
distinct_new ms d = new_from [] ms (none_apart (rec_names ms)) d

pub new_distinct : (ms : Rmems) → New [] ms → Distinct (rec_names ms)
new_distinct ms w = (new_to [] ms w).1
