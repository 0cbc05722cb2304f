-- Members by their names, where no name stands twice.
use Rattle.std.proofs.Common.{◌≡◌, ℕ, Bool, true, false, true≢false, cond, List, refl, sym, ◌∙◌, subst, ⊎_elim, None, Some}
use Rattle.std.proofs.lemmas.Bool.{cases_Bool, cond-true, cond-false}
use mathlib.Core.Option.{none, some}
use Rattle.model.specs.Values.{Name, Raw, Mems, end, mem, same, has}
use Rattle.model.specs.Coercion.{member}
use Rattle.model.specs.Back.{Distinct}
use Rattle.model.specs.Limits.{mem_names}
use Rattle.model.proofs.CoNames.{same_refl, same_true}
use Rattle.source.specs.declared.raw.Span.{Span}
use Rattle.source.specs.Standing.{LeadsMembers, Found}
use Rattle.coercion.specs.Told.{Later, all, past, MemberTold}

pub later_rest : {n : Name} {x : Raw} {ls ms : Mems} → Later (mem n x ls) ms → Later ls ms
later_rest all = past all
later_rest (past h) = past (later_rest h)

or_true : (b c : Bool) → c ≡ true → cond b true c ≡ true
or_true true c h = refl
or_true false c h = h

later_has : {n : Name} {x : Raw} {ls ms : Mems} → Later (mem n x ls) ms → has (mem_names ms) n ≡ true
later_has {n} {x} {ls} all = cond-true (same n n) true (has (mem_names ls) n) (same_refl n)
later_has {n} {x} {ls} (past {n = m} {ms = ms} h) = or_true (same m n) (has (mem_names ms) n) (later_has h)

later_member : {n : Name} {x : Raw} {ls ms : Mems} → Later (mem n x ls) ms → Distinct (mem_names ms) → member ms n ≡ some x
later_member {n} {x} {ls} all d = cond-true (same n n) (some x) (member ls n) (same_refl n)
later_member {n} {x} {ls} (past {n = m} {x = y} {ms = ms} h) d =
    cond-false (same m n) (some y) (member ms n) (⊎_elim (λ e. absurd (true≢false (sym (subst (λ k. has (mem_names ms) k ≡ true) (sym (same_true m n e)) (later_has h)) ∙ d.0))) (λ e. e) (cases_Bool (same m n)))
    ∙ later_member h d.1

module _ (named : ℕ → List ℕ → Type 0) (stands : ℕ → Raw → Type 0) (members_in : Span → Mems → Type 0) (ms : Mems) (name : Name) where
  -- the next member has the name
  pub member_here : (ns : Mems) (at : ℕ) (left : Span) (called : List ℕ) → Later ns ms → Distinct (mem_names ms) → LeadsMembers named stands members_in ns (Some (at, left)) → ((n : List ℕ) → named at n → called ≡ n) → called ≡ name
      → MemberTold stands members_in ms (member ms name) (Some (at, left))
  member_here end at left called l d h k e = absurd h
  member_here (mem n x ls) at left called l d h k e = subst (λ o. MemberTold stands members_in ms o (Some (at, left))) (sym (subst (λ m. member ms m ≡ some x) (sym (k n h.0) ∙ e) (later_member l d))) (h.1, (ls, later_rest l, h.2))

  -- or it is looked for among all
  pub member_there : (o : mathlib.Core.Option.Option Raw) (ns : Mems) (c : ℕ) (span : Span) → Later ns ms → members_in span ns → Found stands o (Some c) → MemberTold stands members_in ms o (Some (c, span))
  member_there none ns c span l m f = absurd f
  member_there (some x) ns c span l m f = (f, (ns, l, m))

  pub member_nowhere : (o : mathlib.Core.Option.Option Raw) → Found stands o None → MemberTold stands members_in ms o None
  member_nowhere none f = tt
  member_nowhere (some x) f = absurd f
