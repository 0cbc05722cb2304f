-- Trees over the table of nodes.
use Rattle.std.proofs.Common.{◌≡◌, ℕ, suc, ◌+◌, ◌-◌, ◌<◌, ◌≤◌, Bool, true, false, List, [], ◌∷◌, Some, None, Option, IfSome, sym, ◌∙◌, subst, ⊎_elim, arith}
use denote.Param.Members.{Mut}
use denote.Ref.{Bor}
use mathlib.Core.Option.{some}
use Rattle.std.specs.Fn.{CalledAt}
use Rattle.std.specs.List.{FoldsTo}
use Rattle.std.specs.Iterator.{YieldsThen, FindsItem}
use Rattle.std.proofs.lemmas.Bool.{cond-true, cond-false, cases_Bool}
use Rattle.model.proofs.CoNames.{same_refl, same_true}
use Rattle.model.specs.Values.{Raw, Raws, Mems, null, scalar, variable, list, object, nil, cons, end, mem, same}
use Rattle.model.specs.Coercion.{member}
use Rattle.model.specs.Limits.{RawLimits, RawLimitsAll, RawLimitsMems}
use Rattle.source.specs.declared.raw.Span.{Span}
use Rattle.source.specs.Nodes.{node_at}
use Rattle.source.specs.Table.{Table, Named, StandsAll, StandsMems, Held, HeldAll, HeldMems, past_of}
use Rattle.source.specs.Standing.{LeadsItems, LeadsMembers, Found}
use Rattle.source.specs.Spans.{Hands, with_rest}
use Rattle.source.specs.OneTree.{head_of, forward_all, forward_mems}

-- what is within the limits at a depth is so at a lesser one
mutual
  pub limits_less : (d : ℕ) (t : Raw) → RawLimits (suc d) t → RawLimits d t
  limits_less d (null p) h = omega arith
  limits_less d (scalar p s) h = (omega (arith, h.0), h.1)
  limits_less d (variable p n) h = (omega (arith, h.0), h.1)
  limits_less d (list p xs) h = (omega (arith, h.0), limits_less_all (suc d) xs h.1)
  limits_less d (object p ms) h = (omega (arith, h.0), h.1, limits_less_mems (suc d) ms h.2)

  pub limits_less_all : (d : ℕ) (xs : Raws) → RawLimitsAll (suc d) xs → RawLimitsAll d xs
  limits_less_all d nil h = tt
  limits_less_all d (cons x xs) h = (limits_less d x h.0, limits_less_all d xs h.1)

  pub limits_less_mems : (d : ℕ) (ms : Mems) → RawLimitsMems (suc d) ms → RawLimitsMems d ms
  limits_less_mems d end h = tt
  limits_less_mems d (mem n x ms) h = (h.0, limits_less d x h.1, limits_less_mems d ms h.2)

-- the items and members of a value that stands
pub held_items : {T : Table} {at p : ℕ} {xs : Raws} (s : Span) → Held T at (list p xs) → s.from ≡ at + 1 → s.to ≡ past_of T.nodes at → HeldAll T s xs
held_items {T} {at} {p} {xs} s h e f = record {
  stand = subst (λ i. StandsAll T i s.to xs) (sym e) (subst (λ j. StandsAll T (at + 1) j xs) (sym f) h.stands.1);
  within = limits_less_all 0 xs h.within.1;
}

pub held_members : {T : Table} {at p : ℕ} {ms : Mems} (s : Span) → Held T at (object p ms) → s.from ≡ at + 1 → s.to ≡ past_of T.nodes at → HeldMems T s ms
held_members {T} {at} {p} {ms} s h e f = record {
  stand = subst (λ i. StandsMems T i s.to ms) (sym e) (subst (λ j. StandsMems T (at + 1) j ms) (sym f) h.stands.1);
  within = limits_less_mems 0 ms h.within.2;
}

-- a span that hands out nothing is empty
pub none_items : (T : Table) (s : Span) (xs : Raws) → HeldAll T s xs → (0 < (node_at T.nodes s.from).size → (node_at T.nodes s.from).size ≤ s.to - s.from → ⊥) → LeadsItems (Held T) (HeldAll T) xs None
none_items T s nil h n = tt
none_items T s (cons x xs) h n =
    let a = (head_of T s.from x h.stand.0).some in
    let b = forward_all T _ s.to xs h.stand.1 in
    n (omega (arith, a)) (omega (arith, a, b))

pub none_members : (T : Table) (s : Span) (ms : Mems) → HeldMems T s ms → (0 < (node_at T.nodes s.from).size → (node_at T.nodes s.from).size ≤ s.to - s.from → ⊥) → LeadsMembers (Named T) (Held T) (HeldMems T) ms None
none_members T s end h n = tt
none_members T s (mem m x ms) h n =
    let a = (head_of T s.from x h.stand.1).some in
    let b = forward_mems T _ s.to ms h.stand.2 in
    n (omega (arith, a)) (omega (arith, a, b))

-- the first of the members in a span, and the others
pub first_member : (T : Table) (s : Span) (ms : Mems) → HeldMems T s ms → s.from < s.to → LeadsMembers (Named T) (Held T) (HeldMems T) ms (Some (s.from, record { from = past_of T.nodes s.from; to = s.to }))
first_member T s end h l = absurd (omega (arith, h.stand, l))
first_member T s (mem n x ms) h l = (h.stand.0, record { stands = h.stand.1; within = h.within.1 }, record { stand = h.stand.2; within = h.within.2 })

-- a search among members: at the first, and past it
module _ (named : ℕ → List ℕ → Type 0) (stands : ℕ → Raw → Type 0) (members : Span → Mems → Type 0) (q : List ℕ) where
  pub found_here : (ms : Mems) (at : ℕ) (rest : Span) → LeadsMembers named stands members ms (Some (at, rest)) → ((n : List ℕ) → named at n → n ≡ q) → Found stands (member ms q) (Some at)
  found_here end at rest h e = absurd h
  found_here (mem n x ms) at rest h e = subst (λ o. Found stands o (Some at)) (sym (cond-true (same n q) (some x) (member ms q) (subst (λ k. same n k ≡ true) (e n h.0) (same_refl n)))) h.1

  pub found_later : (ms : Mems) (at : ℕ) (rest : Span) → LeadsMembers named stands members ms (Some (at, rest)) → ((n : List ℕ) → named at n → n ≡ q → ⊥) → (ns : Mems) × members rest ns × (member ms q ≡ member ns q)
  found_later end at rest h e = absurd h
  found_later (mem n x ms) at rest h e = (ms, h.2, cond-false (same n q) (some x) (member ms q) (⊎_elim (λ s. absurd (e n h.0 (same_true n q s))) (λ s. s) (cases_Bool (same n q))))

  pub none_found : (ms : Mems) → LeadsMembers named stands members ms None → Found stands (member ms q) None
  none_found end h = tt
  none_found (mem n x ms) h = absurd h

-- a search among the values of an object's members, by a closure that tells whether the name at a cursor is q
module _ {S V : Type 0} (past : S → ℕ → ℕ) (named : S → ℕ → List ℕ → Type 0) (stands : S → ℕ → Raw → Type 0) (items : S → Span → Raws → Type 0) (members : S → Span → Mems → Type 0)
    (source : V → S) (span : V → Span) where
  abbrev pub Turn : V → Option ℕ → V → Type 0
  Turn s r t = (source t ≡ source s) × Hands (past (source s)) (named (source s)) (stands (source s)) (items (source s)) (members (source s)) (span s) r (span t)

  module _ {F : Type 0} (g : Mut F (Bor ℕ × Unit {0}) Bool) (f : F) (q : List ℕ) (b : S) (hit : (x : ℕ) (k : F) → CalledAt g f x true k → (n : List ℕ) → named b x n → n ≡ q)
      (miss : (x : ℕ) (k : F) → CalledAt g f x false k → (k ≡ f) × ((n : List ℕ) → named b x n → n ≡ q → ⊥)) where
    led : (s t : V) (r : Option ℕ) → Turn s r t → source s ≡ b → (ms : Mems) → members b (span s) ms → LeadsMembers (named b) (stands b) (members b) ms (with_rest r (span t))
    led s t r h e = (subst (λ a. Hands (past a) (named a) (stands a) (items a) (members a) (span s) r (span t)) e h.1).field

    found_from : (xs : List ℕ) (s u : V) (r : Option ℕ) (j : F) → source s ≡ b → (ms : Mems) → members b (span s) ms
        → YieldsThen Turn s xs r u → FoldsTo (λ p x k. CalledAt g p x false k) f xs j → IfSome r (λ x. (k : F) × CalledAt g j x true k)
        → Found (stands b) (member ms q) r
    found_from [] s u None j e ms h y z w = none_found (named b) (stands b) (members b) q ms (led s u None (subst (λ (a : V). Turn a None u) (sym y.1) y.2) e ms h)
    found_from [] s u (Some x) j e ms h y z w =
        found_here (named b) (stands b) (members b) q ms x (span u) (led s u (Some x) (subst (λ (a : V). Turn a (Some x) u) (sym y.1) y.2) e ms h)
        (hit x w.0 (subst (λ (k : F). CalledAt g k x true w.0) (sym z) w.1))
    found_from (x ∷ xs) s u r j e ms h y z w =
        let n = miss x z.0 z.1 in
        let t = y.1.0 in
        let l = found_later (named b) (stands b) (members b) q ms x (span t) (led s t (Some x) y.1.1 e ms h) n.1 in
        subst (λ o. Found (stands b) o r) (sym l.2)
        (found_from xs t u r j (y.1.1.0 ∙ e) l.0 l.1 (y.0, y.1.2, y.2) (subst (λ (k : F). FoldsTo (λ p i k'. CalledAt g p i false k') k xs j) n.0 z.2) w)

  pub found_by : {F : Type 0} {g : Mut F (Bor ℕ × Unit {0}) Bool} {f : F} (q : List ℕ) (b : S) (s u : V) (r : Option ℕ) → FindsItem Turn g s f r u → source s ≡ b → (ms : Mems) → members b (span s) ms
      → ((x : ℕ) (k : F) → CalledAt g f x true k → (n : List ℕ) → named b x n → n ≡ q)
      → ((x : ℕ) (k : F) → CalledAt g f x false k → (k ≡ f) × ((n : List ℕ) → named b x n → n ≡ q → ⊥))
      → Found (stands b) (member ms q) r
  found_by {g = g} {f = f} q b s u r d e ms h hit miss = found_from g f q b hit miss d.0 s u r d.1 e ms h d.2 d.3 d.4
