use Rattle.std.proofs.Common.{◌≡◌, ℕ, ◌+◌, ◌-◌, ◌<◌, ◌≤◌, List, Some, None, sym, ◌∙◌, ap, subst, true≢false, arith}
use Rattle.std.proofs.lemmas.Slice.Eq.{slice_eq-Decides}
use Rattle.std.proofs.lemmas.Bool.Decides.{Decides-eqb}
use Rattle.model.specs.Values.{Mems}
use Rattle.model.specs.Coercion.{member}
use Rattle.source.specs.declared.nodes.Node.{Node}
use Rattle.source.specs.declared.raw.Span.{Span}
use Rattle.source.specs.Nodes.{node_at}
use Rattle.source.specs.Standing.{Found}
use Rattle.source.specs.Table.{Table, table_of, Named, Held, HeldMems, past_of}
use Rattle.source.proofs.Standings.{first_member, none_members, found_here, found_later, none_found}
use Rattle.source.proofs.nodes.Nodes.find.Goals as goal
use Rattle.source.proofs.nodes.Nodes.find.Goals.{then-size-eq0-via-then-size-eq0, then-size-eq0-via-else-size-eq0+then-size-to}

-- a span whose first node does not end within it has no member
none_within : (T : Table) (s : Span) (ms ns : Mems) (q : List ℕ) → HeldMems T s ns → member ms q ≡ member ns q → (0 < (node_at T.nodes s.from).size → (node_at T.nodes s.from).size ≤ s.to - s.from → ⊥) → Found (Held T) (member ms q) None
none_within T s ms ns q h e n = subst (λ o. Found (Held T) o None) (sym e) (none_found (Named T) (Held T) (HeldMems T) q ns (none_members T s ns h n))

pub returns-then-size-eq0-clause-found : goal.returns-then-size-eq0-clause-found
returns-then-size-eq0-clause-found c ms h =
    let i = c.loop-from.invariant.left ms h in
    let e = ap (λ (n : Node). n.size) c.get-size.ensures in
    none_within (table_of c.args.text.now c.args.self.now) (record { from = c.loop-from.from; to = c.args.members.to }) ms i.0 c.args.name.now i.1 i.2
    (λ a b. elim c.then-size-eq0.branch [
      | then-size-eq0-via-then-size-eq0 w ↦ omega (arith, w.if-size-eq0.true, e, a)
      | then-size-eq0-via-else-size-eq0+then-size-to w ↦ omega (arith, w.if-size-to.true, e, b)
    ])

pub returns-clause-found : goal.returns-clause-found
returns-clause-found c ms h =
    let i = c.loop-from.invariant.left ms h in
    none_within (table_of c.args.text.now c.args.self.now) (record { from = c.loop-from.from; to = c.args.members.to }) ms i.0 c.args.name.now i.1 i.2
    (λ a b. omega (arith, c.loop-from-test.false, a, b))

pub returns-then-eq-clause-found : goal.returns-then-eq-clause-found
returns-then-eq-clause-found c ms h =
    let T = table_of c.args.text.now c.args.self.now in
    let i = c.loop-from.invariant.left ms h in
    let same = slice_eq-Decides Decides-eqb _ _ _ c.eq.ensures in
    subst (λ o. Found (Held T) o (Some c.loop-from.from)) (sym i.2)
    (found_here (Named T) (Held T) (HeldMems T) c.args.name.now i.0 c.loop-from.from _ (first_member T _ i.0 i.1 c.loop-from-test.true) (λ n k. sym (c.name.ensures n k) ∙ same.0 c.if-eq.true))

pub loop-from-preserved : goal.loop-from-preserved
loop-from-preserved c = record {
  onward = omega (arith, c.loop-from.invariant.onward);
  left = λ ms h.
      let T = table_of c.args.text.now c.args.self.now in
      let i = c.loop-from.invariant.left ms h in
      let same = slice_eq-Decides Decides-eqb _ _ _ c.eq.ensures in
      let p : past_of T.nodes c.loop-from.from ≡ c.loop-from.from + c.get-size.result.size = ap (λ (n : Node). c.loop-from.from + n.size) (sym c.get-size.ensures) in
      let f = found_later (Named T) (Held T) (HeldMems T) c.args.name.now i.0 c.loop-from.from _ (first_member T _ i.0 i.1 c.loop-from-test.true)
      (λ n k e. true≢false (sym (same.1 (c.name.ensures n k ∙ e)) ∙ c.if-eq.false)) in
      (f.0, subst (λ j. HeldMems T (record { from = j; to = c.args.members.to }) f.0) p f.1, i.2 ∙ f.2);
}
