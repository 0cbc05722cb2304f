use Rattle.std.proofs.Common.{◌-◌, ◌<◌, ◌≤◌, ap, arith}
use Rattle.source.specs.declared.nodes.Node.{Node}
use Rattle.source.specs.Nodes.{node_at}
use Rattle.source.specs.Table.{tree_table}
use Rattle.source.proofs.Standings.{none_items, none_members}
use Rattle.source.proofs.value.ValueSource.next.Given.{Over}
use Rattle.source.proofs.value.ValueSource.next.Goals as goal
use Rattle.source.proofs.value.ValueSource.next.Goals.{Joined-then-size-eq0, then-size-eq0-via-then-size-eq0, then-size-eq0-via-else-size-eq0+then-size-saturating_sub}

-- the node at the span's start ends past the span, or is not there
unfit : (g : Over) (c : Joined-then-size-eq0 g) → let size = (node_at (tree_table c.args.self.now.tree.now).nodes c.args.span.from).size in 0 < size → size ≤ c.args.span.to - c.args.span.from → ⊥
unfit g c b d =
    let e = ap (λ (n : Node). n.size) c.node-size.ensures in
    elim c.then-size-eq0.branch [
      | then-size-eq0-via-then-size-eq0 w ↦ omega (arith, w.if-size-eq0.true, e)
      | then-size-eq0-via-else-size-eq0+then-size-saturating_sub w ↦ omega (arith, w.if-size-saturating_sub.true, w.saturating_sub.ensures, e)
    ]

pub returns-then-size-eq0-clause-item : goal.returns-then-size-eq0-clause-item
returns-then-size-eq0-clause-item g c xs h = none_items (tree_table c.args.self.now.tree.now) c.args.span xs h (unfit g c)

pub returns-then-size-eq0-clause-field : goal.returns-then-size-eq0-clause-field
returns-then-size-eq0-clause-field g c ms h = none_members (tree_table c.args.self.now.tree.now) c.args.span ms h (unfit g c)
