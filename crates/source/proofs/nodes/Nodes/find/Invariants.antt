use Rattle.std.proofs.Common.{◌≡◌, ◌-◌, ◌≤◌}
use Rattle.model.specs.Values.{Mems}
use Rattle.model.specs.Coercion.{member}
use Rattle.source.specs.Table.{table_of, HeldMems}
use Rattle.source.proofs.nodes.Nodes.find.Given as goal

abbrev pub invariant-loop-from : goal.invariant-loop-from
invariant-loop-from l = record {
  onward : l.fn.members.from ≤ l.from;
  left : (ms : Mems) → HeldMems (table_of l.text l.self) l.fn.members ms → (ns : Mems) × HeldMems (table_of l.text l.self) (record { from = l.from; to = l.to }) ns × (member ms l.name ≡ member ns l.name);
}

abbrev pub decreases-loop-from : goal.decreases-loop-from
decreases-loop-from l = l.to - l.from
