use Rattle.std.proofs.Common.{take}
use Rattle.source.specs.Table.{tree_table}
use Rattle.validation.specs.Making.{FirstFault}
use Rattle.validation.specs.Repeats.{OneOf, DefaultTwice}
use Rattle.validation.proofs.members.in_literals.Given as goal

abbrev pub invariant-loop-record : goal.invariant-loop-record
invariant-loop-record g l = FirstFault (OneOf (λ r. DefaultTwice (tree_table l.tree) (g.R.Valued.stands_at r)) (take l.record-index l.records)) l.first
