use Rattle.std.proofs.Common.{◌-◌, vec_items}
use Rattle.source.specs.Table.{tree_table}
use Rattle.validation.proofs.ObjectsApart.{Sofar}
use Rattle.validation.proofs.objects.apart_at.Given as goal

abbrev pub invariant-loop-at : goal.invariant-loop-at
invariant-loop-at l = Sofar (tree_table l.tree) l.object l.at (vec_items l.names.links)

abbrev pub decreases-loop-at : goal.decreases-loop-at
decreases-loop-at l = l.end - l.at
