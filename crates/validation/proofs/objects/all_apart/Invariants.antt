use Rattle.source.specs.Table.{tree_table}
use Rattle.validation.specs.Objects.{ApartBefore}
use Rattle.validation.proofs.objects.all_apart.Given as goal

abbrev pub invariant-loop-at : goal.invariant-loop-at
invariant-loop-at l = ApartBefore (tree_table l.tree) l.at
