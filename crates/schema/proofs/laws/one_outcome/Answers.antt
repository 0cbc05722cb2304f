use Rattle.schema.proofs.OperationLaws.{one_outcome, shapes}
use Rattle.std.proofs.Common.{[], refl, vec_items}
use Rattle.source.specs.Table.{tree_table}
use Rattle.schema.proofs.ReadLaws.{as_written}
use Rattle.schema.proofs.UseRows.{uses_held}
use Rattle.schema.proofs.laws.one_outcome.Goals as goal

pub returns : goal.returns
returns c = record { once = one_outcome; written = as_written; shapes = shapes; uses = record { each = λ B o D h. uses_held (tree_table o.tree) (vec_items o.arguments) [] (vec_items o.uses) D.uses (vec_items o.arguments) refl h.uses h.arguments } }
