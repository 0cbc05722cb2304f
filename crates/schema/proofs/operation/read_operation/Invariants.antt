use Rattle.std.proofs.Common.{◌≡◌, ◌-◌, List, true, map, length, vec_items}
use Rattle.model.specs.Values.{Use}
use Rattle.source.specs.Table.{table_of, Keeps}
use Rattle.schema.specs.Holds.{Each}
use Rattle.schema.specs.HoldsOperation.{ArgumentHeld, use_row_of, use_rows_from, arguments_in}
use Rattle.schema.specs.OperationReading.{unchanged, ReadsUse}
use Rattle.schema.specs.Reading.{Onward}
use Rattle.schema.specs.SchemaGrammar.{ends}
use Rattle.schema.specs.Told.{sights}
use Rattle.schema.proofs.Listing.{Sofar}
use Rattle.schema.proofs.operation.read_operation.Given as goal

abbrev pub invariant-loop-arguments : goal.invariant-loop-arguments
invariant-loop-arguments l =
    (xs : List Use)
    × Sofar (sights l.initial.tokens) ends unchanged (λ u. ReadsUse (sights l.initial.tokens)) true tt l.initial.tokens.at true tt l.tokens.at xs
    × (map use_row_of (vec_items l.uses) ≡ use_rows_from 0 xs)
    × Each (ArgumentHeld (table_of l.initial.tokens.text.now l.nodes)) (vec_items l.arguments) (arguments_in xs)
    × Keeps 0 (table_of l.initial.tokens.text.now l.initial.nodes) (table_of l.initial.tokens.text.now l.nodes)
    × Onward 0 l.initial.tokens l.tokens

abbrev pub decreases-loop-arguments : goal.decreases-loop-arguments
decreases-loop-arguments l = length l.tokens.text.now - l.tokens.at
