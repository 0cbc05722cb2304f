use Rattle.std.proofs.Common.{◌-◌, ◌≤◌, List, false, length, nat_lt, vec_len, vec_items}
use Rattle.text.specs.TokenGrammar.{close_paren}
use Rattle.reader.specs.Reading.{is_mark}
use Rattle.source.specs.Table.{table_of, Keeps}
use Rattle.schema.specs.Documents.{Document, VariableDefinition}
use Rattle.schema.specs.Holds.{Each, Holds}
use Rattle.schema.specs.HoldsOperation.{VariableHeld}
use Rattle.schema.specs.OperationReading.{ReadsVariable}
use Rattle.schema.specs.Reading.{Onward}
use Rattle.schema.specs.Rows.{base_in}
use Rattle.schema.specs.SchemaReading.{next}
use Rattle.schema.specs.Told.{sights}
use Rattle.schema.proofs.Listing.{Sofar}
use Rattle.schema.proofs.operation.definitions.Given as goal

abbrev pub invariant-loop-variables : goal.invariant-loop-variables
invariant-loop-variables l =
    (vec_len l.variables ≤ 64)
    × Onward 0 l.fn.tokens l.tokens
    × ((S : Document) → Holds l.schema S → (xs : List VariableDefinition)
    × Sofar (sights l.fn.tokens) (is_mark close_paren) next (ReadsVariable (sights l.fn.tokens)) false 0 l.fn.tokens.at (nat_lt 0 (vec_len l.variables)) (vec_len l.variables) l.tokens.at xs
    × Each (VariableHeld (base_in S) (table_of l.fn.tokens.text.now l.nodes)) (vec_items l.variables) xs
    × Keeps 0 (table_of l.fn.tokens.text.now l.fn.nodes) (table_of l.fn.tokens.text.now l.nodes))

abbrev pub decreases-loop-variables : goal.decreases-loop-variables
decreases-loop-variables l = length l.tokens.text.now - l.tokens.at
