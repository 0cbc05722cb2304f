use Rattle.std.proofs.Common.{◌≡◌, ◌-◌, ◌≤◌, List, false, length, nat_lt, vec_len, vec_items}
use Rattle.model.specs.Values.{Argument}
use Rattle.text.specs.TokenGrammar.{close_paren}
use Rattle.reader.specs.Reading.{is_mark}
use Rattle.source.specs.Table.{table_of, Keeps}
use Rattle.schema.specs.HoldsOperation.{ArgumentHeld}
use Rattle.schema.specs.OperationReading.{unchanged, ReadsArgument}
use Rattle.schema.specs.Reading.{Onward}
use Rattle.schema.specs.SchemaTold.{Appended}
use Rattle.schema.specs.Told.{sights}
use Rattle.schema.proofs.Listing.{Sofar}
use Rattle.schema.proofs.operation.arguments_in.Given as goal

abbrev pub invariant-loop-name : goal.invariant-loop-name
invariant-loop-name l =
    (xs : List Argument)
    × Sofar (sights l.fn.tokens) (is_mark close_paren) unchanged (λ u. ReadsArgument (sights l.fn.tokens)) false tt l.fn.tokens.at (nat_lt (vec_len l.fn.arguments) (vec_len l.arguments)) tt l.tokens.at xs
    × Appended (ArgumentHeld (table_of l.fn.tokens.text.now l.nodes)) (vec_items l.fn.arguments) (vec_items l.arguments) xs
    × Onward 0 l.fn.tokens l.tokens
    × (l.from ≡ vec_len l.fn.arguments)
    × (l.from ≤ vec_len l.arguments)
    × Keeps 0 (table_of l.fn.tokens.text.now l.fn.nodes) (table_of l.fn.tokens.text.now l.nodes)

abbrev pub decreases-loop-name : goal.decreases-loop-name
decreases-loop-name l = length l.tokens.text.now - l.tokens.at
