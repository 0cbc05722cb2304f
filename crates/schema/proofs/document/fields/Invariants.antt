use Rattle.std.proofs.Common.{◌≡◌, ◌-◌, ◌≤◌, List, false, length, nat_lt, vec_len, vec_items}
use Rattle.text.specs.TokenFound.{view_of}
use Rattle.source.specs.Table.{table_of, Keeps}
use Rattle.schema.specs.Documents.{Declared}
use Rattle.schema.specs.Holds.{FieldHeld}
use Rattle.schema.specs.Reading.{Onward}
use Rattle.schema.specs.SchemaReading.{next, ReadsField}
use Rattle.schema.specs.SchemaTold.{Appended, unknown}
use Rattle.schema.specs.Told.{sights, is_token}
use Rattle.schema.proofs.Listing.{Sofar}
use Rattle.schema.proofs.document.fields.Given as goal

abbrev pub invariant-loop-name : goal.invariant-loop-name
invariant-loop-name l =
    (xs : List Declared)
    × Sofar (sights l.fn.tokens) (is_token (view_of l.close)) next (ReadsField (sights l.fn.tokens) l.most) false (vec_len l.fn.table) l.fn.tokens.at (nat_lt (vec_len l.fn.table) (vec_len l.table)) (vec_len l.table) l.tokens.at xs
    × Appended (FieldHeld unknown (table_of l.fn.tokens.text.now l.nodes)) (vec_items l.fn.table) (vec_items l.table) xs
    × Onward 0 l.fn.tokens l.tokens
    × (l.from ≡ vec_len l.fn.table)
    × (l.from ≤ vec_len l.table)
    × (vec_len l.table ≤ l.most)
    × Keeps 0 (table_of l.fn.tokens.text.now l.fn.nodes) (table_of l.fn.tokens.text.now l.nodes)

abbrev pub decreases-loop-name : goal.decreases-loop-name
decreases-loop-name l = length l.tokens.text.now - l.tokens.at
