use Rattle.std.proofs.Common.{◌≡◌, ℕ, ◌<◌, ◌≤◌, map, length, get_or, vec_items}
use Rattle.schema.specs.declared.definition.Field.{Field}
use Rattle.schema.specs.Holds.{type_row_of}
use Rattle.schema.specs.Rows.{base_by}
use Rattle.schema.proofs.Resolving.{Resolved}
use Rattle.schema.proofs.document.resolve_in.Given as goal

abbrev pub invariant-loop-field : goal.invariant-loop-field
invariant-loop-field l =
    (length l.field-items ≡ length (vec_items l.fn.fields))
    × ((k : ℕ) (d : Field) → k < l.field-index → Resolved (base_by (map type_row_of l.types)) (get_or l.field-items k d) (get_or (vec_items l.fn.fields) k d))
    × ((k : ℕ) (d : Field) → l.field-index ≤ k → get_or l.field-items k d ≡ get_or (vec_items l.fn.fields) k d)
