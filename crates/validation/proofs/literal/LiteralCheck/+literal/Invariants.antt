use Rattle.std.proofs.Common.{◌≡◌, ℕ, ◌+◌, ◌-◌, ◌*◌, List, drop}
use Rattle.model.specs.Values.{Raws, Mems, Variable, object}
use Rattle.model.specs.Checking.{check_all, check_fields, check_member}
use Rattle.source.specs.Spans.{Within}
use Rattle.source.specs.Table.{tree_table}
use Rattle.schema.specs.Documents.{Document, Declared, fields_in, schema_of}
use Rattle.schema.specs.Holds.{Each, FieldHeld}
use Rattle.schema.specs.Rows.{base_in}
use Rattle.validation.specs.Literals.{type_of, Knows}
use Rattle.validation.proofs.Notes.{Onwards}
use Rattle.validation.proofs.literal.LiteralCheck.+literal.Given as goal

-- the cursors from a value to past it; a call on the same value is worth less for what follows it here
abbrev pub decreases-check : goal.decreases-check
decreases-check g l = 4 * (g.S.Source.past l.self.now.source.now l.at - l.at) + 3

abbrev pub decreases-object : goal.decreases-object
decreases-object g l = 4 * (g.S.Source.past l.self.now.source.now l.at - l.at) + 2

abbrev pub decreases-fields : goal.decreases-fields
decreases-fields g l = 4 * (g.S.Source.past l.self.now.source.now l.at - l.at) + 1

abbrev pub decreases-items : goal.decreases-items
decreases-items g l = 4 * (g.S.Source.past l.self.now.source.now l.at - l.at)

abbrev pub decreases-field : goal.decreases-field
decreases-field g l = 4 * (g.S.Source.past l.self.now.source.now l.at - l.at)

-- what the items to come give, all give
abbrev pub invariant-items-loop-at : goal.invariant-items-loop-at
invariant-items-loop-at g l =
    (goal.iterator-items-loop-at g).can_next l.at-iterator ×
    (goal.iterator-items-loop-at g).is_finite l.at-iterator ×
    (l.at-iterator.source.now ≡ l.self.source.now) ×
    Within (g.S.Source.past l.self.source.now l.fn.at) l.fn.at l.at-iterator.span ×
    ((D : Document) (vs : List Variable) (xs : Raws) → Knows l.self.schema.now (g.L.Lookup.names l.self.variables.names.now) (tree_table l.self.variables.tree.now) l.self.variables.rows.now D vs
    → l.item.shape.base ≡ base_in D l.item.name.now → g.S.Source.items l.self.source.now l.initial.at-iterator.span xs
    → (ys : Raws) × g.S.Source.items l.self.source.now l.at-iterator.span ys × Onwards l.initial.found l.found (check_all (schema_of D) vs ys (type_of l.item)) (check_all (schema_of D) vs xs (type_of l.item)))

-- what the fields to come give, all give
abbrev pub invariant-fields-loop-field : goal.invariant-fields-loop-field
invariant-fields-loop-field g l =
    (D : Document) (vs : List Variable) (ds : List Declared) (p : ℕ) (ms : Mems) → Knows l.self.schema.now (g.L.Lookup.names l.self.variables.names.now) (tree_table l.self.variables.tree.now) l.self.variables.rows.now D vs
    → Each (FieldHeld (base_in D) (tree_table l.self.schema.now.tree)) l.fields ds → g.S.Source.stands l.self.source.now l.at (object p ms)
    → Onwards l.initial.found l.found (check_fields p ms (check_member (schema_of D) vs ms) (fields_in (drop l.field-index ds))) (check_fields p ms (check_member (schema_of D) vs ms) (fields_in ds))
