use Rattle.std.proofs.Common.{◌≡◌, ℕ, ◌+◌, ◌-◌, ◌*◌, List, vec_len}
use Rattle.model.specs.Values.{Raws, Mems, list, object}
use Rattle.relation.specs.declared.row.Row.{Row}
use Rattle.source.specs.Spans.{Within}
use Rattle.schema.specs.Documents.{Document}
use Rattle.schema.specs.Rows.{base_in}
use Rattle.schema.specs.Holds.{Holds, typed_of}
use Rattle.validation.specs.Making.{NamesApart}
use Rattle.validation.specs.Lacking.{Adds, LacksRowIn}
use Rattle.validation.proofs.CycleFields.{FieldsLackRow}
use Rattle.validation.proofs.cycle.FieldDefault.+lacking.Given as goal

-- the cursors from a value to past it; a call on the same value is worth less for what follows it here
abbrev pub decreases-value : goal.decreases-value
decreases-value g l = 4 * (g.S.Source.past l.self.now.source.now l.at - l.at) + 3

abbrev pub decreases-object : goal.decreases-object
decreases-object g l = 4 * (g.S.Source.past l.self.now.source.now l.at - l.at) + 1

abbrev pub decreases-items : goal.decreases-items
decreases-items g l = 4 * (g.S.Source.past l.self.now.source.now l.at - l.at)

abbrev pub decreases-field : goal.decreases-field
decreases-field g l = 4 * (g.S.Source.past l.self.now.source.now l.at - l.at)

-- what the items to come add, all of them add
abbrev pub invariant-items-loop-at : goal.invariant-items-loop-at
invariant-items-loop-at g l =
    (goal.iterator-items-loop-at g).can_next l.at-iterator ×
    (goal.iterator-items-loop-at g).is_finite l.at-iterator ×
    (l.at-iterator.source.now ≡ l.self.source.now) ×
    Within (g.S.Source.past l.self.source.now l.fn.at) l.fn.at l.at-iterator.span ×
    (vec_len l.leads.rows ≡ vec_len l.initial.leads.rows) ×
    ((D : Document) → Holds l.self.schema.now D → NamesApart D → (p : ℕ) (xs : Raws) → g.S.Source.stands l.self.source.now l.fn.at (list p xs) → l.ty.shape.base ≡ base_in D l.ty.name.now
    → (ys : Raws) × g.S.Source.items l.self.source.now l.at-iterator.span ys
    × ((new : List Row) → Adds l.self.row (LacksRowIn D ys (typed_of l.ty).ty) l.leads.rows.items new → Adds l.self.row (LacksRowIn D xs (typed_of l.ty).ty) l.initial.leads.rows.items new))

-- the fields before this row were added
abbrev pub invariant-object-loop-row : goal.invariant-object-loop-row
invariant-object-loop-row g l =
    (vec_len l.leads.rows ≡ vec_len l.initial.leads.rows) ×
    ((D : Document) → Holds l.self.schema.now D → NamesApart D → (p : ℕ) (ms : Mems) → g.S.Source.stands l.self.source.now l.at (object p ms)
    → Adds l.self.row (FieldsLackRow D ms l.initial.row l.row) l.initial.leads.rows.items l.leads.rows.items)
