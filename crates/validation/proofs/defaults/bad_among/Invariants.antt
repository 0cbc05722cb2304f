use Rattle.std.proofs.Common.{◌≡◌, List, take}
use Rattle.std.proofs.Math.Option.{some}
use Rattle.model.specs.Values.{Raw}
use Rattle.model.specs.Limits.{RawLimits}
use Rattle.model.specs.Cycles.{Among}
use Rattle.source.specs.Table.{tree_table}
use Rattle.schema.specs.Documents.{Declared, Document}
use Rattle.schema.specs.Holds.{Each, FieldHeld, Holds}
use Rattle.schema.specs.Rows.{base_in}
use Rattle.validation.specs.Making.{FirstFault, WrongDefault}
use Rattle.validation.specs.Repeats.{OneOf}
use Rattle.validation.proofs.defaults.bad_among.Given as goal

-- of the fields before this one
abbrev pub invariant-loop-field : goal.invariant-loop-field
invariant-loop-field l = (D : Document) (ds : List Declared) → Holds l.schema D → Each (FieldHeld (base_in D) (tree_table l.schema.tree)) l.fields ds → ((d : Declared) → Among d ds → (x : Raw) → d.dflt ≡ some x → RawLimits 0 x) → FirstFault (OneOf (WrongDefault D) (take l.field-index ds)) l.first
