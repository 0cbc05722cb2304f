-- What the rows of the relation between fields are to hold: what the default of a field lacks.
use Rattle.std.specs.Prelude.{◌≡◌, ℕ, ◌<◌, ◌⊎◌, ◌↔◌, true, List, get_or}
use Rattle.std.proofs.Math.Option.{none, some}
use Rattle.model.specs.Values.{Name, Raw, Raws, Mems, list, object, Ty, named}
use Rattle.model.specs.Coercion.{member}
use Rattle.model.specs.Cycles.{InputField, Lacks, LacksIn, input_fields, nth}
use Rattle.relation.specs.declared.row.Row.{Row}
use Rattle.relation.specs.Relating.{leads}
use Rattle.schema.specs.declared.types.Base.TheVariants.{Input}
use Rattle.schema.specs.declared.types.«Type».{«Type» as TypeIn}
use Rattle.schema.specs.declared.definition.Field.{Field as FieldRow}
use Rattle.schema.specs.declared.definition.Schema.{Schema}
use Rattle.schema.specs.declared.types.Base.{Base}
use Rattle.schema.specs.Documents.{Document, schema_of}
use Rattle.schema.specs.Rows.{base_in}
use Rattle.schema.specs.Holds.{Holds, typed_of}
use Rattle.validation.specs.Making.{NamesApart}

-- the field of row j is lacked by a value at a type
abbrev pub LacksRow : Document → Raw → Ty → ℕ → Type 0
LacksRow D x t j = (G : InputField) × (nth (input_fields (schema_of D)) j ≡ some G) × Lacks (schema_of D) x t G.owner G.field

abbrev pub LacksRowIn : Document → Raws → Ty → ℕ → Type 0
LacksRowIn D xs t j = (G : InputField) × (nth (input_fields (schema_of D)) j ≡ some G) × LacksIn (schema_of D) xs t G.owner G.field

-- it is the field of row r, which no member of an object is of, or one that its member lacks
abbrev pub FieldLacksRow : Document → Mems → (r j : ℕ) → Type 0
FieldLacksRow D ms r j = (F : InputField) × (nth (input_fields (schema_of D)) r ≡ some F) × (((j ≡ r) × (member ms F.field.name ≡ none) × (y : Raw) × (F.field.dflt ≡ some y)) ⊎ ((x : Raw) × (member ms F.field.name ≡ some x) × LacksRow D x F.field.ty j))

-- the row leads to those of P too, and all else is as it was
abbrev pub Adds : ℕ → (ℕ → Type 0) → List Row → List Row → Type 0
Adds row P old new = (i j : ℕ) → leads new i j ≡ true ↔ (leads old i j ≡ true) ⊎ ((i ≡ row) × P j)

-- by what stands at a cursor: a value at a type, the items of a list, an object of the input type of a row, a field of an object

abbrev pub ValueTold : (ℕ → Raw → Type 0) → ℕ → Schema → ℕ → TypeIn Base → List Row → List Row → Type 0
ValueTold stands row s at ty old new = (D : Document) → Holds s D → NamesApart D → (x : Raw) → stands at x → ty.shape.base ≡ base_in D ty.name.now → Adds row (LacksRow D x (typed_of ty).ty) old new

abbrev pub ItemsTold : (ℕ → Raw → Type 0) → ℕ → Schema → ℕ → TypeIn Base → List Row → List Row → Type 0
ItemsTold stands row s at ty old new = (D : Document) → Holds s D → NamesApart D → (p : ℕ) (xs : Raws) → stands at (list p xs) → ty.shape.base ≡ base_in D ty.name.now → Adds row (LacksRowIn D xs (typed_of ty).ty) old new

abbrev pub ObjectTold : (ℕ → Raw → Type 0) → ℕ → Schema → ℕ → ℕ → List Row → List Row → Type 0
ObjectTold stands row s at index old new = (D : Document) → Holds s D → NamesApart D → (p : ℕ) (ms : Mems) → stands at (object p ms) → (n : Name) → base_in D n ≡ Input index → Adds row (LacksRow D (object p ms) (named true n)) old new

abbrev pub FieldTold : (ℕ → Raw → Type 0) → ℕ → Schema → ℕ → ℕ → List Row → List Row → Type 0
FieldTold stands row s at r old new = (D : Document) → Holds s D → NamesApart D → (p : ℕ) (ms : Mems) → stands at (object p ms) → Adds row (FieldLacksRow D ms r) old new

-- of the rows before `to`, at p the field of one is named that leads to itself
abbrev pub CyclesBefore : List Row → List FieldRow → (to p : ℕ) → Type 0
CyclesBefore rows fields to p = (i : ℕ) × (i < to) × (leads rows i i ≡ true) × (f : FieldRow) × (get_or fields i f ≡ f) × (f.place ≡ p)
