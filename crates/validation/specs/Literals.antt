-- What the rows of a schema and of an operation say to a check of literals.
use Rattle.std.specs.Prelude.{◌≡◌, ℕ, List, map, Some, None, Option}
use Rattle.std.proofs.Math.Option.{none, some}
use Rattle.std.specs.Borrow.{Bor}
use Rattle.model.specs.Values.{Name, Raw, place_of, Ty, Field, Def, int_d, float_d, string_d, boolean_d, id_d, enum_d, input_d, custom_d, output_d, Variable}
use Rattle.model.specs.Checking.{FindingKind}
use Rattle.source.specs.Table.{Table}
use Rattle.schema.specs.declared.definition.Schema.{Schema as SchemaRows}
use Rattle.schema.specs.declared.operation.Variable.{Variable as VariableRow}
use Rattle.schema.specs.declared.types.Base.{Base}
use Rattle.schema.specs.declared.types.Base.TheVariants.{Int, Float, String, Boolean, Id, Custom, Enum, Input, Output, Unknown}
use Rattle.schema.specs.declared.types.«Type».{«Type» as TypeIn}
use Rattle.schema.specs.Documents.{Document}
use Rattle.schema.specs.Holds.{Each, DefaultHeld, Holds, typed_of}
use Rattle.validation.specs.declared.diagnostic.DiagnosticKind.{DiagnosticKind}
use Rattle.validation.specs.Diagnosed.{kind_of}

abbrev pub type_of : {B : Type 0} → TypeIn B → Ty
type_of t = (typed_of t).ty

-- a row says what a variable is
pub record VariableHeld (T : Table) (r : VariableRow) (v : Variable) : Type 0 where
  pub name : r.name.now ≡ v.field.name
  pub typed : type_of r.ty ≡ v.field.ty
  pub default : DefaultHeld T r.default v.field.dflt

-- rows are found by their names, and say what the variables are
pub record Declares (names : List Name) (T : Table) (rows : List VariableRow) (vs : List Variable) : Type 0 where
  pub named : names ≡ map (λ r. r.name.now) rows
  pub held : Each (VariableHeld T) rows vs

-- the row of a variable that is declared
abbrev pub RowFound : Table → mathlib.Core.Option.Option Variable → Option (Bor VariableRow) → Type 0
RowFound T none None = Unit {0}
RowFound T none (Some r) = ⊥
RowFound T (some v) None = ⊥
RowFound T (some v) (Some r) = VariableHeld T r.now v

-- what is known to a check: what the rows of the schema and those of the variables say
pub record Knows (schema : SchemaRows) (names : List Name) (T : Table) (rows : List VariableRow) (D : Document) (vs : List Variable) : Type 0 where
  pub holds : Holds schema D
  pub declares : Declares names T rows vs

-- what is wrong with a scalar, if anything is
abbrev pub ErrorTold : mathlib.Core.Option.Option FindingKind → Option DiagnosticKind → Type 0
ErrorTold none None = Unit {0}
ErrorTold none (Some k) = ⊥
ErrorTold (some k) None = ⊥
ErrorTold (some k) (Some e) = kind_of e ≡ k

-- the value that lies at a place
abbrev pub PlaceFound : (ℕ → Raw → Type 0) → mathlib.Core.Option.Option ℕ → Option ℕ → Type 0
PlaceFound stands none None = Unit {0}
PlaceFound stands none (Some c) = ⊥
PlaceFound stands (some p) None = ⊥
PlaceFound stands (some p) (Some c) = (x : Raw) × stands c x × (place_of x ≡ p)

-- what a definition is at least, by what its name stands for
abbrev pub Means : Base → Def → Type 0
Means Int d = d ≡ int_d
Means Float d = d ≡ float_d
Means String d = d ≡ string_d
Means Boolean d = d ≡ boolean_d
Means Id d = d ≡ id_d
Means (Custom k) d = d ≡ custom_d
Means (Enum k) d = (ns : List Name) × (d ≡ enum_d ns)
Means (Input k) d = (fs : List Field) × (d ≡ input_d fs)
Means Output d = d ≡ output_d
Means Unknown d = d ≡ output_d
