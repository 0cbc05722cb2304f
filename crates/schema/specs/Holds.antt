-- The tables of a schema hold exactly what a document says.
use Rattle.std.specs.Prelude.{◌≡◌, ℕ, ◌<◌, false, List, [], ◌∷◌, Some, None, Option, map, get_or, vec_items}
use Rattle.std.proofs.Math.Option.{none, some}
use Rattle.model.specs.Values.{Name, Raw, Location}
use Rattle.source.specs.Table.{Table, tree_table, Stands}
use Rattle.schema.specs.declared.definition.TypeDef.{TypeDef}
use Rattle.schema.specs.declared.definition.Field.{Field}
use Rattle.schema.specs.declared.definition.Directive.{Directive}
use Rattle.schema.specs.declared.definition.Schema.{Schema}
use Rattle.schema.specs.declared.location.Locations.{Locations}
use Rattle.schema.specs.declared.types.Base.{Base}
use Rattle.schema.specs.declared.types.«Type».{«Type» as TypeIn}
use Rattle.schema.specs.Documents.{Label, Typed, Declared, Document}
use Rattle.schema.specs.Locations.{location_in}
use Rattle.schema.specs.SchemaReading.{values_in, inputs_in, arguments_in}
use Rattle.schema.specs.declared.tokens.Name.{Name as NameToken}
use Rattle.schema.specs.Types.{ty_from}
use Rattle.schema.specs.Rows.{TypeRow, DirectiveRow, type_rows, directive_rows, base_in}

-- the rows stand for the things, one by one
abbrev pub Each : {A B : Type 0} → (A → B → Type 0) → List A → List B → Type 0
Each R [] [] = Unit {0}
Each R [] (y ∷ ys) = ⊥
Each R (x ∷ xs) [] = ⊥
Each R (x ∷ xs) (y ∷ ys) = R x y × Each R xs ys

abbrev pub label_of : NameToken → Label
label_of n = record { name = n.name.now; place = n.place }

abbrev pub type_row_of : TypeDef → TypeRow
type_row_of t = record { label = record { name = t.name.now; place = t.place }; kind = t.kind; inside = t.inside }

-- the flag of each location says whether it is in the list
pub record LocationsHeld (s : Locations) (ls : List Location) : Type 0 where
  pub flags : (i : ℕ) → i < 19 → get_or s.flags i false ≡ location_in ls i

abbrev pub DefaultHeld : Table → Option ℕ → mathlib.Core.Option.Option Raw → Type 0
DefaultHeld T None none = Unit {0}
DefaultHeld T None (some x) = ⊥
DefaultHeld T (Some c) none = ⊥
DefaultHeld T (Some c) (some x) = Stands T c x

pub record DirectiveHeld (d : Directive) (r : DirectiveRow) : Type 0 where
  pub name : d.name.now ≡ r.label.name
  pub place : d.place ≡ r.label.place
  pub arguments : d.arguments ≡ r.arguments
  pub locations : LocationsHeld d.locations r.locations
  pub repeatable : d.repeatable ≡ r.repeatable

abbrev pub typed_of : {B : Type 0} → TypeIn B → Typed
typed_of t = record { ty = ty_from t.shape.non_null t.name.now t.shape.levels; place = t.place }

-- a field or an argument: its type, whose name stands for what B says, and its default, which stands at the cursor
pub record FieldHeld (B : Name → Base) (T : Table) (f : Field) (d : Declared) : Type 0 where
  pub name : f.name.now ≡ d.label.name
  pub place : f.place ≡ d.label.place
  pub typed : typed_of f.ty ≡ d.typed
  pub base : f.ty.shape.base ≡ B f.ty.name.now
  pub default : DefaultHeld T f.default d.dflt

-- the same of a whole schema, with what names of types stand for by B
pub record HeldBy (B : Name → Base) (s : Schema) (D : Document) : Type 0 where
  pub types : map type_row_of (vec_items s.types) ≡ type_rows D
  pub values : map label_of (vec_items s.values) ≡ values_in D
  pub fields : Each (FieldHeld B (tree_table s.tree)) (vec_items s.fields) (inputs_in D)
  pub directives : Each DirectiveHeld (vec_items s.directives) (directive_rows D)
  pub arguments : Each (FieldHeld B (tree_table s.tree)) (vec_items s.arguments) (arguments_in D)

abbrev pub Holds : Schema → Document → Type 0
Holds s D = HeldBy (base_in D) s D
