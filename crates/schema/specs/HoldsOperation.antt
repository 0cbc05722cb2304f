-- The tables of an operation hold exactly what its text says.
use Rattle.std.specs.Prelude.{◌≡◌, ℕ, ◌+◌, List, [], ◌∷◌, ◌++◌, length, map, vec_items}
use Rattle.model.specs.Values.{Name, Argument, Use}
use Rattle.source.specs.declared.raw.Span.{Span}
use Rattle.source.specs.Table.{Table, tree_table, Stands}
use Rattle.schema.specs.declared.operation.Argument.{Argument as ArgumentIn}
use Rattle.schema.specs.declared.operation.Operation.{Operation as OperationIn}
use Rattle.schema.specs.declared.operation.OperationKind.{OperationKind}
use Rattle.schema.specs.declared.operation.OperationKind.TheVariants.{Query, Mutation, Subscription}
use Rattle.schema.specs.declared.operation.Use.{Use as UseIn}
use Rattle.schema.specs.declared.operation.Variable.{Variable as VariableIn}
use Rattle.schema.specs.declared.types.Base.{Base}
use Rattle.schema.specs.Documents.{Label, Kind, a_query, a_mutation, a_subscription, VariableDefinition, OperationDocument}
use Rattle.schema.specs.Holds.{Each, DefaultHeld, typed_of}
use Rattle.schema.specs.Rows.{argument_span}
use Rattle.schema.specs.Spans.{rows_in}

abbrev pub kind_of : OperationKind → Kind
kind_of Query = a_query
kind_of Mutation = a_mutation
kind_of Subscription = a_subscription

-- a variable: its type, whose name stands for what B says, and its default, which stands at the cursor
pub record VariableHeld (B : Name → Base) (T : Table) (v : VariableIn) (d : VariableDefinition) : Type 0 where
  pub name : v.name.now ≡ d.declared.label.name
  pub name_place : v.name_place ≡ d.declared.label.place
  pub place : v.place ≡ d.place
  pub typed : typed_of v.ty ≡ d.declared.typed
  pub base : v.ty.shape.base ≡ B v.ty.name.now
  pub default : DefaultHeld T v.default d.declared.dflt

-- a use: its name, its place, and where its arguments stand among those of all uses
pub record UseRow : Type 0 where
  pub label : Label
  pub arguments : Span

-- after a arguments
abbrev pub use_row : ℕ → Use → UseRow
use_row a u = record { label = record { name = u.name; place = u.place }; arguments = argument_span a (length u.arguments) }

abbrev pub use_rows_from : ℕ → List Use → List UseRow
use_rows_from a [] = []
use_rows_from a (u ∷ us) = use_row a u ∷ use_rows_from (a + length u.arguments) us

abbrev pub use_row_of : UseIn → UseRow
use_row_of u = record { label = record { name = u.name.now; place = u.place }; arguments = u.arguments }

-- the arguments of all uses, in the order of the text
abbrev pub arguments_in : List Use → List Argument
arguments_in [] = []
arguments_in (u ∷ us) = u.arguments ++ arguments_in us

-- an argument of a use: its value stands at the cursor
pub record ArgumentHeld (T : Table) (a : ArgumentIn) (x : Argument) : Type 0 where
  pub name : a.name.now ≡ x.name
  pub place : a.place ≡ x.place
  pub value : Stands T a.value x.value

-- a use, among all arguments: its own stand in its span
pub record UseHeld (T : Table) (all : List ArgumentIn) (u : UseIn) (x : Use) : Type 0 where
  pub name : u.name.now ≡ x.name
  pub place : u.place ≡ x.place
  pub arguments : Each (ArgumentHeld T) (rows_in all u.arguments) x.arguments

-- the whole, with what names of types stand for by B
pub record HoldsOperation (B : Name → Base) (o : OperationIn) (D : OperationDocument) : Type 0 where
  pub kind : kind_of o.kind ≡ D.kind
  pub variables : Each (VariableHeld B (tree_table o.tree)) (vec_items o.variables) D.variables
  pub uses : map use_row_of (vec_items o.uses) ≡ use_rows_from 0 D.uses
  pub arguments : Each (ArgumentHeld (tree_table o.tree)) (vec_items o.arguments) (arguments_in D.uses)
