-- What schema and operation texts say: their definitions, with the places of their names (sections 2.3, 2.10 to 2.12 and 3.4 to 3.13).
use Rattle.std.specs.Prelude.{ℕ, Bool, List, [], ◌∷◌, ◌++◌}
use Rattle.std.proofs.Math.Option.{Option}
use Rattle.model.specs.Values.{Name, Raw, Ty, Field, enum_d, input_d, custom_d, output_d, TypeDef, Location, Directive, Schema, Variable, Use, Operation}

-- a name and its place
pub record Label : Type 0 where
  pub name : Name
  pub place : ℕ

-- Type (section 2.11), with the place of its name
pub record Typed : Type 0 where
  pub ty : Ty
  pub place : ℕ

-- InputValueDefinition (section 3.6.1): an input field or an argument; also what a variable's definition says after its `$`
pub record Declared : Type 0 where
  pub label : Label
  pub typed : Typed
  pub dflt : Option Raw

-- TypeSystemDefinition (section 3.3), as far as it is kept
pub data Definition : Type 0 where
  a_scalar : Label → Definition
  an_enum : Label → List Label → Definition
  an_input : Label → List Declared → Definition
  an_output : Label → Definition
  a_directive : Label → List Declared → Bool → List Location → Definition

abbrev pub Document : Type 0
Document = List Definition

-- OperationType (section 2.3)
pub data Kind : Type 0 where
  a_query : Kind
  a_mutation : Kind
  a_subscription : Kind

-- VariableDefinition (section 2.10); its place is that of the `$`
pub record VariableDefinition : Type 0 where
  pub place : ℕ
  pub declared : Declared

-- OperationDefinition (section 2.3), without its name and its selections
pub record OperationDocument : Type 0 where
  pub kind : Kind
  pub variables : List VariableDefinition
  pub uses : List Use

-- what the definitions mean

abbrev pub field_of : Declared → Field
field_of d = record { name = d.label.name; ty = d.typed.ty; dflt = d.dflt }

abbrev pub fields_in : List Declared → List Field
fields_in [] = []
fields_in (d ∷ ds) = field_of d ∷ fields_in ds

abbrev pub names_in : List Label → List Name
names_in [] = []
names_in (l ∷ ls) = l.name ∷ names_in ls

-- the types of a definition: itself, or none of a directive's
abbrev pub type_of : Definition → List TypeDef
type_of (a_scalar l) = record { name = l.name; def = custom_d } ∷ []
type_of (an_enum l vs) = record { name = l.name; def = enum_d (names_in vs) } ∷ []
type_of (an_input l ds) = record { name = l.name; def = input_d (fields_in ds) } ∷ []
type_of (an_output l) = record { name = l.name; def = output_d } ∷ []
type_of (a_directive l ds r ps) = []

abbrev pub directive_of : Definition → List Directive
directive_of (a_scalar l) = []
directive_of (an_enum l vs) = []
directive_of (an_input l ds) = []
directive_of (an_output l) = []
directive_of (a_directive l ds r ps) = record { name = l.name; arguments = fields_in ds; locations = ps; repeatable = r } ∷ []

abbrev pub types_in : Document → List TypeDef
types_in [] = []
types_in (d ∷ ds) = type_of d ++ types_in ds

abbrev pub directives_in : Document → List Directive
directives_in [] = []
directives_in (d ∷ ds) = directive_of d ++ directives_in ds

abbrev pub schema_of : Document → Schema
schema_of D = record { types = types_in D; directives = directives_in D }

abbrev pub variable_of : VariableDefinition → Variable
variable_of v = record { field = field_of v.declared; place = v.place }

abbrev pub variables_in : List VariableDefinition → List Variable
variables_in [] = []
variables_in (v ∷ vs) = variable_of v ∷ variables_in vs

abbrev pub operation_of : OperationDocument → Operation
operation_of D = record { variables = variables_in D.variables; uses = D.uses }
