-- The tests of a making: which faults lie where, and which of them is told.
use Rattle.std.specs.Prelude.{◌≡◌, ℕ, ◌≤◌, ◌⊎◌, true, List, [], ◌∷◌, ◌++◌, length, Some, None, Option, codes}
use Rattle.std.proofs.Math.Option.{some}
use Rattle.model.specs.Values.{Name, Raw, Argument, place_of, has, output_d, TypeDef, find}
use Rattle.model.specs.Limits.{RawLimits}
use Rattle.model.specs.Back.{Distinct, Proper}
use Rattle.model.specs.Checking.{inner, RightDefault}
use Rattle.model.specs.Cycles.{Among, OnCycle}
use Rattle.model.specs.CycleLaws.{type_names}
use Rattle.schema.specs.Documents.{Label, Declared, Definition, a_scalar, an_enum, an_input, an_output, a_directive, Document, VariableDefinition, OperationDocument, field_of, types_in, schema_of}
use Rattle.schema.specs.HoldsOperation.{arguments_in as uses_arguments}
use Rattle.schema.specs.SchemaReading.{inputs_in, arguments_in}
use Rattle.text.specs.declared.fault.Fault.TheVariants.{RepeatedName}
use Rattle.text.specs.declared.language.Language.TheVariants.{Graphql}
use Rattle.reader.specs.Tokens.{Sights}
use Rattle.reader.specs.Reading.{fails, Reads}

-- the least place where a fault lies, or none where none lies
abbrev pub FirstFault : (ℕ → Type 0) → Option ℕ → Type 0
FirstFault P None = (q : ℕ) → P q → ⊥
FirstFault P (Some p) = P p × ((q : ℕ) → P q → p ≤ q)

-- TYPES (sections 3.4, 3.4.2 and 3.5)

-- the built-in scalars (section 3.5)
abbrev pub built_in_names : List Name
built_in_names = codes "Int" ∷ codes "Float" ∷ codes "String" ∷ codes "Boolean" ∷ codes "ID" ∷ []

-- a type's name is built in or declared
pub data Known (D : Document) (n : Name) : Type 0 where
  known_built_in : has built_in_names n ≡ true → Known D n
  known_declared : {t : TypeDef} → Among t (types_in D) → t.name ≡ n → Known D n

-- an input field or an argument of a directive
abbrev pub Input : Document → Declared → Type 0
Input D d = Among d (inputs_in D) ⊎ Among d (arguments_in D)

-- at p a type's name is written that is neither built in nor declared
pub data UnknownAt (D : Document) (p : ℕ) : Type 0 where
  unknown_at : {d : Declared} → Input D d → (Known D (inner d.typed.ty) → ⊥) → d.typed.place ≡ p → UnknownAt D p

-- at p a type's name is written that is declared, as no input type
pub data NotInputAt (D : Document) (p : ℕ) : Type 0 where
  not_input_at : {d : Declared} → Input D d → Known D (inner d.typed.ty) → find (schema_of D) (inner d.typed.ty) ≡ output_d → d.typed.place ≡ p → NotInputAt D p

-- NAMES

-- at p stands a name that an earlier one of them has
pub data Twice : List Label → ℕ → Type 0 where
  twice_here : {l m : Label} {ls : List Label} → Among m ls → l.name ≡ m.name → Twice (l ∷ ls) m.place
  twice_later : {l : Label} {ls : List Label} {p : ℕ} → Twice ls p → Twice (l ∷ ls) p

abbrev pub labels_of : List Declared → List Label
labels_of [] = []
labels_of (d ∷ ds) = d.label ∷ labels_of ds

-- the name of a type that is defined
abbrev pub type_label : Definition → List Label
type_label (a_scalar l) = l ∷ []
type_label (an_enum l vs) = l ∷ []
type_label (an_input l ds) = l ∷ []
type_label (an_output l) = l ∷ []
type_label (a_directive l ds r ps) = []

abbrev pub type_labels : Document → List Label
type_labels [] = []
type_labels (d ∷ ds) = type_label d ++ type_labels ds

-- the name of a directive that is defined
abbrev pub directive_label : Definition → List Label
directive_label (a_scalar l) = []
directive_label (an_enum l vs) = []
directive_label (an_input l ds) = []
directive_label (an_output l) = []
directive_label (a_directive l ds r ps) = l ∷ []

abbrev pub directive_labels : Document → List Label
directive_labels [] = []
directive_labels (d ∷ ds) = directive_label d ++ directive_labels ds

-- the names inside a definition: of an enum's values, of an input object's fields, of a directive's arguments
abbrev pub inner_labels : Definition → List Label
inner_labels (a_scalar l) = []
inner_labels (an_enum l vs) = vs
inner_labels (an_input l ds) = labels_of ds
inner_labels (an_output l) = []
inner_labels (a_directive l ds r ps) = labels_of ds

-- at p a name is declared that is declared already (sections 3.3, 3.5, 3.9, 3.10 and 3.13)
pub data NameTwiceAt (D : Document) : ℕ → Type 0 where
  a_built_in : {l : Label} → Among l (type_labels D) → has built_in_names l.name ≡ true → NameTwiceAt D l.place
  a_type_twice : {p : ℕ} → Twice (type_labels D) p → NameTwiceAt D p
  a_directive_twice : {p : ℕ} → Twice (directive_labels D) p → NameTwiceAt D p
  inside_twice : {d : Definition} {p : ℕ} → Among d D → Twice (inner_labels d) p → NameTwiceAt D p

-- MEMBERS

-- at p stands a name that an earlier member of an object in the literal at `at` has: so that literal is refused where names are distinct
abbrev pub MemberTwice : List ℕ → ℕ → ℕ → Type 0
MemberTwice text at p = (at ≤ length text) × Reads (Sights Graphql text) Graphql true 32 at (fails (RepeatedName p))

-- at p a name is declared again, or a member in a default has again the name of another (section 2.9.8)
pub data RepeatedNameAt (text : List ℕ) (D : Document) (p : ℕ) : Type 0 where
  declared_again : NameTwiceAt D p → RepeatedNameAt text D p
  member_again : {d : Declared} {x : Raw} → Input D d → d.dflt ≡ some x → MemberTwice text (place_of x) p → RepeatedNameAt text D p

-- OPERATIONS (sections 2.10 and 2.12)

abbrev pub variable_labels : List VariableDefinition → List Label
variable_labels [] = []
variable_labels (v ∷ vs) = v.declared.label ∷ variable_labels vs

-- at p a variable is defined again (section 5.8.1), or a member in a default or in an argument of a use has again the name of another (section 5.6.3)
pub data RepeatedInOperationAt (text : List ℕ) (D : OperationDocument) (p : ℕ) : Type 0 where
  variable_again : Twice (variable_labels D.variables) p → RepeatedInOperationAt text D p
  default_again : {v : VariableDefinition} {x : Raw} → Among v D.variables → v.declared.dflt ≡ some x → MemberTwice text (place_of x) p → RepeatedInOperationAt text D p
  value_again : {a : Argument} → Among a (uses_arguments D.uses) → MemberTwice text (place_of a.value) p → RepeatedInOperationAt text D p

-- at p a variable's type has a name that the schema neither declares nor has built in
pub data UnknownVariableAt (S : Document) (D : OperationDocument) (p : ℕ) : Type 0 where
  unknown_variable_at : {v : VariableDefinition} → Among v D.variables → (Known S (inner v.declared.typed.ty) → ⊥) → v.declared.typed.place ≡ p → UnknownVariableAt S D p

-- at p a variable's type has a name that the schema declares, as no input type (section 5.8.2)
pub data NotInputVariableAt (S : Document) (D : OperationDocument) (p : ℕ) : Type 0 where
  not_input_variable_at : {v : VariableDefinition} → Among v D.variables → Known S (inner v.declared.typed.ty) → find (schema_of S) (inner v.declared.typed.ty) ≡ output_d → v.declared.typed.place ≡ p → NotInputVariableAt S D p

-- DEFAULT CYCLES (section 3.10)

-- at p an input field is named that leads back to itself by the coercion of its default
pub data CycleAt (D : Document) (p : ℕ) : Type 0 where
  cycle_at : {l : Label} {ds : List Declared} {d : Declared} → Among (an_input l ds) D → Among d ds → OnCycle (schema_of D) (record { owner = l.name; field = field_of d }) → d.label.place ≡ p → CycleAt D p

-- no type's name is declared twice, and no input type has two fields of one name
abbrev pub NamesApart : Document → Type 0
NamesApart D = Distinct (type_names (types_in D)) × Proper (schema_of D)

-- each default is within the limits of a source; no member's name stands twice in one
abbrev pub Sourced : Document → Type 0
Sourced D = (d : Declared) → Input D d → (x : Raw) → d.dflt ≡ some x → RawLimits 0 x

-- DEFAULTS (sections 3.6.1 and 5.6.1)

-- at p stands the default of d, and it is not right for the type of d
abbrev pub WrongDefault : Document → Declared → ℕ → Type 0
WrongDefault S d p = (x : Raw) × (d.dflt ≡ some x) × (RightDefault (schema_of S) x d.typed.ty → ⊥) × (place_of x ≡ p)

-- at p stands the default of an input field or argument that is not right
pub data BadDefaultAt (D : Document) (p : ℕ) : Type 0 where
  bad_default_at : {d : Declared} → Input D d → WrongDefault D d p → BadDefaultAt D p

-- at p stands a variable's default that is not right
pub data BadVariableDefaultAt (S : Document) (D : OperationDocument) (p : ℕ) : Type 0 where
  bad_variable_default_at : {v : VariableDefinition} → Among v D.variables → WrongDefault S v.declared p → BadVariableDefaultAt S D p

-- each default of a variable is within the limits of a source; no member's name stands twice in one
abbrev pub VariablesSourced : OperationDocument → Type 0
VariablesSourced D = (v : VariableDefinition) → Among v D.variables → (x : Raw) → v.declared.dflt ≡ some x → RawLimits 0 x
