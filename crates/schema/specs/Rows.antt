-- The rows that the definitions of a schema make, in the order of the text, without references.
use Rattle.std.specs.Prelude.{ℕ, zero, suc, ◌+◌, Bool, cond, List, [], ◌∷◌, ◌++◌, length, codes}
use Rattle.model.specs.Values.{Name, same, Location}
use Rattle.source.specs.declared.raw.Span.{Span}
use Rattle.schema.specs.declared.definition.TypeKind.{TypeKind}
use Rattle.schema.specs.declared.definition.TypeKind.TheVariants.{Scalar, Enum, Input, Output}
use Rattle.schema.specs.declared.types.Base.{Base}
use Rattle.schema.specs.declared.types.Base.TheVariants.{Int, Float, String, Boolean, Id, Custom, Enum as EnumBase, Input as InputBase, Output as OutputBase, Unknown}
use Rattle.schema.specs.Documents.{Label, Definition, a_scalar, an_enum, an_input, an_output, a_directive, Document}
use Rattle.schema.specs.SchemaReading.{values_of, inputs_of, arguments_of}

-- from a row up to n rows further
abbrev pub span : ℕ → ℕ → Span
span from n = record { from = from; to = from + n }

-- a type: its name, its kind, and where its values or fields stand among those of all types
pub record TypeRow : Type 0 where
  pub label : Label
  pub kind : TypeKind
  pub inside : Span

-- after v values and f fields
abbrev pub type_row : (v f : ℕ) → Definition → List TypeRow
type_row v f (a_scalar l) = record { label = l; kind = Scalar; inside = span 0 0 } ∷ []
type_row v f (an_enum l vs) = record { label = l; kind = Enum; inside = span v (length vs) } ∷ []
type_row v f (an_input l ds) = record { label = l; kind = Input; inside = span f (length ds) } ∷ []
type_row v f (an_output l) = record { label = l; kind = Output; inside = span 0 0 } ∷ []
type_row v f (a_directive l ds r ps) = []

abbrev pub type_rows_from : (v f : ℕ) → Document → List TypeRow
type_rows_from v f [] = []
type_rows_from v f (d ∷ ds) = type_row v f d ++ type_rows_from (v + length (values_of d)) (f + length (inputs_of d)) ds

abbrev pub type_rows : Document → List TypeRow
type_rows = type_rows_from 0 0

-- a directive: its name, where its arguments stand among those of all directives, where it may stand, and whether it may be repeated
pub record DirectiveRow : Type 0 where
  pub label : Label
  pub arguments : Span
  pub locations : List Location
  pub repeatable : Bool

-- the span of n arguments after `from` others; of none it is empty
abbrev pub argument_span : (from n : ℕ) → Span
argument_span from zero = span 0 0
argument_span from (suc n) = span from (suc n)

-- after a arguments
abbrev pub directive_row : (a : ℕ) → Definition → List DirectiveRow
directive_row a (a_scalar l) = []
directive_row a (an_enum l vs) = []
directive_row a (an_input l ds) = []
directive_row a (an_output l) = []
directive_row a (a_directive l ds r ps) = record { label = l; arguments = span a (length ds); locations = ps; repeatable = r } ∷ []

abbrev pub directive_rows_from : (a : ℕ) → Document → List DirectiveRow
directive_rows_from a [] = []
directive_rows_from a (d ∷ ds) = directive_row a d ++ directive_rows_from (a + length (arguments_of d)) ds

abbrev pub directive_rows : Document → List DirectiveRow
directive_rows = directive_rows_from 0

-- what the name of a type stands for: a built-in scalar, or else the first type that is declared so, by its row

abbrev pub base_of : TypeKind → ℕ → Base
base_of Scalar i = Custom i
base_of Enum i = EnumBase i
base_of Input i = InputBase i
base_of Output i = OutputBase

abbrev pub base_among : List TypeRow → ℕ → Name → Base
base_among [] i n = Unknown
base_among (r ∷ rs) i n = cond (same r.label.name n) (base_of r.kind i) (base_among rs (suc i) n)

-- where these types are declared
abbrev pub base_by : List TypeRow → Name → Base
base_by rows n =
    cond (same (codes "Int") n) Int
    (cond (same (codes "Float") n) Float
    (cond (same (codes "String") n) String
    (cond (same (codes "Boolean") n) Boolean
    (cond (same (codes "ID") n) Id (base_among rows 0 n)))))

abbrev pub base_in : Document → Name → Base
base_in D = base_by (type_rows D)
