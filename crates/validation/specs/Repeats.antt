-- Names that the tables of a schema hold twice.
use Rattle.std.specs.Prelude.{◌≡◌, ℕ, true, List, [], Some, None, Option, map}
use Rattle.std.proofs.Common.{vec_items}
use Rattle.model.specs.Values.{has}
use Rattle.model.specs.Cycles.{Among}
use Rattle.schema.specs.declared.definition.TypeDef.{TypeDef}
use Rattle.schema.specs.declared.definition.Field.{Field}
use Rattle.schema.specs.declared.definition.Directive.{Directive}
use Rattle.schema.specs.declared.definition.Schema.{Schema}
use Rattle.schema.specs.declared.definition.TypeKind.{TypeKind}
use Rattle.schema.specs.declared.definition.TypeKind.TheVariants.{Scalar, Enum, Input, Output}
use Rattle.schema.specs.declared.tokens.Name.{Name}
use Rattle.schema.specs.Documents.{Label}
use Rattle.schema.specs.Spans.{rows_in}
use Rattle.validation.specs.Places.{labelled}
use Rattle.source.specs.Nodes.{node_at}
use Rattle.source.specs.Table.{Table}
use Rattle.validation.specs.Making.{Twice, MemberTwice, built_in_names}

abbrev pub type_name : TypeDef → Label
type_name t = labelled t.name.now t.place

abbrev pub value_name : Name → Label
value_name v = labelled v.name.now v.place

abbrev pub field_name : Field → Label
field_name f = labelled f.name.now f.place

abbrev pub directive_name : Directive → Label
directive_name d = labelled d.name.now d.place

-- at p is what P says of one of them
pub data OneOf {A : Type 0} (P : A → ℕ → Type 0) (xs : List A) (p : ℕ) : Type 0 where
  one_of : {x : A} → Among x xs → P x p → OneOf P xs p

-- the type's name is built in
abbrev pub BuiltIn : TypeDef → ℕ → Type 0
BuiltIn t p = (has built_in_names t.name.now ≡ true) × (t.place ≡ p)

-- the names inside a type of a kind
abbrev pub names_inside : Schema → TypeDef → TypeKind → List Label
names_inside s t Scalar = []
names_inside s t Enum = map value_name (rows_in (vec_items s.values) t.inside)
names_inside s t Input = map field_name (rows_in (vec_items s.fields) t.inside)
names_inside s t Output = []

-- a name is twice inside the type
abbrev pub TwiceInside : Schema → TypeDef → ℕ → Type 0
TwiceInside s t = Twice (names_inside s t t.kind)

-- a name is twice among the arguments of the directive
abbrev pub TwiceArgued : Schema → Directive → ℕ → Type 0
TwiceArgued s d = Twice (map field_name (rows_in (vec_items s.arguments) d.arguments))

-- a member in the default has again the name of another
abbrev pub DefaultTwice : Table → Option ℕ → ℕ → Type 0
DefaultTwice T None p = ⊥
DefaultTwice T (Some c) p = MemberTwice T.text (node_at T.nodes c).place p
