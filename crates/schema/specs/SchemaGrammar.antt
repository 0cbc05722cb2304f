-- The texts of schemas (October 2021, sections 3.3 to 3.13), as far as they are kept: no descriptions, no directives on
-- definitions, no interfaces, fields or members of output types. T says which token stands after a place.
use Rattle.std.specs.Prelude.{◌≡◌, ℕ, Bool, true, false, List, [], ◌∷◌, codes}
use Rattle.std.proofs.Math.Option.{some}
use Rattle.model.specs.Values.{Name, Location}
use Rattle.text.specs.TokenGrammar.{at_sign, open_paren, close_paren, open_brace, close_brace, pipe, Lexical, a_mark, a_name, a_number, a_string, the_end}
use Rattle.reader.specs.Grammar.{name_of_null, name_of_true, name_of_false}
use Rattle.reader.specs.Reading.{is_mark}
use Rattle.schema.specs.Documents.{Label, Declared, Definition, a_scalar, an_enum, an_input, an_output, a_directive, Document}
use Rattle.schema.specs.Outcomes.{ItemsAt}
use Rattle.schema.specs.Declarations.{DeclaredAt}
use Rattle.schema.specs.Locations.{location_called}

-- Name
pub data LabelAt (T : ℕ → ℕ → ℕ → Lexical → Type 0) : ℕ → ℕ → Label → Type 0 where
  a_label : {i s e : ℕ} {w : Name} → T i s e (a_name w) → LabelAt T i e (record { name = w; place = s })

-- EnumValue: a Name, but not true, false or null
pub data EnumValueAt (T : ℕ → ℕ → ℕ → Lexical → Type 0) : ℕ → ℕ → Label → Type 0 where
  enum_value : {i j : ℕ} {l : Label} → LabelAt T i j l → (l.name ≡ name_of_true → ⊥) → (l.name ≡ name_of_false → ⊥) → (l.name ≡ name_of_null → ⊥) → EnumValueAt T i j l

-- EnumValuesDefinition
pub data EnumValuesAt (T : ℕ → ℕ → ℕ → Lexical → Type 0) : ℕ → ℕ → List Label → Type 0 where
  enum_values : {i s e j : ℕ} {vs : List Label} → T i s e (a_mark open_brace) → ItemsAt T (is_mark close_brace) (EnumValueAt T) false e j vs → EnumValuesAt T i j vs

-- InputFieldsDefinition
pub data InputFieldsAt (T : ℕ → ℕ → ℕ → Lexical → Type 0) : ℕ → ℕ → List Declared → Type 0 where
  input_fields : {i s e j : ℕ} {ds : List Declared} → T i s e (a_mark open_brace) → ItemsAt T (is_mark close_brace) (DeclaredAt T) false e j ds → InputFieldsAt T i j ds

-- ArgumentsDefinition, if there is one
pub data ArgumentsAt (T : ℕ → ℕ → ℕ → Lexical → Type 0) : ℕ → ℕ → List Declared → Type 0 where
  no_arguments : {i : ℕ} → ArgumentsAt T i i []
  some_arguments : {i s e j : ℕ} {ds : List Declared} → T i s e (a_mark open_paren) → ItemsAt T (is_mark close_paren) (DeclaredAt T) false e j ds → ArgumentsAt T i j ds

-- `repeatable`, if it stands there
pub data RepeatableAt (T : ℕ → ℕ → ℕ → Lexical → Type 0) : ℕ → ℕ → Bool → Type 0 where
  not_repeatable : {i : ℕ} → RepeatableAt T i i false
  is_repeatable : {i s e : ℕ} → T i s e (a_name (codes "repeatable")) → RepeatableAt T i e true

-- DirectiveLocation
pub data LocationAt (T : ℕ → ℕ → ℕ → Lexical → Type 0) : ℕ → ℕ → Location → Type 0 where
  a_location : {i s e : ℕ} {w : Name} {l : Location} → T i s e (a_name w) → location_called w ≡ some l → LocationAt T i e l

-- DirectiveLocations, without a `|` before the first
pub data LocationsAt (T : ℕ → ℕ → ℕ → Lexical → Type 0) : ℕ → ℕ → List Location → Type 0 where
  last_location : {i j : ℕ} {l : Location} → LocationAt T i j l → LocationsAt T i j (l ∷ [])
  more_locations : {i j s e k : ℕ} {l : Location} {ls : List Location} → LocationAt T i j l → T j s e (a_mark pipe) → LocationsAt T e k ls → LocationsAt T i k (l ∷ ls)

-- DirectiveLocations
pub data AllLocationsAt (T : ℕ → ℕ → ℕ → Lexical → Type 0) : ℕ → ℕ → List Location → Type 0 where
  locations : {i j : ℕ} {ls : List Location} → LocationsAt T i j ls → AllLocationsAt T i j ls
  piped_locations : {i s e j : ℕ} {ls : List Location} → T i s e (a_mark pipe) → LocationsAt T e j ls → AllLocationsAt T i j ls

-- what the definitions begin with that are kept by their names alone
pub data OutputWord : Name → Type 0 where
  type_word : OutputWord (codes "type")
  interface_word : OutputWord (codes "interface")
  union_word : OutputWord (codes "union")

-- ScalarTypeDefinition, EnumTypeDefinition, InputObjectTypeDefinition, the beginnings of ObjectTypeDefinition,
-- InterfaceTypeDefinition and UnionTypeDefinition, and DirectiveDefinition
pub data DefinitionAt (T : ℕ → ℕ → ℕ → Lexical → Type 0) : ℕ → ℕ → Definition → Type 0 where
  scalar_at : {i s e j : ℕ} {l : Label} → T i s e (a_name (codes "scalar")) → LabelAt T e j l → DefinitionAt T i j (a_scalar l)
  enum_at : {i s e j k : ℕ} {l : Label} {vs : List Label} → T i s e (a_name (codes "enum")) → LabelAt T e j l → EnumValuesAt T j k vs → DefinitionAt T i k (an_enum l vs)
  input_at : {i s e j k : ℕ} {l : Label} {ds : List Declared} → T i s e (a_name (codes "input")) → LabelAt T e j l → InputFieldsAt T j k ds → DefinitionAt T i k (an_input l ds)
  output_at : {i s e j : ℕ} {w : Name} {l : Label} → OutputWord w → T i s e (a_name w) → LabelAt T e j l → DefinitionAt T i j (an_output l)
  directive_at : {i s e b c j k m d f n : ℕ} {l : Label} {ds : List Declared} {r : Bool} {ls : List Location} → T i s e (a_name (codes "directive")) → T e b c (a_mark at_sign) → LabelAt T c j l → ArgumentsAt T j k ds → RepeatableAt T k m r → T m d f (a_name (codes "on")) → AllLocationsAt T f n ls → DefinitionAt T i n (a_directive l ds r ls)

abbrev pub ends : Lexical → Bool
ends (a_mark m) = false
ends (a_name w) = false
ends (a_number k ds) = false
ends (a_string cs) = false
ends the_end = true

-- TypeSystemDocument: any number of definitions, up to the end of the text
abbrev pub DocumentAt : (ℕ → ℕ → ℕ → Lexical → Type 0) → ℕ → Document → Type 0
DocumentAt T e D = ItemsAt T ends (DefinitionAt T) true 0 e D
