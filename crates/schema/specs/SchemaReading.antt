-- What reading a schema comes to: its definitions, or the fault that comes first.
use Rattle.std.specs.Prelude.{◌≡◌, ℕ, suc, ◌+◌, ◌||◌, ◌≤◌, ◌<◌, Bool, true, false, cond, List, [], ◌∷◌, ◌++◌, length, codes}
use Rattle.std.proofs.Math.Option.{Option, none, some}
use Rattle.model.specs.Values.{Name, same, Location}
use Rattle.text.specs.declared.fault.Fault.{Fault}
use Rattle.text.specs.declared.fault.Fault.TheVariants.{BadText}
use Rattle.text.specs.declared.language.Language.TheVariants.{Graphql}
use Rattle.text.specs.TokenGrammar.{at_sign, open_paren, close_paren, open_brace, close_brace, pipe, Lexical, a_mark, a_name, a_number, a_string, the_end}
use Rattle.reader.specs.Tokens.{Sight, sees, blind, Sights}
use Rattle.reader.specs.Grammar.{name_of_null, name_of_true, name_of_false}
use Rattle.reader.specs.Reading.{Out, got, fails, is_mark}
use Rattle.schema.specs.Documents.{Label, Declared, Definition, a_scalar, an_enum, an_input, an_output, a_directive, Document, type_of, directive_of}
use Rattle.schema.specs.Outcomes.{Then, Gives, Maps, Takes, the_mark, any_name, IfToken, IfMark, Room, before, Items}
use Rattle.schema.specs.Declarations.{ReadsDeclared}
use Rattle.schema.specs.Locations.{in_table, location_called}
use Rattle.schema.specs.SchemaGrammar.{ends}

-- what is in all definitions of a kind, in the order of the text

abbrev pub values_of : Definition → List Label
values_of (a_scalar l) = []
values_of (an_enum l vs) = vs
values_of (an_input l ds) = []
values_of (an_output l) = []
values_of (a_directive l ds r ps) = []

abbrev pub inputs_of : Definition → List Declared
inputs_of (a_scalar l) = []
inputs_of (an_enum l vs) = []
inputs_of (an_input l ds) = ds
inputs_of (an_output l) = []
inputs_of (a_directive l ds r ps) = []

abbrev pub arguments_of : Definition → List Declared
arguments_of (a_scalar l) = []
arguments_of (an_enum l vs) = []
arguments_of (an_input l ds) = []
arguments_of (an_output l) = []
arguments_of (a_directive l ds r ps) = ds

abbrev pub values_in : Document → List Label
values_in [] = []
values_in (d ∷ ds) = values_of d ++ values_in ds

abbrev pub inputs_in : Document → List Declared
inputs_in [] = []
inputs_in (d ∷ ds) = inputs_of d ++ inputs_in ds

abbrev pub arguments_in : Document → List Declared
arguments_in [] = []
arguments_in (d ∷ ds) = arguments_of d ++ arguments_in ds

-- a name, where there are n of its kind and may be `most`
abbrev pub ReadsNew : (ℕ → Sight → Type 0) → (most n : ℕ) → (ℕ → Lexical → Option Label) → ℕ → Out Label → Type 0
ReadsNew N most n of = Then (Takes N of) (λ l. Then (Room n most l.place) (λ _. Gives l))

-- the next number
abbrev pub next : {X : Type 0} → ℕ → X → ℕ
next n x = suc n

-- ENUMS

-- what no enum value is called: true, false, null
abbrev pub reserved : Name → Bool
reserved w = same name_of_true w || (same name_of_false w || same name_of_null w)

-- the name of an enum value
abbrev pub value_name : ℕ → Lexical → Option Label
value_name s (a_mark m) = none
value_name s (a_name w) = cond (reserved w) none (some (record { name = w; place = s }))
value_name s (a_number k ds) = none
value_name s (a_string cs) = none
value_name s the_end = none

-- after n values of enums, the values of another from behind its `{` on
abbrev pub ReadsValueList : (ℕ → Sight → Type 0) → ℕ → ℕ → Out (List Label) → Type 0
ReadsValueList N n = Items N (is_mark close_brace) next (λ k. ReadsNew N 1024 k value_name) false n

abbrev pub ReadsValues : (ℕ → Sight → Type 0) → ℕ → ℕ → Out (List Label) → Type 0
ReadsValues N n = Then (Takes N (the_mark open_brace)) (λ s. ReadsValueList N n)

-- INPUT OBJECTS AND ARGUMENTS

-- after n others, of at most `most`
abbrev pub ReadsField : (ℕ → Sight → Type 0) → (most n : ℕ) → ℕ → Out Declared → Type 0
ReadsField N most n = Then (ReadsNew N most n any_name) (ReadsDeclared N)

-- some of them, up to a token that closes them
abbrev pub ReadsFieldList : (ℕ → Sight → Type 0) → (Lexical → Bool) → (most n : ℕ) → ℕ → Out (List Declared) → Type 0
ReadsFieldList N close most n = Items N close next (ReadsField N most) false n

-- after n fields of input objects, the fields of another
abbrev pub ReadsFields : (ℕ → Sight → Type 0) → ℕ → ℕ → Out (List Declared) → Type 0
ReadsFields N n = Then (Takes N (the_mark open_brace)) (λ s. ReadsFieldList N (is_mark close_brace) 1024 n)

-- after n arguments of directives, those of another
abbrev pub ReadsArguments : (ℕ → Sight → Type 0) → ℕ → ℕ → Out (List Declared) → Type 0
ReadsArguments N n = IfMark N open_paren (λ s. ReadsFieldList N (is_mark close_paren) 256 n) (Gives [])

-- DIRECTIVES

-- whether a token is the name w
abbrev pub is_word : Name → Lexical → Bool
is_word w (a_mark m) = false
is_word w (a_name n) = same w n
is_word w (a_number k ds) = false
is_word w (a_string cs) = false
is_word w the_end = false

-- the name w
abbrev pub the_word : Name → ℕ → Lexical → Option ℕ
the_word w s x = cond (is_word w x) (some s) none

-- whether `repeatable` comes
abbrev pub ReadsRepeatable : (ℕ → Sight → Type 0) → ℕ → Out Bool → Type 0
ReadsRepeatable N = IfToken N (is_word (codes "repeatable")) (λ s. Gives true) (Gives false)

abbrev pub a_location : ℕ → Lexical → Option Location
a_location s (a_mark m) = none
a_location s (a_name w) = location_called w
a_location s (a_number k ds) = none
a_location s (a_string cs) = none
a_location s the_end = none

-- locations, with a `|` between two of them
pub data ReadsLocations (N : ℕ → Sight → Type 0) : ℕ → Out (List Location) → Type 0 where
  rs_fails : {i : ℕ} {f : Fault} → Takes N a_location i (fails f) → ReadsLocations N i (fails f)
  rs_blind : {i j : ℕ} {l : Location} {f : Fault} → Takes N a_location i (got j l) → N j (blind f) → ReadsLocations N i (fails f)
  rs_last : {i j s e : ℕ} {l : Location} {x : Lexical} → Takes N a_location i (got j l) → N j (sees s e x) → is_mark pipe x ≡ false → ReadsLocations N i (got j (l ∷ []))
  rs_more : {i j s e : ℕ} {l : Location} {x : Lexical} {q o : Out (List Location)} → Takes N a_location i (got j l) → N j (sees s e x) → is_mark pipe x ≡ true → ReadsLocations N e q → before l q ≡ o → ReadsLocations N i o

abbrev pub ReadsAllLocations : (ℕ → Sight → Type 0) → ℕ → Out (List Location) → Type 0
ReadsAllLocations N = IfMark N pipe (λ s. ReadsLocations N) (ReadsLocations N)

-- `repeatable`, if it comes, and `on`
abbrev pub ReadsManner : (ℕ → Sight → Type 0) → ℕ → Out Bool → Type 0
ReadsManner N = Then (ReadsRepeatable N) (λ r. Maps (λ s. r) (Takes N (the_word (codes "on"))))

-- how much the definitions before hold, of each kind
pub record Counts : Type 0 where
  pub types : ℕ
  pub values : ℕ
  pub inputs : ℕ
  pub directives : ℕ
  pub arguments : ℕ

-- what follows the word `directive`, after so much
abbrev pub ReadsDirective : (ℕ → Sight → Type 0) → Counts → ℕ → Out Definition → Type 0
ReadsDirective N c = Then (Takes N (the_mark at_sign)) (λ s. Then (ReadsNew N 64 c.directives any_name) (λ l. Then (ReadsArguments N c.arguments) (λ ds. Then (ReadsManner N) (λ r. Maps (a_directive l ds r) (ReadsAllLocations N)))))

-- DEFINITIONS

-- what a type is
pub data Sort : Type 0 where
  s_scalar : Sort
  s_enum : Sort
  s_input : Sort
  s_output : Sort

-- what a definition begins with
pub data Keyword : Type 0 where
  k_type : Sort → Keyword
  k_directive : Keyword

abbrev pub keywords : List (Name × Keyword)
keywords =
    (codes "directive", k_directive)
    ∷ (codes "scalar", k_type s_scalar)
    ∷ (codes "enum", k_type s_enum)
    ∷ (codes "input", k_type s_input)
    ∷ (codes "type", k_type s_output)
    ∷ (codes "interface", k_type s_output)
    ∷ (codes "union", k_type s_output)
    ∷ []

abbrev pub a_keyword : ℕ → Lexical → Option Keyword
a_keyword s (a_mark m) = none
a_keyword s (a_name w) = in_table keywords w
a_keyword s (a_number k ds) = none
a_keyword s (a_string cs) = none
a_keyword s the_end = none

-- what follows the name of a type, after so much
abbrev pub ReadsContents : (ℕ → Sight → Type 0) → Counts → Label → Sort → ℕ → Out Definition → Type 0
ReadsContents N c l s_scalar = Gives (a_scalar l)
ReadsContents N c l s_enum = Maps (an_enum l) (ReadsValues N c.values)
ReadsContents N c l s_input = Maps (an_input l) (ReadsFields N c.inputs)
ReadsContents N c l s_output = Gives (an_output l)

abbrev pub ReadsTypeDefinition : (ℕ → Sight → Type 0) → Counts → Sort → ℕ → Out Definition → Type 0
ReadsTypeDefinition N c k = Then (ReadsNew N 256 c.types any_name) (λ l. ReadsContents N c l k)

abbrev pub ReadsAfter : (ℕ → Sight → Type 0) → Counts → Keyword → ℕ → Out Definition → Type 0
ReadsAfter N c (k_type k) = ReadsTypeDefinition N c k
ReadsAfter N c k_directive = ReadsDirective N c

abbrev pub ReadsDefinition : (ℕ → Sight → Type 0) → Counts → ℕ → Out Definition → Type 0
ReadsDefinition N c = Then (Takes N a_keyword) (ReadsAfter N c)

abbrev pub nothing : Counts
nothing = record { types = 0; values = 0; inputs = 0; directives = 0; arguments = 0 }

-- with one definition more
abbrev pub counted : Counts → Definition → Counts
counted c d = record {
  types = c.types + length (type_of d);
  values = c.values + length (values_of d);
  inputs = c.inputs + length (inputs_of d);
  directives = c.directives + length (directive_of d);
  arguments = c.arguments + length (arguments_of d);
}

-- the definitions from i on, after so much
abbrev pub ReadsOn : (ℕ → Sight → Type 0) → Counts → ℕ → Out Document → Type 0
ReadsOn N c = Items N ends counted (ReadsDefinition N) true c

-- a whole text: its length, and then what it says
pub data ReadsSchema (text : List ℕ) : Out Document → Type 0 where
  schema_long : 65535 < length text → ReadsSchema text (fails (BadText 0))
  schema_read : {o : Out Document} → length text ≤ 65535 → ReadsOn (Sights Graphql text) nothing 0 o → ReadsSchema text o
