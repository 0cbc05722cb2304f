-- What the functions that read a text promise.
use Rattle.std.specs.Prelude.{◌≡◌, ℕ, Bool, false, cond, Some, None, Option as Maybe, Ok, Err, Result}
use Rattle.std.proofs.Math.Option.{Option, some, none}
use Rattle.text.specs.declared.fault.Fault.{Fault}
use Rattle.text.specs.declared.language.Language.TheVariants.{Graphql}
use Rattle.text.specs.TokenFound.{View, v_mark, v_name, v_number, v_text, v_end}
use Rattle.text.specs.TokenGrammar.{Lexical}
use Rattle.reader.specs.Tokens.{Sight, Sights}
use Rattle.reader.specs.Reading.{Out, got, fails, is_mark}
use Rattle.reader.specs.Told.{Blames}
use Rattle.schema.specs.declared.tokens.Name.{Name}
use Rattle.schema.specs.declared.tokens.Tokens.{Tokens}
use Rattle.schema.specs.Documents.{Label}
use Rattle.schema.specs.Holds.{label_of}
use Rattle.schema.specs.Outcomes.{Gives, IfToken}
use Rattle.schema.specs.Reading.{Onward}
use Rattle.schema.specs.SchemaGrammar.{ends}
use Rattle.schema.specs.SchemaReading.{is_word}

-- the tokens of a text that are still to be read
abbrev pub sights : Tokens → ℕ → Sight → Type 0
sights t = Sights Graphql t.text.now

-- whether a token of the grammar is one of the program: of marks, names and the end of the text
abbrev pub is_token : View → Lexical → Bool
is_token (v_mark m) x = is_mark m x
is_token (v_name w) x = is_word w x
is_token (v_number k ds) x = false
is_token (v_text s p) x = false
is_token v_end x = ends x

abbrev pub Spelled : View → Type 0
Spelled (v_mark m) = Unit {0}
Spelled (v_name w) = Unit {0}
Spelled (v_number k ds) = ⊥
Spelled (v_text s p) = ⊥
Spelled v_end = Unit {0}

-- that token, by its place
abbrev pub the_token : View → ℕ → Lexical → Option ℕ
the_token v s x = cond (is_token v x) (some s) none

-- that token, or nothing
abbrev pub TokenIfAny : (ℕ → Sight → Type 0) → (Lexical → Bool) → ℕ → Out (Maybe ℕ) → Type 0
TokenIfAny N test = IfToken N test (λ s. Gives (Some s)) (Gives None)

-- R read something up to where the text is read now, past n bytes at least, and y stands for it by M
pub record Read {X Y : Type 0} (n : ℕ) (R : (ℕ → Sight → Type 0) → ℕ → Out X → Type 0) (M : Y → X → Type 0) (old new : Tokens) (y : Y) : Type 0 where
  pub value : X
  pub reads : R (sights old) old.at (got new.at value)
  pub means : M y value
  pub onward : Onward n old new

-- what reading R comes to; of want of memory nothing is said
abbrev pub Told : {X Y : Type 0} → ℕ → ((ℕ → Sight → Type 0) → ℕ → Out X → Type 0) → (Y → X → Type 0) → Tokens → Tokens → Result Y Fault → Type 0
Told n R M old new (Ok y) = Read n R M old new y
Told n R M old new (Err f) = Blames f (λ g. R (sights old) old.at (fails g))

-- it is the value itself
abbrev pub Itself : {X : Type 0} → X → X → Type 0
Itself y x = y ≡ x

abbrev pub Labels : Name → Label → Type 0
Labels n l = label_of n ≡ l
