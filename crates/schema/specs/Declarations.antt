-- What a name is declared as: its type and its default (sections 2.10 and 3.6.1).
use Rattle.std.specs.Prelude.{ℕ, false}
use Rattle.std.proofs.Math.Option.{Option, none, some}
use Rattle.model.specs.Values.{Name, Raw}
use Rattle.text.specs.declared.language.Language.TheVariants.{Graphql}
use Rattle.text.specs.TokenGrammar.{colon, equals, Lexical, a_mark, a_name}
use Rattle.reader.specs.Tokens.{Sight}
use Rattle.reader.specs.Grammar.{Value}
use Rattle.reader.specs.Reading.{Out, Reads}
use Rattle.schema.specs.Documents.{Label, Typed, Declared}
use Rattle.schema.specs.Outcomes.{Then, Gives, Maps, Takes, the_mark, IfMark}
use Rattle.schema.specs.Types.{TypeAt, ReadsType}

-- THE GRAMMAR

-- DefaultValue, if there is one
pub data DefaultAt (T : ℕ → ℕ → ℕ → Lexical → Type 0) : ℕ → ℕ → Option Raw → Type 0 where
  no_default : {i : ℕ} → DefaultAt T i i none
  a_default : {i s e j : ℕ} {t : Raw} → T i s e (a_mark equals) → Value T Graphql e j t → DefaultAt T i j (some t)

-- Name : Type DefaultValue, as InputValueDefinition has it, and VariableDefinition after its `$`
pub data DeclaredAt (T : ℕ → ℕ → ℕ → Lexical → Type 0) : ℕ → ℕ → Declared → Type 0 where
  input_value : {i s e b c j k : ℕ} {w : Name} {t : Typed} {v : Option Raw} → T i s e (a_name w) → T e b c (a_mark colon) → TypeAt T c j t → DefaultAt T j k v → DeclaredAt T i k (record { label = record { name = w; place = s }; typed = t; dflt = v })

-- READING

-- a literal at depth 1, in which names may repeat
abbrev pub ReadsLiteral : (ℕ → Sight → Type 0) → ℕ → Out Raw → Type 0
ReadsLiteral N = Reads N Graphql false 32

abbrev pub ReadsDefault : (ℕ → Sight → Type 0) → ℕ → Out (Option Raw) → Type 0
ReadsDefault N = IfMark N equals (λ s. Maps some (ReadsLiteral N)) (Gives none)

-- what follows the name
abbrev pub ReadsDeclared : (ℕ → Sight → Type 0) → Label → ℕ → Out Declared → Type 0
ReadsDeclared N l = Then (Takes N (the_mark colon)) (λ _. Then (ReadsType N 8) (λ t. Maps (λ v. record { label = l; typed = t; dflt = v }) (ReadsDefault N)))
