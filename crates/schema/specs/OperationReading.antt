-- What reading an operation comes to: its kind, variables and uses, or the fault that comes first.
use Rattle.std.specs.Prelude.{ℕ, ◌<◌, ◌≤◌, Bool, true, false, List, [], ◌∷◌, length, codes}
use Rattle.std.proofs.Math.Option.{Option, none}
use Rattle.model.specs.Values.{Name, Argument, Use}
use Rattle.text.specs.declared.fault.Fault.TheVariants.{BadText}
use Rattle.text.specs.declared.language.Language.TheVariants.{Graphql}
use Rattle.text.specs.TokenGrammar.{dollar, open_paren, close_paren, colon, at_sign, Lexical, a_mark, a_name, a_number, a_string, the_end}
use Rattle.reader.specs.Tokens.{Sight, Sights}
use Rattle.reader.specs.Reading.{Out, fails, is_mark}
use Rattle.schema.specs.Documents.{Label, Kind, a_query, a_mutation, a_subscription, VariableDefinition, OperationDocument}
use Rattle.schema.specs.Declarations.{ReadsDeclared, ReadsLiteral}
use Rattle.schema.specs.Locations.{in_table}
use Rattle.schema.specs.Outcomes.{Then, Gives, Maps, Takes, the_mark, any_name, IfToken, IfMark, Items}
use Rattle.schema.specs.SchemaGrammar.{ends}
use Rattle.schema.specs.SchemaReading.{next, ReadsNew}

-- OperationType, as it is spelled
abbrev pub kinds : List (Name × Kind)
kinds =
    (codes "query", a_query)
    ∷ (codes "mutation", a_mutation)
    ∷ (codes "subscription", a_subscription)
    ∷ []

abbrev pub a_kind : ℕ → Lexical → Option Kind
a_kind s (a_mark m) = none
a_kind s (a_name w) = in_table kinds w
a_kind s (a_number k ds) = none
a_kind s (a_string cs) = none
a_kind s the_end = none

abbrev pub is_name : Lexical → Bool
is_name (a_mark m) = false
is_name (a_name w) = true
is_name (a_number k ds) = false
is_name (a_string cs) = false
is_name the_end = false

-- the operation's name, if it has one
abbrev pub ReadsName : (ℕ → Sight → Type 0) → ℕ → Out (Unit {0}) → Type 0
ReadsName N = IfToken N is_name (λ s. Gives tt) (Gives tt)

-- VARIABLES

-- after n others, from behind its `$` at s
abbrev pub ReadsAfterDollar : (ℕ → Sight → Type 0) → ℕ → ℕ → ℕ → Out VariableDefinition → Type 0
ReadsAfterDollar N n s = Then (ReadsNew N 64 n any_name) (λ l. Maps (λ d. record { place = s; declared = d }) (ReadsDeclared N l))

abbrev pub ReadsVariable : (ℕ → Sight → Type 0) → ℕ → ℕ → Out VariableDefinition → Type 0
ReadsVariable N n = Then (Takes N (the_mark dollar)) (ReadsAfterDollar N n)

-- some of them, up to the `)`
abbrev pub ReadsVariableList : (ℕ → Sight → Type 0) → ℕ → Out (List VariableDefinition) → Type 0
ReadsVariableList N = Items N (is_mark close_paren) next (ReadsVariable N) false 0

abbrev pub ReadsVariables : (ℕ → Sight → Type 0) → ℕ → Out (List VariableDefinition) → Type 0
ReadsVariables N = IfMark N open_paren (λ s. ReadsVariableList N) (Gives [])

-- USES

-- a list in which each item is read alike
abbrev pub unchanged : {X : Type 0} → Unit {0} → X → Unit {0}
unchanged s x = s

abbrev pub argument_of : Label → Rattle.model.specs.Values.Raw → Argument
argument_of l t = record { name = l.name; place = l.place; value = t }

-- after its name
abbrev pub ReadsArgumentValue : (ℕ → Sight → Type 0) → Label → ℕ → Out Argument → Type 0
ReadsArgumentValue N l = Then (Takes N (the_mark colon)) (λ s. Maps (argument_of l) (ReadsLiteral N))

abbrev pub ReadsArgument : (ℕ → Sight → Type 0) → ℕ → Out Argument → Type 0
ReadsArgument N = Then (Takes N any_name) (ReadsArgumentValue N)

-- some of them, up to the `)`
abbrev pub ReadsArgumentList : (ℕ → Sight → Type 0) → ℕ → Out (List Argument) → Type 0
ReadsArgumentList N = Items N (is_mark close_paren) unchanged (λ u. ReadsArgument N) false tt

abbrev pub ReadsUseArguments : (ℕ → Sight → Type 0) → ℕ → Out (List Argument) → Type 0
ReadsUseArguments N = IfMark N open_paren (λ s. ReadsArgumentList N) (Gives [])

-- from behind its `@` at s
abbrev pub ReadsAfterAt : (ℕ → Sight → Type 0) → ℕ → ℕ → Out Use → Type 0
ReadsAfterAt N s = Then (Takes N any_name) (λ l. Maps (λ xs. record { name = l.name; place = s; arguments = xs }) (ReadsUseArguments N))

abbrev pub ReadsUse : (ℕ → Sight → Type 0) → ℕ → Out Use → Type 0
ReadsUse N = Then (Takes N (the_mark at_sign)) (ReadsAfterAt N)

-- all uses, up to the end of the text
abbrev pub ReadsUses : (ℕ → Sight → Type 0) → ℕ → Out (List Use) → Type 0
ReadsUses N = Items N ends unchanged (λ u. ReadsUse N) true tt

-- THE WHOLE

abbrev pub ReadsOperationFrom : (ℕ → Sight → Type 0) → ℕ → Out OperationDocument → Type 0
ReadsOperationFrom N = Then (Takes N a_kind) (λ k. Then (ReadsName N) (λ u. Then (ReadsVariables N) (λ vs. Maps (λ us. record { kind = k; variables = vs; uses = us }) (ReadsUses N))))

-- a whole text: its length, and then what it says
pub data ReadsOperation (text : List ℕ) : Out OperationDocument → Type 0 where
  operation_long : 65535 < length text → ReadsOperation text (fails (BadText 0))
  operation_read : {o : Out OperationDocument} → length text ≤ 65535 → ReadsOperationFrom (Sights Graphql text) 0 o → ReadsOperation text o
