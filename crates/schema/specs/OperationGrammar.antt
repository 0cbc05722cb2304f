-- The texts of operations (October 2021, sections 2.3, 2.6, 2.10 and 2.12), without selection sets and without directives on
-- variables. T says which token stands after a place.
use Rattle.std.specs.Prelude.{ℕ, true, false, List, [], codes}
use Rattle.model.specs.Values.{Name, Raw, Argument, Use}
use Rattle.text.specs.declared.language.Language.TheVariants.{Graphql}
use Rattle.text.specs.TokenGrammar.{dollar, open_paren, close_paren, colon, at_sign, Lexical, a_mark, a_name}
use Rattle.reader.specs.Grammar.{Value}
use Rattle.reader.specs.Reading.{is_mark}
use Rattle.schema.specs.Documents.{Declared, Kind, a_query, a_mutation, a_subscription, VariableDefinition, OperationDocument}
use Rattle.schema.specs.Declarations.{DeclaredAt}
use Rattle.schema.specs.Outcomes.{ItemsAt}
use Rattle.schema.specs.SchemaGrammar.{ends}

-- OperationType
pub data KindAt (T : ℕ → ℕ → ℕ → Lexical → Type 0) : ℕ → ℕ → Kind → Type 0 where
  query_at : {i s e : ℕ} → T i s e (a_name (codes "query")) → KindAt T i e a_query
  mutation_at : {i s e : ℕ} → T i s e (a_name (codes "mutation")) → KindAt T i e a_mutation
  subscription_at : {i s e : ℕ} → T i s e (a_name (codes "subscription")) → KindAt T i e a_subscription

-- Name, if there is one
pub data NameAt (T : ℕ → ℕ → ℕ → Lexical → Type 0) : ℕ → ℕ → Type 0 where
  no_name : {i : ℕ} → NameAt T i i
  a_name_at : {i s e : ℕ} {w : Name} → T i s e (a_name w) → NameAt T i e

-- VariableDefinition: Variable : Type DefaultValue, where a Variable is $ Name
pub data VariableAt (T : ℕ → ℕ → ℕ → Lexical → Type 0) : ℕ → ℕ → VariableDefinition → Type 0 where
  variable_definition : {i s e j : ℕ} {d : Declared} → T i s e (a_mark dollar) → DeclaredAt T e j d → VariableAt T i j (record { place = s; declared = d })

-- VariableDefinitions, if there are any
pub data VariablesAt (T : ℕ → ℕ → ℕ → Lexical → Type 0) : ℕ → ℕ → List VariableDefinition → Type 0 where
  no_variables : {i : ℕ} → VariablesAt T i i []
  variable_definitions : {i s e j : ℕ} {vs : List VariableDefinition} → T i s e (a_mark open_paren) → ItemsAt T (is_mark close_paren) (VariableAt T) false e j vs → VariablesAt T i j vs

-- Argument: Name : Value
pub data ArgumentAt (T : ℕ → ℕ → ℕ → Lexical → Type 0) : ℕ → ℕ → Argument → Type 0 where
  an_argument : {i s e b c j : ℕ} {w : Name} {t : Raw} → T i s e (a_name w) → T e b c (a_mark colon) → Value T Graphql c j t → ArgumentAt T i j (record { name = w; place = s; value = t })

-- Arguments, if there are any
pub data ArgumentsAt (T : ℕ → ℕ → ℕ → Lexical → Type 0) : ℕ → ℕ → List Argument → Type 0 where
  no_arguments : {i : ℕ} → ArgumentsAt T i i []
  arguments : {i s e j : ℕ} {xs : List Argument} → T i s e (a_mark open_paren) → ItemsAt T (is_mark close_paren) (ArgumentAt T) false e j xs → ArgumentsAt T i j xs

-- Directive: @ Name Arguments
pub data UseAt (T : ℕ → ℕ → ℕ → Lexical → Type 0) : ℕ → ℕ → Use → Type 0 where
  directive : {i s e b c j : ℕ} {w : Name} {xs : List Argument} → T i s e (a_mark at_sign) → T e b c (a_name w) → ArgumentsAt T c j xs → UseAt T i j (record { name = w; place = s; arguments = xs })

-- OperationDefinition: OperationType Name VariableDefinitions Directives, up to the end of the text
pub data OperationAt (T : ℕ → ℕ → ℕ → Lexical → Type 0) : ℕ → OperationDocument → Type 0 where
  operation_definition : {i j m e : ℕ} {k : Kind} {vs : List VariableDefinition} {us : List Use} → KindAt T 0 i k → NameAt T i j → VariablesAt T j m vs → ItemsAt T ends (UseAt T) true m e us → OperationAt T e (record { kind = k; variables = vs; uses = us })
