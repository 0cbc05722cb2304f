-- What the making of an operation comes to.
use Rattle.std.specs.Prelude.{ℕ, List, Some, None, Ok, Err, Result}
use Rattle.text.specs.declared.fault.Fault.{Fault}
use Rattle.text.specs.declared.fault.Fault.TheVariants.{RepeatedName, NoMemory}
use Rattle.reader.specs.Reading.{got, fails}
use Rattle.schema.specs.declared.operation.Operation.{Operation}
use Rattle.schema.specs.Documents.{Document, OperationDocument}
use Rattle.schema.specs.OperationReading.{ReadsOperation}
use Rattle.schema.specs.HoldsOperation.{HoldsOperation}
use Rattle.schema.specs.Rows.{base_in}
use Rattle.validation.specs.declared.fault.MakeFault.{MakeFault}
use Rattle.validation.specs.declared.fault.MakeFault.TheVariants.{Text, UnknownType, NotInput, BadDefault}
use Rattle.validation.specs.Making.{FirstFault, RepeatedInOperationAt, UnknownVariableAt, NotInputVariableAt, BadVariableDefaultAt}

-- the text says D, and D passes the tests before that of defaults
pub record TypedOperation (S : Document) (text : List ℕ) (D : OperationDocument) : Type 0 where
  pub end : ℕ
  pub reads : ReadsOperation text (got end D)
  pub names : FirstFault (RepeatedInOperationAt text D) None
  pub known : FirstFault (UnknownVariableAt S D) None
  pub input : FirstFault (NotInputVariableAt S D) None

-- by the schema that S says the tests are made in turn, each over the whole text; the first that fails is told, at the first place where it does. Any making may want memory.
pub data MakesOperation (S : Document) (text : List ℕ) : Result Operation MakeFault → Type 0 where
  no_memory : MakesOperation S text (Err (Text NoMemory))
  unread : {f : Fault} → ReadsOperation text (fails f) → MakesOperation S text (Err (Text f))
  repeated_name : {e p : ℕ} {D : OperationDocument} → ReadsOperation text (got e D) → FirstFault (RepeatedInOperationAt text D) (Some p) → MakesOperation S text (Err (Text (RepeatedName p)))
  unknown_type : {e p : ℕ} {D : OperationDocument} → ReadsOperation text (got e D) → FirstFault (RepeatedInOperationAt text D) None → FirstFault (UnknownVariableAt S D) (Some p) → MakesOperation S text (Err (UnknownType p))
  not_input : {e p : ℕ} {D : OperationDocument} → ReadsOperation text (got e D) → FirstFault (RepeatedInOperationAt text D) None → FirstFault (UnknownVariableAt S D) None → FirstFault (NotInputVariableAt S D) (Some p) → MakesOperation S text (Err (NotInput p))
  bad_default : {p : ℕ} {D : OperationDocument} → TypedOperation S text D → FirstFault (BadVariableDefaultAt S D) (Some p) → MakesOperation S text (Err (BadDefault p))
  made : {o : Operation} {D : OperationDocument} → TypedOperation S text D → FirstFault (BadVariableDefaultAt S D) None → HoldsOperation (base_in S) o D → MakesOperation S text (Ok o)
