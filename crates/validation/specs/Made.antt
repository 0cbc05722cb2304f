-- What the making of a schema comes to.
use Rattle.std.specs.Prelude.{ℕ, List, Some, None, Ok, Err, Result}
use Rattle.text.specs.declared.fault.Fault.{Fault}
use Rattle.text.specs.declared.fault.Fault.TheVariants.{RepeatedName, NoMemory}
use Rattle.reader.specs.Reading.{got, fails}
use Rattle.schema.specs.declared.definition.Schema.{Schema}
use Rattle.schema.specs.Documents.{Document}
use Rattle.schema.specs.SchemaReading.{ReadsSchema}
use Rattle.schema.specs.Holds.{Holds}
use Rattle.validation.specs.declared.fault.MakeFault.{MakeFault}
use Rattle.validation.specs.declared.fault.MakeFault.TheVariants.{Text, UnknownType, NotInput, BadDefault, DefaultCycle}
use Rattle.validation.specs.Making.{FirstFault, RepeatedNameAt, UnknownAt, NotInputAt, BadDefaultAt, CycleAt}

-- the text says D, and D passes the tests before that of defaults
pub record TypedSchema (text : List ℕ) (D : Document) : Type 0 where
  pub end : ℕ
  pub reads : ReadsSchema text (got end D)
  pub names : FirstFault (RepeatedNameAt text D) None
  pub known : FirstFault (UnknownAt D) None
  pub input : FirstFault (NotInputAt D) None

-- the tests are made in turn, each over the whole text; the first that fails is told, at the first place where it does. Any making may want memory.
pub data MakesSchema (text : List ℕ) : Result Schema MakeFault → Type 0 where
  no_memory : MakesSchema text (Err (Text NoMemory))
  unread : {f : Fault} → ReadsSchema text (fails f) → MakesSchema text (Err (Text f))
  repeated_name : {e p : ℕ} {D : Document} → ReadsSchema text (got e D) → FirstFault (RepeatedNameAt text D) (Some p) → MakesSchema text (Err (Text (RepeatedName p)))
  unknown_type : {e p : ℕ} {D : Document} → ReadsSchema text (got e D) → FirstFault (RepeatedNameAt text D) None → FirstFault (UnknownAt D) (Some p) → MakesSchema text (Err (UnknownType p))
  not_input : {e p : ℕ} {D : Document} → ReadsSchema text (got e D) → FirstFault (RepeatedNameAt text D) None → FirstFault (UnknownAt D) None → FirstFault (NotInputAt D) (Some p) → MakesSchema text (Err (NotInput p))
  bad_default : {p : ℕ} {D : Document} → TypedSchema text D → FirstFault (BadDefaultAt D) (Some p) → MakesSchema text (Err (BadDefault p))
  default_cycle : {p : ℕ} {D : Document} → TypedSchema text D → FirstFault (BadDefaultAt D) None → FirstFault (CycleAt D) (Some p) → MakesSchema text (Err (DefaultCycle p))
  made : {s : Schema} {D : Document} → TypedSchema text D → FirstFault (BadDefaultAt D) None → FirstFault (CycleAt D) None → Holds s D → MakesSchema text (Ok s)
