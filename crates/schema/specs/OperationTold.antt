-- What the functions that read an operation promise.
use Rattle.std.specs.Prelude.{◌≡◌, ℕ, Bool, List, length, Some, None, Option, Ok, Err, Result}
use Rattle.model.specs.Values.{Name, Argument, Use}
use Rattle.text.specs.declared.fault.Fault.{Fault}
use Rattle.reader.specs.Reading.{got, fails}
use Rattle.reader.specs.Told.{Blames}
use Rattle.source.specs.declared.raw.Span.{Span}
use Rattle.source.specs.Table.{Table, Keeps}
use Rattle.schema.specs.declared.operation.Argument.{Argument as ArgumentIn}
use Rattle.schema.specs.declared.operation.Operation.{Operation as OperationIn}
use Rattle.schema.specs.declared.operation.OperationKind.{OperationKind}
use Rattle.schema.specs.declared.operation.Use.{Use as UseIn}
use Rattle.schema.specs.declared.operation.Variable.{Variable as VariableIn}
use Rattle.schema.specs.declared.types.Base.{Base}
use Rattle.schema.specs.Documents.{Kind, VariableDefinition, OperationDocument}
use Rattle.schema.specs.Holds.{Each}
use Rattle.schema.specs.HoldsOperation.{kind_of, VariableHeld, ArgumentHeld, use_row, use_row_of, HoldsOperation}
use Rattle.schema.specs.OperationReading.{ReadsOperation}
use Rattle.schema.specs.Rows.{argument_span}
use Rattle.schema.specs.SchemaTold.{Appended, Open, Closed}
use Rattle.schema.specs.Outcomes.{Takes}
use Rattle.schema.specs.declared.tokens.Tokens.{Tokens}
use Rattle.schema.specs.Told.{sights, Read, Itself, is_token, the_token}
use Rattle.text.specs.TokenFound.{View}

abbrev pub KindIs : OperationKind → Kind → Type 0
KindIs k x = kind_of k ≡ x

-- the token that the next item of a list begins with, or the list's end
abbrev pub BeginsTold : (first close : View) → Bool → Tokens → Tokens → Result (Option ℕ) Fault → Type 0
BeginsTold first close may old new (Ok (Some s)) = Open (is_token close) may old × Read 0 (λ N. Takes N (the_token first)) Itself old new s
BeginsTold first close may old new (Ok None) = Closed (is_token close) may old new
BeginsTold first close may old new (Err f) = Blames f (λ g. Open (is_token close) may old × Takes (sights old) (the_token first) old.at (fails g))

-- a variable was read, and the nodes of its default
pub record VariableRead (B : Name → Base) (T U : Table) (v : VariableIn) (d : VariableDefinition) : Type 0 where
  pub held : VariableHeld B U v d
  pub keeps : Keeps 0 T U

pub record VariablesRead (B : Name → Base) (T U : Table) (vs : List VariableIn) (ds : List VariableDefinition) : Type 0 where
  pub each : Each (VariableHeld B U) vs ds
  pub keeps : Keeps 0 T U

-- the arguments of a use were added, and this is where they stand
pub record ArgumentsAdded (T U : Table) (old new : List ArgumentIn) (s : Span) (xs : List Argument) : Type 0 where
  pub arguments : Appended (ArgumentHeld U) old new xs
  pub inside : s ≡ argument_span (length old) (length xs)
  pub keeps : Keeps 0 T U

-- a use was read, and its arguments were added
pub record UseRead (T U : Table) (old new : List ArgumentIn) (u : UseIn) (x : Use) : Type 0 where
  pub row : use_row_of u ≡ use_row (length old) x
  pub arguments : Appended (ArgumentHeld U) old new x.arguments
  pub keeps : Keeps 0 T U

-- what reading a whole text comes to, where names of types stand for what B says
abbrev pub OperationTold : (Name → Base) → List ℕ → Result OperationIn Fault → Type 0
OperationTold B text (Ok o) = (e : ℕ) × (D : OperationDocument) × ReadsOperation text (got e D) × HoldsOperation B o D
OperationTold B text (Err f) = Blames f (λ g. ReadsOperation text (fails g))
