use Rattle.std.proofs.Common.{take}
use Rattle.schema.specs.Documents.{Document, OperationDocument}
use Rattle.schema.specs.Holds.{Holds}
use Rattle.schema.specs.HoldsOperation.{HoldsOperation}
use Rattle.schema.specs.Rows.{base_in}
use Rattle.validation.specs.Making.{FirstFault, VariablesSourced}
use Rattle.validation.specs.Repeats.{OneOf}
use Rattle.validation.proofs.Rightness.{WrongVariable}
use Rattle.validation.proofs.defaults.bad_variable_default.Given as goal

-- of the variables before this one
abbrev pub invariant-loop-variable : goal.invariant-loop-variable
invariant-loop-variable l = (S : Document) (D : OperationDocument) → Holds l.schema S → HoldsOperation (base_in S) l.operation D → VariablesSourced D → FirstFault (OneOf (WrongVariable S) (take l.variable-index D.variables)) l.first
