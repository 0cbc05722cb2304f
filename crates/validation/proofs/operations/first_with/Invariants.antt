use Rattle.std.proofs.Common.{take}
use Rattle.schema.specs.declared.operation.Variable.{Variable}
use Rattle.validation.specs.Making.{FirstFault}
use Rattle.validation.specs.Places.{BasedAt}
use Rattle.validation.specs.Repeats.{OneOf}
use Rattle.validation.proofs.operations.first_with.Given as goal

abbrev pub invariant-loop-variable : goal.invariant-loop-variable
invariant-loop-variable l = FirstFault (OneOf (λ (v : Variable). BasedAt l.base v.ty) (take l.variable-index l.variables)) l.first
