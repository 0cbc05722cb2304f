use Rattle.std.proofs.Common.{List, subst}
use Rattle.schema.specs.declared.types.Base.TheVariants.{Unknown}
use Rattle.schema.specs.declared.operation.Variable.{Variable}
use Rattle.validation.specs.Making.{FirstFault}
use Rattle.validation.specs.Places.{BasedAt}
use Rattle.validation.specs.Repeats.{OneOf}
use Rattle.validation.proofs.OperationFaults.{first_unknown}
use Rattle.validation.proofs.operations.unknown_type.Goals as goal

pub returns : goal.returns
returns c S D h =
    let told : List Variable → Type 0 = λ vs. FirstFault (OneOf (λ (v : Variable). BasedAt Unknown v.ty) vs) c.first_with.result in
    first_unknown S c.args.operation.now D h c.first_with.result (subst told c.deref.ensures.value c.first_with.ensures)
