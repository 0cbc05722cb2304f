use Rattle.std.proofs.Common.{List, map, subst}
use Rattle.schema.specs.declared.operation.Variable.{Variable}
use Rattle.validation.specs.Making.{FirstFault, Twice}
use Rattle.validation.specs.Places.{labelled}
use Rattle.validation.proofs.Unrepeated.{first_variable}
use Rattle.validation.proofs.operations.repeated_in_read.Goals as goal

pub returns-clause-first : goal.returns-clause-first
returns-clause-first c S e D r h =
    first_variable S c.args.operation.now D h (c.in_ok-all_apart.ensures c.if-not-branch.false) e r c.twice.result
    (subst (λ (vs : List Variable). FirstFault (Twice (map (λ (v : Variable). labelled v.name.now v.name_place) vs)) c.twice.result) c.deref.ensures.value c.twice.ensures)
