use Rattle.std.proofs.Common.{◌+◌, ℕ, take, sym, subst, Option, List, arith}
use Rattle.std.proofs.lemmas.List.{take_all}
use Rattle.schema.specs.declared.operation.Variable.{Variable}
use Rattle.validation.specs.Making.{FirstFault}
use Rattle.validation.specs.Places.{BasedAt}
use Rattle.validation.specs.Repeats.{OneOf}
use Rattle.validation.proofs.Least.{one_more}
use Rattle.validation.proofs.operations.first_with.Goals as goal

pub loop-variable-preserved : goal.loop-variable-preserved
loop-variable-preserved c =
    let rows = c.args.variables.now in
    let i = c.loop-variable.variable-index in
    let P : Variable → ℕ → Type 0 = λ v. BasedAt c.args.base v.ty in
    let next : Option ℕ → Type 0 = FirstFault (OneOf P (take (i + 1) rows)) in
    subst next (sym c.lesser-first.ensures) (one_more P rows i _ c.loop-variable-test.true c.loop-variable.first c.based.result c.loop-variable.invariant c.based.ensures)

pub returns : goal.returns
returns c =
    let all : List Variable → Type 0 = λ vs. FirstFault (OneOf (λ (v : Variable). BasedAt c.args.base v.ty) vs) c.loop-variable.first in
    subst all (take_all c.loop-variable.variable-index c.args.variables.now (omega (arith, c.loop-variable-test.false))) c.loop-variable.invariant
