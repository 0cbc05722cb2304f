use Rattle.std.proofs.Common.{◌+◌, ℕ, take, sym, ◌∙◌, subst, Option, List, arith}
use Rattle.std.proofs.lemmas.List.{take_all}
use Rattle.schema.specs.declared.definition.TypeDef.{TypeDef}
use Rattle.validation.specs.Making.{FirstFault}
use Rattle.validation.specs.Repeats.{OneOf, TwiceInside}
use Rattle.validation.proofs.Least.{one_more}
use Rattle.validation.proofs.repeats.in_types.Goals as goal

pub loop-ty-preserved : goal.loop-ty-preserved
loop-ty-preserved c =
    let rows = c.deref-ty-items.result.now in
    let i = c.loop-ty.ty-index in
    let next : Option ℕ → Type 0 = FirstFault (OneOf (TwiceInside c.args.schema.now) (take (i + 1) rows)) in
    subst next (sym c.lesser-first.ensures) (one_more (TwiceInside c.args.schema.now) rows i _ c.loop-ty-test.true c.loop-ty.first c.in_type.result c.loop-ty.invariant c.in_type.ensures)

pub returns : goal.returns
returns c =
    let all : List TypeDef → Type 0 = λ rs. FirstFault (OneOf (TwiceInside c.args.schema.now) rs) c.loop-ty.first in
    subst all (take_all c.loop-ty.ty-index c.deref-ty-items.result.now (omega (arith, c.loop-ty-test.false)) ∙ c.deref-ty-items.ensures.value) c.loop-ty.invariant
