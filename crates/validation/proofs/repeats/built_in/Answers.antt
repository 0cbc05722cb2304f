use Rattle.std.proofs.Common.{◌+◌, ℕ, take, true≢false, sym, ◌∙◌, subst, refl, Option, List, arith}
use Rattle.std.proofs.lemmas.List.{take_all}
use Rattle.schema.specs.declared.definition.TypeDef.{TypeDef}
use Rattle.validation.specs.Making.{FirstFault}
use Rattle.validation.specs.Repeats.{OneOf, BuiltIn}
use Rattle.validation.proofs.Least.{one_more, none_more}
use Rattle.validation.proofs.repeats.built_in.Goals as goal
use Rattle.validation.proofs.repeats.built_in.Goals.{then-is_built_in, else-is_built_in}

pub loop-ty-preserved : goal.loop-ty-preserved
loop-ty-preserved c =
    let types = c.args.types.now in
    let i = c.loop-ty.ty-index in
    let next : Option ℕ → Type 0 = FirstFault (OneOf BuiltIn (take (i + 1) types)) in
    let is = c.is_built_in.ensures in
    elim c.if-is_built_in.branch [
      | then-is_built_in w ↦ subst next (sym (w.first-is ∙ w.lesser-first.ensures)) (one_more BuiltIn types i _ c.loop-ty-test.true c.loop-ty.first _ c.loop-ty.invariant ((sym is ∙ w.if-is_built_in.true, refl), λ q x. omega (arith, x.1)))
      | else-is_built_in w ↦ subst next (sym w.first-is) (none_more BuiltIn types i _ c.loop-ty-test.true c.loop-ty.first c.loop-ty.invariant (λ p x. true≢false (sym x.0 ∙ sym is ∙ w.if-is_built_in.false)))
    ]

pub returns : goal.returns
returns c =
    let all : List TypeDef → Type 0 = λ ts. FirstFault (OneOf BuiltIn ts) c.loop-ty.first in
    subst all (take_all c.loop-ty.ty-index c.args.types.now (omega (arith, c.loop-ty-test.false))) c.loop-ty.invariant
