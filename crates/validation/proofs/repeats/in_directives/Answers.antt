use Rattle.std.proofs.Common.{◌+◌, ℕ, take, sym, ◌∙◌, subst, Option, List, arith}
use Rattle.std.proofs.lemmas.List.{take_all}
use Rattle.schema.specs.declared.definition.Directive.{Directive}
use Rattle.validation.specs.Making.{FirstFault}
use Rattle.validation.specs.Repeats.{OneOf, TwiceArgued}
use Rattle.validation.proofs.Least.{one_more}
use Rattle.validation.proofs.repeats.in_directives.Goals as goal

pub loop-directive-preserved : goal.loop-directive-preserved
loop-directive-preserved c =
    let rows = c.deref-directive-items.result.now in
    let i = c.loop-directive.directive-index in
    let next : Option ℕ → Type 0 = FirstFault (OneOf (TwiceArgued c.args.schema.now) (take (i + 1) rows)) in
    subst next (sym c.lesser-first.ensures) (one_more (TwiceArgued c.args.schema.now) rows i _ c.loop-directive-test.true c.loop-directive.first c.in_directive.result c.loop-directive.invariant c.in_directive.ensures)

pub returns : goal.returns
returns c =
    let all : List Directive → Type 0 = λ rs. FirstFault (OneOf (TwiceArgued c.args.schema.now) rs) c.loop-directive.first in
    subst all (take_all c.loop-directive.directive-index c.deref-directive-items.result.now (omega (arith, c.loop-directive-test.false)) ∙ c.deref-directive-items.ensures.value) c.loop-directive.invariant
