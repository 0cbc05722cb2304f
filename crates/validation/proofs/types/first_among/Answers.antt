use Rattle.std.proofs.Common.{◌+◌, ℕ, take, true≢false, sym, ◌∙◌, subst, Option, List, arith}
use Rattle.std.proofs.lemmas.List.{take_all}
use Rattle.schema.specs.declared.definition.Field.{Field}
use Rattle.validation.specs.Making.{FirstFault}
use Rattle.validation.specs.Places.{StandsFor}
use Rattle.validation.proofs.BaseStands.{one_more, none_more}
use Rattle.validation.proofs.types.first_among.Goals as goal
use Rattle.validation.proofs.types.first_among.Goals.{then-stands_for, else-stands_for}

pub loop-field-preserved : goal.loop-field-preserved
loop-field-preserved c =
    let fields = c.args.fields.now in
    let i = c.loop-field.field-index in
    let next : Option ℕ → Type 0 = FirstFault (StandsFor c.args.base (take (i + 1) fields)) in
    elim c.if-stands_for.branch [
      | then-stands_for w ↦ subst next (sym (w.first-is ∙ w.lesser-first.ensures)) (one_more c.args.base fields i _ c.loop-field-test.true c.loop-field.first c.loop-field.invariant (c.stands_for.ensures.0 w.if-stands_for.true))
      | else-stands_for w ↦ subst next (sym w.first-is) (none_more c.args.base fields i _ c.loop-field-test.true c.loop-field.first c.loop-field.invariant (λ e. true≢false (sym (c.stands_for.ensures.1 e) ∙ w.if-stands_for.false)))
    ]

pub returns : goal.returns
returns c =
    let all : List Field → Type 0 = λ fs. FirstFault (StandsFor c.args.base fs) c.loop-field.first in
    subst all (take_all c.loop-field.field-index c.args.fields.now (omega (arith, c.loop-field-test.false))) c.loop-field.invariant
