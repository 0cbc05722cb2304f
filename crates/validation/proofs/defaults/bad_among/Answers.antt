use Rattle.std.proofs.Common.{◌+◌, take, sym, ◌∙◌, subst, arith}
use Rattle.source.specs.Table.{tree_table, Held}
use Rattle.schema.specs.Holds.{FieldHeld}
use Rattle.schema.specs.Rows.{base_in}
use Rattle.validation.specs.Making.{FirstFault, WrongDefault}
use Rattle.validation.specs.Repeats.{OneOf}
use Rattle.validation.proofs.Rightness.{field_more, field_passed, all_rows}
use Rattle.validation.proofs.defaults.bad_among.Goals as goal
use Rattle.validation.proofs.defaults.bad_among.Goals.{in-Some, in_default}

pub loop-field-preserved : goal.loop-field-preserved
loop-field-preserved c D ds h each u =
    let T = tree_table c.args.schema.now.tree in
    let fs = c.args.fields.now in
    let i = c.loop-field.field-index in
    let before = c.loop-field.invariant D ds h each u in
    elim c.match-field.branch [
      | in-Some w ↦ subst (FirstFault (OneOf (WrongDefault D) (take (i + 1) ds))) (sym (w.first-is ∙ w.lesser-first.ensures))
          (field_more D T fs ds each i _ c.loop-field-test.true c.loop-field.first before u w.in-Some.at w.in-Some.is w.wrong.result
          (λ x b k n. w.wrong.ensures D x h b (subst (λ t. Held (tree_table t) w.in-Some.at x) (sym w.new-literal.ensures.tree) k) n))
      | in_default w ↦ subst (FirstFault (OneOf (WrongDefault D) (take (i + 1) ds))) (sym w.first-is)
          (field_passed D T fs ds each i _ c.loop-field-test.true c.loop-field.first before w.in_default.is)
    ]

pub returns : goal.returns
returns c D ds h each u =
    all_rows (FieldHeld (base_in D) (tree_table c.args.schema.now.tree)) (WrongDefault D) c.args.fields.now ds each c.loop-field.field-index (omega (arith, c.loop-field-test.false)) c.loop-field.first (c.loop-field.invariant D ds h each u)
