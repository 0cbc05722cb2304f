use Rattle.std.proofs.Common.{◌+◌, List, take, refl, sym, ◌∙◌, subst, arith}
use Rattle.source.specs.Table.{tree_table, Held}
use Rattle.schema.specs.declared.operation.Variable.{Variable}
use Rattle.schema.specs.Holds.{Each}
use Rattle.schema.specs.HoldsOperation.{VariableHeld}
use Rattle.schema.specs.Rows.{base_in}
use Rattle.validation.specs.Making.{FirstFault}
use Rattle.validation.specs.Repeats.{OneOf}
use Rattle.validation.proofs.Rightness.{WrongVariable, variable_more, variable_passed, all_variables}
use Rattle.validation.proofs.defaults.bad_variable_default.Goals as goal
use Rattle.validation.proofs.defaults.bad_variable_default.Goals.{in-Some, in_default}

pub loop-variable-preserved : goal.loop-variable-preserved
loop-variable-preserved c S D h o u =
    let T = tree_table c.args.operation.now.tree in
    let vs = c.deref-variable-items.result.now in
    let i = c.loop-variable.variable-index in
    let each : Each (VariableHeld (base_in S) T) vs D.variables = subst (λ (rows : List Variable). Each (VariableHeld (base_in S) T) rows D.variables) (sym c.deref-variable-items.ensures.value) o.variables in
    let before = c.loop-variable.invariant S D h o u in
    elim c.match-variable.branch [
      | in-Some w ↦ subst (FirstFault (OneOf (WrongVariable S) (take (i + 1) D.variables))) (sym (w.first-is ∙ w.lesser-first.ensures))
          (variable_more S T vs D.variables each i _ c.loop-variable-test.true c.loop-variable.first before u w.in-Some.at w.in-Some.is w.wrong.result
          (λ x b k n. w.wrong.ensures S x h b (subst (λ t. Held (tree_table t) w.in-Some.at x) (sym w.literal-literal.ensures.tree) k) n))
      | in_default w ↦ subst (FirstFault (OneOf (WrongVariable S) (take (i + 1) D.variables))) (sym w.first-is)
          (variable_passed S T vs D.variables each i _ c.loop-variable-test.true c.loop-variable.first before w.in_default.is)
    ]

pub returns : goal.returns
returns c S D h o u =
    let T = tree_table c.args.operation.now.tree in
    let vs = c.deref-variable-items.result.now in
    let each : Each (VariableHeld (base_in S) T) vs D.variables = subst (λ (rows : List Variable). Each (VariableHeld (base_in S) T) rows D.variables) (sym c.deref-variable-items.ensures.value) o.variables in
    all_variables S T vs D.variables each D refl c.loop-variable.variable-index (omega (arith, c.loop-variable-test.false)) c.loop-variable.first (c.loop-variable.invariant S D h o u)
