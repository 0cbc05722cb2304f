use Rattle.std.proofs.Common.{refl, arith, ◌∙◌}
use Rattle.relation.proofs.Rows.{Led, rows_first, rows_pass, rows_last}
use Rattle.relation.proofs.Relation.close.Goals as goal

pub loop-through-init : goal.loop-through-init
loop-through-init c = (refl, rows_first c.args.self.now.rows.items)

pub loop-through-preserved : goal.loop-through-preserved
loop-through-preserved c = (
  c.pass.ensures.size ∙ c.loop-through.invariant.0,
  rows_pass (Led c.args.self.now.rows.items) c.loop-through.through c.loop-through.self.rows.items c.pass.new.self.rows.items c.loop-through.invariant.1 c.pass.ensures.passed,
)

pub returns-clause-closed : goal.returns-clause-closed
returns-clause-closed c = rows_last c.args.self.now.rows.items c.loop-through.through c.loop-through.self.rows.items (omega (arith, c.args.self.now.rows.ok.0, c.len-through-end.ensures, c.loop-through-test.false)) c.loop-through.invariant.1
