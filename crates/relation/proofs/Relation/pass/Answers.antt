use Rattle.std.proofs.Common.{arith}
use Rattle.relation.proofs.Rows.{all_passed}
use Rattle.relation.proofs.Relation.pass.Goals as goal

pub returns-clause-passed : goal.returns-clause-passed
returns-clause-passed c = all_passed c.args.self.now.rows.items c.args.through c.loop-number.number c.loop-number.self.rows.items c.loop-number.invariant.2 (omega (arith, c.args.self.now.rows.ok.0, c.len-number-end.ensures, c.loop-number-test.false))
