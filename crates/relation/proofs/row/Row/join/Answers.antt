use Rattle.std.proofs.Common.{◌≡◌, length, rules, arith}
use Rattle.relation.proofs.Bits.{all_joined}
use Rattle.relation.proofs.row.Row.join.Goals as goal

pub returns : goal.returns
returns c =
    let a : length c.args.self.now.words ≡ 16 = search rules in
    let b : length c.args.other.now.words ≡ 16 = search rules in
    all_joined c.loop-i.i c.args.self.now.words c.args.other.now.words c.loop-i.self.words c.loop-i.invariant (omega (arith, c.loop-i-test.false)) (omega (arith, c.loop-i-test.false))
