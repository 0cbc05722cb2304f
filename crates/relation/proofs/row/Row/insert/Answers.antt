use Rattle.std.proofs.Common.{◌≡◌, length, rules, arith}
use Rattle.relation.proofs.Bits.{insert_bit}
use Rattle.relation.proofs.row.Row.insert.Goals as goal

pub returns : goal.returns
returns c = let h : length c.args.self.now.words ≡ 16 = search rules in insert_bit c.args.self.now.words c.args.number (omega arith)
