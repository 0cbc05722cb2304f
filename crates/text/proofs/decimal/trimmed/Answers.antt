use Rattle.std.proofs.Common.{◌≡◌, ◌-◌, length, get_or, rules}
use Rattle.text.proofs.NormValues.{trim_more}
use Rattle.text.proofs.decimal.trimmed.Goals as goal

pub loop-rest-preserved : goal.loop-rest-preserved
loop-rest-preserved c =
    let b : get_or c.loop-rest.rest.now (length c.loop-rest.rest.now - 1) 0 ≡ 48 = search rules in
    trim_more c.args.digits.now c.loop-rest.rest.now c.loop-rest.invariant c.in-48.len_at_least b
