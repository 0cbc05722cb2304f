use Rattle.std.proofs.Common.{arith, get_or, length, ◌<◌, ◌-◌, ◌≢◌}
use Rattle.stored.proofs.CoForms.{zero_ended, decimal_told}
use Rattle.stored.proofs.content.decimal_form.Goals as goal

pub returns-in-0 : goal.returns-in-0
returns-in-0 c = zero_ended c.args.body.now c.zero.result (grind arith) (grind arith) c.zero.ensures

pub returns-in-0-2 : goal.returns-in-0-2
returns-in-0-2 c =
    let last : 5 < length c.args.body.now → get_or c.args.body.now (length c.args.body.now - 1) 0 ≢ 48 = λ n e. grind arith in
    decimal_told c.args.body.now c.positive.result (grind arith) (grind arith) last (λ k. (c.type_inv.body k).fits) c.positive.ensures
