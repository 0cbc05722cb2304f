use Rattle.std.proofs.Common.{arith, get_or, length, ◌<◌, ◌≡◌, ◌≢◌, ap}
use Rattle.stored.proofs.CoForms.{zero_told, unsigned, signed}
use Rattle.stored.proofs.content.whole_form.Goals as goal

pub returns-in-48 : goal.returns-in-48
returns-in-48 c = zero_told c.args.text.now (omega arith) (omega arith)

pub returns-in-45 : goal.returns-in-45
returns-in-45 c = signed c.args.text.now c.positive.result (grind arith) (grind arith) c.positive.ensures

pub returns-in_default : goal.returns-in_default
returns-in_default c =
    let zero : length c.args.text.now ≡ 1 → get_or c.args.text.now 0 0 ≢ 48 = λ n e. grind arith in
    let minus : 0 < length c.args.text.now → get_or c.args.text.now 0 0 ≢ 45 = λ n e. grind arith in
    unsigned c.args.text.now c.positive-in_default.result (λ e. zero (ap length e) (ap (λ t. get_or t 0 0) e)) minus c.positive-in_default.ensures
