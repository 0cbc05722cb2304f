use Rattle.std.proofs.Common.{◌∙◌}
use Rattle.schema.proofs.RangeLaws.{before_worth, digits_of, length_worth}
use Rattle.schema.proofs.scalars.below.Goals as goal

pub returns-then-digits-bound : goal.returns-then-digits-bound
returns-then-digits-bound c h k = c.precedes.ensures ∙ before_worth c.args.digits.now c.args.bound.now (digits_of h) (digits_of k) c.if-digits-bound.true

pub returns : goal.returns
returns c h k = length_worth c.args.digits.now c.args.bound.now h k c.if-digits-bound.false
