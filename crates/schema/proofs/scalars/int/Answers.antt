use Rattle.schema.proofs.RangeLaws.{int_below, int_above}
use Rattle.schema.proofs.scalars.int.Goals as goal

pub returns-in-Some : goal.returns-in-Some
returns-in-Some c h = let f = c.in-Some.ensures.cases in int_below c.args.text.now c.in-Some.digits.now c.below.result h f.0 f.1 c.below.ensures

pub returns-in-None : goal.returns-in-None
returns-in-None c h = int_above c.args.text.now c.below-in-None.result h c.in-None.ensures.cases c.below-in-None.ensures
