use Rattle.model.proofs.silence_leaves_the_rule_stands.Goals as goal
use Rattle.model.proofs.ChCoerces.{silence_leaves_the_rule}

pub returns : goal.returns
returns c = silence_leaves_the_rule
