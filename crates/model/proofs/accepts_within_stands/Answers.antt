use Rattle.model.proofs.accepts_within_stands.Goals as goal
use Rattle.model.proofs.WalkLimits.{accepts_within}

pub returns : goal.returns
returns c = accepts_within
