use Rattle.model.proofs.walk_agrees_stands.Goals as goal
use Rattle.model.proofs.WalkAgrees.{walk-agrees}

pub returns : goal.returns
returns c = walk-agrees
