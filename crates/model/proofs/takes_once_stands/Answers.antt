use Rattle.model.proofs.takes_once_stands.Goals as goal
use Rattle.model.proofs.CoOnce.{takes_once}

pub returns : goal.returns
returns c = takes_once
