use Rattle.model.proofs.numbered_once_stands.Goals as goal
use Rattle.model.proofs.CyOnce.{numbered_once}

pub returns : goal.returns
returns c = numbered_once
