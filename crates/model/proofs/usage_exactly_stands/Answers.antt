use Rattle.model.proofs.usage_exactly_stands.Goals as goal
use Rattle.model.proofs.ChUsage.{usage_exactly}

pub returns : goal.returns
returns c = usage_exactly
