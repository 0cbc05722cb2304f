use Rattle.model.proofs.uncoercible_exactly_stands.Goals as goal
use Rattle.model.proofs.ChScalars.{uncoercible_exactly}

pub returns : goal.returns
returns c = uncoercible_exactly
