use Rattle.model.proofs.scalars_exactly_stands.Goals as goal
use Rattle.model.proofs.CoScalars.{scalars_exactly}

pub returns : goal.returns
returns c = scalars_exactly
