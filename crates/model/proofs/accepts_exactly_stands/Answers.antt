use Rattle.model.proofs.accepts_exactly_stands.Goals as goal
use Rattle.model.proofs.CoComplete.{accepts_exactly}

pub returns : goal.returns
returns c = accepts_exactly
