use Rattle.model.proofs.acyclic_exactly_stands.Goals as goal
use Rattle.model.proofs.CyNever.{acyclic_exactly}

pub returns : goal.returns
returns c = acyclic_exactly
