use Rattle.model.proofs.acyclic_when_taken_stands.Goals as goal
use Rattle.model.proofs.CyTaken.{acyclic_when_taken}

pub returns : goal.returns
returns c = acyclic_when_taken
