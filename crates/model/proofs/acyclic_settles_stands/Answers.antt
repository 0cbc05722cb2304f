use Rattle.model.proofs.acyclic_settles_stands.Goals as goal
use Rattle.model.proofs.CySettle.{acyclic_settles}

pub returns : goal.returns
returns c = acyclic_settles
