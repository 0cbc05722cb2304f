use Rattle.model.proofs.accepts_conforming_stands.Goals as goal
use Rattle.model.proofs.CoConforms.{accepts_conforming}

pub returns : goal.returns
returns c = accepts_conforming
