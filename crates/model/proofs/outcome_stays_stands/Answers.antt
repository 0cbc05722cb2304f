use Rattle.model.proofs.outcome_stays_stands.Goals as goal
use Rattle.model.proofs.CoBound.{outcome_stays}

pub returns : goal.returns
returns c = outcome_stays
