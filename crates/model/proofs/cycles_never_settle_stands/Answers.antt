use Rattle.model.proofs.cycles_never_settle_stands.Goals as goal
use Rattle.model.proofs.CyNever.{cycles_never_settle}

pub returns : goal.returns
returns c = cycles_never_settle
