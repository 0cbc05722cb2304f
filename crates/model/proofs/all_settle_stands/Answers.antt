use Rattle.model.proofs.all_settle_stands.Goals as goal
use Rattle.model.proofs.CoBound.{all_settle}

pub returns : goal.returns
returns c = all_settle
