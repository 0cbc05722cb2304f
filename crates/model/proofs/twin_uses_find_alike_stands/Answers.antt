use Rattle.model.proofs.twin_uses_find_alike_stands.Goals as goal
use Rattle.model.proofs.ChUseTwins.{twin_uses_find_alike}

pub returns : goal.returns
returns c = twin_uses_find_alike
