use Rattle.model.proofs.twins_find_alike_stands.Goals as goal
use Rattle.model.proofs.ChTwins.{twins_find_alike}

pub returns : goal.returns
returns c = twins_find_alike
