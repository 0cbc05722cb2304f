use Rattle.model.proofs.same_when_alike_stands.Goals as goal
use Rattle.model.proofs.LikeAll.{same_when_alike}

pub returns : goal.returns
returns c = same_when_alike
