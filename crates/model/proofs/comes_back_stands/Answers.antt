use Rattle.model.proofs.comes_back_stands.Goals as goal
use Rattle.model.proofs.CoBack.{comes_back}

pub returns : goal.returns
returns c = comes_back
