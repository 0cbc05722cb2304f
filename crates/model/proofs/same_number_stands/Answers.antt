use Rattle.model.proofs.same_number_stands.Goals as goal
use Rattle.model.proofs.NumLaws.{same_number}

pub returns : goal.returns
returns c = same_number
