use Rattle.model.proofs.size_is_length_stands.Goals as goal
use Rattle.model.proofs.ByteLaws.{size-is_length}

pub returns : goal.returns
returns c = size-is_length
