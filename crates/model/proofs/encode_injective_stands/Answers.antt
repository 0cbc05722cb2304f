use Rattle.model.proofs.encode_injective_stands.Goals as goal
use Rattle.model.proofs.ByteLaws.{encode_injective}

pub returns : goal.returns
returns c = encode_injective
