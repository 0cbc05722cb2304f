use Rattle.model.proofs.equal_bytes_when_alike_stands.Goals as goal
use Rattle.model.proofs.WalkFits.{walk-fits}
use Rattle.model.proofs.WalkLimits.{accepts_within}
use Rattle.model.proofs.ByteLaws.{size-is_length, encode_injective}
use Rattle.model.proofs.LikeAll.{same_when_alike}
use Rattle.model.proofs.RunBytes.{equal_bytes_from}

pub returns : goal.returns
returns c = equal_bytes_from walk-fits size-is_length encode_injective accepts_within same_when_alike
