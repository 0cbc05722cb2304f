use Rattle.model.proofs.loads_back_stands.Goals as goal
use Rattle.model.proofs.WalkFits.{walk-fits}
use Rattle.model.proofs.WalkLimits.{accepts_within}
use Rattle.model.proofs.ByteLaws.{size-is_length, decodes_once}
use Rattle.model.proofs.CoConforms.{accepts_conforming}
use Rattle.model.proofs.CoBack.{comes_back}
use Rattle.model.proofs.RunBack.{loads_back_from}

pub returns : goal.returns
returns c = loads_back_from walk-fits size-is_length accepts_within decodes_once accepts_conforming comes_back
