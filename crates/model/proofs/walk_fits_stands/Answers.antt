use Rattle.model.proofs.walk_fits_stands.Goals as goal
use Rattle.model.proofs.WalkFits.{walk-fits}

pub returns : goal.returns
returns c = walk-fits
