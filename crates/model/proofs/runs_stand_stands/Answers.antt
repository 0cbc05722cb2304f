use Rattle.model.proofs.runs_stand_stands.Goals as goal
use Rattle.model.proofs.WalkFits.{walk-fits}
use Rattle.model.proofs.ByteLaws.{size-is_length}
use Rattle.model.proofs.RunStands.{runs_stand_from}

pub returns : goal.returns
returns c = runs_stand_from walk-fits size-is_length
