use Rattle.model.proofs.WalkFits.{walk-fits}
use Rattle.model.proofs.ByteLaws.{size-is_length}
use Rattle.model.proofs.RunStands.{runs_stand_from}
use Rattle.model.proofs.RunLoad.{load_coerces_from}
use Rattle.model.proofs.load_coerces_stands.Goals as goal

pub returns : goal.returns
returns c = load_coerces_from (runs_stand_from walk-fits size-is_length)
