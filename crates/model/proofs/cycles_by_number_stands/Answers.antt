use Rattle.model.proofs.cycles_by_number_stands.Goals as goal
use Rattle.model.proofs.CyNumbers.{cycles_by_number}

pub returns : goal.returns
returns c = cycles_by_number
