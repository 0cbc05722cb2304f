use Rattle.model.proofs.found_in_turn_stands.Goals as goal
use Rattle.model.proofs.ChTurns.{found_in_turn}

pub returns : goal.returns
returns c = found_in_turn
