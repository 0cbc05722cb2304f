use Rattle.model.proofs.shown_are_twins_stands.Goals as goal
use Rattle.model.proofs.TwinLaws.{shown-are_twins}

pub returns : goal.returns
returns c = shown-are_twins
