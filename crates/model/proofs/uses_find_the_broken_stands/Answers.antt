use Rattle.model.proofs.uses_find_the_broken_stands.Goals as goal
use Rattle.model.proofs.ChUses.{uses_find_the_broken}

pub returns : goal.returns
returns c = uses_find_the_broken
