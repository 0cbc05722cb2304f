use Rattle.model.proofs.finds_the_broken_stands.Goals as goal
use Rattle.model.proofs.ChRules.{finds_the_broken}

pub returns : goal.returns
returns c = finds_the_broken
