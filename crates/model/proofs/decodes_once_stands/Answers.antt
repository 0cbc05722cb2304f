use Rattle.model.proofs.decodes_once_stands.Goals as goal
use Rattle.model.proofs.ByteLaws.{decodes_once}

pub returns : goal.returns
returns c = decodes_once
