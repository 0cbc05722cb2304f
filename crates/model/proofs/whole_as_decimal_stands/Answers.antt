use Rattle.model.proofs.whole_as_decimal_stands.Goals as goal
use Rattle.model.proofs.NumLaws.{whole_as_decimal}

pub returns : goal.returns
returns c = whole_as_decimal
