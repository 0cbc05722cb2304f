-- Two accepted values give the same record exactly when they are alike.
use Rattle.model.specs.Laws.{SameWhenAlike}
use Rattle.model.proofs.NumLaws.{whole_as_decimal, same_number}
use Rattle.model.proofs.CoTakes.{taken}
use Rattle.model.proofs.LikeSame.{same_when_alike_from}

pub same_when_alike : SameWhenAlike
same_when_alike = same_when_alike_from (record { as_decimal = whole_as_decimal; number = same_number }) taken
