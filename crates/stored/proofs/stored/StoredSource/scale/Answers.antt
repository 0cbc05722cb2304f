use Rattle.source.specs.Standing.{Scaled}
use Rattle.stored.proofs.CuAsks.{asked}
use Rattle.stored.proofs.stored.StoredSource.scale.Goals as goal

pub returns : goal.returns
returns c t h = asked (λ u. Scaled u c.map_or.result) c.follow.result _ _ h c.follow.ensures c.map_or.ensures (λ x p. p)
