use Rattle.model.proofs.places_do_not_matter_stands.Goals as goal
use Rattle.model.proofs.WalkTwins.{places_do_not_matter}

pub returns : goal.returns
returns c = places_do_not_matter
