use Rattle.model.proofs.silence_is_coercion_stands.Goals as goal
use Rattle.model.proofs.ChCoerces.{silence_is_coercion}

pub returns : goal.returns
returns c = silence_is_coercion
