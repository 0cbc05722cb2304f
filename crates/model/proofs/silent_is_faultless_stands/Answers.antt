use Rattle.model.proofs.silent_is_faultless_stands.Goals as goal
use Rattle.model.proofs.ChFaultless.{silent_is_faultless}

pub returns : goal.returns
returns c = silent_is_faultless
