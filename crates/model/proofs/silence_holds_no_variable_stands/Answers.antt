use Rattle.model.proofs.silence_holds_no_variable_stands.Goals as goal
use Rattle.model.proofs.ChFree.{silence_holds_no_variable}

pub returns : goal.returns
returns c = silence_holds_no_variable
