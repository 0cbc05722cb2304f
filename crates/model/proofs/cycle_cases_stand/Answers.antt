use Rattle.model.proofs.cycle_cases_stand.Goals as goal
use Rattle.model.proofs.CyCases.{cycle_cases}

pub returns : goal.returns
returns c = cycle_cases
