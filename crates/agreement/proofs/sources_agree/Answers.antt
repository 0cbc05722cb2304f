use Rattle.agreement.proofs.Agreeing.{sources_agree_lem}
use Rattle.agreement.proofs.sources_agree.Goals as goal

pub returns : goal.returns
returns c = sources_agree_lem
