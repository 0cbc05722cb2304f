use Rattle.agreement.proofs.Agreeing.{shown_agree_lem}
use Rattle.agreement.proofs.shown_agree.Goals as goal

pub returns : goal.returns
returns c = shown_agree_lem
