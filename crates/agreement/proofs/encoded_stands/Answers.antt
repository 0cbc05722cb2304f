use Rattle.agreement.proofs.Agreeing.{encoded_stands_lem}
use Rattle.agreement.proofs.encoded_stands.Goals as goal

pub returns : goal.returns
returns c = encoded_stands_lem
