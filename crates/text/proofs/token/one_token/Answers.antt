use Rattle.text.proofs.LexLaws.{one_token}
use Rattle.text.proofs.token.one_token.Goals as goal

pub returns : goal.returns
returns c = one_token
