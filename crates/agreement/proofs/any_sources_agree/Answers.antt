use Rattle.agreement.proofs.Agreeing.{twins_agree}
use Rattle.agreement.proofs.any_sources_agree.Goals as goal

pub returns : goal.returns
returns g c at to x y s u w = twins_agree x y w
