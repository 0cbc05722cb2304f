use Rattle.stored.proofs.CuOne.{reads_once_lem}
use Rattle.stored.proofs.stored.reads_once.Goals as goal

pub returns : goal.returns
returns c = reads_once_lem
