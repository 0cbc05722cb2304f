use Rattle.stored.proofs.CuOne.{reads_back_lem, accepts_back}
use Rattle.stored.proofs.stored.reads_back.Goals as goal

pub returns : goal.returns
returns c = record { read = reads_back_lem; accepted = accepts_back }
