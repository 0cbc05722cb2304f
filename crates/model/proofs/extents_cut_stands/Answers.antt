use Rattle.model.proofs.RunExtents.{extents_cut}
use Rattle.model.proofs.extents_cut_stands.Goals as goal

pub returns : goal.returns
returns c = extents_cut
