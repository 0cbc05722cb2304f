use Rattle.std.proofs.Common.{rules}
use Rattle.stored.proofs.CuAsks.{named_body}
use Rattle.stored.proofs.stored.StoredSource.name.Goals as goal

pub returns : goal.returns
returns c n k = named_body c.at.result c.at.ensures k (search rules)
