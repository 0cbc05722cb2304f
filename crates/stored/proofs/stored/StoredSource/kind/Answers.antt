use Rattle.std.proofs.Common.{◌≡◌, sym, ap, ◌∙◌}
use Rattle.source.specs.Heads.{kind_of}
use Rattle.stored.specs.Cursors.{kind_numbered}
use Rattle.stored.proofs.CuAsks.{asked, kind_shown}
use Rattle.stored.proofs.stored.StoredSource.kind.Goals as goal

pub returns : goal.returns
returns c t h = asked (λ u. c.map_or.result ≡ kind_of u) c.follow.result _ _ h c.follow.ensures c.map_or.ensures (λ x k p f d r e q l. k ∙ ap kind_numbered (sym e) ∙ kind_shown p f r)
