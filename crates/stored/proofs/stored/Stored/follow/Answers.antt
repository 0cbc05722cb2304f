use Rattle.std.proofs.Common.{refl}
use Rattle.stored.proofs.CuLaws.{follows_root, none_leads, follows_valued}
use Rattle.stored.proofs.stored.Stored.follow.Goals as goal

pub returns-then-at-bytes : goal.returns-then-at-bytes
returns-then-at-bytes c = follows_root c.args.self.now.bytes.now c.args.at _ c.if-at-bytes.true refl refl refl refl

pub returns-in_err-place : goal.returns-in_err-place
returns-in_err-place c = rw c.from_residual.ensures (none_leads c.if-at-bytes.false c.in_err-place.ensures)

pub returns : goal.returns
returns c = follows_valued c.new.result c.if-at-bytes.false c.in_ok-place.ensures c.new.ensures
