use Rattle.std.proofs.lemmas.Bool.Decides.{not_from_Decides}
use Rattle.stored.specs.Frames.{an_item, bare_name}
use Rattle.stored.proofs.FrLaws.{member_at}
use Rattle.stored.proofs.header.Record.valued.Goals as goal

pub returns-then-not-is_name : goal.returns-then-not-is_name
returns-then-not-is_name c = an_item c.in_ok-first.ensures (not_from_Decides _ c.is_name.ensures c.if-not-is_name.true)

pub returns-in_err-second : goal.returns-in_err-second
returns-in_err-second c = rw c.from_residual-in_err-second.ensures (bare_name c.in_ok-first.ensures (c.is_name.ensures.0 c.if-not-is_name.false) (rw c.end-next.ensures at c.in_err-second.ensures))

pub returns : goal.returns
returns c = member_at c.in_ok-first.ensures (c.is_name.ensures.0 c.if-not-is_name.false) c.end-next.ensures c.in_ok-second.ensures
