use Rattle.std.proofs.Common.{◌∙◌, sym}
use Rattle.text.proofs.StrRuns.{scan_start, scan_more, scan_ends, scan_bad, scan_unended}
use Rattle.text.proofs.string.scan.Goals as goal

pub loop-byte-init : goal.loop-byte-init
loop-byte-init c = scan_start c.args.language c.args.text.now c.args.at

pub returns-then-byte-eq34 : goal.returns-then-byte-eq34
returns-then-byte-eq34 c = let b = c.in-Some.ensures.lookup.3 in scan_ends c.loop-byte.invariant b.0 (sym (b.1 0) ∙ c.if-byte-eq34.true)

pub returns-in_err-after : goal.returns-in_err-after
returns-in_err-after c = let b = c.in-Some.ensures.lookup.3 in rw c.from_residual.ensures (scan_bad c.loop-byte.invariant b.0 (λ e. c.if-byte-eq34.false (b.1 0 ∙ e)) c.in_err-after.ensures)

pub loop-byte-preserved : goal.loop-byte-preserved
loop-byte-preserved c = let b = c.in-Some.ensures.lookup.3 in rw (b.1 0) (scan_more c.loop-byte.invariant b.0 c.in_ok-after.ensures)

pub returns : goal.returns
returns c = scan_unended c.loop-byte.invariant c.in_default.ensures.lookup.3
