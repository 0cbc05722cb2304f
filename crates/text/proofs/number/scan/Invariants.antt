use Rattle.std.proofs.Common.{◌+◌}
use Rattle.text.proofs.ScanRuns.{Reached}
use Rattle.text.proofs.number.scan.Given as goal

abbrev pub invariant-loop-taken : goal.invariant-loop-taken
invariant-loop-taken l = Reached l.text l.at (l.at + l.taken) l.state
