use Rattle.std.proofs.Common.{◌-◌, length}
use Rattle.text.proofs.StrRuns.{Scanning}
use Rattle.text.proofs.string.scan.Given as goal

abbrev pub invariant-loop-byte : goal.invariant-loop-byte
invariant-loop-byte l = Scanning l.language l.text l.at l.end l.plain

abbrev pub decreases-loop-byte : goal.decreases-loop-byte
decreases-loop-byte l = length l.text - l.end
