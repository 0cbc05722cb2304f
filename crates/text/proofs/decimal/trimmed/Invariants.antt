use Rattle.std.proofs.Common.{length}
use Rattle.text.proofs.NormValues.{Trimming}
use Rattle.text.proofs.decimal.trimmed.Given as goal

abbrev pub invariant-loop-rest : goal.invariant-loop-rest
invariant-loop-rest l = Trimming l.digits l.rest

abbrev pub decreases-loop-rest : goal.decreases-loop-rest
decreases-loop-rest l = length l.rest
