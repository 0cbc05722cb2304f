use Rattle.std.proofs.Common.{◌-◌, length, vec_items}
use Rattle.text.proofs.StrRuns.{Adding}
use Rattle.text.proofs.string.add.Given as goal

abbrev pub invariant-loop-at : goal.invariant-loop-at
invariant-loop-at l = Adding l.language l.raw l.at (vec_items l.initial.out) (vec_items l.out)

abbrev pub decreases-loop-at : goal.decreases-loop-at
decreases-loop-at l = length l.raw - l.at
