use Rattle.std.proofs.Common.{take, map}
use Rattle.validation.specs.Making.{FirstFault, Twice}
use Rattle.validation.specs.Places.{labelled}
use Rattle.validation.proofs.twice.twice_by.Given as goal

abbrev pub invariant-loop-number : goal.invariant-loop-number
invariant-loop-number g l = FirstFault (Twice (take l.number (map (λ r. labelled (g.R.Named.called r) (g.R.Placed.at r)) l.records))) l.first
