use Rattle.std.proofs.Common.{◌-◌, length}
use Rattle.text.specs.declared.language.Language.TheVariants.{Graphql}
use Rattle.text.proofs.LexSkip.{SkipSofar}
use Rattle.text.proofs.graphql.skip.Given as goal

abbrev pub invariant-loop-end : goal.invariant-loop-end
invariant-loop-end l = SkipSofar Graphql l.text l.at l.next

abbrev pub decreases-loop-end : goal.decreases-loop-end
decreases-loop-end l = length l.text - l.next
