use Rattle.relation.proofs.Bits.{Joined}
use Rattle.relation.proofs.row.Row.join.Given as goal

abbrev pub invariant-loop-i : goal.invariant-loop-i
invariant-loop-i l = Joined l.initial.self.words l.other.words l.i l.self.words
