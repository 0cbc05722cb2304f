use Rattle.lookup.proofs.Probing.{Upto}
use Rattle.lookup.proofs.index.numbered.Given as goal

abbrev pub invariant-loop-number : goal.invariant-loop-number
invariant-loop-number g l = Upto g.row.SLOTS (g.L.Lookup.names l.inner) l.slots l.number
