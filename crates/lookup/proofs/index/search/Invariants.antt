use Rattle.lookup.specs.Slots.{Passed}
use Rattle.lookup.proofs.index.search.Given as goal

abbrev pub invariant-loop-step : goal.invariant-loop-step
invariant-loop-step g l = Passed g.row.SLOTS (g.L.Lookup.names l.inner) l.slots l.name l.step
