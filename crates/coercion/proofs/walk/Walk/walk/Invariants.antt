use Rattle.record.specs.Held.{Kept}
use Rattle.coercion.specs.Frames.{Stacked, left}
use Rattle.coercion.proofs.walk.Walk.walk.Given as goal

abbrev pub invariant-loop-frame : goal.invariant-loop-frame
invariant-loop-frame g l = Kept l.initial.out l.out × Stacked l.out.used l.frames.items

abbrev pub decreases-loop-frame : goal.decreases-loop-frame
decreases-loop-frame g l = left l.out l.frames.items
