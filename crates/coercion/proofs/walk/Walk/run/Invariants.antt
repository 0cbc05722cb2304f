use Rattle.std.proofs.Common.{◌<◌, ◌≤◌, length}
use Rattle.record.specs.Held.{Kept}
use Rattle.coercion.specs.Frames.{Stacked, left}
use Rattle.coercion.proofs.walk.Walk.run.Given as goal

abbrev pub invariant-loop-frames : goal.invariant-loop-frames
invariant-loop-frames g l = Kept l.initial.out l.out × (left l.out l.frames.items ≤ left l.initial.out l.initial.frames.items) × Stacked l.out.used l.frames.items × (0 < length l.frames.items)

abbrev pub decreases-loop-frames : goal.decreases-loop-frames
decreases-loop-frames g l = left l.out l.frames.items
