use Rattle.std.proofs.Common.{◌≡◌, length}
use Rattle.record.specs.Held.{Kept}
use Rattle.sheet.proofs.load.Request.write.Given as goal

abbrev pub invariant-loop-index : goal.invariant-loop-index
invariant-loop-index g l = Kept l.initial.out l.out × (length l.extents ≡ 64)
