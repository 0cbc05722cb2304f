use Rattle.std.proofs.Common.{◌≡◌}
use Rattle.coercion.proofs.walk.Walk.next_field.Given as goal

abbrev pub invariant-loop-index : goal.invariant-loop-index
invariant-loop-index g l = l.frame.start ≡ l.initial.frame.start
