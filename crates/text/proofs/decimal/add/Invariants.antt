use Rattle.std.proofs.Common.{◌≡◌, vec_items, vec_capacity}
use Rattle.text.proofs.NormValues.{Filled}
use Rattle.text.proofs.decimal.add.Given as goal

abbrev pub invariant-loop-b : goal.invariant-loop-b
invariant-loop-b l = Filled l.base (vec_items l.initial.out) (vec_items l.out) l.digits l.b-index × (vec_capacity l.out ≡ vec_capacity l.initial.out)
