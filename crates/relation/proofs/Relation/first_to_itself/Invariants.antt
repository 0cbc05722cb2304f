use Rattle.std.proofs.Common.{◌≡◌, ℕ, ◌<◌, false}
use Rattle.relation.specs.Relating.{leads}
use Rattle.relation.proofs.Relation.first_to_itself.Given as goal

abbrev pub invariant-loop-number : goal.invariant-loop-number
invariant-loop-number l = (i : ℕ) → i < l.number → leads l.self.rows.items i i ≡ false
