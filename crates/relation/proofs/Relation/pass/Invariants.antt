use Rattle.std.proofs.Common.{◌≡◌, ℕ, vec_len}
use Rattle.relation.specs.Bits.{bit}
use Rattle.relation.specs.Relating.{leads}
use Rattle.relation.proofs.Rows.{Passed}
use Rattle.relation.proofs.Relation.pass.Given as goal

abbrev pub invariant-loop-number : goal.invariant-loop-number
invariant-loop-number l =
    (vec_len l.self.rows ≡ vec_len l.initial.self.rows)
    × ((j : ℕ) → bit l.pivot.words j ≡ leads l.initial.self.rows.items l.through j)
    × Passed l.initial.self.rows.items l.through l.number l.self.rows.items
