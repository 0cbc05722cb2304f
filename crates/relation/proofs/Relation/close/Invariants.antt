use Rattle.std.proofs.Common.{◌≡◌, ℕ, true, vec_len}
use Rattle.model.specs.Paths.{Row}
use Rattle.relation.specs.Relating.{leads}
use Rattle.relation.proofs.Relation.close.Given as goal

abbrev pub invariant-loop-through : goal.invariant-loop-through
invariant-loop-through l =
    (vec_len l.self.rows ≡ vec_len l.initial.self.rows)
    × ((i : ℕ) → Row (λ a b. leads l.initial.self.rows.items a b ≡ true) l.through i (leads l.self.rows.items i))
