use Rattle.std.proofs.Common.{◌≡◌, ℕ, ◌+◌, ◌-◌, ◌*◌, ◌<◌, ◌≤◌, length}
use Rattle.cases.proofs.value.+add.Given as goal

-- proposed from what the function passes where it calls itself
abbrev pub decreases-add : goal.decreases-add
decreases-add g l = l.levels

abbrev pub invariant-loop-index : goal.invariant-loop-index
invariant-loop-index g l =
    (goal.iterator-loop-index g).can_next l.index-iterator ×
    (goal.iterator-loop-index g).is_finite l.index-iterator

abbrev pub invariant-loop-index-2 : goal.invariant-loop-index-2
invariant-loop-index-2 g l =
    (goal.iterator-loop-index-2 g).can_next l.index-iterator ×
    (goal.iterator-loop-index-2 g).is_finite l.index-iterator
