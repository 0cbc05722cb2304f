use Rattle.std.proofs.Common.{◌≡◌, ◌-◌, ◌≤◌, length}
use Rattle.schema.specs.Reading.{Onward}
use Rattle.schema.specs.Told.{sights}
use Rattle.schema.proofs.TypeSteps.{Outer, kept}
use Rattle.schema.proofs.types.read_type.Given as goal

-- so many lists are closed: what the type so far comes to in the others, the whole comes to
abbrev pub invariant-loop-level : goal.invariant-loop-level
invariant-loop-level l = (length l.non_null ≡ 9) × (l.levels ≤ 8) × (l.level ≤ l.levels) × Onward 1 l.fn.tokens l.tokens
    × Outer (sights l.fn.tokens) l.fn.tokens.at (l.levels - l.level) l.tokens.at (kept l.non_null l.name l.place l.level)
