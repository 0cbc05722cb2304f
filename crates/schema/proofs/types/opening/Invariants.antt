use Rattle.std.proofs.Common.{◌-◌, ◌≤◌}
use Rattle.reader.specs.Reading.{Out}
use Rattle.schema.specs.Documents.{Typed}
use Rattle.schema.specs.Reading.{Onward}
use Rattle.schema.specs.Told.{sights}
use Rattle.schema.specs.Types.{ReadsType}
use Rattle.schema.specs.TypeTold.{Wrapped}
use Rattle.schema.proofs.types.opening.Given as goal

-- what the type from here on comes to, in the lists opened so far, the whole comes to
abbrev pub invariant-loop-place : goal.invariant-loop-place
invariant-loop-place l = (l.levels ≤ 8) × Onward 0 l.initial.tokens l.tokens
    × ((q o : Out Typed) → ReadsType (sights l.initial.tokens) (8 - l.levels) l.tokens.at q → Wrapped (sights l.initial.tokens) l.levels q o → ReadsType (sights l.initial.tokens) 8 l.initial.tokens.at o)

abbrev pub decreases-loop-place : goal.decreases-loop-place
decreases-loop-place l = 8 - l.levels
