-- The open records of a walk.
use Rattle.std.specs.Prelude.{ℕ, ◌+◌, ◌-◌, ◌≤◌, Bool, true, false, List, length, None, Some, Option}
use Rattle.std.specs.List.{All}
use Rattle.record.specs.declared.working.Working.{Working}
use Rattle.record.specs.Held.{size}
use Rattle.coercion.specs.declared.frames.Within.{Within}
use Rattle.coercion.specs.declared.frames.Within.TheVariants.{Outside, Field, Default}
use Rattle.coercion.specs.declared.frames.Frame.{Frame}

-- the header of each open record is written
abbrev pub Rooted : ℕ → List Frame → Type 0
Rooted u fs = All (λ f. f.start + 6 ≤ u) fs

-- they are at most as many as a value is deep
pub record Stacked (u : ℕ) (fs : List Frame) : Type 0 where
  pub shallow : length fs ≤ 32
  pub rooted : Rooted u fs

-- the bytes that are free, and the records that are open
abbrev pub left : Working → List Frame → ℕ
left w fs = (size w - w.used) + length fs

-- the innermost input field that a value is in, and whether it is in a default of the schema
abbrev pub field_in : Within → Option ℕ
field_in Outside = None
field_in (Field k) = Some k
field_in (Default k) = Some k

abbrev pub default_in : Within → Bool
default_in Outside = false
default_in (Field k) = false
default_in (Default k) = true
