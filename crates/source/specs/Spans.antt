-- Spans of cursors.
use Rattle.std.specs.Prelude.{◌≡◌, ℕ, ◌-◌, ◌<◌, ◌≤◌, List, Some, None, Option, IfSome}
use Rattle.model.specs.Values.{Raw, Raws, Mems}
use Rattle.source.specs.declared.raw.Span.{Span}
use Rattle.source.specs.Standing.{width, LeadsItems, LeadsMembers}

-- what lies in a value lies after its cursor and before the cursor past it
pub record Within (past at : ℕ) (s : Span) : Type 0 where
  pub narrow : width s ≤ past - at - 1

-- the first cursor of a span, and the rest of it
pub record Taken (past : ℕ) (span : Span) (at : ℕ) (rest : Span) : Type 0 where
  pub first : at ≡ span.from
  pub onward : at < past
  pub from : rest.from ≡ past
  pub to : rest.to ≡ span.to
  pub inside : past ≤ span.to

-- what `next` answers, of the cursor that came and the span that is left
abbrev pub with_rest : Option ℕ → Span → Option (ℕ × Span)
with_rest None rest = None
with_rest (Some at) rest = Some (at, rest)

-- a span handed out the cursor of the first item, or of the first member's value, and the rest is left
pub record Hands (past : ℕ → ℕ) (named : ℕ → List ℕ → Type 0) (stands : ℕ → Raw → Type 0) (items : Span → Raws → Type 0) (members : Span → Mems → Type 0) (span : Span) (r : Option ℕ) (rest : Span) : Type 0 where
  pub taken : IfSome r (λ at. Taken (past at) span at rest)
  pub item : (xs : Raws) → items span xs → LeadsItems stands items xs (with_rest r rest)
  pub field : (ms : Mems) → members span ms → LeadsMembers named stands members ms (with_rest r rest)
