-- What is asked of a source: one finite tree at a cursor, and where its items and members stand.
use Rattle.std.specs.Prelude.{◌≡◌, ℕ, ◌-◌, ◌<◌, Bool, true, false, List, Some, None, Option}
use mathlib.Core.Option.{none, some}
use Rattle.model.specs.Values.{Raw, Raws, Mems, nil, cons, end, mem}
use Rattle.model.specs.Limits.{RawLimits}
use Rattle.text.specs.declared.decimal.Scale.{Scale}
use Rattle.source.specs.declared.raw.Span.{Span}
use Rattle.source.specs.Heads.{negative_of, exponent_of}

-- how many cursors a span may still hand out
abbrev pub width : Span → ℕ
width s = s.to - s.from

-- what every source owes: one tree at a cursor, within the limits (depth, names, numbers, UTF-8, no name twice)
pub record Lawful {S : Type 0} (stands : S → ℕ → Raw → Type 0) : Type 0 where
  pub one : (s : S) (at : ℕ) (t u : Raw) → stands s at t → stands s at u → t ≡ u
  pub within : (s : S) (at : ℕ) (t : Raw) → stands s at t → RawLimits 0 t

-- a span becomes narrower with each cursor that it hands out
abbrev pub Shrinks : Span → Option (ℕ × Span) → Type 0
Shrinks span None = Unit {0}
Shrinks span (Some p) = width p.1 < width span

-- the cursor of the first item, and the span of the others
abbrev pub LeadsItems : (ℕ → Raw → Type 0) → (Span → Raws → Type 0) → Raws → Option (ℕ × Span) → Type 0
LeadsItems stands items nil None = Unit {0}
LeadsItems stands items nil (Some p) = ⊥
LeadsItems stands items (cons x xs) None = ⊥
LeadsItems stands items (cons x xs) (Some p) = stands p.0 x × items p.1 xs

-- the cursor of the first member's value, which has the member's name, and the span of the others
abbrev pub LeadsMembers : (ℕ → List ℕ → Type 0) → (ℕ → Raw → Type 0) → (Span → Mems → Type 0) → Mems → Option (ℕ × Span) → Type 0
LeadsMembers named stands members end None = Unit {0}
LeadsMembers named stands members end (Some p) = ⊥
LeadsMembers named stands members (mem n x ms) None = ⊥
LeadsMembers named stands members (mem n x ms) (Some p) = named p.0 n × stands p.0 x × members p.1 ms

-- the cursor of the value that a member of the name has
abbrev pub Found : (ℕ → Raw → Type 0) → mathlib.Core.Option.Option Raw → Option ℕ → Type 0
Found stands none None = Unit {0}
Found stands none (Some c) = ⊥
Found stands (some x) None = ⊥
Found stands (some x) (Some c) = stands c x

-- whether there is a value
abbrev pub is_there : mathlib.Core.Option.Option Raw → Bool
is_there none = false
is_there (some x) = true

-- sign and exponent of a decimal
pub record Scaled (t : Raw) (s : Scale) : Type 0 where
  pub negative : s.negative ≡ negative_of t
  pub exponent : s.exponent ≡ exponent_of t
