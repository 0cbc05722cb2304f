-- The rows of a table that stand in a span.
use Rattle.std.specs.Prelude.{ℕ, zero, suc, ◌-◌, ◌&&◌, cond, List, [], ◌∷◌, length, take, drop, nat_le}
use Rattle.source.specs.declared.raw.Span.{Span}
use Rattle.schema.specs.declared.definition.TypeDef.{TypeDef}

-- none where the span does not stand in the table
abbrev pub rows_in : {A : Type 0} → List A → Span → List A
rows_in xs s = cond (nat_le s.from s.to && nat_le s.to (length xs)) (take (s.to - s.from) (drop s.from xs)) []

-- where the values or fields of the type with that index stand; of none nowhere
abbrev pub inside_at : List TypeDef → ℕ → Span
inside_at [] k = record { from = 0; to = 0 }
inside_at (t ∷ ts) zero = t.inside
inside_at (t ∷ ts) (suc k) = inside_at ts k
