-- Places that may be there.
use Rattle.std.specs.Prelude.{ℕ, Some, None, Option, min}

-- the lesser of two, or the one that is there
abbrev pub lesser : Option ℕ → Option ℕ → Option ℕ
lesser None b = b
lesser (Some x) None = Some x
lesser (Some x) (Some y) = Some (min x y)
