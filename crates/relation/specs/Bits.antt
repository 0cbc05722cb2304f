-- A set of numbers as words of 64 bits.
use Rattle.std.specs.Prelude.{ℕ, ◌/◌, ◌%◌, Bool, List, get_or, ◌==◌}
use Rattle.std.specs.Int.{bit_at}

-- whether a number is in the set
abbrev pub bit : List ℕ → ℕ → Bool
bit words j = bit_at (get_or words (j / 64) 0) (j % 64) == 1
