-- What a relation relates.
use Rattle.std.specs.Prelude.{◌≡◌, ℕ, ◌<◌, Bool, true, false, List, [], Option, MatchOption, slice_index_or}
use Rattle.relation.specs.declared.row.Row.{Row}
use Rattle.relation.specs.Bits.{bit}

-- whether a number leads to another, by their rows
abbrev pub leads : List Row → ℕ → ℕ → Bool
leads rows i j = bit (slice_index_or rows i (record { words = [] })).words j

-- the first number of which P is true, or none
abbrev pub First : (ℕ → Bool) → Option ℕ → Type 0
First P o = MatchOption o ((i : ℕ) → P i ≡ false) (λ n. (P n ≡ true) × ((i : ℕ) → i < n → P i ≡ false))
