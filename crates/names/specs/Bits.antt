-- The hash of a name (FNV-1a, folded), and the bits by which the search branches.
use Rattle.std.specs.Prelude.{ℕ, ◌-◌, ◌*◌, ◌/◌, ◌%◌, ◌^◌, Bool, cond, List, fold, ◌==◌, bit_xor, nat_lt, slice_index}

-- one more byte in the hash
abbrev pub mix : ℕ → ℕ → ℕ
mix h b = (bit_xor h b * 16777619) % 2 ^ 32

-- the hash of all bytes, its high half mixed into its low half
unfoldable pub name_hash : List ℕ → ℕ
name_hash bytes = let h = fold mix 2166136261 bytes in bit_xor h (h / 2 ^ 16)

-- whether bit k of a number is 1
abbrev pub is_set : ℕ → ℕ → Bool
is_set n k = n / 2 ^ k % 2 == 1

-- the side on which a name goes on at a level: by the bits of its hash, then by those of its bytes
unfoldable pub bit_of : ℕ → List ℕ → ℕ → Bool
bit_of h n level = cond (nat_lt level 32) (is_set h level) (is_set (slice_index n ((level - 32) / 8)) ((level - 32) % 8))
