-- Where what stands at a cursor ends, as the bytes of the headers say.
use Rattle.std.specs.Prelude.{ℕ, ◌+◌, ◌*◌, cond, List, length, get_or, ◌==◌}

-- the length of the body, as the header at i has it
abbrev pub size_at : List ℕ → ℕ → ℕ
size_at bytes i = get_or bytes i 0 + get_or bytes (i + 1) 0 * 256 + get_or bytes (i + 2) 0 * 65536 + get_or bytes (i + 3) 0 * 16777216

-- the kind, as the header at i has it
abbrev pub kind_at : List ℕ → ℕ → ℕ
kind_at bytes i = get_or bytes (i + 4) 0

-- where the record at i ends
unfoldable pub end_at : List ℕ → ℕ → ℕ
end_at bytes i = i + 6 + size_at bytes i

-- the cursor past an item, or past a member with its name; that past the whole tree leaves room for as many cursors as there are bytes
unfoldable pub past_at : List ℕ → ℕ → ℕ
past_at bytes at = cond (at == length bytes) (at + 1 + length bytes) (cond (kind_at bytes at == 8) (end_at bytes (end_at bytes at)) (end_at bytes at))
