-- Parts of a text.
use Rattle.std.specs.Prelude.{ℕ, ◌-◌, ◌<◌, ◌≤◌, Bool, true, false, List, length, take, drop, slice_index}

-- the bytes of the text from i on, before j; none where i is past the end
abbrev pub part : List ℕ → ℕ → ℕ → List ℕ
part text i j = take (j - i) (drop i text)

-- the test is true of the first n bytes, and false of the next, if there is one
pub record Front (Tests : ℕ → Bool → Type 0) (text : List ℕ) (n : ℕ) : Type 0 where
  pub within : n ≤ length text
  pub all : (k : ℕ) → k < n → Tests (slice_index text k) true
  pub stops : n < length text → Tests (slice_index text n) false
