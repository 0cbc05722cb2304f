-- The first place of a name in a list of names.
use Rattle.std.specs.Prelude.{◌≡◌, ℕ, ◌<◌, List, [], length, Some, None, Option, ◌≢◌, slice_index_or}

-- none of the names before k is the name
abbrev pub NotBefore : List (List ℕ) → List ℕ → ℕ → Type 0
NotBefore names name n = (k : ℕ) → k < n → slice_index_or names k [] ≢ name

-- the first index at which the name stands, or none where it stands nowhere
abbrev pub First : List (List ℕ) → List ℕ → Option ℕ → Type 0
First names name None = NotBefore names name (length names)
First names name (Some i) = (i < length names) × (slice_index_or names i [] ≡ name) × NotBefore names name i

-- no name stands twice
abbrev pub Distinct : List (List ℕ) → Type 0
Distinct names = (j k : ℕ) → j < length names → k < length names → slice_index_or names j [] ≡ slice_index_or names k [] → j ≡ k

-- the name stands at the number and nowhere else, or nowhere at all
abbrev pub Only : List (List ℕ) → List ℕ → Option ℕ → Type 0
Only names name None = NotBefore names name (length names)
Only names name (Some i) = (i < length names) × (slice_index_or names i [] ≡ name) × ((k : ℕ) → k < length names → slice_index_or names k [] ≡ name → k ≡ i)
