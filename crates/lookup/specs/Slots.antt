-- A hash table of numbers, with open addressing: at each slot the number of a name, or nothing.
use Rattle.std.specs.Prelude.{◌≡◌, ℕ, ◌+◌, ◌*◌, ◌%◌, ◌^◌, ◌<◌, ◌≤◌, List, [], Some, None, Option, ◌≢◌, bit_xor, slice_index_or}
use Rattle.std.specs.List.{fold}
use Rattle.lookup.specs.First.{First}
use Rattle.lookup.specs.declared.index.Probe.{Probe}
use Rattle.lookup.specs.declared.index.Probe.TheVariants.{Held, Vacant, Full}

-- FNV-1a, at 32 bits
abbrev pub mix : ℕ → ℕ → ℕ
mix h b = (bit_xor h b * 16777619) % 2 ^ 32

-- the hash of a name
unfoldable pub name_hash : List ℕ → ℕ
name_hash name = fold mix 2166136261 name

-- the slot, of so many, at which the search for a name is after some steps
abbrev pub slot_at : ℕ → List ℕ → ℕ → ℕ
slot_at slots name step = (name_hash name + step) % 2 ^ 64 % slots

-- the number at a slot
abbrev pub at_slot : List (Option ℕ) → ℕ → Option ℕ
at_slot slots slot = slice_index_or slots slot None

-- each number is that of the first place of its name
abbrev pub Sound : List (List ℕ) → List (Option ℕ) → Type 0
Sound names slots = (slot n : ℕ) → at_slot slots slot ≡ Some n → First names (slice_index_or names n []) (Some n)

-- the first of so many slots that the search for a name meets hold numbers of other names
abbrev pub Passed : ℕ → List (List ℕ) → List (Option ℕ) → List ℕ → ℕ → Type 0
Passed many names slots name steps = (t : ℕ) → t < steps → (n : ℕ) × (at_slot slots (slot_at many name t) ≡ Some n) × (slice_index_or names n [] ≢ name)

-- the search for a name meets it after some steps, or meets no empty slot
pub record Reached (many : ℕ) (names : List (List ℕ)) (slots : List (Option ℕ)) (name : List ℕ) : Type 0 where
  pub steps : ℕ
  pub filled : (t : ℕ) → t < steps → at_slot slots (slot_at many name t) ≢ None
  pub ends : steps < many → (n : ℕ) × (at_slot slots (slot_at many name steps) ≡ Some n) × (slice_index_or names n [] ≡ name)
  pub most : steps ≤ many

-- how a search ends: at a number of the name, at the first empty slot, or after all slots
abbrev pub ProbeTold : ℕ → List (List ℕ) → List (Option ℕ) → List ℕ → Probe → Type 0
ProbeTold many names slots name (Held n) = (steps : ℕ) × (steps < many) × Passed many names slots name steps × (at_slot slots (slot_at many name steps) ≡ Some n) × (slice_index_or names n [] ≡ name)
ProbeTold many names slots name (Vacant slot) = (steps : ℕ) × (steps < many) × Passed many names slots name steps × (slot ≡ slot_at many name steps) × (at_slot slots slot ≡ None)
ProbeTold many names slots name Full = Passed many names slots name many
