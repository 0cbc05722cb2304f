-- Records in a sheet's bytes.
use Rattle.std.specs.Prelude.{◌≡◌, ◌≢◌, ℕ, ◌+◌, ◌^◌, ◌<◌, ◌≤◌, List, ◌++◌, length, drop, Some, None, Option}
use Rattle.model.specs.Records.{framed}
use Rattle.stored.specs.declared.header.Record.{Record}

-- where a record at i with the body b ends
abbrev pub past : ℕ → List ℕ → ℕ
past i b = i + (6 + length b)

-- a record of kind k with the body b stands at i, and ends no later than `to`
pub record Framed (bytes : List ℕ) (i to k : ℕ) (b : List ℕ) : Type 0 where
  pub rest : List ℕ
  pub there : drop i bytes ≡ framed k b ++ rest
  pub small : length b < 2 ^ 32
  pub within : past i b ≤ to

-- from i to e stand the bytes xs
pub record Fills (bytes : List ℕ) (i e : ℕ) (xs : List ℕ) : Type 0 where
  pub there : drop i bytes ≡ xs ++ drop e bytes
  pub ends : e ≡ i + length xs

-- no record stands at i that ends there
abbrev pub Unframed : List ℕ → ℕ → ℕ → Type 0
Unframed bytes i to = (k : ℕ) (b : List ℕ) → Framed bytes i to k b → ⊥

-- where a record ends that was found
abbrev pub end_of : Record → ℕ
end_of h = h.from + length h.body.now

-- h is the record at i
pub record RecordAt (bytes : List ℕ) (i to : ℕ) (h : Record) : Type 0 where
  pub framed : Framed bytes i to h.kind h.body.now
  pub starts : h.from ≡ i + 6

abbrev pub RecordTold : List ℕ → ℕ → ℕ → Option Record → Type 0
RecordTold bytes i to None = Unframed bytes i to
RecordTold bytes i to (Some h) = RecordAt bytes i to h

-- what starts at i is an item, or a member with its name: the place of its value's record, and the record
pub data Valued (bytes : List ℕ) (i to : ℕ) : ℕ → Record → Type 0 where
  an_item : {h : Record} → RecordAt bytes i to h → h.kind ≢ 8 → Valued bytes i to i h
  a_member : {g h : Record} → RecordAt bytes i to g → g.kind ≡ 8 → RecordAt bytes (end_of g) to h → Valued bytes i to (end_of g) h

-- nothing starts at i, or a name with no value after it
pub data Valueless (bytes : List ℕ) (i to : ℕ) : Type 0 where
  no_record : Unframed bytes i to → Valueless bytes i to
  bare_name : {g : Record} → RecordAt bytes i to g → g.kind ≡ 8 → Unframed bytes (end_of g) to → Valueless bytes i to

abbrev pub ValuedTold : List ℕ → ℕ → ℕ → Option (ℕ × Record) → Type 0
ValuedTold bytes i to None = Valueless bytes i to
ValuedTold bytes i to (Some p) = Valued bytes i to p.0 p.1
