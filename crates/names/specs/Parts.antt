-- Parts of a text and of a pool, and their bytes.
use Rattle.std.specs.Prelude.{ℕ, ◌≤◌, List, [], length, Some, None, Option}
use Rattle.text.specs.Cuts.{part}
use Rattle.names.specs.declared.part.Part.{Part}
use Rattle.names.specs.declared.part.Part.TheVariants.{Text, Pool}

-- where a part starts and ends
abbrev pub start_of : Part → ℕ
start_of (Text i j) = i
start_of (Pool i j) = i

abbrev pub end_of : Part → ℕ
end_of (Text i j) = j
end_of (Pool i j) = j

-- the bytes that a part lies in
abbrev pub lies_in : List ℕ → List ℕ → Part → List ℕ
lies_in text pool (Text i j) = text
lies_in text pool (Pool i j) = pool

-- a part stands where it starts no later than it ends, and ends within the bytes
abbrev pub PartFits : List ℕ → List ℕ → Part → Type 0
PartFits text pool p = (start_of p ≤ end_of p) × (end_of p ≤ length (lies_in text pool p))

-- the bytes of a part
abbrev pub bytes_of : List ℕ → List ℕ → Part → List ℕ
bytes_of text pool p = part (lies_in text pool p) (start_of p) (end_of p)

-- a part fits, if there is one
abbrev pub MayFit : List ℕ → List ℕ → Option Part → Type 0
MayFit text pool None = Unit {0}
MayFit text pool (Some p) = PartFits text pool p

-- the bytes of a part, if there is one, and else none
abbrev pub bytes_if_any : List ℕ → List ℕ → Option Part → List ℕ
bytes_if_any text pool None = []
bytes_if_any text pool (Some p) = bytes_of text pool p
