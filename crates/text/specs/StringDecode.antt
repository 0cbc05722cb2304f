-- What the functions on characters and strings promise.
use Rattle.std.specs.Prelude.{◌≡◌, ℕ, ◌+◌, ◌-◌, ◌<◌, ◌≤◌, Bool, true, false, ◌≢◌, List, ◌++◌, length, take, drop, Some, None, Ok, Err, Option, Result, slice_index}
use Rattle.std.proofs.Math.Utf8.{encode, encodes}
use Rattle.std.specs.Char.{digit_value}
use Rattle.std.specs.Int.{IsInRange}
use Rattle.text.specs.declared.fault.Fault.{Fault}
use Rattle.text.specs.declared.fault.Fault.TheVariants.{BadText, TooDeep, NoSpace, RepeatedName, LongNumber, NoMemory}
use Rattle.text.specs.declared.language.Language.{Language}
use Rattle.text.specs.StringGrammar.{Hex4, Low, Char, Reads, Chars}
use Rattle.text.specs.Cuts.{part}

-- at `at` stands an x of R that ends at `next`, and nothing else of R does
pub record Exactly {X : Type 0} (R : List ℕ → X → List ℕ → Type 0) (text : List ℕ) (at : ℕ) (x : X) (next : ℕ) : Type 0 where
  pub forward : at < next
  pub within : next ≤ length text
  pub reads : R (drop at text) x (drop next text)
  pub only : (y : X) (r : List ℕ) → R (drop at text) y r → (x ≡ y) × (drop next text ≡ r)

-- nothing of R stands at `at`
abbrev pub Nothing : {X : Type 0} (R : List ℕ → X → List ℕ → Type 0) (text : List ℕ) (at : ℕ) → Type 0
Nothing {X} R text at = (y : X) (r : List ℕ) → R (drop at text) y r → ⊥

-- the character of R that stands at `at`, and where it ends; or that none does
abbrev pub Told : (R : List ℕ → ℕ → List ℕ → Type 0) (text : List ℕ) (at : ℕ) → Option (ℕ × ℕ) → Type 0
Told R text at None = Nothing R text at
Told R text at (Some r) = Exactly R text at r.0 r.1

-- the value of a hexadecimal digit, or that b is none
abbrev pub HexTold : ℕ → Option ℕ → Type 0
HexTold b None = 16 ≤ digit_value b
HexTold b (Some v) = (v ≡ digit_value b) × (v < 16)

-- the value of the four digits at the front, or that none stand there
abbrev pub Hex4Told : List ℕ → Option ℕ → Type 0
Hex4Told text None = Nothing Hex4 text 0
Hex4Told text (Some u) = (u < 65536) × Exactly Hex4 text 0 u 4

-- the low surrogate whose escape stands at the front, or that none does
abbrev pub LowTold : List ℕ → Option ℕ → Type 0
LowTold text None = Nothing Low text 0
LowTold text (Some u) = Exactly Low text 0 u 6 × IsInRange 56320 57343 u

-- the string at `at` ends before `end`, and `plain` says whether its bytes have no backslash
pub record Scanned (language : Language) (text : List ℕ) (at end : ℕ) (plain : Bool) : Type 0 where
  pub chars : List ℕ
  pub stands : Exactly (Reads language) text at chars end
  pub inside : Chars language (part text at (end - 1)) chars
  pub clear : plain ≡ true → (k : ℕ) → at ≤ k → k + 1 < end → slice_index text k ≢ 92
  pub escaped : plain ≡ false → (k : ℕ) × (at ≤ k) × (k + 1 < end) × (slice_index text k ≡ 92)
  pub same : plain ≡ true → part text at (end - 1) ≡ encodes chars

-- the string that stands at `at`, or that none does
abbrev pub ScanTold : Language → List ℕ → ℕ → Option (ℕ × Bool) → Type 0
ScanTold language text at None = Nothing (Reads language) text at
ScanTold language text at (Some r) = Scanned language text at r.0 r.1

-- the UTF-8 of the characters that raw writes was added
pub record Decoded (language : Language) (raw before after : List ℕ) : Type 0 where
  pub chars : List ℕ
  pub writes : Chars language raw chars
  pub only : (cs : List ℕ) → Chars language raw cs → chars ≡ cs
  pub added : after ≡ before ++ encodes chars

-- k is the place of the first character that cannot be read
pub record Broken (language : Language) (raw : List ℕ) (k : ℕ) : Type 0 where
  pub chars : List ℕ
  pub within : k < length raw
  pub front : Chars language (take k raw) chars
  pub stops : Nothing (Char language) raw k
  pub refused : (cs : List ℕ) → Chars language raw cs → ⊥

-- what decoding comes to: where it fails, `after` is as `before`
abbrev pub DecodeTold : Language → (raw before after : List ℕ) → Result Unit Fault → Type 0
DecodeTold language raw before after (Ok u) = Decoded language raw before after
DecodeTold language raw before after (Err (BadText k)) = Broken language raw k × (after ≡ before)
DecodeTold language raw before after (Err NoMemory) = after ≡ before
DecodeTold language raw before after (Err (TooDeep k)) = ⊥
DecodeTold language raw before after (Err (NoSpace k)) = ⊥
DecodeTold language raw before after (Err (RepeatedName k)) = ⊥
DecodeTold language raw before after (Err (LongNumber k)) = ⊥

-- `before` with more bytes after it
pub record Extended (before after : List ℕ) : Type 0 where
  pub more : List ℕ
  pub is : after ≡ before ++ more

-- what adding comes to: where it fails, some bytes may follow `before`
abbrev pub AddTold : Language → (raw before after : List ℕ) → Result Unit Fault → Type 0
AddTold language raw before after (Ok u) = Decoded language raw before after
AddTold language raw before after (Err (BadText k)) = Broken language raw k × Extended before after
AddTold language raw before after (Err NoMemory) = Extended before after
AddTold language raw before after (Err (TooDeep k)) = ⊥
AddTold language raw before after (Err (NoSpace k)) = ⊥
AddTold language raw before after (Err (RepeatedName k)) = ⊥
AddTold language raw before after (Err (LongNumber k)) = ⊥

-- the UTF-8 of c was added, or there was no memory
abbrev pub PutTold : ℕ → (before after : List ℕ) → Result Unit Fault → Type 0
PutTold c before after (Ok u) = after ≡ before ++ encode c
PutTold c before after (Err f) = (f ≡ NoMemory) × (after ≡ before)
