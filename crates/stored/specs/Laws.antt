-- What reading a sheet's bytes promises.
use Rattle.std.specs.Prelude.{◌≡◌, ℕ, ◌≤◌, List, length, Ok, Err, Result}
use Rattle.text.specs.declared.fault.Fault.{Fault}
use Rattle.text.specs.declared.fault.Fault.TheVariants.{NoMemory}
use Rattle.model.specs.Values.{Rmems, r_object, Raw}
use Rattle.model.specs.Records.{encode_mems, DecodesSheet}
use Rattle.model.specs.Back.{Shows}
use Rattle.model.specs.Limits.{RecLimits}
use Rattle.stored.specs.declared.stored.Stored.{Stored}
use Rattle.stored.specs.Outcomes.{Out, got, fails, ReadsSheet}
use Rattle.stored.specs.Told.{Blames}
use Rattle.stored.specs.Cursors.{Held}

-- the bytes are at most 65,536, and those of a sheet within the limits
pub record Within (bytes : List ℕ) (ms : Rmems) : Type 0 where
  pub short : length bytes ≤ 65536
  pub decodes : DecodesSheet bytes ms
  pub within : RecLimits 0 (r_object ms)

-- the bytes are read as a sheet, and as one tree at the root
pub record Accepted (bytes : List ℕ) : Type 0 where
  pub members : Rmems
  pub sheet : Within bytes members
  pub reads : ReadsSheet bytes (got (length bytes) members)
  pub tree : Raw
  pub shows : Shows (r_object members) tree
  pub stands : Held bytes (length bytes) tree
  pub only : (u : Raw) → Held bytes (length bytes) u → tree ≡ u

-- the fault is the first in the bytes, and they are no sheet's within the limits
pub record Refused (bytes : List ℕ) (f : Fault) : Type 0 where
  pub reads : ReadsSheet bytes (fails f)
  pub none : (ms : Rmems) → Within bytes ms → ⊥

abbrev pub StoredTold : List ℕ → Result Stored Fault → Type 0
StoredTold bytes (Ok s) = (s.bytes.now ≡ bytes) × Accepted bytes
StoredTold bytes (Err f) = Blames f (Refused bytes)

-- reading has one outcome
abbrev pub ReadsOnce : Type 0
ReadsOnce = (bytes : List ℕ) (o p : Out Rmems) → ReadsSheet bytes o → ReadsSheet bytes p → o ≡ p

-- what was encoded within the limits is read back
abbrev pub ReadsBack : Type 0
ReadsBack = (ms : Rmems) → RecLimits 0 (r_object ms) → length (encode_mems ms) ≤ 65536 → ReadsSheet (encode_mems ms) (got (length (encode_mems ms)) ms)

-- and only want of memory can keep it from being accepted
abbrev pub AcceptsBack : Type 0
AcceptsBack = (ms : Rmems) → RecLimits 0 (r_object ms) → length (encode_mems ms) ≤ 65536 → (f : Fault) → StoredTold (encode_mems ms) (Err f) → f ≡ NoMemory
