-- What the functions that read a type promise.
use Rattle.std.specs.Prelude.{◌≡◌, ℕ, zero, suc, ◌-◌, ◌≤◌, Bool, true, false, Ok, Err, Result}
use Rattle.text.specs.declared.fault.Fault.{Fault}
use Rattle.text.specs.TokenGrammar.{bang, open_bracket}
use Rattle.reader.specs.Tokens.{Sight}
use Rattle.reader.specs.Reading.{Out, fails, sees_mark}
use Rattle.reader.specs.Told.{Blames}
use Rattle.schema.specs.declared.tokens.Tokens.{Tokens}
use Rattle.schema.specs.declared.types.«Type».{«Type» as TypeIn}
use Rattle.schema.specs.Documents.{Typed}
use Rattle.schema.specs.Holds.{typed_of}
use Rattle.schema.specs.Outcomes.{Goes, Gives, IfMark}
use Rattle.schema.specs.Reading.{Onward}
use Rattle.schema.specs.Told.{sights}
use Rattle.schema.specs.Types.{ReadsType, ReadsEnd}

-- the type that the program keeps is the one written
abbrev pub TypeIs : {B : Type 0} → TypeIn B → Typed → Type 0
TypeIs t x = typed_of t ≡ x

-- a `!`, if it comes next
abbrev pub ReadsBang : (ℕ → Sight → Type 0) → ℕ → Out Bool → Type 0
ReadsBang N = IfMark N bang (λ s. Gives true) (Gives false)

-- what q comes to once k lists around it are closed
abbrev pub Wrapped : (ℕ → Sight → Type 0) → ℕ → Out Typed → Out Typed → Type 0
Wrapped N zero q o = q ≡ o
Wrapped N (suc k) q o = (r : Out Typed) × Goes (ReadsEnd N) q r × Wrapped N k r o

-- k lists are opened, and no other is opened now: what the type in them comes to, the whole comes to
pub record Opened (old new : Tokens) (k : ℕ) : Type 0 where
  pub few : k ≤ 8
  pub onward : Onward 0 old new
  pub inner : (q o : Out Typed) → ReadsType (sights old) (8 - k) new.at q → Wrapped (sights old) k q o → ReadsType (sights old) 8 old.at o
  pub sight : Sight
  pub seen : sights old new.at sight
  pub other : sees_mark open_bracket sight ≡ false

abbrev pub OpeningTold : Tokens → Tokens → Result ℕ Fault → Type 0
OpeningTold old new (Ok k) = Opened old new k
OpeningTold old new (Err f) = Blames f (λ g. ReadsType (sights old) 8 old.at (fails g))
