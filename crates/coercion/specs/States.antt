-- The states of a walk by turns: what the open records stand for, what is written, and what the walk comes to.
use Rattle.std.specs.Prelude.{◌≡◌, ℕ, suc, ◌+◌, true, List, [], ◌∷◌, ◌++◌, length}
use Rattle.std.proofs.Math.Option.{Option, none, some}
use Rattle.model.specs.Values.{Name, place_of, Rec}
use Rattle.model.specs.Records.{encode, size}
use Rattle.model.specs.Refusals.{Out, ok, and_then}
use Rattle.model.specs.Coercion.{Rule}
use Rattle.coercion.specs.Levels.{Setting, Opens, whole, holds, fails, Rest, items, kept, members, fields, Level, Coming, lead_of, lead_bytes, taking, after, resume, coming_at, written_at, Starts}

-- a member has a name, an item has none
abbrev pub Takes : Option Name → Rest → Type 0
Takes none (items rs t xs) = Unit {0}
Takes none (kept rs xs) = Unit {0}
Takes none (members rs ms) = ⊥
Takes none (fields rs ms fs) = ⊥
Takes (some n) (items rs t xs) = ⊥
Takes (some n) (kept rs xs) = ⊥
Takes (some n) (members rs ms) = Unit {0}
Takes (some n) (fields rs ms fs) = Unit {0}

-- each record takes the one above it, and the outermost has the name
abbrev pub Chained : Option Name → Option Name → List Level → Type 0
Chained name n [] = n ≡ name
Chained name n (m ∷ ms) = Takes n m.rest × Chained name m.name ms

-- the innermost record may go on
pub record Going (W : Setting) (base : List ℕ) (name : Option Name) (outcome : Out Rec) (m : Level) (ms : List Level) (out : List ℕ) : Type 0 where
  pub result : resume W m ms (length out) ≡ outcome
  pub bytes : out ≡ written_at base (m ∷ ms)
  pub starts : Starts base (m ∷ ms)
  pub chained : Chained name m.name ms

-- the outermost record is whole
pub record Ended (base : List ℕ) (name : Option Name) (outcome : Out Rec) (out : List ℕ) : Type 0 where
  pub answer : Rec
  pub result : outcome ≡ ok answer
  pub bytes : out ≡ base ++ (lead_bytes name ++ encode answer)

-- between two turns
abbrev pub Turned : Setting → List ℕ → Option Name → Out Rec → List Level → List ℕ → Type 0
Turned W base name outcome [] out = Ended base name outcome out
Turned W base name outcome (m ∷ ms) out = Going W base name outcome m ms out

-- a value is to be opened in the innermost record
pub record Pending (W : Setting) (base : List ℕ) (name : Option Name) (outcome : Out Rec) (c : Coming) (ms : List Level) (out : List ℕ) : Type 0 where
  pub result : and_then (coming_at W c (suc (length ms)) (length out)) (λ r. after W c.name ms r (length out + (lead_of c.name + size r))) ≡ outcome
  pub bytes : out ≡ written_at base ms
  pub starts : Starts base ms
  pub chained : Chained name c.name ms

-- the innermost record takes another, if there is one
abbrev pub delivered : Option Name → Rec → List Level → List Level
delivered n r [] = []
delivered n r (m ∷ ms) = taking n r m ∷ ms

-- the rule takes the record, where it is asked
abbrev pub Passed : Rule → Option Name → Rec → Type 0
Passed R none r = Unit {0}
Passed R (some n) r = R n (encode r) ≡ true

-- the record of a value that is opened
abbrev pub level_of : Coming → ℕ → Option Name → Rest → Level
level_of c used a x = record { bound = c.bound; form = c.form; here = c.here; name = c.name; start = used + lead_of c.name; at = place_of c.raw; asks = a; rest = x }

-- the record that goes on with that
abbrev pub going_on : Level → Rest → Level
going_on m x = record { bound = m.bound; form = m.form; here = m.here; name = m.name; start = m.start; at = m.at; asks = m.asks; rest = x }

-- the tests of a value let it be opened
abbrev pub Opened : Opens → Type 0
Opened (whole r a) = Unit {0}
Opened (holds x a) = Unit {0}
Opened (fails u at) = ⊥

-- how many bytes are opened, without the name
abbrev pub opened_size : Opens → ℕ
opened_size (whole r a) = size r
opened_size (holds x a) = 6
opened_size (fails u at) = 0
