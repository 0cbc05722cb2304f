-- What the sources of raw values agree on.
use Rattle.std.specs.Prelude.{◌≡◌, ℕ, ◌≤◌, List, length}
use Rattle.std.proofs.Math.Option.{some}
use Rattle.model.specs.Values.{Form, Raw, Ty, Schema, Variable, Rmems, r_object}
use Rattle.model.specs.Records.{encode_mems}
use Rattle.model.specs.Refusals.{ok, Here}
use Rattle.model.specs.Coercion.{Rule, coerce_at, sheet_of}
use Rattle.model.specs.Walk.{walk_at}
use Rattle.model.specs.Back.{Shows}
use Rattle.model.specs.Limits.{RecLimits, SchemaLimits, VariableLimits}
use Rattle.model.specs.Calls.{Sheet, State, Call, load, bytes_of, answer, run}
use Rattle.model.specs.Laws.{AllSourced}
use Rattle.model.specs.Twins.{Twin, SameOut, slots_given, slots_kept}
use Rattle.stored.specs.Cursors.{Held}
use Rattle.stored.specs.Laws.{Within}
use Rattle.agreement.specs.Inputs.{Input, json_text, sheet_bytes, form_of, Says, Agree, Request, CallsOf, AgreeAll}

-- two values have the same outcome but for the places of refusals: coerced at a type, walked within the limits, and loaded, in any one form
pub record SameOutcome (x y : Raw) : Type 0 where
  pub coerced : (k : ℕ) (S : Schema) (R : Rule) (p : Form) (h : Here) (t : Ty) → SameOut (coerce_at k S R p h x t) (coerce_at k S R p h y t)
  pub walked : (k : ℕ) (S : Schema) (R : Rule) (cap : ℕ) (p : Form) (h : Here) (t : Ty) (depth used lead : ℕ)
      → SameOut (walk_at k S R cap p h x t depth used lead) (walk_at k S R cap p h y t depth used lead)
  pub loaded : (k : ℕ) (S : Schema) (R : Rule) (cap : ℕ) (p : Form) (vs : List Variable) (st : State)
      → SameOut (slots_given (answer k S R cap vs st (load p x))) (slots_given (answer k S R cap vs st (load p y)))

-- an input says one value at most; inputs that say the same but for places have the same outcome in one form,
-- so where their forms are the same they leave the same slots, loaded and over runs of requests
pub record SourcesAgree : Type 0 where
  pub said : (a : Input) (x y : Raw) → Says a x → Says a y → x ≡ y
  pub outcome : (a b : Input) (x y : Raw) → Says a x → Says b y → Twin x y → SameOutcome x y
  pub loaded : (a b : Input) → Agree a b → (x y : Raw) → Says a x → Says b y → (k : ℕ) (S : Schema) (R : Rule) (cap : ℕ) (vs : List Variable) (st : State)
      → SameOut (slots_given (answer k S R cap vs st (load (form_of a) x))) (slots_given (answer k S R cap vs st (load (form_of b) y)))
  pub asked : (qs rs : List Request) → AgreeAll qs rs → (cs es : List Call) → CallsOf qs cs → CallsOf rs es
      → (k : ℕ) (S : Schema) (R : Rule) (cap : ℕ) (vs : List Variable) → slots_kept (run k S R cap vs cs) ≡ slots_kept (run k S R cap vs es)

-- what stands at a cursor of a sheet's bytes is the same, but for places, as exactly what its record shows;
-- so a JSON text agrees with a sheet's bytes exactly where it writes what the sheet's record shows
pub record ShownAgree : Type 0 where
  pub twins : (bytes : List ℕ) (at : ℕ) (x y : Raw) (h : Held bytes at y) → (Shows h.value x → Twin x y) × (Twin x y → Shows h.value x)
  pub agree : (text bytes : List ℕ) (ms : Rmems) (x : Raw) → Says (json_text text) x → Within bytes ms → Shows (r_object ms) x → Agree (json_text text) (sheet_bytes bytes)
  pub shown : (text bytes : List ℕ) (ms : Rmems) (x : Raw) → Says (json_text text) x → Within bytes ms → Agree (json_text text) (sheet_bytes bytes) → Shows (r_object ms) x

-- one tree stands at the root of what was encoded within the limits, and the record shows it
pub record EncodedStands : Type 0 where
  pub stands : (ms : Rmems) → RecLimits 0 (r_object ms) → length (encode_mems ms) ≤ 65536 → (y : Raw) × Says (sheet_bytes (encode_mems ms)) y
  pub shown : (ms : Rmems) → RecLimits 0 (r_object ms) → length (encode_mems ms) ≤ 65536 → (y : Raw) → Says (sheet_bytes (encode_mems ms)) y → Shows (r_object ms) y

-- the bytes are those of a sheet within the limits, and what stands at their root, loaded where they fit, leaves equal bytes
pub record ComesBack (k : ℕ) (S : Schema) (R : Rule) (vs : List Variable) (s : Sheet) : Type 0 where
  pub within : Within (bytes_of vs s.slots) (sheet_of vs s.slots)
  pub loaded : (y : Raw) → Says (sheet_bytes (bytes_of vs s.slots)) y → (cap : ℕ) → length (bytes_of vs s.slots) ≤ cap → cap ≤ 65536 → (st : State)
      → (u : Sheet) × (answer k S R cap vs st (load (form_of (sheet_bytes (bytes_of vs s.slots))) y) ≡ ok u) × (bytes_of vs u.slots ≡ bytes_of vs s.slots)

-- so it is of a sheet after any list of calls
abbrev pub SheetsComeBack : Type 0
SheetsComeBack = (k : ℕ) (S : Schema) (R : Rule) → SchemaLimits S → (vs : List Variable) → VariableLimits vs
    → (cap : ℕ) → cap ≤ 65536 → (cs : List Call) → AllSourced cs → (s : Sheet) → run k S R cap vs cs ≡ some s → ComesBack k S R vs s
