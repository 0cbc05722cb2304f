-- Inputs, what they say, and the calls that are made with them.
use Rattle.std.specs.Prelude.{◌≡◌, ℕ, List, [], ◌∷◌, length}
use Rattle.text.specs.declared.language.Language.TheVariants.{Json, Graphql}
use Rattle.model.specs.Values.{Name, Form, json, literal, Raw}
use Rattle.model.specs.Calls.{Call, load, supply, withdraw}
use Rattle.model.specs.Twins.{Twin}
use Rattle.reader.specs.Document.{Writes}
use Rattle.stored.specs.Cursors.{Held}

-- a JSON text, a literal, or the value at a cursor of a sheet's bytes
pub data Input : Type 0 where
  json_text : List ℕ → Input
  literal_text : List ℕ → Input
  sheet_value : List ℕ → ℕ → Input

-- the form that its value is taken in
abbrev pub form_of : Input → Form
form_of (json_text text) = json
form_of (literal_text text) = literal
form_of (sheet_value bytes at) = json

-- the value that it says, as the readers have it
abbrev pub Says : Input → Raw → Type 0
Says (json_text text) x = Writes Json text x
Says (literal_text text) x = Writes Graphql text x
Says (sheet_value bytes at) x = Held bytes at x

-- the whole of a sheet's bytes, whose cursor is their number
abbrev pub sheet_bytes : List ℕ → Input
sheet_bytes bytes = sheet_value bytes (length bytes)

-- inputs of one form that say the same but for places
pub record Agree (a b : Input) : Type 0 where
  pub forms : form_of a ≡ form_of b
  pub value : Raw
  pub other : Raw
  pub says : Says a value
  pub says_other : Says b other
  pub twins : Twin value other

-- what is asked of a sheet
pub data Request : Type 0 where
  load_of : Input → Request
  supply_of : Name → Input → Request
  withdrawal : Name → Request

-- the call that it comes to
pub data CallOf : Request → Call → Type 0 where
  c_load : {a : Input} {x : Raw} → Says a x → CallOf (load_of a) (load (form_of a) x)
  c_supply : {n : Name} {a : Input} {x : Raw} → Says a x → CallOf (supply_of n a) (supply n (form_of a) x)
  c_withdraw : {n : Name} → CallOf (withdrawal n) (withdraw n)

pub data CallsOf : List Request → List Call → Type 0 where
  c_none : CallsOf [] []
  c_next : {q : Request} {c : Call} {qs : List Request} {cs : List Call} → CallOf q c → CallsOf qs cs → CallsOf (q ∷ qs) (c ∷ cs)

-- the same is asked, with inputs that agree
pub data AgreeAll : List Request → List Request → Type 0 where
  a_none : AgreeAll [] []
  a_load : {a b : Input} {qs rs : List Request} → Agree a b → AgreeAll qs rs → AgreeAll (load_of a ∷ qs) (load_of b ∷ rs)
  a_supply : {n : Name} {a b : Input} {qs rs : List Request} → Agree a b → AgreeAll qs rs → AgreeAll (supply_of n a ∷ qs) (supply_of n b ∷ rs)
  a_withdraw : {n : Name} {qs rs : List Request} → AgreeAll qs rs → AgreeAll (withdrawal n ∷ qs) (withdrawal n ∷ rs)
