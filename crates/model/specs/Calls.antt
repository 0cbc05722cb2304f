-- Calls on a sheet, what stands, and runs of calls.
use Rattle.std.specs.Prelude.{ℕ, ◌+◌, false, cond, List, [], ◌∷◌, ◌++◌}
use Rattle.std.proofs.Math.Option.{Option, none, some}
use Rattle.model.specs.Values.{Name, Form, json, Raw, Mems, null, scalar, variable, list, object, Schema, Variable, Rec, same}
use Rattle.model.specs.Records.{framed, encode, encode_mems}
use Rattle.model.specs.Refusals.{wrong_value, undeclared, variable_in_value, Out, ok, refused, beyond, and_then, Here, refuse}
use Rattle.model.specs.Coercion.{Rule, Slots, member, sheet_of}
use Rattle.model.specs.Walk.{slot_size, walk_variable}

-- a value that was given, with its form
pub record Given : Type 0 where
  pub form : Form
  pub raw : Raw

-- what stands for each declared variable: a given value or none
abbrev pub Standing : Type 0
Standing = List (Option Given)

-- a sheet: what stands, and what it was coerced to
pub record Sheet : Type 0 where
  pub standing : Standing
  pub slots : Slots

-- no sheet before the first accepted load
abbrev pub State : Type 0
State = Option Sheet

pub data Call : Type 0 where
  load : Form → Raw → Call
  supply : Name → Form → Raw → Call
  withdraw : Name → Call

-- a request as a whole concerns no variable
abbrev pub nowhere : Here
nowhere = record { variable = none; field = none; in_default = false }

-- a variable's slot, from what stands for it, after `used` bytes
abbrev pub slot_at : ℕ → Schema → Rule → ℕ → ℕ → Variable → Option Given → Out (Option Rec)
slot_at k S R cap used v none = walk_variable k S R cap v used json none
slot_at k S R cap used v (some g) = walk_variable k S R cap v used g.form (some g.raw)

-- the slots of all variables, in order
abbrev pub slots_at : ℕ → Schema → Rule → ℕ → ℕ → List Variable → Standing → Out Slots
slots_at k S R cap used [] gs = ok []
slots_at k S R cap used (v ∷ vs) [] = ok []
slots_at k S R cap used (v ∷ vs) (g ∷ gs) = and_then (slot_at k S R cap used v g) (λ o. and_then (slots_at k S R cap (used + slot_size v.field.name o) vs gs) (λ os. ok (o ∷ os)))

-- what a load gives each variable: its member or none
abbrev pub from_member : Form → Option Raw → Option Given
from_member p none = none
from_member p (some x) = some (record { form = p; raw = x })

abbrev pub standing_of : Form → Mems → List Variable → Standing
standing_of p ms [] = []
standing_of p ms (v ∷ vs) = from_member p (member ms v.field.name) ∷ standing_of p ms vs

-- a load wants an object
abbrev pub load_of : ℕ → Schema → Rule → ℕ → List Variable → Form → Raw → Out Sheet
load_of k S R cap vs p (null at) = refuse nowhere wrong_value at
load_of k S R cap vs p (scalar at s) = refuse nowhere wrong_value at
load_of k S R cap vs p (variable at n) = refuse nowhere variable_in_value at
load_of k S R cap vs p (list at xs) = refuse nowhere wrong_value at
load_of k S R cap vs p (object at ms) = and_then (slots_at k S R cap 0 vs (standing_of p ms vs)) (λ os. ok (record { standing = standing_of p ms vs; slots = os }))

-- the bytes of a sheet
abbrev pub bytes_of : List Variable → Slots → List ℕ
bytes_of vs os = encode_mems (sheet_of vs os)

-- the name and the record of a variable, if it has one
abbrev pub slot_bytes : Name → Option Rec → List ℕ
slot_bytes n none = []
slot_bytes n (some r) = framed 8 n ++ encode r

-- where a variable's name and record stand in the sheet; of a variable without one the size is 0
pub record Extent : Type 0 where
  pub start : ℕ
  pub size : ℕ

-- the extents of the variables, one after another from `at` on
abbrev pub extents_from : ℕ → List Variable → Slots → List Extent
extents_from at [] os = []
extents_from at (v ∷ vs) [] = []
extents_from at (v ∷ vs) (o ∷ os) = record { start = at; size = slot_size v.field.name o } ∷ extents_from (at + slot_size v.field.name o) vs os

abbrev pub extents_of : List Variable → Slots → List Extent
extents_of vs os = extents_from 0 vs os

-- the bytes of the other variables
abbrev pub others_size : Name → List Variable → Slots → ℕ
others_size n [] os = 0
others_size n (v ∷ vs) [] = 0
others_size n (v ∷ vs) (o ∷ os) = cond (same v.field.name n) 0 (slot_size v.field.name o) + others_size n vs os

-- one variable's standing, or slot, is replaced
abbrev pub replaced : {X : Type 0} → Name → X → List Variable → List X → List X
replaced n y [] xs = xs
replaced n y (v ∷ vs) [] = []
replaced n y (v ∷ vs) (x ∷ xs) = cond (same v.field.name n) y x ∷ replaced n y vs xs

-- the variable of a name
abbrev pub variable_of : List Variable → Name → Option Variable
variable_of [] n = none
variable_of (v ∷ vs) n = cond (same v.field.name n) (some v) (variable_of vs n)

-- a supply or withdrawal sets what stands for one variable; the other variables' bytes count
abbrev pub set_at : ℕ → Schema → Rule → ℕ → List Variable → Option Given → Sheet → Option Variable → Out Sheet
set_at k S R cap vs g s none = refuse nowhere undeclared 0
set_at k S R cap vs g s (some v) =
    and_then (slot_at k S R cap (others_size v.field.name vs s.slots) v g)
    (λ o. ok (record { standing = replaced v.field.name g vs s.standing; slots = replaced v.field.name o vs s.slots }))

abbrev pub set_of : ℕ → Schema → Rule → ℕ → List Variable → Name → Option Given → State → Out Sheet
set_of k S R cap vs n g none = refuse nowhere undeclared 0
set_of k S R cap vs n g (some s) = set_at k S R cap vs g s (variable_of vs n)

-- the answer of a call: the sheet that it makes, or its refusal
abbrev pub answer : ℕ → Schema → Rule → ℕ → List Variable → State → Call → Out Sheet
answer k S R cap vs st (load p x) = load_of k S R cap vs p x
answer k S R cap vs st (supply n p x) = set_of k S R cap vs n (some (record { form = p; raw = x })) st
answer k S R cap vs st (withdraw n) = set_of k S R cap vs n none st

-- a refused call sets nothing
abbrev pub settle : State → Out Sheet → State
settle st (ok s) = some s
settle st (refused f) = st
settle st beyond = st

-- any list of calls, from nothing
abbrev pub run_from : ℕ → Schema → Rule → ℕ → List Variable → State → List Call → State
run_from k S R cap vs st [] = st
run_from k S R cap vs st (c ∷ cs) = run_from k S R cap vs (settle st (answer k S R cap vs st c)) cs

abbrev pub run : ℕ → Schema → Rule → ℕ → List Variable → List Call → State
run k S R cap vs cs = run_from k S R cap vs none cs
