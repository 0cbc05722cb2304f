-- After any list of calls the slots are those of what stands, and the bytes fit.
use Rattle.std.proofs.Common.{◌≡◌, ℕ, ◌+◌, ◌≤◌, Bool, true, false, cond, List, [], ◌∷◌, refl, ap, subst, ⊎_elim, arith}
use mathlib.Core.Option.{Option, none, some}
use Rattle.std.proofs.lemmas.Bool.{cases_Bool}
use Rattle.model.specs.Values.{Name, Form, json, literal, Raw, Mems, null, scalar, variable, list, object, Ty, nullable, Schema, Variable, Rec, Rmems, same, has, field_names, fields_of}
use Rattle.model.specs.Records.{size, size_mems}
use Rattle.model.specs.Refusals.{missing_variable, Out, ok, refused, beyond, Here, refuse, as_default}
use Rattle.model.specs.Coercion.{Rule, Slots, absent, put, for_variable, coerce_at, variable_at, member, sheet_of}
use Rattle.model.specs.Walk.{name_size, slot_size, at_place, walk_at}
use Rattle.model.specs.Back.{Distinct}
use Rattle.model.specs.Limits.{Shallow}
use Rattle.model.specs.Calls.{Given, Standing, Sheet, State, Call, load, supply, withdraw, slot_at, slots_at, from_member, standing_of, load_of, others_size, replaced, variable_of, set_at, set_of, answer, settle, run_from, run}
use Rattle.model.specs.Laws.{WalkFits, SizeIsLength, Coerced, RunsStand}
use Rattle.model.proofs.CoNames.{same_refl, same_true, has_head, has_later, apart, has_none}
use Rattle.model.proofs.CoGood.{Good, good_then, good_more, itself}

-- the form and the value that were given; where none was the form does not matter
abbrev pub form_in : Option Given → Form
form_in none = json
form_in (some g) = g.form

abbrev pub raw_in : Option Given → Option Raw
raw_in none = none
raw_in (some g) = some g.raw

abbrev pub ShallowSlot : Option Rec → Type 0
ShallowSlot none = Unit {0}
ShallowSlot (some r) = Shallow 1 r

-- a variable's slot is what its standing comes to, and not too deep
pub record Right (k : ℕ) (S : Schema) (R : Rule) (v : Variable) (g : Option Given) (o : Option Rec) : Type 0 where
  pub coerced : variable_at k S R v (form_in g) (raw_in g) ≡ ok o
  pub shallow : ShallowSlot o

-- the same of each variable, with P of what was given
pub data Rights (P : Option Given → Type 0) (k : ℕ) (S : Schema) (R : Rule) : List Variable → Standing → Slots → Type 0 where
  rights_none : Rights P k S R [] [] []
  rights_more : {v : Variable} {vs : List Variable} {g : Option Given} {gs : Standing} {o : Option Rec} {os : Slots} → P g → Right k S R v g o → Rights P k S R vs gs os → Rights P k S R (v ∷ vs) (g ∷ gs) (o ∷ os)

-- P of all that a call gives
abbrev pub Gives : (Option Given → Type 0) → Call → Type 0
Gives P (load p (null at)) = Unit {0}
Gives P (load p (scalar at s)) = Unit {0}
Gives P (load p (variable at n)) = Unit {0}
Gives P (load p (list at xs)) = Unit {0}
Gives P (load p (object at ms)) = (n : Name) → P (from_member p (member ms n))
Gives P (supply n p x) = P (some (record { form = p; raw = x }))
Gives P (withdraw n) = P none

abbrev pub AllGive : (Option Given → Type 0) → List Call → Type 0
AllGive P [] = Unit {0}
AllGive P (c ∷ cs) = Gives P c × AllGive P cs

abbrev pub names : List Variable → List Name
names vs = field_names (fields_of vs)

pub put_size : (n : Name) (o : Option Rec) (ms : Rmems) → size_mems (put n o ms) ≡ slot_size n o + size_mems ms
put_size n none ms = omega arith
put_size n (some r) ms = omega arith

others_le : (n : Name) (vs : List Variable) (os : Slots) → others_size n vs os ≤ size_mems (sheet_of vs os)
others_le n [] os = omega arith
others_le n (v ∷ vs) [] = omega arith
others_le n (v ∷ vs) (o ∷ os) =
    let h = others_le n vs os in
    let e = put_size v.field.name o (sheet_of vs os) in
    let c : cond (same v.field.name n) 0 (slot_size v.field.name o) ≤ slot_size v.field.name o = elim (same v.field.name n) as (λ b. cond b 0 (slot_size v.field.name o) ≤ slot_size v.field.name o) [ true ↦ omega arith | false ↦ omega arith ] in
    omega arith

-- the size of a sheet where a variable that is not among vs is replaced
replaced-none : (n : Name) (y : Option Rec) (vs : List Variable) (os : Slots) → has (names vs) n ≡ false → size_mems (sheet_of vs (replaced n y vs os)) ≤ others_size n vs os
replaced-none n y [] os h = omega arith
replaced-none n y (v ∷ vs) [] h = omega arith
replaced-none n y (v ∷ vs) (o ∷ os) h =
    let a = has_none v.field.name n (names vs) h in
    let i = replaced-none n y vs os a.1 in
    rw a.0 (let e = put_size v.field.name o (sheet_of vs (replaced n y vs os)) in omega arith)

-- and of one where a variable is replaced
replaced-size : (n : Name) (y : Option Rec) (vs : List Variable) (os : Slots) → Distinct (names vs) → size_mems (sheet_of vs (replaced n y vs os)) ≤ others_size n vs os + slot_size n y
replaced-size n y [] os u = omega arith
replaced-size n y (v ∷ vs) [] u = omega arith
replaced-size n y (v ∷ vs) (o ∷ os) u = ⊎_elim
    (λ e. let q = same_true v.field.name n e in
    let i = replaced-none n y vs os (subst (λ m. has (names vs) m ≡ false) q u.0) in
    let s : slot_size v.field.name y ≡ slot_size n y = ap (λ m. slot_size m y) q in
    rw e (let p = put_size v.field.name y (sheet_of vs (replaced n y vs os)) in omega arith))
    (λ e. let i = replaced-size n y vs os u.1 in
    rw e (let p = put_size v.field.name o (sheet_of vs (replaced n y vs os)) in omega arith))
    (cases_Bool (same v.field.name n))

-- a variable is one of a list
data Among (v : Variable) : List Variable → Type 0 where
  here : {vs : List Variable} → Among v (v ∷ vs)
  there : {w : Variable} {vs : List Variable} → Among v vs → Among v (w ∷ vs)

among_has : {v : Variable} {vs : List Variable} → Among v vs → has (names vs) v.field.name ≡ true
among_has {v} (here {vs = vs}) = has_head v.field.name (names vs)
among_has {v} (there {w = w} {vs = vs} a) = has_later w.field.name v.field.name (names vs) (among_has a)

found_at : (b : Bool) (v w : Variable) (vs : List Variable) (o : Option Variable) → (o ≡ some v → Among v vs) → cond b (some w) o ≡ some v → Among v (w ∷ vs)
found_at true v w vs o h e = let q : v ≡ w = cc in subst (λ u. Among v (u ∷ vs)) q here
found_at false v w vs o h e = there (h e)

found : (n : Name) (v : Variable) (vs : List Variable) → variable_of vs n ≡ some v → Among v vs
found n v [] e = let z : ◌≡◌ {A = ℕ} 0 1 = cc in absurd (omega arith)
found n v (w ∷ vs) e = found_at (same w.field.name n) v w vs (variable_of vs n) (found n v vs) e

-- where the variable is not among vs nothing changes
rights_same : {P : Option Given → Type 0} {k : ℕ} {S : Schema} {R : Rule} {vs : List Variable} {gs : Standing} {os : Slots} → Rights P k S R vs gs os
    → (n : Name) (g : Option Given) (o : Option Rec) → has (names vs) n ≡ false → Rights P k S R vs (replaced n g vs gs) (replaced n o vs os)
rights_same rights_none n g o h = rights_none
rights_same (rights_more {v = v} {vs = vs} p r m) n g o h =
    let a = has_none v.field.name n (names vs) h in
    rw a.0 (rights_more p r (rights_same m n g o a.1))

rights_set : {P : Option Given → Type 0} {k : ℕ} {S : Schema} {R : Rule} {vs : List Variable} {gs : Standing} {os : Slots} → Rights P k S R vs gs os
    → Distinct (names vs) → (v : Variable) (g : Option Given) (o : Option Rec) → P g → Right k S R v g o → Among v vs → Rights P k S R vs (replaced v.field.name g vs gs) (replaced v.field.name o vs os)
rights_set rights_none u v g o q s a = elim a [ ]
rights_set (rights_more p r m) u v g o q s here = rw (same_refl v.field.name) (rights_more q s (rights_same m v.field.name g o u.0))
rights_set (rights_more {v = w} {vs = vs} p r m) u v g o q s (there a) =
    rw (apart w.field.name v.field.name (names vs) u.0 (among_has a)) (rights_more p r (rights_set m u.1 v g o q s a))

-- what a slot has that was accepted
pub record Fitted (k : ℕ) (S : Schema) (R : Rule) (cap used : ℕ) (v : Variable) (g : Option Given) (o : Option Rec) : Type 0 where
  pub right : Right k S R v g o
  pub within : used + slot_size v.field.name o ≤ cap

record Accepted (k : ℕ) (S : Schema) (R : Rule) (cap used lead : ℕ) (p : Form) (h : Here) (x : Raw) (t : Ty) (r : Rec) : Type 0 where
  pub coerced : coerce_at k S R p h x t ≡ ok r
  pub shallow : Shallow 1 r
  pub within : used + (lead + size r) ≤ cap

module _ (walks : WalkFits) (k : ℕ) (S : Schema) (R : Rule) (cap : ℕ) where
  walk-good : (used lead : ℕ) (p : Form) (h : Here) (x : Raw) (t : Ty) → Good (Accepted k S R cap used lead p h x t) (walk_at k S R cap p h x t 1 used lead)
  walk-good used lead p h x t = good_more (λ r. walk_at k S R cap p h x t 1 used lead ≡ ok r) (Accepted k S R cap used lead p h x t)
      (walk_at k S R cap p h x t 1 used lead) (itself (walk_at k S R cap p h x t 1 used lead))
      (λ r e. let f = (walks k S R cap p h x t 1 used lead r).1 e in record { coerced = f.0; shallow = f.1; within = f.2 })

  none_good : (v : Variable) (used : ℕ) → used ≤ cap → (o : Option Raw) → v.field.dflt ≡ o
      → Good (Fitted k S R cap used v none) (absent (at_place (walk_at k S R cap literal) 1 used (name_size v.field.name)) (for_variable v) (refuse (for_variable v) missing_variable v.place) v.field.ty o)
  none_good v used u (some x) e =
      good_then (Accepted k S R cap used (name_size v.field.name) literal (as_default (for_variable v)) x v.field.ty) (Fitted k S R cap used v none) _ _ (walk-good used (name_size v.field.name) literal (as_default (for_variable v)) x v.field.ty)
      (λ r a. record { right = record { coerced = rw (e, a.coerced) refl; shallow = a.shallow }; within = a.within })
  none_good v used u none e = ⊎_elim
      (λ n. rw n (record { right = record { coerced = rw (e, n) refl; shallow = tt }; within = omega arith }))
      (λ n. rw n tt)
      (cases_Bool (nullable v.field.ty))

  -- an accepted slot is right, and its bytes fit after those used
  slot_good : (v : Variable) (g : Option Given) (used : ℕ) → used ≤ cap → Good (Fitted k S R cap used v g) (slot_at k S R cap used v g)
  slot_good v none used u = none_good v used u v.field.dflt refl
  slot_good v (some g) used u =
      good_then (Accepted k S R cap used (name_size v.field.name) g.form (for_variable v) g.raw v.field.ty) (Fitted k S R cap used v (some g)) _ _ (walk-good used (name_size v.field.name) g.form (for_variable v) g.raw v.field.ty)
      (λ r a. record { right = record { coerced = rw a.coerced refl; shallow = a.shallow }; within = a.within })

-- what holds of a sheet
pub record Held (P : Option Given → Type 0) (k : ℕ) (S : Schema) (R : Rule) (cap : ℕ) (vs : List Variable) (s : Sheet) : Type 0 where
  pub rights : Rights P k S R vs s.standing s.slots
  pub within : size_mems (sheet_of vs s.slots) ≤ cap

abbrev pub HeldIn : (Option Given → Type 0) → ℕ → Schema → Rule → ℕ → List Variable → State → Type 0
HeldIn P k S R cap vs none = Unit {0}
HeldIn P k S R cap vs (some s) = Held P k S R cap vs s

record Filled (P : Option Given → Type 0) (k : ℕ) (S : Schema) (R : Rule) (cap used : ℕ) (vs : List Variable) (gs : Standing) (os : Slots) : Type 0 where
  pub rights : Rights P k S R vs gs os
  pub within : used + size_mems (sheet_of vs os) ≤ cap

module _ (walks : WalkFits) (P : Option Given → Type 0) (k : ℕ) (S : Schema) (R : Rule) (cap : ℕ) where
  slots_good : (p : Form) (ms : Mems) → ((n : Name) → P (from_member p (member ms n))) → (vs : List Variable) (used : ℕ) → used ≤ cap → Good (Filled P k S R cap used vs (standing_of p ms vs)) (slots_at k S R cap used vs (standing_of p ms vs))
  slots_good p ms h [] used u = record { rights = rights_none; within = omega arith }
  slots_good p ms h (v ∷ vs) used u =
      good_then (Fitted k S R cap used v (from_member p (member ms v.field.name))) (Filled P k S R cap used (v ∷ vs) (standing_of p ms (v ∷ vs))) _ _ (slot_good walks k S R cap v (from_member p (member ms v.field.name)) used u)
      (λ o f. good_then (Filled P k S R cap (used + slot_size v.field.name o) vs (standing_of p ms vs)) (Filled P k S R cap used (v ∷ vs) (standing_of p ms (v ∷ vs))) _ _ (slots_good p ms h vs (used + slot_size v.field.name o) f.within)
      (λ os q. record { rights = rights_more (h v.field.name) f.right q.rights; within = (let e = put_size v.field.name o (sheet_of vs os) in omega arith) }))

  load_good : (vs : List Variable) (p : Form) (x : Raw) → Gives P (load p x) → Good (Held P k S R cap vs) (load_of k S R cap vs p x)
  load_good vs p (null at) h = tt
  load_good vs p (scalar at s) h = tt
  load_good vs p (variable at n) h = tt
  load_good vs p (list at xs) h = tt
  load_good vs p (object at ms) h =
      good_then (Filled P k S R cap 0 vs (standing_of p ms vs)) (Held P k S R cap vs) _ _ (slots_good p ms h vs 0 (omega arith)) (λ os q. record { rights = q.rights; within = omega arith })

  set_good : (vs : List Variable) → Distinct (names vs) → (n : Name) (g : Option Given) (s : Sheet) → P g → Held P k S R cap vs s → (o : Option Variable) → variable_of vs n ≡ o → Good (Held P k S R cap vs) (set_at k S R cap vs g s o)
  set_good vs u n g s p h none e = tt
  set_good vs u n g s p h (some v) e =
      let l = others_le v.field.name vs s.slots in
      let w : others_size v.field.name vs s.slots ≤ cap = omega (arith, h.within) in
      good_then (Fitted k S R cap (others_size v.field.name vs s.slots) v g) (Held P k S R cap vs) _ _ (slot_good walks k S R cap v g (others_size v.field.name vs s.slots) w)
      (λ o f. record { rights = rights_set h.rights u v g o p f.right (found n v vs e); within = (let z = replaced-size v.field.name o vs s.slots u in omega (arith, f.within)) })

  state_good : (vs : List Variable) → Distinct (names vs) → (n : Name) (g : Option Given) → P g → (st : State) → HeldIn P k S R cap vs st → Good (Held P k S R cap vs) (set_of k S R cap vs n g st)
  state_good vs u n g p none h = tt
  state_good vs u n g p (some s) h = set_good vs u n g s p h (variable_of vs n) refl

  answer_good : (vs : List Variable) → Distinct (names vs) → (st : State) → HeldIn P k S R cap vs st → (c : Call) → Gives P c → Good (Held P k S R cap vs) (answer k S R cap vs st c)
  answer_good vs u st h (load p x) q = load_good vs p x q
  answer_good vs u st h (supply n p x) q = state_good vs u n (some (record { form = p; raw = x })) q st h
  answer_good vs u st h (withdraw n) q = state_good vs u n none q st h

  settle_good : (vs : List Variable) (st : State) (o : Out Sheet) → HeldIn P k S R cap vs st → Good (Held P k S R cap vs) o → HeldIn P k S R cap vs (settle st o)
  settle_good vs st (ok s) h g = g
  settle_good vs st (refused f) h g = h
  settle_good vs st beyond h g = h

  run_good : (vs : List Variable) → Distinct (names vs) → (st : State) → HeldIn P k S R cap vs st → (cs : List Call) → AllGive P cs → HeldIn P k S R cap vs (run_from k S R cap vs st cs)
  run_good vs u st h [] q = h
  run_good vs u st h (c ∷ cs) q = run_good vs u (settle st (answer k S R cap vs st c)) (settle_good vs st (answer k S R cap vs st c) h (answer_good vs u st h c q.0)) cs q.1

  -- the sheet after any list of calls
  pub run_held : (vs : List Variable) → Distinct (names vs) → (cs : List Call) → AllGive P cs → (s : Sheet) → run k S R cap vs cs ≡ some s → Held P k S R cap vs s
  run_held vs u cs q s e = subst (HeldIn P k S R cap vs) e (run_good vs u none tt cs q)

pub coerced_of : {P : Option Given → Type 0} {k : ℕ} {S : Schema} {R : Rule} {vs : List Variable} {gs : Standing} {os : Slots} → Rights P k S R vs gs os → Coerced k S R vs gs os
coerced_of rights_none = tt
coerced_of (rights_more {g = none} p r m) = (r.coerced, coerced_of m)
coerced_of (rights_more {g = some g} p r m) = (r.coerced, coerced_of m)

abbrev Anything : Option Given → Type 0
Anything g = Unit {0}

gives_anything : (c : Call) → Gives Anything c
gives_anything (load p (null at)) = tt
gives_anything (load p (scalar at s)) = tt
gives_anything (load p (variable at n)) = tt
gives_anything (load p (list at xs)) = tt
gives_anything (load p (object at ms)) = λ n. tt
gives_anything (supply n p x) = tt
gives_anything (withdraw n) = tt

all_give_anything : (cs : List Call) → AllGive Anything cs
all_give_anything [] = tt
all_give_anything (c ∷ cs) = (gives_anything c, all_give_anything cs)

pub runs_stand_from : WalkFits → SizeIsLength → RunsStand
runs_stand_from walks sizes k S R cap vs u cs s e =
    let h = run_held walks Anything k S R cap vs u cs (all_give_anything cs) s e in
    (coerced_of h.rights, (let l = sizes.1 (sheet_of vs s.slots) in omega (arith, h.within)))
