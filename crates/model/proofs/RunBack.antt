-- A run's bytes, decoded and loaded, give equal bytes.
use Rattle.std.proofs.Common.{◌≡◌, ℕ, ◌+◌, ◌≤◌, Bool, true, false, cond, List, [], ◌∷◌, refl, ◌∙◌, subst, arith}
use mathlib.Core.Option.{Option, none, some}
use Rattle.std.proofs.lemmas.Bool.{cond-true, cond-false}
use Rattle.model.specs.Values.{Name, json, literal, Raw, Mems, Ty, nullable, Schema, Variable, Rec, Rmems, r_end, r_mem, same, has}
use Rattle.model.specs.Records.{size, size_mems}
use Rattle.model.specs.Refusals.{Refusal, Out, ok, refused, beyond, and_then, Here, as_default}
use Rattle.model.specs.Coercion.{Rule, Slots, absent, put, for_variable, coerce_at, member, sheet_of}
use Rattle.model.specs.Walk.{name_size, slot_size, walk_at}
use Rattle.model.specs.Back.{Shows, ShowsMems, s_end, s_mem, Distinct, Proper}
use Rattle.model.specs.Limits.{Shallow}
use Rattle.model.specs.Calls.{Given, Standing, slot_at, slots_at, from_member, standing_of, bytes_of}
use Rattle.model.specs.Laws.{WalkFits, SizeIsLength, DecodesOnce, AcceptsConforming, AcceptsWithin, ComesBack, stood, LoadsBack}
use Rattle.model.proofs.CoNames.{same_refl, has_head, has_later, apart, has_none}
use Rattle.model.proofs.RunStands.{Right, Rights, rights_none, rights_more, names, put_size, run_held}
use Rattle.model.proofs.RunBytes.{proper_of, FromSource, all_source, Came, Stands, right_stands, Each, sheet_fits}

-- a raw value shows a slot's record, and none shows none
abbrev ShowsSlot : Option Rec → Option Raw → Type 0
ShowsSlot none none = Unit {0}
ShowsSlot none (some x) = ⊥
ShowsSlot (some r) none = ⊥
ShowsSlot (some r) (some x) = Shows r x

-- the record of a name
abbrev rec_member : Rmems → Name → Option Rec
rec_member r_end n = none
rec_member (r_mem m r ms) n = cond (same m n) (some r) (rec_member ms n)

shows_cond : (b : Bool) (r : Rec) (x : Raw) (o : Option Rec) (y : Option Raw) → Shows r x → ShowsSlot o y → ShowsSlot (cond b (some r) o) (cond b (some x) y)
shows_cond true r x o y h k = h
shows_cond false r x o y h k = k

shows_member : {rs : Rmems} {ms : Mems} → ShowsMems rs ms → (n : Name) → ShowsSlot (rec_member rs n) (member ms n)
shows_member s_end n = tt
shows_member (s_mem {n = m} {r = r} {x = x} {rs = rs} {ms = ms} h k) n = shows_cond (same m n) r x (rec_member rs n) (member ms n) h (shows_member k n)

put_other : (m n : Name) (o : Option Rec) (ms : Rmems) → same m n ≡ false → rec_member (put m o ms) n ≡ rec_member ms n
put_other m n none ms e = refl
put_other m n (some r) ms e = cond-false (same m n) (some r) (rec_member ms n) e

-- a sheet has no record of a name that no variable has
not_in : (vs : List Variable) (os : Slots) (n : Name) → has (names vs) n ≡ false → rec_member (sheet_of vs os) n ≡ none
not_in [] os n u = refl
not_in (v ∷ vs) [] n u = refl
not_in (v ∷ vs) (o ∷ os) n u =
    let a = has_none v.field.name n (names vs) u in
    put_other v.field.name n o (sheet_of vs os) a.0 ∙ not_in vs os n a.1

put_itself : (n : Name) (o : Option Rec) (ms : Rmems) → rec_member ms n ≡ none → rec_member (put n o ms) n ≡ o
put_itself n none ms e = e
put_itself n (some r) ms e = cond-true (same n n) (some r) (rec_member ms n) (same_refl n)

-- a variable has nothing only without a default and where null may stand
pub record Nothing (v : Variable) : Type 0 where
  pub no_default : v.field.dflt ≡ none
  pub null_stands : nullable v.field.ty ≡ true

no_some : {X : Type 0} (q : Out Rec) → and_then q (λ r. ok (some r)) ≡ ok none → X
no_some (ok r) e = let z : ◌≡◌ {A = ℕ} 0 1 = cc in absurd (omega arith)
no_some (refused f) e = let z : ◌≡◌ {A = ℕ} 0 1 = cc in absurd (omega arith)
no_some beyond e = let z : ◌≡◌ {A = ℕ} 0 1 = cc in absurd (omega arith)

null_only : (b : Bool) (f : Refusal) → ◌≡◌ {A = Out (Option Rec)} (cond b (ok none) (refused f)) (ok none) → b ≡ true
null_only true f e = refl
null_only false f e = let z : ◌≡◌ {A = ℕ} 0 1 = cc in absurd (omega arith)

none_absent : (k : ℕ) (S : Schema) (R : Rule) (v : Variable) (h : Here) (f : Refusal) (d : Option Raw) → v.field.dflt ≡ d → absent (coerce_at k S R literal) h (refused f) v.field.ty d ≡ ok none → Nothing v
none_absent k S R v h f none q e = record { no_default = q; null_stands = null_only (nullable v.field.ty) f e }
none_absent k S R v h f (some x) q e = no_some (coerce_at k S R literal (as_default h) x v.field.ty) e

nothing : (k : ℕ) (S : Schema) (R : Rule) (v : Variable) (g : Option Given) → Right k S R v g none → Nothing v
nothing k S R v none r = none_absent k S R v (for_variable v) _ v.field.dflt refl r.coerced
nothing k S R v (some g) r = no_some (coerce_at k S R g.form (for_variable v) g.raw v.field.ty) r.coerced

module _ (walks : WalkFits) (conforming : AcceptsConforming) (back : ComesBack) (k : ℕ) (S : Schema) (R : Rule) (proper : Proper S) (dap : ℕ) where
  -- a record conforms, so it comes back, and it fits
  came_back : (t : Ty) (y x : Raw) (r : Rec) (h : Here) (used lead : ℕ) → Came k S R t y r → Shows r x → Shallow 1 r → used + (lead + size r) ≤ dap → walk_at k S R dap json h x t 1 used lead ≡ ok r
  came_back t y x r h used lead c s d f =
      (walks k S R dap json h x t 1 used lead r).0 (back k S R proper h t r x (conforming k S R c.form c.place y t r c.coerced) s) d f

  none_back : (v : Variable) (used : ℕ) → Nothing v → slot_at k S R dap used v none ≡ ok none
  none_back v used n = rw (n.no_default, n.null_stands) refl

  some_back : (v : Variable) (used : ℕ) (y : Option Raw) (x : Raw) (r : Rec) → Stands k S R v.field.ty y (some r) → Shows r x → Shallow 1 r → used + slot_size v.field.name (some r) ≤ dap → slot_at k S R dap used v (from_member json (some x)) ≡ ok (some r)
  some_back v used none x r a s d f = absurd a
  some_back v used (some y) x r a s d f = rw (came_back v.field.ty y x r (for_variable v) used (name_size v.field.name) a s d f) refl

  slot_back : (v : Variable) (g : Option Given) (used : ℕ) (o : Option Rec) (x : Option Raw) → Right k S R v g o → Stands k S R v.field.ty (stood v g) o → ShowsSlot o x → used + slot_size v.field.name o ≤ dap → slot_at k S R dap used v (from_member json x) ≡ ok o
  slot_back v g used none none r a s f = none_back v used (nothing k S R v g r)
  slot_back v g used none (some x) r a s f = absurd s
  slot_back v g used (some q) none r a s f = absurd s
  slot_back v g used (some q) (some x) r a s f = some_back v used (stood v g) x q a s r.shallow f

  -- the slots are those that were encoded
  slots_back : {vs : List Variable} {gs : Standing} {os : Slots} → Rights FromSource k S R vs gs os → Each vs → Distinct (names vs) → (xs : Mems) → ((n : Name) → has (names vs) n ≡ true → ShowsSlot (rec_member (sheet_of vs os) n) (member xs n))
      → (used : ℕ) → used + size_mems (sheet_of vs os) ≤ dap → slots_at k S R dap used vs (standing_of json xs vs) ≡ ok os
  slots_back rights_none d u xs h used f = refl
  slots_back (rights_more {v = v} {vs = vs} {g = g} {o = o} {os = os} p r m) d u xs h used f =
      let e = put_size v.field.name o (sheet_of vs os) in
      let s : ShowsSlot o (member xs v.field.name) = subst (λ q. ShowsSlot q (member xs v.field.name)) (put_itself v.field.name o (sheet_of vs os) (not_in vs os v.field.name u.0)) (h v.field.name (has_head v.field.name (names vs))) in
      let a = slot_back v g used o (member xs v.field.name) r (right_stands k S R v g o r p d.0) s (omega arith) in
      let b = slots_back m d.1 u.1 xs
      (λ n i. subst (λ q. ShowsSlot q (member xs n)) (put_other v.field.name n o (sheet_of vs os) (apart v.field.name n (names vs) u.0 i)) (h n (has_later v.field.name n (names vs) i)))
      (used + slot_size v.field.name o) (omega arith) in
      rw (a, b) refl

pub loads_back_from : WalkFits → SizeIsLength → AcceptsWithin → DecodesOnce → AcceptsConforming → ComesBack → LoadsBack
loads_back_from walks sizes within once conforming back k S R limits vs l cap dap cs s ms at xs e c w f g i st =
    let h = run_held walks FromSource k S R cap vs l.1 cs (all_source cs i) s e in
    let z = sizes.1 (sheet_of vs s.slots) in
    let q : ms ≡ sheet_of vs s.slots = once.3 (bytes_of vs s.slots) ms (sheet_of vs s.slots) (omega arith) c (once.2 (sheet_of vs s.slots) (sheet_fits walks within k S R limits h.rights l.2)) in
    let y = subst (λ rs. ShowsMems rs xs) q w in
    let b = slots_back walks conforming back k S R (proper_of S limits) dap h.rights l.2 l.1 xs (λ n j. shows_member y n) 0 (omega arith) in
    (record { standing = standing_of json xs vs; slots = s.slots }, rw b refl, refl)
