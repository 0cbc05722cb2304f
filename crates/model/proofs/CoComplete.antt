-- what is taken is accepted
use Rattle.std.proofs.Common.{◌≡◌, ℕ, zero, suc, Bool, true, false, cond, List, ◌∷◌, sym, refl, ap, subst, arith}
use mathlib.Core.Option.{Option, none, some}
use Rattle.model.specs.Values.{Name, Form, literal, Raw, Raws, Mems, null, scalar, variable, list, object, end, mem, Ty, list_of, nullable, Field, Def, custom_d, Schema, find, Rec, Recs, Rmems, r_plain, r_list, r_object, r_nil, r_cons, r_mem, same}
use Rattle.model.specs.Refusals.{Cause, missing_field, Out, ok, refused, beyond, and_then, Here, refuse, in_field, as_default}
use Rattle.model.specs.Scalars.{scalar_at}
use Rattle.model.specs.Coercion.{Rule, keep, keep_all, keep_mems, passes, ruled, or_wrong, one, list_named, Defaults, absent, field_at, put, Looks, fields_at, object_named, coerce, coerce_all, coerce_mem, coerce_at, member}
use Rattle.model.specs.Taking.{Keeps, KeepsAll, KeepsMems, k_null, k_scalar, k_list, k_object, k_nil, k_cons, k_end, k_mem, Present, items, or_else, form_of, Takes, TakesAll, TakesFields, t_null, t_scalar, t_list, t_input, t_any_list, t_any_object, t_nil, t_cons, t_end, t_some, t_none}
use Rattle.model.specs.Bounds.{Within}
use Rattle.model.specs.Laws.{AcceptsExactly}
use Rattle.model.proofs.CoScalars.{scalar_taken}
use Rattle.model.proofs.CoTakes.{taken}
use Rattle.model.proofs.CoBound.{all_settle}

-- custom contents are kept
mutual
  pub kept : {x : Raw} {r : Rec} → Keeps x r → (h : Here) → keep h x ≡ ok r
  kept k_null h = refl
  kept (k_scalar e) h = ap (λ x. ok (r_plain x)) e
  kept (k_list a) h = rw (kept_all a h) refl
  kept (k_object a) h = rw (kept_mems a h) refl

  pub kept_all : {xs : Raws} {rs : Recs} → KeepsAll xs rs → (h : Here) → keep_all h xs ≡ ok rs
  kept_all k_nil h = refl
  kept_all (k_cons a c) h = rw (kept a h, kept_all c h) refl

  pub kept_mems : {ms : Mems} {rs : Rmems} → KeepsMems ms rs → (h : Here) → keep_mems h ms ≡ ok rs
  kept_mems k_end h = refl
  kept_mems (k_mem a c) h = rw (kept a h, kept_mems c h) refl

-- x, or the bound was passed
abbrev Comes : {X : Type 0} → X → Out X → Type 0
Comes x (ok y) = y ≡ x
Comes x (refused f) = ⊥
Comes x beyond = Unit {0}

comes_then : {X Y : Type 0} (x : X) (y : Y) (o : Out X) (f : X → Out Y) → Comes x o → Comes y (f x) → Comes y (and_then o f)
comes_then x y (ok z) f h k = rw h k
comes_then x y (refused n) f h k = absurd h
comes_then x y beyond f h k = tt

comes_by : {X : Type 0} (x : X) (o q : Out X) → o ≡ q → Comes x q → Comes x o
comes_by x o q e h = rw e h

one_is : (o : Out Rec) → and_then o one ≡ and_then (and_then o (λ r. ok (r_cons r r_nil))) (λ rs. ok (r_list rs))
one_is (ok r) = refl
one_is (refused f) = refl
one_is beyond = refl

-- at a list type, every value is coerced as a list
list_is : (d : Defaults) (S : Schema) (R : Rule) (p : Form) (h : Here) (v : Raw) (b : Bool) (t : Ty) → Present v → coerce d S R p h v (list_of b t) ≡ and_then (coerce_all d S R p h (items v) t) (λ rs. ok (r_list rs))
list_is d S R p h (null at) b t k = absurd k
list_is d S R p h (scalar at s) b t k = one_is (coerce d S R p h (scalar at s) t)
list_is d S R p h (variable at n) b t k = absurd k
list_is d S R p h (list at xs) b t k = refl
list_is d S R p h (object at ms) b t k = one_is (coerce d S R p h (object at ms) t)

abbrev through : (Raw → Out Rec) → Option Raw → Option (Out Rec)
through f none = none
through f (some x) = some (f x)

through_cond : (f : Raw → Out Rec) (b : Bool) (x : Raw) (m : Option Raw) (q : Option (Out Rec)) → q ≡ through f m → cond b (some (f x)) q ≡ through f (cond b (some x) m)
through_cond f true x m q e = refl
through_cond f false x m q e = e

mem_is : (d : Defaults) (S : Schema) (R : Rule) (p : Form) (h : Here) (ms : Mems) (n : Name) (t : Ty) → coerce_mem d S R p h ms n t ≡ through (λ x. coerce d S R p (in_field n h) x t) (member ms n)
mem_is d S R p h end n t = refl
mem_is d S R p h (mem m x ms) n t = through_cond (λ y. coerce d S R p (in_field n h) y t) (same m n) x (member ms n) (coerce_mem d S R p h ms n t) (mem_is d S R p h ms n t)

abbrev Default : Schema → Rule → Defaults → Type 0
Default S R d = (h : Here) (x : Raw) (t : Ty) (r : Rec) → Takes S R literal t x r → Comes r (d h x t)

some_comes : (r : Rec) (o : Out Rec) → Comes r o → Comes (some r) (and_then o (λ s. ok (some s)))
some_comes r o h = comes_then r (some r) o (λ s. ok (some s)) h refl

-- a field whose member or default x comes to r; k proves it of a member
field_comes : (S : Schema) (R : Rule) (d : Defaults) → Default S R d → (p : Form) (h : Here) (c : Cause) (at : ℕ) (f : Field) (m : Option Raw) (x : Raw) (r : Rec) → or_else m f.dflt ≡ some x → Takes S R (form_of p m) f.ty x r → ((q : Form) → q ≡ form_of p m → Comes r (coerce d S R q h x f.ty))
    → Comes (some r) (field_at d h (refuse h c at) f (through (λ y. coerce d S R p h y f.ty) m))
field_comes S R d l p h c at f none x r e a k = subst (λ o. Comes (some r) (absent d h (refuse h c at) f.ty o)) (sym e) (some_comes r (d (as_default h) x f.ty) (l (as_default h) x f.ty r a))
field_comes S R d l p h c at f (some y) x r e a k = let z : y ≡ x = cc in subst (λ w. Comes (some r) (and_then (coerce d S R p h w f.ty) (λ s. ok (some s)))) (sym z) (some_comes r (coerce d S R p h x f.ty) (k p refl))

none_comes : (d : Defaults) (S : Schema) (R : Rule) (p : Form) (h : Here) (c : Cause) (at : ℕ) (f : Field) (m : Option Raw) → or_else m f.dflt ≡ none → nullable f.ty ≡ true → Comes none (field_at d h (refuse h c at) f (through (λ y. coerce d S R p h y f.ty) m))
none_comes d S R p h c at f none e n = subst (λ o. Comes none (absent d h (refuse h c at) f.ty o)) (sym e) (rw n refl)
none_comes d S R p h c at f (some y) e n = let z : ◌≡◌ {A = ℕ} 0 1 = cc in absurd (omega arith)

fields_comes : (d : Defaults) (h : Here) (at : ℕ) (g : Looks) (f : Field) (fs : List Field) (o : Option Rec) (rs : Rmems) → Comes o (field_at d (in_field f.name h) (refuse (in_field f.name h) missing_field at) f (g f.name f.ty)) → Comes rs (fields_at d h at g fs) → Comes (put f.name o rs) (fields_at d h at g (f ∷ fs))
fields_comes d h at g f fs o rs a k = comes_then o (put f.name o rs) (field_at d (in_field f.name h) (refuse (in_field f.name h) missing_field at) f (g f.name f.ty)) _ a (comes_then rs (put f.name o rs) (fields_at d h at g fs) _ k refl)

ruled-comes : (R : Rule) (h : Here) (at : ℕ) (n : Name) (D : Def) (r : Rec) → passes R n D r ≡ true → Comes r (ruled R h at n D r)
ruled-comes R h at n D r e = rw e refl

list_comes : (R : Rule) (h : Here) (at : ℕ) (n : Name) (o : Out Recs) (D : Def) (rs : Recs) → D ≡ custom_d → o ≡ ok rs → passes R n custom_d (r_list rs) ≡ true → Comes (r_list rs) (list_named R h at n o D)
list_comes R h at n o D rs e f u = rw (e, f, u) refl

object_comes : (d : Defaults) (R : Rule) (h : Here) (at : ℕ) (g : Looks) (o : Out Rmems) (ms : Mems) (n : Name) (D : Def) (rs : Rmems) → D ≡ custom_d → o ≡ ok rs → passes R n custom_d (r_object rs) ≡ true → Comes (r_object rs) (object_named d R h at g o ms n D)
object_comes d R h at g o ms n D rs e f u = rw (e, f, u) refl

mutual
  comes : {S : Schema} {R : Rule} {p : Form} {t : Ty} {v : Raw} {r : Rec} → Takes S R p t v r → (d : Defaults) → Default S R d → (h : Here) → Comes r (coerce d S R p h v t)
  comes (t_null e) d l h = rw e refl
  comes {S} {R} {p} (t_scalar {n = n} {at = at} {s = s} {x = x} a e) d l h =
      comes_then x (r_plain x) (or_wrong h at (scalar_at p (find S n) s)) _ (rw (scalar_taken a) refl) (ruled-comes R h at n (find S n) (r_plain x) e)
  comes {S} {R} {p} (t_list {b = b} {t = t} {v = v} {rs = rs} u a) d l h =
      comes_by (r_list rs) (coerce d S R p h v (list_of b t)) _ (list_is d S R p h v b t u) (comes_then rs (r_list rs) (coerce_all d S R p h (items v) t) _ (comes_all a d l h) refl)
  comes {S} {R} {p} (t_input {n = n} {at = at} {fs = fs} {ms = ms} {rs = rs} e u a) d l h =
      subst (λ D. Comes (r_object rs) (object_named d R h at (coerce_mem d S R p h ms) (keep_mems h ms) ms n D)) (sym e)
      (rw u (comes_then rs (r_object rs) (fields_at d h at (coerce_mem d S R p h ms) fs) _ (comes_fields a d l h at) refl))
  comes {S} {R} (t_any_list {n = n} {at = at} {xs = xs} {rs = rs} e a u) d l h = list_comes R h at n (keep_all h xs) (find S n) rs e (kept_all a h) u
  comes {S} {R} {p} (t_any_object {n = n} {at = at} {ms = ms} {rs = rs} e a u) d l h = object_comes d R h at (coerce_mem d S R p h ms) (keep_mems h ms) ms n (find S n) rs e (kept_mems a h) u

  comes_all : {S : Schema} {R : Rule} {p : Form} {t : Ty} {xs : Raws} {rs : Recs} → TakesAll S R p t xs rs → (d : Defaults) → Default S R d → (h : Here) → Comes rs (coerce_all d S R p h xs t)
  comes_all t_nil d l h = refl
  comes_all {S} {R} {p} {t} (t_cons {x = x} {xs = xs} {r = r} {rs = rs} a c) d l h = comes_then r (r_cons r rs) (coerce d S R p h x t) _ (comes a d l h) (comes_then rs (r_cons r rs) (coerce_all d S R p h xs t) _ (comes_all c d l h) refl)

  comes_fields : {S : Schema} {R : Rule} {p : Form} {fs : List Field} {ms : Mems} {rs : Rmems} → TakesFields S R p fs ms rs → (d : Defaults) → Default S R d → (h : Here) (at : ℕ) → Comes rs (fields_at d h at (coerce_mem d S R p h ms) fs)
  comes_fields t_end d l h at = refl
  comes_fields {S} {R} {p} {ms = ms} (t_some {f = f} {fs = fs} {x = x} {r = r} {rs = rs} e y a c) d l h at =
      subst (λ n. Comes (r_mem n r rs) (fields_at d h at (coerce_mem d S R p h ms) (f ∷ fs))) e
      (fields_comes d h at (coerce_mem d S R p h ms) f fs (some r) rs
      (rw (mem_is d S R p h ms f.name f.ty) (field_comes S R d l p (in_field f.name h) missing_field at f (member ms f.name) x r y a (λ q z. subst (λ w. Comes r (coerce d S R w (in_field f.name h) x f.ty)) (sym z) (comes a d l (in_field f.name h)))))
      (comes_fields c d l h at))
  comes_fields {S} {R} {p} {ms = ms} (t_none {f = f} {fs = fs} {rs = rs} e n c) d l h at =
      fields_comes d h at (coerce_mem d S R p h ms) f fs none rs (rw (mem_is d S R p h ms f.name f.ty) (none_comes d S R p (in_field f.name h) missing_field at f (member ms f.name) e n)) (comes_fields c d l h at)

comes_at : (k : ℕ) (S : Schema) (R : Rule) (p : Form) (h : Here) (v : Raw) (t : Ty) (r : Rec) → Takes S R p t v r → Comes r (coerce_at k S R p h v t)
comes_at zero S R p h v t r a = comes a (λ i x u. beyond) (λ i x u s b. tt) h
comes_at (suc k) S R p h v t r a = comes a (coerce_at k S R literal) (λ i x u s b. comes_at k S R literal i x u s b) h

comes_same : (r : Rec) (o : Out Rec) → Comes r o → Within o → o ≡ ok r
comes_same r (ok s) h w = ap ok h
comes_same r (refused f) h w = absurd h
comes_same r beyond h w = absurd w

-- what is taken is accepted, unless the bound is passed
pub taken_accepted : (k : ℕ) (S : Schema) (R : Rule) (p : Form) (h : Here) (v : Raw) (t : Ty) (r : Rec) → Takes S R p t v r → Within (coerce_at k S R p h v t) → coerce_at k S R p h v t ≡ ok r
taken_accepted k S R p h v t r a w = comes_same r (coerce_at k S R p h v t) (comes_at k S R p h v t r a) w

pub accepts_exactly : AcceptsExactly
accepts_exactly k S R w p h v t r = (taken (suc k) S R p h v t r, λ a. taken_accepted (suc k) S R p h v t r a (all_settle k S R w p h v t))
