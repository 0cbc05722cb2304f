-- What an open record comes to is what follows in it.
use Rattle.std.proofs.Common.{◌≡◌, ℕ, zero, suc, ◌+◌, Bool, true, false, cond, List, [], ◌∷◌, refl, ap, ◌∙◌, arith}
use mathlib.Core.Option.{Option, none, some}
use Rattle.model.specs.Values.{Name, Form, literal, Raw, Mems, nil, cons, end, mem, Ty, nullable, Field, Schema, Rec, Recs, Rmems, r_list, r_object, r_nil, r_cons, r_end, r_mem, same}
use Rattle.model.specs.Records.{size}
use Rattle.model.specs.Refusals.{missing_field, Out, ok, refused, beyond, and_then, Here, refuse, in_field, as_default}
use Rattle.model.specs.Coercion.{Rule, absent, field_at, put, member}
use Rattle.model.specs.Walk.{name_size, slot_size, WalkDefaults, at_place, walk_keep, walk_keep_all, walk_keep_mems, walk_fields, walk, walk_all, walk_mem}
use Rattle.coercion.specs.Levels.{Setting, Rest, items, kept, members, fields, join, join_mems, defaults_at, rest_at, Follows, nothing, next, missing, too_far, follows_default, follows_field, follows_fields, follows, followed_at}
use Rattle.coercion.proofs.Opened.{then_ok, then_same, walk_is}

plus_none : (n : ℕ) → n + 0 ≡ n
plus_none n = omega arith

none_plus : (n : ℕ) → n ≡ 0 + n
none_plus n = omega arith

-- what is joined
join_nil : (rs : Recs) → join rs r_nil ≡ rs
join_nil r_nil = refl
join_nil (r_cons r rs) = ap (r_cons r) (join_nil rs)

join_mems-end : (rs : Rmems) → join_mems rs r_end ≡ rs
join_mems-end r_end = refl
join_mems-end (r_mem n r rs) = ap (r_mem n r) (join_mems-end rs)

join_one : (rs : Recs) (r : Rec) (qs : Recs) → join rs (r_cons r qs) ≡ join (join rs (r_cons r r_nil)) qs
join_one r_nil r qs = refl
join_one (r_cons q rs) r qs = ap (r_cons q) (join_one rs r qs)

join_member : (rs : Rmems) (n : Name) (r : Rec) (qs : Rmems) → join_mems rs (r_mem n r qs) ≡ join_mems (join_mems rs (r_mem n r r_end)) qs
join_member r_end n r qs = refl
join_member (r_mem m q rs) n r qs = ap (r_mem m q) (join_member rs n r qs)

-- one more of what follows
put_in : {X Y : Type 0} (o : Out X) (c : X → X) (d e : X → Y) → ((x : X) → d (c x) ≡ e x) → and_then (and_then o (λ x. ok (c x))) (λ x. ok (d x)) ≡ and_then o (λ x. ok (e x))
put_in (ok x) c d e h = ap ok (h x)
put_in (refused f) c d e h = refl
put_in beyond c d e h = refl

more : {X : Type 0} (o : Out Rec) (F : Rec → Out X) (c : Rec → X → X) (d : X → Rec) (e : Rec → X → Rec) → ((r : Rec) (x : X) → d (c r x) ≡ e r x)
    → and_then (and_then o (λ r. and_then (F r) (λ x. ok (c r x)))) (λ x. ok (d x)) ≡ and_then o (λ r. and_then (F r) (λ x. ok (e r x)))
more (ok r) F c d e h = put_in (F r) (c r) d (e r) (h r)
more (refused f) F c d e h = refl
more beyond F c d e h = refl

-- a member by its name
abbrev looked : WalkDefaults → Schema → Rule → ℕ → Form → Here → Name → Ty → (depth used : ℕ) → Option Raw → Option (Out Rec)
looked d S R cap p h n t depth used none = none
looked d S R cap p h n t depth used (some x) = some (walk d S R cap p (in_field n h) x t depth used (name_size n))

found : {X : Type 0} (f : Option Raw → Option X) (b : Bool) (y : Raw) (o : Option X) (q : Option Raw) → o ≡ f q → cond b (f (some y)) o ≡ f (cond b (some y) q)
found f true y o q e = refl
found f false y o q e = e

mem_is : (d : WalkDefaults) (S : Schema) (R : Rule) (cap : ℕ) (p : Form) (h : Here) (ms : Mems) (n : Name) (t : Ty) (depth used : ℕ)
    → walk_mem d S R cap p h ms n t depth used ≡ looked d S R cap p h n t depth used (member ms n)
mem_is d S R cap p h end n t depth used = refl
mem_is d S R cap p h (mem m x ms) n t depth used = found (looked d S R cap p h n t depth used) (same m n) x _ (member ms n) (mem_is d S R cap p h ms n t depth used)

module _ (W : Setting) (p : Form) (h : Here) (at depth : ℕ) where
  -- the fields after one, by what it comes to
  abbrev rest_fields : ℕ → Rmems → Mems → Field → List Field → ℕ → Out (Option Rec) → Out Rec
  rest_fields k rs ms f fs used o =
      and_then (and_then o (λ q. and_then (walk_fields (defaults_at k W.schema W.rule W.cap) h at (walk_mem (defaults_at k W.schema W.rule W.cap) W.schema W.rule W.cap p h ms) fs depth (used + slot_size f.name q)) (λ ms. ok (put f.name q ms))))
      (λ qs. ok (r_object (join_mems rs qs)))

  field_in : (k : ℕ) (rs : Rmems) (ms : Mems) (f : Field) (fs : List Field) (used : ℕ) (o : Out Rec)
      → rest_fields k rs ms f fs used (and_then o (λ r. ok (some r))) ≡ and_then o (λ r. rest_at W k p h at depth (used + (name_size f.name + size r)) (fields (join_mems rs (r_mem f.name r r_end)) ms fs))
  field_in k rs ms f fs used (ok r) = put_in (walk_fields (defaults_at k W.schema W.rule W.cap) h at (walk_mem (defaults_at k W.schema W.rule W.cap) W.schema W.rule W.cap p h ms) fs depth (used + (name_size f.name + size r)))
      (r_mem f.name r) (λ qs. r_object (join_mems rs qs)) (λ qs. r_object (join_mems (join_mems rs (r_mem f.name r r_end)) qs)) (λ qs. ap r_object (join_member rs f.name r qs))
  field_in k rs ms f fs used (refused q) = refl
  field_in k rs ms f fs used beyond = refl

  field_out : (k : ℕ) (rs : Rmems) (ms : Mems) (f : Field) (fs : List Field) (used : ℕ) → rest_fields k rs ms f fs used (ok none) ≡ rest_at W k p h at depth used (fields rs ms fs)
  field_out k rs ms f fs used =
      ap (λ o. and_then o (λ qs. ok (r_object (join_mems rs qs)))) (then_ok (walk_fields (defaults_at k W.schema W.rule W.cap) h at (walk_mem (defaults_at k W.schema W.rule W.cap) W.schema W.rule W.cap p h ms) fs depth (used + 0)))
      ∙ ap (λ u. rest_at W k p h at depth u (fields rs ms fs)) (plus_none used)

  past_field : (k : ℕ) (rs : Rmems) (ms : Mems) (f : Field) (fs : List Field) (used : ℕ) (o : Follows)
      → followed_at W k p h at depth used (fields rs ms fs) o ≡ followed_at W k p h at depth used (fields rs ms (f ∷ fs)) o
  past_field k rs ms f fs used nothing = refl
  past_field k rs ms f fs used (next c y) = refl
  past_field k rs ms f fs used (missing n) = refl
  past_field k rs ms f fs used too_far = refl

  may_be_absent : (k : ℕ) (rs : Rmems) (ms : Mems) (f : Field) (fs : List Field) (used : ℕ) (o : Follows) (b : Bool)
      → rest_at W k p h at depth used (fields rs ms fs) ≡ followed_at W k p h at depth used (fields rs ms fs) o
      → rest_fields k rs ms f fs used (cond b (ok none) (refuse (in_field f.name h) missing_field at)) ≡ followed_at W k p h at depth used (fields rs ms (f ∷ fs)) (cond b o (missing f.name))
  may_be_absent k rs ms f fs used o true e = field_out k rs ms f fs used ∙ e ∙ past_field k rs ms f fs used o
  may_be_absent k rs ms f fs used o false e = refl

  default_follows : (k : ℕ) (rs : Rmems) (ms : Mems) (f : Field) (fs : List Field) (used : ℕ) (x : Raw)
      → rest_fields k rs ms f fs used (and_then (defaults_at k W.schema W.rule W.cap (as_default (in_field f.name h)) x f.ty depth used (name_size f.name)) (λ r. ok (some r)))
      ≡ followed_at W k p h at depth used (fields rs ms (f ∷ fs)) (follows_default k h rs ms fs f x)
  default_follows zero rs ms f fs used x = refl
  default_follows (suc k) rs ms f fs used x = field_in (suc k) rs ms f fs used _ ∙ ap (λ o. and_then o (λ r. rest_at W (suc k) p h at depth (used + (name_size f.name + size r)) (fields (join_mems rs (r_mem f.name r r_end)) ms fs))) (walk_is k W literal (as_default (in_field f.name h)) x f.ty depth used (name_size f.name))

  absent_follows : (k : ℕ) (rs : Rmems) (ms : Mems) (f : Field) (fs : List Field) (used : ℕ) (d : Option Raw) (o : Follows)
      → rest_at W k p h at depth used (fields rs ms fs) ≡ followed_at W k p h at depth used (fields rs ms fs) o
      → rest_fields k rs ms f fs used (absent (at_place (defaults_at k W.schema W.rule W.cap) depth used (name_size f.name)) (in_field f.name h) (refuse (in_field f.name h) missing_field at) f.ty d)
      ≡ followed_at W k p h at depth used (fields rs ms (f ∷ fs)) (follows_field k p h rs ms fs f none d o)
  absent_follows k rs ms f fs used none o e = may_be_absent k rs ms f fs used o (nullable f.ty) e
  absent_follows k rs ms f fs used (some x) o e = default_follows k rs ms f fs used x

  field_follows : (k : ℕ) (rs : Rmems) (ms : Mems) (f : Field) (fs : List Field) (used : ℕ) (m : Option Raw) (o : Follows)
      → rest_at W k p h at depth used (fields rs ms fs) ≡ followed_at W k p h at depth used (fields rs ms fs) o
      → rest_fields k rs ms f fs used (field_at (at_place (defaults_at k W.schema W.rule W.cap) depth used (name_size f.name)) (in_field f.name h) (refuse (in_field f.name h) missing_field at) f (looked (defaults_at k W.schema W.rule W.cap) W.schema W.rule W.cap p h f.name f.ty depth used m))
      ≡ followed_at W k p h at depth used (fields rs ms (f ∷ fs)) (follows_field k p h rs ms fs f m f.dflt o)
  field_follows k rs ms f fs used none o e = absent_follows k rs ms f fs used f.dflt o e
  field_follows k rs ms f fs used (some x) o e = field_in k rs ms f fs used (walk (defaults_at k W.schema W.rule W.cap) W.schema W.rule W.cap p (in_field f.name h) x f.ty depth used (name_size f.name))

  fields_follow : (k : ℕ) (rs : Rmems) (ms : Mems) (fs : List Field) (used : ℕ) → rest_at W k p h at depth used (fields rs ms fs) ≡ followed_at W k p h at depth used (fields rs ms fs) (follows_fields k p h rs ms fs)
  fields_follow k rs ms [] used = ap (λ l. ok (r_object l)) (join_mems-end rs)
  fields_follow k rs ms (f ∷ fs) used =
      ap (λ q. rest_fields k rs ms f fs used (field_at (at_place (defaults_at k W.schema W.rule W.cap) depth used (name_size f.name)) (in_field f.name h) (refuse (in_field f.name h) missing_field at) f q)) (mem_is (defaults_at k W.schema W.rule W.cap) W.schema W.rule W.cap p h ms f.name f.ty depth used)
      ∙ field_follows k rs ms f fs used (member ms f.name) (follows_fields k p h rs ms fs) (fields_follow k rs ms fs used)

  pub rest_follows : (k used : ℕ) (x : Rest) → rest_at W k p h at depth used x ≡ followed_at W k p h at depth used x (follows k p h x)
  rest_follows k used (items rs t nil) = ap (λ l. ok (r_list l)) (join_nil rs)
  rest_follows k used (items rs t (cons x xs)) = more (walk (defaults_at k W.schema W.rule W.cap) W.schema W.rule W.cap p h x t depth used 0) (λ r. walk_all (defaults_at k W.schema W.rule W.cap) W.schema W.rule W.cap p h xs t depth (used + size r))
      r_cons (λ qs. r_list (join rs qs)) (λ r qs. r_list (join (join rs (r_cons r r_nil)) qs)) (λ r qs. ap r_list (join_one rs r qs))
      ∙ then_same (walk (defaults_at k W.schema W.rule W.cap) W.schema W.rule W.cap p h x t depth used 0) (λ r. rest_at W k p h at depth (used + size r) (items (join rs (r_cons r r_nil)) t xs)) _ (λ r. ap (λ n. rest_at W k p h at depth (used + n) (items (join rs (r_cons r r_nil)) t xs)) (none_plus (size r)))
  rest_follows k used (kept rs nil) = ap (λ l. ok (r_list l)) (join_nil rs)
  rest_follows k used (kept rs (cons x xs)) = more (walk_keep h W.cap depth used 0 x) (λ r. walk_keep_all h W.cap depth (used + size r) xs)
      r_cons (λ qs. r_list (join rs qs)) (λ r qs. r_list (join (join rs (r_cons r r_nil)) qs)) (λ r qs. ap r_list (join_one rs r qs))
      ∙ then_same (walk_keep h W.cap depth used 0 x) (λ r. rest_at W k p h at depth (used + size r) (kept (join rs (r_cons r r_nil)) xs)) _ (λ r. ap (λ n. rest_at W k p h at depth (used + n) (kept (join rs (r_cons r r_nil)) xs)) (none_plus (size r)))
  rest_follows k used (members rs end) = ap (λ l. ok (r_object l)) (join_mems-end rs)
  rest_follows k used (members rs (mem n x ms)) = more (walk_keep h W.cap depth used (name_size n) x) (λ r. walk_keep_mems h W.cap depth (used + (name_size n + size r)) ms)
      (r_mem n) (λ qs. r_object (join_mems rs qs)) (λ r qs. r_object (join_mems (join_mems rs (r_mem n r r_end)) qs)) (λ r qs. ap r_object (join_member rs n r qs))
  rest_follows k used (fields rs ms fs) = fields_follow k rs ms fs used
