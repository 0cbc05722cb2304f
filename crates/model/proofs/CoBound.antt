-- coercion is one function of what its defaults come to: what relates those relates it
use Rattle.std.proofs.Common.{◌≡◌, ℕ, zero, suc, Bool, true, false, cond, List, [], ◌∷◌, refl}
use mathlib.Core.Option.{Option, none, some}
use Rattle.model.specs.Values.{Name, Form, literal, Scalar, Raw, Raws, Mems, null, scalar, variable, list, object, nil, cons, end, mem, Ty, named, list_of, nullable, Field, Def, int_d, float_d, string_d, boolean_d, id_d, enum_d, input_d, custom_d, output_d, Schema, find, Plain, Rec, Recs, Rmems, r_plain, r_list, r_object, r_nil, r_cons, r_end, same, field_names}
use Rattle.model.specs.Refusals.{Cause, missing_field, Refusal, Out, ok, refused, beyond, and_then, Here, refuse, in_field, as_default}
use Rattle.model.specs.Scalars.{scalar_at}
use Rattle.model.specs.Coercion.{Rule, keep, keep_all, keep_mems, passes, ruled, or_wrong, scalar_named, null_at, one, ones, list_named, first_undeclared, if_declared, Defaults, absent, field_at, put, Looks, fields_at, object_named, coerce, coerce_all, coerce_mem, coerce_at}
use Rattle.model.specs.Bounds.{Within, OfDefault, EachDefault}
use Rattle.model.specs.Laws.{OutcomeStays, AllSettle}
use Rattle.model.proofs.CoNames.{of_input}

pub within_then : {X Y : Type 0} (o : Out X) (f : X → Out Y) → Within o → ((x : X) → Within (f x)) → Within (and_then o f)
within_then (ok x) f h k = k x
within_then (refused n) f h k = tt
within_then beyond f h k = absurd h

pub within_cond : {X : Type 0} (b : Bool) (o q : Out X) → Within o → Within q → Within (cond b o q)
within_cond true o q h k = h
within_cond false o q h k = k

-- what asks no default is never beyond the bound
mutual
  keep-within : (h : Here) (x : Raw) → Within (keep h x)
  keep-within h (null at) = tt
  keep-within h (scalar at s) = tt
  keep-within h (variable at n) = tt
  keep-within h (list at xs) = within_then (keep_all h xs) _ (keep_all-within h xs) (λ rs. tt)
  keep-within h (object at ms) = within_then (keep_mems h ms) _ (keep_mems-within h ms) (λ rs. tt)

  keep_all-within : (h : Here) (xs : Raws) → Within (keep_all h xs)
  keep_all-within h nil = tt
  keep_all-within h (cons x xs) = within_then (keep h x) _ (keep-within h x) (λ r. within_then (keep_all h xs) _ (keep_all-within h xs) (λ rs. tt))

  pub keep_mems-within : (h : Here) (ms : Mems) → Within (keep_mems h ms)
  keep_mems-within h end = tt
  keep_mems-within h (mem n x ms) = within_then (keep h x) _ (keep-within h x) (λ r. within_then (keep_mems h ms) _ (keep_mems-within h ms) (λ rs. tt))

pub ruled-within : (R : Rule) (h : Here) (at : ℕ) (n : Name) (D : Def) (r : Rec) → Within (ruled R h at n D r)
ruled-within R h at n D r = within_cond (passes R n D r) (ok r) _ tt tt

or_within : (h : Here) (at : ℕ) (o : Option Plain) → Within (or_wrong h at o)
or_within h at none = tt
or_within h at (some x) = tt

pub scalar_within : (R : Rule) (h : Here) (p : Form) (at : ℕ) (s : Scalar) (n : Name) (D : Def) → Within (scalar_named R h p at s n D)
scalar_within R h p at s n D = within_then (or_wrong h at (scalar_at p D s)) _ (or_within h at (scalar_at p D s)) (λ x. ruled-within R h at n D (r_plain x))

pub null_within : (h : Here) (at : ℕ) (b : Bool) → Within (null_at h at b)
null_within h at true = tt
null_within h at false = tt

pub named_within : (R : Rule) (h : Here) (at : ℕ) (n : Name) (xs : Raws) (D : Def) → Within (list_named R h at n (keep_all h xs) D)
named_within R h at n xs int_d = tt
named_within R h at n xs float_d = tt
named_within R h at n xs string_d = tt
named_within R h at n xs boolean_d = tt
named_within R h at n xs id_d = tt
named_within R h at n xs (enum_d ns) = tt
named_within R h at n xs (input_d fs) = tt
named_within R h at n xs custom_d = within_then (keep_all h xs) _ (keep_all-within h xs) (λ rs. ruled-within R h at n custom_d (r_list rs))
named_within R h at n xs output_d = tt

abbrev Relation : Type 1
Relation = (X : Type 0) → Out X → Out X → Type 0

record Lifts (V : Relation) : Type 1 where
  oks : (X : Type 0) (x : X) → V X (ok x) (ok x)
  refusals : (X : Type 0) (f : Refusal) → V X (refused f) (refused f)
  thens : (X Y : Type 0) (o q : Out X) (f g : X → Out Y) → V X o q → ((x : X) → V Y (f x) (g x)) → V Y (and_then o f) (and_then q g)

itself : (V : Relation) → Lifts V → (X : Type 0) (o : Out X) → Within o → V X o o
itself V l X (ok x) h = l.oks X x
itself V l X (refused f) h = l.refusals X f
itself V l X beyond h = absurd h

conds : (V : Relation) (X : Type 0) (b : Bool) (o q u w : Out X) → V X o q → V X u w → V X (cond b o u) (cond b q w)
conds V X true o q u w h k = h
conds V X false o q u w h k = k

ones-lift : (V : Relation) → Lifts V → (f g : Name → Out Rec) → ((n : Name) → V Rec (f n) (g n)) → (t : Ty) → V Rec (ones f t) (ones g t)
ones-lift V l f g h (named b n) = h n
ones-lift V l f g h (list_of b t) = l.thens Rec Rec (ones f t) (ones g t) one one (ones-lift V l f g h t) (λ r. l.oks Rec (r_list (r_cons r r_nil)))

abbrev Both : Relation → Option (Out Rec) → Option (Out Rec) → Type 0
Both V none none = Unit {0}
Both V none (some q) = ⊥
Both V (some o) none = ⊥
Both V (some o) (some q) = V Rec o q

-- two coercers of defaults are related at a default
abbrev Related : Relation → Defaults → Defaults → Raw → Ty → Type 0
Related V d e x t = (h : Here) → V Rec (d h x t) (e h x t)

somes : (V : Relation) → Lifts V → (o q : Out Rec) → V Rec o q → V (Option Rec) (and_then o (λ r. ok (some r))) (and_then q (λ r. ok (some r)))
somes V l o q h = l.thens Rec (Option Rec) o q (λ r. ok (some r)) (λ r. ok (some r)) h (λ r. l.oks (Option Rec) (some r))

absent_lift : (V : Relation) → Lifts V → (d e : Defaults) (h : Here) (c : Cause) (at : ℕ) (t : Ty) (x : Option Raw) → OfDefault (Related V d e) t x → V (Option Rec) (absent d h (refuse h c at) t x) (absent e h (refuse h c at) t x)
absent_lift V l d e h c at t none k = itself V l (Option Rec) (absent d h (refuse h c at) t none) (within_cond (nullable t) (ok none) _ tt tt)
absent_lift V l d e h c at t (some x) k = somes V l (d (as_default h) x t) (e (as_default h) x t) (k (as_default h))

field_lift : (V : Relation) → Lifts V → (d e : Defaults) (h : Here) (c : Cause) (at : ℕ) (f : Field) (o q : Option (Out Rec)) → OfDefault (Related V d e) f.ty f.dflt → Both V o q → V (Option Rec) (field_at d h (refuse h c at) f o) (field_at e h (refuse h c at) f q)
field_lift V l d e h c at f none none k m = absent_lift V l d e h c at f.ty f.dflt k
field_lift V l d e h c at f none (some q) k m = absurd m
field_lift V l d e h c at f (some o) none k m = absurd m
field_lift V l d e h c at f (some o) (some q) k m = somes V l o q m

fields_lift : (V : Relation) → Lifts V → (d e : Defaults) (h : Here) (at : ℕ) (g k : Looks) → ((n : Name) (t : Ty) → Both V (g n t) (k n t)) → (fs : List Field) → EachDefault (Related V d e) fs → V Rmems (fields_at d h at g fs) (fields_at e h at k fs)
fields_lift V l d e h at g k m [] w = l.oks Rmems r_end
fields_lift V l d e h at g k m (f ∷ fs) w =
    l.thens (Option Rec) Rmems (field_at d (in_field f.name h) (refuse (in_field f.name h) missing_field at) f (g f.name f.ty)) (field_at e (in_field f.name h) (refuse (in_field f.name h) missing_field at) f (k f.name f.ty)) _ _
    (field_lift V l d e (in_field f.name h) missing_field at f (g f.name f.ty) (k f.name f.ty) w.0 (m f.name f.ty))
    (λ o. l.thens Rmems Rmems (fields_at d h at g fs) (fields_at e h at k fs) _ _ (fields_lift V l d e h at g k m fs w.1) (λ ms. l.oks Rmems (put f.name o ms)))

declared_lift : (V : Relation) → Lifts V → (h : Here) (u : Option ℕ) (o q : Out Rec) → V Rec o q → V Rec (if_declared h u o) (if_declared h u q)
declared_lift V l h none o q k = k
declared_lift V l h (some at) o q k = l.refusals Rec _

object_lift : (V : Relation) → Lifts V → (d e : Defaults) (R : Rule) (h : Here) (at : ℕ) (g k : Looks) → ((n : Name) (t : Ty) → Both V (g n t) (k n t)) → (ms : Mems) (n : Name) (D : Def) → ((fs : List Field) → D ≡ input_d fs → EachDefault (Related V d e) fs)
    → V Rec (object_named d R h at g (keep_mems h ms) ms n D) (object_named e R h at k (keep_mems h ms) ms n D)
object_lift V l d e R h at g k m ms n int_d w = l.refusals Rec _
object_lift V l d e R h at g k m ms n float_d w = l.refusals Rec _
object_lift V l d e R h at g k m ms n string_d w = l.refusals Rec _
object_lift V l d e R h at g k m ms n boolean_d w = l.refusals Rec _
object_lift V l d e R h at g k m ms n id_d w = l.refusals Rec _
object_lift V l d e R h at g k m ms n (enum_d ns) w = l.refusals Rec _
object_lift V l d e R h at g k m ms n (input_d fs) w = declared_lift V l h (first_undeclared (field_names fs) ms) _ _
    (l.thens Rmems Rec (fields_at d h at g fs) (fields_at e h at k fs) _ _ (fields_lift V l d e h at g k m fs (w fs refl)) (λ rs. l.oks Rec (r_object rs)))
object_lift V l d e R h at g k m ms n custom_d w = itself V l Rec (object_named d R h at g (keep_mems h ms) ms n custom_d)
    (within_then (keep_mems h ms) _ (keep_mems-within h ms) (λ rs. ruled-within R h at n custom_d (r_object rs)))
object_lift V l d e R h at g k m ms n output_d w = l.refusals Rec _

mem_lift : (V : Relation) (b : Bool) (o q : Out Rec) (u w : Option (Out Rec)) → V Rec o q → Both V u w → Both V (cond b (some o) u) (cond b (some q) w)
mem_lift V true o q u w h k = h
mem_lift V false o q u w h k = k

abbrev AllRelated : Relation → Schema → Defaults → Defaults → Type 0
AllRelated V S d e = (n : Name) (fs : List Field) → find S n ≡ input_d fs → EachDefault (Related V d e) fs

mutual
  lift : (V : Relation) → Lifts V → (S : Schema) (R : Rule) (d e : Defaults) → AllRelated V S d e → (p : Form) (h : Here) (v : Raw) (t : Ty) → V Rec (coerce d S R p h v t) (coerce e S R p h v t)
  lift V l S R d e w p h (null at) t = itself V l Rec (null_at h at (nullable t)) (null_within h at (nullable t))
  lift V l S R d e w p h (scalar at s) t = ones-lift V l _ _ (λ n. itself V l Rec (scalar_named R h p at s n (find S n)) (scalar_within R h p at s n (find S n))) t
  lift V l S R d e w p h (variable at n) t = l.refusals Rec _
  lift V l S R d e w p h (list at xs) (named b n) = itself V l Rec (list_named R h at n (keep_all h xs) (find S n)) (named_within R h at n xs (find S n))
  lift V l S R d e w p h (list at xs) (list_of b t) = l.thens Recs Rec (coerce_all d S R p h xs t) (coerce_all e S R p h xs t) _ _ (lift_all V l S R d e w p h xs t) (λ rs. l.oks Rec (r_list rs))
  lift V l S R d e w p h (object at ms) t = ones-lift V l _ _ (λ n. object_lift V l d e R h at (coerce_mem d S R p h ms) (coerce_mem e S R p h ms) (lift_mem V l S R d e w p h ms) ms n (find S n) (w n)) t

  lift_all : (V : Relation) → Lifts V → (S : Schema) (R : Rule) (d e : Defaults) → AllRelated V S d e → (p : Form) (h : Here) (xs : Raws) (t : Ty) → V Recs (coerce_all d S R p h xs t) (coerce_all e S R p h xs t)
  lift_all V l S R d e w p h nil t = l.oks Recs r_nil
  lift_all V l S R d e w p h (cons x xs) t = l.thens Rec Recs (coerce d S R p h x t) (coerce e S R p h x t) _ _ (lift V l S R d e w p h x t)
      (λ r. l.thens Recs Recs (coerce_all d S R p h xs t) (coerce_all e S R p h xs t) _ _ (lift_all V l S R d e w p h xs t) (λ rs. l.oks Recs (r_cons r rs)))

  lift_mem : (V : Relation) → Lifts V → (S : Schema) (R : Rule) (d e : Defaults) → AllRelated V S d e → (p : Form) (h : Here) (ms : Mems) (n : Name) (t : Ty) → Both V (coerce_mem d S R p h ms n t) (coerce_mem e S R p h ms n t)
  lift_mem V l S R d e w p h end n t = tt
  lift_mem V l S R d e w p h (mem m x ms) n t = mem_lift V (same m n) (coerce d S R p (in_field n h) x t) (coerce e S R p (in_field n h) x t) (coerce_mem d S R p h ms n t) (coerce_mem e S R p h ms n t) (lift V l S R d e w p (in_field n h) x t) (lift_mem V l S R d e w p h ms n t)

-- the second has the first's outcome, if it has one
abbrev Below : Relation
Below X (ok x) q = q ≡ ok x
Below X (refused f) q = q ≡ refused f
Below X beyond q = Unit {0}

below_then : (X Y : Type 0) (o q : Out X) (f g : X → Out Y) → Below X o q → ((x : X) → Below Y (f x) (g x)) → Below Y (and_then o f) (and_then q g)
below_then X Y (ok x) q f g h k = rw h (k x)
below_then X Y (refused n) q f g h k = rw h refl
below_then X Y beyond q f g h k = tt

below : Lifts Below
below = record { oks = λ X x. refl; refusals = λ X f. refl; thens = below_then }

every_default : (P : Raw → Ty → Type 0) → ((x : Raw) (t : Ty) → P x t) → (fs : List Field) → EachDefault P fs
every_default P h [] = tt
every_default P h (f ∷ fs) = (elim f.dflt as (λ o. OfDefault P f.ty o) [ none ↦ tt | some x ↦ h x f.ty ], every_default P h fs)

grows : (k : ℕ) (S : Schema) (R : Rule) (p : Form) (h : Here) (v : Raw) (t : Ty) → Below Rec (coerce_at k S R p h v t) (coerce_at (suc k) S R p h v t)
grows zero S R p h v t = lift Below below S R (λ i x u. beyond) (coerce_at 0 S R literal) (λ n fs e. every_default (Related Below (λ i x u. beyond) (coerce_at 0 S R literal)) (λ x u i. tt) fs) p h v t
grows (suc k) S R p h v t = lift Below below S R (coerce_at k S R literal) (coerce_at (suc k) S R literal) (λ n fs e. every_default (Related Below (coerce_at k S R literal) (coerce_at (suc k) S R literal)) (λ x u i. grows k S R literal i x u) fs) p h v t

below_same : (o q : Out Rec) → Below Rec o q → Within o → q ≡ o
below_same (ok r) q h w = h
below_same (refused f) q h w = h
below_same beyond q h w = absurd w

pub outcome_stays : OutcomeStays
outcome_stays k S R p h v t w = below_same (coerce_at k S R p h v t) (coerce_at (suc k) S R p h v t) (grows k S R p h v t) w

abbrev First : Relation
First X o q = Within o

first_then : (X Y : Type 0) (o q : Out X) (f g : X → Out Y) → First X o q → ((x : X) → First Y (f x) (g x)) → First Y (and_then o f) (and_then q g)
first_then X Y o q f g h k = within_then o f h k

pub all_settle : AllSettle
all_settle k S R w p h v t = lift First (record { oks = λ X x. tt; refusals = λ X f. tt; thens = first_then }) S R (coerce_at k S R literal) (coerce_at k S R literal) (of_input (EachDefault (λ x u. (i : Here) → Within (coerce_at k S R literal i x u))) S w) p h v t
