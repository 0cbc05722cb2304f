-- The walk beside coercion without limits, clause by clause.
use Rattle.std.proofs.Common.{◌≡◌, ℕ, zero, suc, ◌+◌, ◌≤◌, Bool, true, false, cond, List, [], ◌∷◌, refl, subst, inl, arith}
use mathlib.Core.Option.{Option, none, some}
use Rattle.model.specs.Values.{Name, Form, literal, Raw, Raws, Mems, null, scalar, variable, list, object, nil, cons, end, mem, Ty, named, list_of, nullable, Field, Def, int_d, float_d, string_d, boolean_d, id_d, enum_d, input_d, custom_d, output_d, Schema, find, Plain, Rec, Recs, Rmems, r_null, r_plain, r_list, r_object, r_nil, r_cons, r_mem, same, field_names}
use Rattle.model.specs.Records.{size, size_all, size_mems}
use Rattle.model.specs.Refusals.{missing_field, scalar_refused, Out, ok, refused, beyond, and_then, Here, refuse, in_field, as_default}
use Rattle.model.specs.Scalars.{plain, scalar_at}
use Rattle.model.specs.Coercion.{Rule, keep, keep_all, keep_mems, passes, ruled, or_wrong, null_at, ones, list_named, first_undeclared, if_declared, Defaults, absent, field_at, put, Looks, fields_at, object_named, coerce, coerce_all, coerce_mem, coerce_at}
use Rattle.model.specs.Walk.{opening, leaf, name_size, slot_size, walk_keep, walk_keep_all, walk_keep_mems, walk_null, Placed, walk_ones, walk_list_named, WalkDefaults, WalkLooks, at_place, walk_fields, walk_object_named, walk, walk_all, walk_mem, walk_at}
use Rattle.model.specs.Limits.{Shallow, ShallowAll, ShallowMems}
use Rattle.model.specs.Laws.{WalkAgrees}
use Rattle.model.proofs.CoGood.{good_all, good_each, good_cond}
use Rattle.model.proofs.WalkMeets.{Meets, meets_then, meets_put, meets_cond, meets_open, meets_limited}

-- there is room for a record, records, members, a member or none
abbrev pub Room : (cap depth used lead : ℕ) → Rec → Type 0
Room cap depth used lead r = Shallow depth r × (used + (lead + size r) ≤ cap)

abbrev RoomAll : (cap depth used : ℕ) → Recs → Type 0
RoomAll cap depth used rs = ShallowAll depth rs × (used + size_all rs ≤ cap)

abbrev RoomMems : (cap depth used : ℕ) → Rmems → Type 0
RoomMems cap depth used rs = ShallowMems depth rs × (used + size_mems rs ≤ cap)

abbrev RoomSlot : (cap depth used : ℕ) → Name → Option Rec → Type 0
RoomSlot cap depth used n none = used ≤ cap
RoomSlot cap depth used n (some r) = Room cap depth used (name_size n) r

shallow_depth : (d : ℕ) (r : Rec) → Shallow d r → d ≤ 32
shallow_depth d r_null h = h
shallow_depth d (r_plain x) h = h
shallow_depth d (r_list rs) h = h.0
shallow_depth d (r_object ms) h = h.0

size-least : (r : Rec) → 6 ≤ size r
size-least r_null = omega arith
size-least (r_plain x) = omega arith
size-least (r_list rs) = omega arith
size-least (r_object ms) = omega arith

-- a record that holds no other
leaf_meets : (h : Here) (at cap depth used lead : ℕ) (r : Rec) → (depth ≤ 32 → Shallow depth r) → Meets (Room cap depth used lead) (leaf h at cap depth used lead r) (ok r)
leaf_meets h at cap depth used lead r f = meets_open (Room cap depth used lead) h at cap depth used (lead + size r) (ok r) (ok r) (λ d s. (refl, (f d, s))) (λ q. (shallow_depth depth r q.0, q.1))

-- a record that holds others
holds_meets : (h : Here) (at cap depth used lead : ℕ) (F G : Out Rec) → (depth ≤ 32 → used + (lead + 6) ≤ cap → Meets (Room cap depth used lead) F G) → Meets (Room cap depth used lead) (and_then (opening h at cap depth used (lead + 6)) (λ u. F)) G
holds_meets h at cap depth used lead F G k = meets_open (Room cap depth used lead) h at cap depth used (lead + 6) F G k
    (good_each (λ x. Room cap depth used lead x → (depth ≤ 32) × (used + (lead + 6) ≤ cap)) G (λ x q. (shallow_depth depth x q.0, omega (arith, size-least x, q.1))))

list_meets : (h : Here) (at cap depth used lead : ℕ) (F G : Out Recs) → (used + (lead + 6) ≤ cap → Meets (RoomAll cap (suc depth) (used + (lead + 6))) F G)
    → Meets (Room cap depth used lead) (and_then (opening h at cap depth used (lead + 6)) (λ u. and_then F (λ rs. ok (r_list rs)))) (and_then G (λ rs. ok (r_list rs)))
list_meets h at cap depth used lead F G k = holds_meets h at cap depth used lead (and_then F (λ rs. ok (r_list rs))) (and_then G (λ rs. ok (r_list rs)))
    (λ d s. meets_put (RoomAll cap (suc depth) (used + (lead + 6))) (Room cap depth used lead) F G r_list (k s) (λ rs p. ((d, p.0), omega (arith, p.1))) (λ rs p. (p.0.1, omega (arith, p.1))))

object_meets : (h : Here) (at cap depth used lead : ℕ) (F G : Out Rmems) → (used + (lead + 6) ≤ cap → Meets (RoomMems cap (suc depth) (used + (lead + 6))) F G)
    → Meets (Room cap depth used lead) (and_then (opening h at cap depth used (lead + 6)) (λ u. and_then F (λ rs. ok (r_object rs)))) (and_then G (λ rs. ok (r_object rs)))
object_meets h at cap depth used lead F G k = holds_meets h at cap depth used lead (and_then F (λ rs. ok (r_object rs))) (and_then G (λ rs. ok (r_object rs)))
    (λ d s. meets_put (RoomMems cap (suc depth) (used + (lead + 6))) (Room cap depth used lead) F G r_object (k s) (λ rs p. ((d, p.0), omega (arith, p.1))) (λ rs p. (p.0.1, omega (arith, p.1))))

-- one more record, and then the others
cons_meets : (cap depth used : ℕ) (o q : Out Rec) (F : ℕ → Out Recs) (G : Out Recs) → Meets (Room cap depth used 0) o q → ((n : ℕ) → n ≤ cap → Meets (RoomAll cap depth n) (F n) G)
    → Meets (RoomAll cap depth used) (and_then o (λ r. and_then (F (used + size r)) (λ rs. ok (r_cons r rs)))) (and_then q (λ r. and_then G (λ rs. ok (r_cons r rs))))
cons_meets cap depth used o q F G h k = meets_then (Room cap depth used 0) (RoomAll cap depth used) o q _ _ h
    (λ r p. meets_put (RoomAll cap depth (used + size r)) (RoomAll cap depth used) (F (used + size r)) G (λ rs. r_cons r rs) (k (used + size r) (omega (arith, p.1))) (λ rs a. ((p.0, a.0), omega (arith, a.1))) (λ rs a. (a.0.1, omega (arith, a.1))))
    (λ r. good_all (λ y. RoomAll cap depth used y → Room cap depth used 0 r) G (λ rs. ok (r_cons r rs)) (λ rs a. (a.0.0, omega (arith, a.1))))

mem_meets : (cap depth used : ℕ) (n : Name) (o q : Out Rec) (F : ℕ → Out Rmems) (G : Out Rmems) → Meets (Room cap depth used (name_size n)) o q → ((m : ℕ) → m ≤ cap → Meets (RoomMems cap depth m) (F m) G)
    → Meets (RoomMems cap depth used) (and_then o (λ r. and_then (F (used + (name_size n + size r))) (λ rs. ok (r_mem n r rs)))) (and_then q (λ r. and_then G (λ rs. ok (r_mem n r rs))))
mem_meets cap depth used n o q F G h k = meets_then (Room cap depth used (name_size n)) (RoomMems cap depth used) o q _ _ h
    (λ r p. meets_put (RoomMems cap depth (used + (name_size n + size r))) (RoomMems cap depth used) (F (used + (name_size n + size r))) G (λ rs. r_mem n r rs) (k (used + (name_size n + size r)) p.1) (λ rs a. ((p.0, a.0), omega (arith, a.1))) (λ rs a. (a.0.1, omega (arith, a.1))))
    (λ r. good_all (λ y. RoomMems cap depth used y → Room cap depth used (name_size n) r) G (λ rs. ok (r_mem n r rs)) (λ rs a. (a.0.0, omega (arith, a.1))))

mutual
  keep_meets : (h : Here) (cap depth used lead : ℕ) (x : Raw) → Meets (Room cap depth used lead) (walk_keep h cap depth used lead x) (keep h x)
  keep_meets h cap depth used lead (null at) = leaf_meets h at cap depth used lead r_null (λ d. d)
  keep_meets h cap depth used lead (scalar at s) = leaf_meets h at cap depth used lead (r_plain (plain s)) (λ d. d)
  keep_meets h cap depth used lead (variable at n) = inl refl
  keep_meets h cap depth used lead (list at xs) = list_meets h at cap depth used lead _ _ (keep_all-meets h cap (suc depth) (used + (lead + 6)) xs)
  keep_meets h cap depth used lead (object at ms) = object_meets h at cap depth used lead _ _ (keep_mems-meet h cap (suc depth) (used + (lead + 6)) ms)

  keep_all-meets : (h : Here) (cap depth used : ℕ) (xs : Raws) → used ≤ cap → Meets (RoomAll cap depth used) (walk_keep_all h cap depth used xs) (keep_all h xs)
  keep_all-meets h cap depth used nil s = (refl, (tt, omega arith))
  keep_all-meets h cap depth used (cons x xs) s = cons_meets cap depth used (walk_keep h cap depth used 0 x) (keep h x) (λ n. walk_keep_all h cap depth n xs) (keep_all h xs) (keep_meets h cap depth used 0 x) (λ n. keep_all-meets h cap depth n xs)

  keep_mems-meet : (h : Here) (cap depth used : ℕ) (ms : Mems) → used ≤ cap → Meets (RoomMems cap depth used) (walk_keep_mems h cap depth used ms) (keep_mems h ms)
  keep_mems-meet h cap depth used end s = (refl, (tt, omega arith))
  keep_mems-meet h cap depth used (mem n x ms) s = mem_meets cap depth used n (walk_keep h cap depth used (name_size n) x) (keep h x) (λ m. walk_keep_mems h cap depth m ms) (keep_mems h ms) (keep_meets h cap depth used (name_size n) x) (λ m. keep_mems-meet h cap depth m ms)

-- a rule accepts or refuses, in both alike
ruled-meets : (Q : Rec → Type 0) (R : Rule) (h : Here) (at : ℕ) (n : Name) (D : Def) (o q : Out Rec) → Meets Q o q → Meets Q (and_then o (λ r. ruled R h at n D r)) (and_then q (λ r. ruled R h at n D r))
ruled-meets Q R h at n D o q m = meets_then Q Q o q (λ r. ruled R h at n D r) (λ r. ruled R h at n D r) m
    (λ r p. meets_cond Q (passes R n D r) (ok r) (ok r) (refuse h scalar_refused at) (refuse h scalar_refused at) (refl, p) (inl refl))
    (λ r. good_cond (λ y. Q y → Q r) (passes R n D r) (ok r) (refuse h scalar_refused at) (λ e p. p) (λ e. tt))

then_put : {X Y Z : Type 0} (q : Out X) (c : X → Y) (f : Y → Out Z) → and_then (and_then q (λ x. ok (c x))) f ≡ and_then q (λ x. f (c x))
then_put (ok x) c f = refl
then_put (refused r) c f = refl
then_put beyond c f = refl

-- custom contents, kept and then ruled
kept_meets : {X : Type 0} (Q : Rec → Type 0) (R : Rule) (h : Here) (at : ℕ) (n : Name) (o : Out Rec) (q : Out X) (c : X → Rec) → Meets Q o (and_then q (λ x. ok (c x))) → Meets Q (and_then o (λ r. ruled R h at n custom_d r)) (and_then q (λ x. ruled R h at n custom_d (c x)))
kept_meets Q R h at n o q c m = subst (Meets Q (and_then o (λ r. ruled R h at n custom_d r))) (then_put q c (λ r. ruled R h at n custom_d r)) (ruled-meets Q R h at n custom_d o (and_then q (λ x. ok (c x))) m)

null_meets : (h : Here) (at cap depth used lead : ℕ) (b : Bool) → Meets (Room cap depth used lead) (walk_null h at cap depth used lead b) (null_at h at b)
null_meets h at cap depth used lead true = leaf_meets h at cap depth used lead r_null (λ d. d)
null_meets h at cap depth used lead false = inl refl

ones-meet : (h : Here) (at cap : ℕ) (base : Name → Placed) (each : Name → Out Rec) → ((n : Name) (depth used lead : ℕ) → Meets (Room cap depth used lead) (base n depth used lead) (each n))
    → (t : Ty) (depth used lead : ℕ) → Meets (Room cap depth used lead) (walk_ones h at cap base t depth used lead) (ones each t)
ones-meet h at cap base each k (named b n) depth used lead = k n depth used lead
ones-meet h at cap base each k (list_of b t) depth used lead = holds_meets h at cap depth used lead _ _
    (λ d s. meets_put (Room cap (suc depth) (used + (lead + 6)) 0) (Room cap depth used lead) (walk_ones h at cap base t (suc depth) (used + (lead + 6)) 0) (ones each t) (λ r. r_list (r_cons r r_nil))
    (ones-meet h at cap base each k t (suc depth) (used + (lead + 6)) 0) (λ r p. ((d, (p.0, tt)), omega (arith, p.1))) (λ r p. (p.0.1.0, omega (arith, p.1))))

scalar_meets : (R : Rule) (h : Here) (cap at : ℕ) (n : Name) (D : Def) (depth used lead : ℕ) (x : Option Plain)
    → Meets (Room cap depth used lead) (and_then (or_wrong h at x) (λ y. and_then (leaf h at cap depth used lead (r_plain y)) (λ r. ruled R h at n D r))) (and_then (or_wrong h at x) (λ y. ruled R h at n D (r_plain y)))
scalar_meets R h cap at n D depth used lead none = inl refl
scalar_meets R h cap at n D depth used lead (some y) = ruled-meets (Room cap depth used lead) R h at n D (leaf h at cap depth used lead (r_plain y)) (ok (r_plain y)) (leaf_meets h at cap depth used lead (r_plain y) (λ d. d))

list_named-meets : (Q : Rec → Type 0) (R : Rule) (h : Here) (at : ℕ) (n : Name) (o : Out Rec) (q : Out Recs) → Meets Q o (and_then q (λ rs. ok (r_list rs))) → (D : Def) → Meets Q (walk_list_named R h at n o D) (list_named R h at n q D)
list_named-meets Q R h at n o q m int_d = inl refl
list_named-meets Q R h at n o q m float_d = inl refl
list_named-meets Q R h at n o q m string_d = inl refl
list_named-meets Q R h at n o q m boolean_d = inl refl
list_named-meets Q R h at n o q m id_d = inl refl
list_named-meets Q R h at n o q m (enum_d ns) = inl refl
list_named-meets Q R h at n o q m (input_d fs) = inl refl
list_named-meets Q R h at n o q m custom_d = kept_meets Q R h at n o q r_list m
list_named-meets Q R h at n o q m output_d = inl refl

-- the defaults come to the same, and members by their names
abbrev DefaultsMeet : ℕ → WalkDefaults → Defaults → Type 0
DefaultsMeet cap d e = (h : Here) (x : Raw) (t : Ty) (depth used lead : ℕ) → Meets (Room cap depth used lead) (d h x t depth used lead) (e h x t)

abbrev Both : (cap depth used : ℕ) → Name → Option (Out Rec) → Option (Out Rec) → Type 0
Both cap depth used n none none = Unit {0}
Both cap depth used n none (some q) = ⊥
Both cap depth used n (some o) none = ⊥
Both cap depth used n (some o) (some q) = Meets (Room cap depth used (name_size n)) o q

abbrev LooksMeet : ℕ → WalkLooks → Looks → Type 0
LooksMeet cap g k = (n : Name) (t : Ty) (depth used : ℕ) → Both cap depth used n (g n t depth used) (k n t)

some_meets : (cap depth used : ℕ) (n : Name) (o q : Out Rec) → Meets (Room cap depth used (name_size n)) o q → Meets (RoomSlot cap depth used n) (and_then o (λ r. ok (some r))) (and_then q (λ r. ok (some r)))
some_meets cap depth used n o q m = meets_put (Room cap depth used (name_size n)) (RoomSlot cap depth used n) o q some m (λ r p. p) (λ r p. p)

absent_meets : (cap : ℕ) (d : WalkDefaults) (e : Defaults) → DefaultsMeet cap d e → (h : Here) (depth used : ℕ) → used ≤ cap → (n : Name) (missing : Out (Option Rec)) → Meets (RoomSlot cap depth used n) missing missing → (t : Ty) (x : Option Raw)
    → Meets (RoomSlot cap depth used n) (absent (at_place d depth used (name_size n)) h missing t x) (absent e h missing t x)
absent_meets cap d e k h depth used s n missing m t (some x) = some_meets cap depth used n (d (as_default h) x t depth used (name_size n)) (e (as_default h) x t) (k (as_default h) x t depth used (name_size n))
absent_meets cap d e k h depth used s n missing m t none = meets_cond (RoomSlot cap depth used n) (nullable t) (ok none) (ok none) missing missing (refl, s) m

field_meets : (cap : ℕ) (d : WalkDefaults) (e : Defaults) → DefaultsMeet cap d e → (h : Here) (depth used : ℕ) → used ≤ cap → (missing : Out (Option Rec)) (f : Field) → Meets (RoomSlot cap depth used f.name) missing missing → (o q : Option (Out Rec)) → Both cap depth used f.name o q
    → Meets (RoomSlot cap depth used f.name) (field_at (at_place d depth used (name_size f.name)) h missing f o) (field_at e h missing f q)
field_meets cap d e k h depth used s missing f m none none b = absent_meets cap d e k h depth used s f.name missing m f.ty f.dflt
field_meets cap d e k h depth used s missing f m none (some q) b = absurd b
field_meets cap d e k h depth used s missing f m (some o) none b = absurd b
field_meets cap d e k h depth used s missing f m (some o) (some q) b = some_meets cap depth used f.name o q b

-- the room of members is that of the first and of the others
put_room : (cap depth used : ℕ) (n : Name) (o : Option Rec) (ms : Rmems) → RoomSlot cap depth used n o → RoomMems cap depth (used + slot_size n o) ms → RoomMems cap depth used (put n o ms)
put_room cap depth used n none ms p a = (a.0, omega (arith, a.1))
put_room cap depth used n (some r) ms p a = ((p.0, a.0), omega (arith, a.1))

room_put : (cap depth used : ℕ) (n : Name) (o : Option Rec) (ms : Rmems) → RoomMems cap depth used (put n o ms) → RoomMems cap depth (used + slot_size n o) ms
room_put cap depth used n none ms a = (a.0, omega (arith, a.1))
room_put cap depth used n (some r) ms a = (a.0.1, omega (arith, a.1))

room_slot : (cap depth used : ℕ) (n : Name) (o : Option Rec) (ms : Rmems) → RoomMems cap depth used (put n o ms) → RoomSlot cap depth used n o
room_slot cap depth used n none ms a = omega (arith, a.1)
room_slot cap depth used n (some r) ms a = (a.0.0, omega (arith, a.1))

slot_used : (cap depth used : ℕ) (n : Name) (o : Option Rec) → RoomSlot cap depth used n o → used + slot_size n o ≤ cap
slot_used cap depth used n none p = omega arith
slot_used cap depth used n (some r) p = p.1

fields_meet : (cap : ℕ) (d : WalkDefaults) (e : Defaults) → DefaultsMeet cap d e → (h : Here) (at : ℕ) (g : WalkLooks) (k : Looks) → LooksMeet cap g k → (fs : List Field) (depth used : ℕ) → used ≤ cap
    → Meets (RoomMems cap depth used) (walk_fields d h at g fs depth used) (fields_at e h at k fs)
fields_meet cap d e l h at g k m [] depth used s = (refl, (tt, omega arith))
fields_meet cap d e l h at g k m (f ∷ fs) depth used s =
    meets_then (RoomSlot cap depth used f.name) (RoomMems cap depth used) (field_at (at_place d depth used (name_size f.name)) (in_field f.name h) (refuse (in_field f.name h) missing_field at) f (g f.name f.ty depth used)) (field_at e (in_field f.name h) (refuse (in_field f.name h) missing_field at) f (k f.name f.ty)) _ _
    (field_meets cap d e l (in_field f.name h) depth used s (refuse (in_field f.name h) missing_field at) f (inl refl) (g f.name f.ty depth used) (k f.name f.ty) (m f.name f.ty depth used))
    (λ o p. meets_put (RoomMems cap depth (used + slot_size f.name o)) (RoomMems cap depth used) (walk_fields d h at g fs depth (used + slot_size f.name o)) (fields_at e h at k fs) (put f.name o)
    (fields_meet cap d e l h at g k m fs depth (used + slot_size f.name o) (slot_used cap depth used f.name o p)) (λ ms a. put_room cap depth used f.name o ms p a) (λ ms a. room_put cap depth used f.name o ms a))
    (λ o. good_all (λ y. RoomMems cap depth used y → RoomSlot cap depth used f.name o) (fields_at e h at k fs) (λ ms. ok (put f.name o ms)) (λ ms a. room_slot cap depth used f.name o ms a))

declared_meets : (Q : Rec → Type 0) (h : Here) (x : Option ℕ) (o q : Out Rec) → Meets Q o q → Meets Q (if_declared h x o) (if_declared h x q)
declared_meets Q h none o q m = m
declared_meets Q h (some at) o q m = inl refl

object_named-meets : (cap : ℕ) (d : WalkDefaults) (e : Defaults) → DefaultsMeet cap d e → (R : Rule) (h : Here) (at : ℕ) (g : WalkLooks) (k : Looks) → LooksMeet cap g k → (kept : Placed) (q : Out Rmems)
    → ((depth used lead : ℕ) → Meets (Room cap depth used lead) (kept depth used lead) (and_then q (λ rs. ok (r_object rs)))) → (ms : Mems) (n : Name) (D : Def) (depth used lead : ℕ)
    → Meets (Room cap depth used lead) (walk_object_named d R h cap at g kept ms n D depth used lead) (object_named e R h at k q ms n D)
object_named-meets cap d e l R h at g k m kept q w ms n int_d depth used lead = inl refl
object_named-meets cap d e l R h at g k m kept q w ms n float_d depth used lead = inl refl
object_named-meets cap d e l R h at g k m kept q w ms n string_d depth used lead = inl refl
object_named-meets cap d e l R h at g k m kept q w ms n boolean_d depth used lead = inl refl
object_named-meets cap d e l R h at g k m kept q w ms n id_d depth used lead = inl refl
object_named-meets cap d e l R h at g k m kept q w ms n (enum_d ns) depth used lead = inl refl
object_named-meets cap d e l R h at g k m kept q w ms n (input_d fs) depth used lead = declared_meets (Room cap depth used lead) h (first_undeclared (field_names fs) ms) _ _
    (object_meets h at cap depth used lead (walk_fields d h at g fs (suc depth) (used + (lead + 6))) (fields_at e h at k fs) (fields_meet cap d e l h at g k m fs (suc depth) (used + (lead + 6))))
object_named-meets cap d e l R h at g k m kept q w ms n custom_d depth used lead = kept_meets (Room cap depth used lead) R h at n (kept depth used lead) q r_object (w depth used lead)
object_named-meets cap d e l R h at g k m kept q w ms n output_d depth used lead = inl refl

found_meets : (cap depth used : ℕ) (n : Name) (b : Bool) (o q : Out Rec) (u w : Option (Out Rec)) → Meets (Room cap depth used (name_size n)) o q → Both cap depth used n u w → Both cap depth used n (cond b (some o) u) (cond b (some q) w)
found_meets cap depth used n true o q u w m b = m
found_meets cap depth used n false o q u w m b = b

mutual
  walk_meets : (d : WalkDefaults) (e : Defaults) (cap : ℕ) → DefaultsMeet cap d e → (S : Schema) (R : Rule) (p : Form) (h : Here) (v : Raw) (t : Ty) (depth used lead : ℕ)
      → Meets (Room cap depth used lead) (walk d S R cap p h v t depth used lead) (coerce e S R p h v t)
  walk_meets d e cap l S R p h (null at) t depth used lead = null_meets h at cap depth used lead (nullable t)
  walk_meets d e cap l S R p h (scalar at s) t depth used lead = ones-meet h at cap _ _ (λ n depth used lead. scalar_meets R h cap at n (find S n) depth used lead (scalar_at p (find S n) s)) t depth used lead
  walk_meets d e cap l S R p h (variable at n) t depth used lead = inl refl
  walk_meets d e cap l S R p h (list at xs) (named b n) depth used lead = list_named-meets (Room cap depth used lead) R h at n (walk_keep h cap depth used lead (list at xs)) (keep_all h xs) (keep_meets h cap depth used lead (list at xs)) (find S n)
  walk_meets d e cap l S R p h (list at xs) (list_of b t) depth used lead = list_meets h at cap depth used lead _ _ (walk_all-meets d e cap l S R p h xs t (suc depth) (used + (lead + 6)))
  walk_meets d e cap l S R p h (object at ms) t depth used lead = ones-meet h at cap _ _
      (λ n. object_named-meets cap d e l R h at (walk_mem d S R cap p h ms) (coerce_mem e S R p h ms) (walk_mem-meets d e cap l S R p h ms) (λ a u b. walk_keep h cap a u b (object at ms)) (keep_mems h ms) (λ a u b. keep_meets h cap a u b (object at ms)) ms n (find S n)) t depth used lead

  walk_all-meets : (d : WalkDefaults) (e : Defaults) (cap : ℕ) → DefaultsMeet cap d e → (S : Schema) (R : Rule) (p : Form) (h : Here) (xs : Raws) (t : Ty) (depth used : ℕ) → used ≤ cap
      → Meets (RoomAll cap depth used) (walk_all d S R cap p h xs t depth used) (coerce_all e S R p h xs t)
  walk_all-meets d e cap l S R p h nil t depth used s = (refl, (tt, omega arith))
  walk_all-meets d e cap l S R p h (cons x xs) t depth used s = cons_meets cap depth used (walk d S R cap p h x t depth used 0) (coerce e S R p h x t) (walk_all d S R cap p h xs t depth) (coerce_all e S R p h xs t)
      (walk_meets d e cap l S R p h x t depth used 0) (λ n. walk_all-meets d e cap l S R p h xs t depth n)

  walk_mem-meets : (d : WalkDefaults) (e : Defaults) (cap : ℕ) → DefaultsMeet cap d e → (S : Schema) (R : Rule) (p : Form) (h : Here) (ms : Mems) (n : Name) (t : Ty) (depth used : ℕ)
      → Both cap depth used n (walk_mem d S R cap p h ms n t depth used) (coerce_mem e S R p h ms n t)
  walk_mem-meets d e cap l S R p h end n t depth used = tt
  walk_mem-meets d e cap l S R p h (mem m x ms) n t depth used = found_meets cap depth used n (same m n) (walk d S R cap p (in_field n h) x t depth used (name_size n)) (coerce e S R p (in_field n h) x t) (walk_mem d S R cap p h ms n t depth used) (coerce_mem e S R p h ms n t)
      (walk_meets d e cap l S R p (in_field n h) x t depth used (name_size n)) (walk_mem-meets d e cap l S R p h ms n t depth used)

pub walk_at-meets : (k : ℕ) (S : Schema) (R : Rule) (cap : ℕ) (p : Form) (h : Here) (v : Raw) (t : Ty) (depth used lead : ℕ) → Meets (Room cap depth used lead) (walk_at k S R cap p h v t depth used lead) (coerce_at k S R p h v t)
walk_at-meets zero S R cap p h v t depth used lead = walk_meets (λ h x t depth used lead. beyond) (λ h x t. beyond) cap (λ h x t depth used lead. refl) S R p h v t depth used lead
walk_at-meets (suc k) S R cap p h v t depth used lead = walk_meets (walk_at k S R cap literal) (coerce_at k S R literal) cap (walk_at-meets k S R cap literal) S R p h v t depth used lead

pub walk-agrees : WalkAgrees
walk-agrees k S R cap p h v t depth used lead = meets_limited (Room cap depth used lead) (walk_at k S R cap p h v t depth used lead) (coerce_at k S R p h v t) (walk_at-meets k S R cap p h v t depth used lead)
