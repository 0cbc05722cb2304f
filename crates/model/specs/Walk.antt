-- The walk: coercion with limits, and the order in which faults are found.
-- A record is opened after the tests of its value and before its contents, its member name with it, first against depth, then against the capacity.
use Rattle.std.specs.Prelude.{ℕ, zero, suc, ◌+◌, Bool, true, false, cond, List, [], ◌∷◌, length, nat_le}
use Rattle.std.proofs.Math.Option.{Option, none, some}
use Rattle.model.specs.Values.{Name, Form, literal, Scalar, Raw, Raws, Mems, null, scalar, variable, list, object, nil, cons, end, mem, Ty, named, list_of, nullable, Field, Def, int_d, float_d, string_d, boolean_d, id_d, enum_d, input_d, custom_d, output_d, Schema, find, Variable, Rec, Recs, Rmems, r_null, r_plain, r_list, r_object, r_nil, r_cons, r_end, r_mem, same, field_names}
use Rattle.model.specs.Records.{size}
use Rattle.model.specs.Refusals.{too_deep, no_space, null_value, wrong_value, missing_field, missing_variable, variable_in_value, Out, ok, beyond, and_then, Here, refuse, in_field}
use Rattle.model.specs.Scalars.{plain, scalar_at}
use Rattle.model.specs.Coercion.{Rule, ruled, or_wrong, one, first_undeclared, if_declared, field_at, put, for_variable}

-- the deepest record
abbrev pub deepest : ℕ
deepest = 32

-- n more bytes are opened at a depth, after those used
abbrev pub opening : Here → ℕ → (cap depth used n : ℕ) → Out Unit
opening h at cap depth used n = cond (nat_le depth deepest) (cond (nat_le (used + n) cap) (ok tt) (refuse h no_space at)) (refuse h too_deep at)

-- a record that holds no other is opened whole; `lead` are the bytes of the name that is opened with it
abbrev pub leaf : Here → ℕ → (cap depth used lead : ℕ) → Rec → Out Rec
leaf h at cap depth used lead r = and_then (opening h at cap depth used (lead + size r)) (λ u. ok r)

-- the bytes of a member's name
abbrev pub name_size : Name → ℕ
name_size n = 6 + length n

-- the bytes of a member, if it is there
abbrev pub slot_size : Name → Option Rec → ℕ
slot_size n none = 0
slot_size n (some r) = name_size n + size r

-- the contents of a custom scalar
abbrev mutual
  pub walk_keep : Here → (cap depth used lead : ℕ) → Raw → Out Rec
  walk_keep h cap depth used lead (null at) = leaf h at cap depth used lead r_null
  walk_keep h cap depth used lead (scalar at s) = leaf h at cap depth used lead (r_plain (plain s))
  walk_keep h cap depth used lead (variable at n) = refuse h variable_in_value at
  walk_keep h cap depth used lead (list at xs) = and_then (opening h at cap depth used (lead + 6)) (λ u. and_then (walk_keep_all h cap (suc depth) (used + (lead + 6)) xs) (λ rs. ok (r_list rs)))
  walk_keep h cap depth used lead (object at ms) = and_then (opening h at cap depth used (lead + 6)) (λ u. and_then (walk_keep_mems h cap (suc depth) (used + (lead + 6)) ms) (λ rs. ok (r_object rs)))

  pub walk_keep_all : Here → (cap depth used : ℕ) → Raws → Out Recs
  walk_keep_all h cap depth used nil = ok r_nil
  walk_keep_all h cap depth used (cons x xs) = and_then (walk_keep h cap depth used 0 x) (λ r. and_then (walk_keep_all h cap depth (used + size r) xs) (λ rs. ok (r_cons r rs)))

  pub walk_keep_mems : Here → (cap depth used : ℕ) → Mems → Out Rmems
  walk_keep_mems h cap depth used end = ok r_end
  walk_keep_mems h cap depth used (mem n x ms) = and_then (walk_keep h cap depth used (name_size n) x) (λ r. and_then (walk_keep_mems h cap depth (used + (name_size n + size r)) ms) (λ rs. ok (r_mem n r rs)))

-- null is kept at a nullable type
abbrev pub walk_null : Here → ℕ → (cap depth used lead : ℕ) → Bool → Out Rec
walk_null h at cap depth used lead true = leaf h at cap depth used lead r_null
walk_null h at cap depth used lead false = refuse h null_value at

-- a value at a place of its own: depth, bytes used, bytes of the name
abbrev pub Placed : Type 0
Placed = (depth used lead : ℕ) → Out Rec

-- a value that is no list is a list of one at each list level: each list is opened before what it holds is tested
abbrev pub walk_ones : Here → ℕ → ℕ → (Name → Placed) → Ty → Placed
walk_ones h at cap base (named b n) depth used lead = base n depth used lead
walk_ones h at cap base (list_of b t) depth used lead = and_then (opening h at cap depth used (lead + 6)) (λ u. and_then (walk_ones h at cap base t (suc depth) (used + (lead + 6)) 0) one)

abbrev pub walk_scalar : Rule → Here → ℕ → Form → ℕ → Scalar → Name → Def → Placed
walk_scalar R h cap p at s n D depth used lead = and_then (or_wrong h at (scalar_at p D s)) (λ x. and_then (leaf h at cap depth used lead (r_plain x)) (λ r. ruled R h at n D r))

-- a list at a named type; `kept` is the list as custom contents
abbrev pub walk_list_named : Rule → Here → ℕ → Name → Out Rec → Def → Out Rec
walk_list_named R h at n kept int_d = refuse h wrong_value at
walk_list_named R h at n kept float_d = refuse h wrong_value at
walk_list_named R h at n kept string_d = refuse h wrong_value at
walk_list_named R h at n kept boolean_d = refuse h wrong_value at
walk_list_named R h at n kept id_d = refuse h wrong_value at
walk_list_named R h at n kept (enum_d ns) = refuse h wrong_value at
walk_list_named R h at n kept (input_d fs) = refuse h wrong_value at
walk_list_named R h at n kept custom_d = and_then kept (λ r. ruled R h at n custom_d r)
walk_list_named R h at n kept output_d = refuse h wrong_value at

abbrev pub walk_list : Schema → Rule → Here → ℕ → ℕ → Placed → (Ty → (depth used : ℕ) → Out Recs) → Ty → Placed
walk_list S R h cap at kept items (named b n) depth used lead = walk_list_named R h at n (kept depth used lead) (find S n)
walk_list S R h cap at kept items (list_of b t) depth used lead = and_then (opening h at cap depth used (lead + 6)) (λ u. and_then (items t (suc depth) (used + (lead + 6))) (λ rs. ok (r_list rs)))

-- the walk of a default, and of a member by its name, at a place of its own
abbrev pub WalkDefaults : Type 0
WalkDefaults = Here → Raw → Ty → Placed

abbrev pub WalkLooks : Type 0
WalkLooks = Name → Ty → (depth used : ℕ) → Option (Out Rec)

-- the coercion of a default at that place
abbrev pub at_place : WalkDefaults → (depth used lead : ℕ) → Here → Raw → Ty → Out Rec
at_place d depth used lead h x t = d h x t depth used lead

abbrev pub walk_fields : WalkDefaults → Here → ℕ → WalkLooks → List Field → (depth used : ℕ) → Out Rmems
walk_fields d h at g [] depth used = ok r_end
walk_fields d h at g (f ∷ fs) depth used =
    and_then (field_at (at_place d depth used (name_size f.name)) (in_field f.name h) (refuse (in_field f.name h) missing_field at) f (g f.name f.ty depth used))
    (λ o. and_then (walk_fields d h at g fs depth (used + slot_size f.name o)) (λ ms. ok (put f.name o ms)))

abbrev pub walk_object_named : WalkDefaults → Rule → Here → ℕ → ℕ → WalkLooks → Placed → Mems → Name → Def → Placed
walk_object_named d R h cap at g kept ms n int_d depth used lead = refuse h wrong_value at
walk_object_named d R h cap at g kept ms n float_d depth used lead = refuse h wrong_value at
walk_object_named d R h cap at g kept ms n string_d depth used lead = refuse h wrong_value at
walk_object_named d R h cap at g kept ms n boolean_d depth used lead = refuse h wrong_value at
walk_object_named d R h cap at g kept ms n id_d depth used lead = refuse h wrong_value at
walk_object_named d R h cap at g kept ms n (enum_d ns) depth used lead = refuse h wrong_value at
walk_object_named d R h cap at g kept ms n (input_d fs) depth used lead =
    if_declared h (first_undeclared (field_names fs) ms)
    (and_then (opening h at cap depth used (lead + 6)) (λ u. and_then (walk_fields d h at g fs (suc depth) (used + (lead + 6))) (λ rs. ok (r_object rs))))
walk_object_named d R h cap at g kept ms n custom_d depth used lead = and_then (kept depth used lead) (λ r. ruled R h at n custom_d r)
walk_object_named d R h cap at g kept ms n output_d depth used lead = refuse h wrong_value at

-- a raw value at a type, at a place of its own
abbrev mutual
  pub walk : WalkDefaults → Schema → Rule → ℕ → Form → Here → Raw → Ty → Placed
  walk d S R cap p h (null at) t depth used lead = walk_null h at cap depth used lead (nullable t)
  walk d S R cap p h (scalar at s) t depth used lead = walk_ones h at cap (λ n. walk_scalar R h cap p at s n (find S n)) t depth used lead
  walk d S R cap p h (variable at n) t depth used lead = refuse h variable_in_value at
  walk d S R cap p h (list at xs) t depth used lead = walk_list S R h cap at (λ e u l. walk_keep h cap e u l (list at xs)) (walk_all d S R cap p h xs) t depth used lead
  walk d S R cap p h (object at ms) t depth used lead = walk_ones h at cap (λ n. walk_object_named d R h cap at (walk_mem d S R cap p h ms) (λ e u l. walk_keep h cap e u l (object at ms)) ms n (find S n)) t depth used lead

  pub walk_all : WalkDefaults → Schema → Rule → ℕ → Form → Here → Raws → Ty → (depth used : ℕ) → Out Recs
  walk_all d S R cap p h nil t depth used = ok r_nil
  walk_all d S R cap p h (cons x xs) t depth used = and_then (walk d S R cap p h x t depth used 0) (λ r. and_then (walk_all d S R cap p h xs t depth (used + size r)) (λ rs. ok (r_cons r rs)))

  pub walk_mem : WalkDefaults → Schema → Rule → ℕ → Form → Here → Mems → Name → Ty → (depth used : ℕ) → Option (Out Rec)
  walk_mem d S R cap p h end n t depth used = none
  walk_mem d S R cap p h (mem m x ms) n t depth used = cond (same m n) (some (walk d S R cap p (in_field n h) x t depth used (name_size n))) (walk_mem d S R cap p h ms n t depth used)

abbrev pub walk_at : ℕ → Schema → Rule → ℕ → Form → Here → Raw → Ty → Placed
walk_at zero S R cap = walk (λ h x t depth used lead. beyond) S R cap
walk_at (suc k) S R cap = walk (walk_at k S R cap literal) S R cap

-- a variable's value is at depth 1, and its name is opened with it
abbrev pub walk_given : ℕ → Schema → Rule → ℕ → Variable → ℕ → Form → Option Raw → Option (Out Rec)
walk_given k S R cap v used p none = none
walk_given k S R cap v used p (some x) = some (walk_at k S R cap p (for_variable v) x v.field.ty 1 used (name_size v.field.name))

abbrev pub walk_variable : ℕ → Schema → Rule → ℕ → Variable → ℕ → Form → Option Raw → Out (Option Rec)
walk_variable k S R cap v used p x =
    field_at (at_place (walk_at k S R cap literal) 1 used (name_size v.field.name)) (for_variable v) (refuse (for_variable v) missing_variable v.place) v.field (walk_given k S R cap v used p x)
