-- A walk by turns: what an open record has taken in and what it has yet to take, and what the walk comes to from there.
use Rattle.std.specs.Prelude.{◌≡◌, ℕ, zero, suc, ◌+◌, Bool, true, false, cond, List, [], ◌∷◌, ◌++◌, length}
use Rattle.std.proofs.Math.Option.{Option, none, some}
use Rattle.model.specs.Values.{Name, Form, literal, Scalar, Raw, Raws, Mems, null, scalar, variable, list, object, nil, cons, end, mem, Ty, named, list_of, nullable, Field, Def, int_d, float_d, string_d, boolean_d, id_d, enum_d, input_d, custom_d, output_d, Schema, find, Plain, Rec, Recs, Rmems, r_null, r_plain, r_list, r_object, r_nil, r_cons, r_end, r_mem, field_names}
use Rattle.model.specs.Records.{le32, framed, encode_all, encode_mems, size}
use Rattle.model.specs.Refusals.{Cause, null_value, wrong_value, unknown_key, missing_field, variable_in_value, Out, ok, beyond, and_then, Here, refuse, in_field, as_default}
use Rattle.model.specs.Scalars.{plain, scalar_at}
use Rattle.model.specs.Coercion.{Rule, ruled, first_undeclared, member}
use Rattle.model.specs.Walk.{opening, leaf, name_size, walk_keep, walk_keep_all, walk_keep_mems, WalkDefaults, walk_fields, walk, walk_all, walk_mem, walk_at}

-- what stays the same throughout a walk
pub record Setting : Type 0 where
  pub schema : Schema
  pub rule : Rule
  pub cap : ℕ

-- what a record has taken in, and what it has yet to take: items at a type; items or members as they are; of an object's members, those of these fields
pub data Rest : Type 0 where
  items : Recs → Ty → Raws → Rest
  kept : Recs → Raws → Rest
  members : Rmems → Mems → Rest
  fields : Rmems → Mems → List Field → Rest

-- an open record: how deeply defaults may lead to defaults in it, in which form it is written, where it is, its own name if it is a member, where it starts, the place of its raw value, and the custom scalar that it is a value of
pub record Level : Type 0 where
  pub bound : ℕ
  pub form : Form
  pub here : Here
  pub name : Option Name
  pub start : ℕ
  pub at : ℕ
  pub asks : Option Name
  pub rest : Rest

-- a value that is to be opened, at a type or as it is
pub record Coming : Type 0 where
  pub bound : ℕ
  pub form : Form
  pub here : Here
  pub name : Option Name
  pub raw : Raw
  pub ty : Option Ty

-- one after the other
abbrev pub join : Recs → Recs → Recs
join r_nil qs = qs
join (r_cons r rs) qs = r_cons r (join rs qs)

abbrev pub join_mems : Rmems → Rmems → Rmems
join_mems r_end qs = qs
join_mems (r_mem n r rs) qs = r_mem n r (join_mems rs qs)

-- the bytes of a name, if there is one
abbrev pub lead_of : Option Name → ℕ
lead_of none = 0
lead_of (some n) = name_size n

abbrev pub lead_bytes : Option Name → List ℕ
lead_bytes none = []
lead_bytes (some n) = framed 8 n

abbrev pub called : Option Name → Name
called none = []
called (some n) = n

-- the rule of a custom scalar, where a record is its value
abbrev pub ask : Rule → Here → ℕ → Option Name → Rec → Out Rec
ask R h at none r = ok r
ask R h at (some n) r = ruled R h at n custom_d r

-- the walk of defaults under a bound
abbrev pub defaults_at : ℕ → Schema → Rule → ℕ → WalkDefaults
defaults_at zero S R cap = λ h x t depth used lead. beyond
defaults_at (suc k) S R cap = walk_at k S R cap literal

-- what a record comes to, by what it has yet to take
abbrev pub rest_at : Setting → ℕ → Form → Here → ℕ → (depth used : ℕ) → Rest → Out Rec
rest_at W k p h at depth used (items rs t xs) = and_then (walk_all (defaults_at k W.schema W.rule W.cap) W.schema W.rule W.cap p h xs t depth used) (λ qs. ok (r_list (join rs qs)))
rest_at W k p h at depth used (kept rs xs) = and_then (walk_keep_all h W.cap depth used xs) (λ qs. ok (r_list (join rs qs)))
rest_at W k p h at depth used (members rs ms) = and_then (walk_keep_mems h W.cap depth used ms) (λ qs. ok (r_object (join_mems rs qs)))
rest_at W k p h at depth used (fields rs ms fs) =
    and_then (walk_fields (defaults_at k W.schema W.rule W.cap) h at (walk_mem (defaults_at k W.schema W.rule W.cap) W.schema W.rule W.cap p h ms) fs depth used) (λ qs. ok (r_object (join_mems rs qs)))

abbrev pub record_at : Setting → Level → (depth used : ℕ) → Out Rec
record_at W m depth used = and_then (rest_at W m.bound m.form m.here m.at depth used m.rest) (λ r. ask W.rule m.here m.at m.asks r)

-- one more is in
abbrev pub with_one : Name → Rec → Rest → Rest
with_one n r (items rs t xs) = items (join rs (r_cons r r_nil)) t xs
with_one n r (kept rs xs) = kept (join rs (r_cons r r_nil)) xs
with_one n r (members rs ms) = members (join_mems rs (r_mem n r r_end)) ms
with_one n r (fields rs ms fs) = fields (join_mems rs (r_mem n r r_end)) ms fs

abbrev pub taking : Option Name → Rec → Level → Level
taking n r m = record { bound = m.bound; form = m.form; here = m.here; name = m.name; start = m.start; at = m.at; asks = m.asks; rest = with_one (called n) r m.rest }

-- what the outermost record comes to once a record is whole that the innermost of these, if any, takes; so many bytes are used then
abbrev pub after : Setting → Option Name → List Level → Rec → ℕ → Out Rec
after W n [] r used = ok r
after W n (m ∷ ms) r used = and_then (record_at W (taking n r m) (suc (suc (length ms))) used) (λ q. after W m.name ms q (m.start + size q))

-- and what it comes to from where the innermost one is open
abbrev pub resume : Setting → Level → List Level → ℕ → Out Rec
resume W m ms used = and_then (record_at W m (suc (suc (length ms))) used) (λ q. after W m.name ms q (m.start + size q))

-- a value that comes, at a depth, after the bytes used
abbrev pub value_at : Setting → ℕ → Form → Here → Raw → Option Ty → (depth used lead : ℕ) → Out Rec
value_at W k p h x none depth used lead = walk_keep h W.cap depth used lead x
value_at W k p h x (some t) depth used lead = walk (defaults_at k W.schema W.rule W.cap) W.schema W.rule W.cap p h x t depth used lead

abbrev pub coming_at : Setting → Coming → (depth used : ℕ) → Out Rec
coming_at W c depth used = value_at W c.bound c.form c.here c.raw c.ty depth used (lead_of c.name)

-- THE OPENING OF A VALUE

-- what its tests say: a record that holds no other, one that takes in others, or the refusal at a place; with the custom scalar that it is a value of
pub data Opens : Type 0 where
  whole : Rec → Option Name → Opens
  holds : Rest → Option Name → Opens
  fails : Cause → ℕ → Opens

abbrev pub opens_kept : Option Name → Raw → Opens
opens_kept a (null at) = whole r_null a
opens_kept a (scalar at s) = whole (r_plain (plain s)) a
opens_kept a (variable at n) = fails variable_in_value at
opens_kept a (list at xs) = holds (kept r_nil xs) a
opens_kept a (object at ms) = holds (members r_end ms) a

abbrev pub opens_plain : ℕ → Option Plain → Opens
opens_plain at none = fails wrong_value at
opens_plain at (some x) = whole (r_plain x) none

abbrev pub opens_declared : Mems → List Field → Option ℕ → Opens
opens_declared ms fs none = holds (fields r_end ms fs) none
opens_declared ms fs (some at) = fails unknown_key at

abbrev pub opens_scalar : Form → ℕ → Scalar → Name → Def → Opens
opens_scalar p at s n int_d = opens_plain at (scalar_at p int_d s)
opens_scalar p at s n float_d = opens_plain at (scalar_at p float_d s)
opens_scalar p at s n string_d = opens_plain at (scalar_at p string_d s)
opens_scalar p at s n boolean_d = opens_plain at (scalar_at p boolean_d s)
opens_scalar p at s n id_d = opens_plain at (scalar_at p id_d s)
opens_scalar p at s n (enum_d ns) = opens_plain at (scalar_at p (enum_d ns) s)
opens_scalar p at s n (input_d fs) = fails wrong_value at
opens_scalar p at s n custom_d = whole (r_plain (plain s)) (some n)
opens_scalar p at s n output_d = fails wrong_value at

abbrev pub opens_list : ℕ → Raws → Name → Def → Opens
opens_list at xs n int_d = fails wrong_value at
opens_list at xs n float_d = fails wrong_value at
opens_list at xs n string_d = fails wrong_value at
opens_list at xs n boolean_d = fails wrong_value at
opens_list at xs n id_d = fails wrong_value at
opens_list at xs n (enum_d ns) = fails wrong_value at
opens_list at xs n (input_d fs) = fails wrong_value at
opens_list at xs n custom_d = holds (kept r_nil xs) (some n)
opens_list at xs n output_d = fails wrong_value at

abbrev pub opens_object : ℕ → Mems → Name → Def → Opens
opens_object at ms n int_d = fails wrong_value at
opens_object at ms n float_d = fails wrong_value at
opens_object at ms n string_d = fails wrong_value at
opens_object at ms n boolean_d = fails wrong_value at
opens_object at ms n id_d = fails wrong_value at
opens_object at ms n (enum_d ns) = fails wrong_value at
opens_object at ms n (input_d fs) = opens_declared ms fs (first_undeclared (field_names fs) ms)
opens_object at ms n custom_d = holds (members r_end ms) (some n)
opens_object at ms n output_d = fails wrong_value at

abbrev pub opens_null : ℕ → Bool → Opens
opens_null at true = whole r_null none
opens_null at false = fails null_value at

-- a value that is no list is the one item of a list
abbrev pub opens_at : Schema → Form → Raw → Ty → Opens
opens_at S p (null at) t = opens_null at (nullable t)
opens_at S p (scalar at s) (named b n) = opens_scalar p at s n (find S n)
opens_at S p (scalar at s) (list_of b t) = holds (items r_nil t (cons (scalar at s) nil)) none
opens_at S p (variable at n) t = fails variable_in_value at
opens_at S p (list at xs) (named b n) = opens_list at xs n (find S n)
opens_at S p (list at xs) (list_of b t) = holds (items r_nil t xs) none
opens_at S p (object at ms) (named b n) = opens_object at ms n (find S n)
opens_at S p (object at ms) (list_of b t) = holds (items r_nil t (cons (object at ms) nil)) none

abbrev pub opens : Schema → Form → Raw → Option Ty → Opens
opens S p x none = opens_kept none x
opens S p x (some t) = opens_at S p x t

-- what comes of a value that is opened so
abbrev pub opened_at : Setting → ℕ → Form → Here → ℕ → (depth used lead : ℕ) → Opens → Out Rec
opened_at W k p h at depth used lead (whole r a) = and_then (leaf h at W.cap depth used lead r) (λ q. ask W.rule h at a q)
opened_at W k p h at depth used lead (holds x a) =
    and_then (opening h at W.cap depth used (lead + 6)) (λ u. and_then (rest_at W k p h at (suc depth) (used + (lead + 6)) x) (λ q. ask W.rule h at a q))
opened_at W k p h at depth used lead (fails c place) = refuse h c place

-- WHAT FOLLOWS IN A RECORD

-- nothing; a value, after which this is to come; or the refusal of a field that is missing; or defaults nest too deeply for the bound
pub data Follows : Type 0 where
  nothing : Follows
  next : Coming → Rest → Follows
  missing : Name → Follows
  too_far : Follows

abbrev pub follows_default : ℕ → Here → Rmems → Mems → List Field → Field → Raw → Follows
follows_default zero h rs ms fs f x = too_far
follows_default (suc k) h rs ms fs f x = next (record { bound = k; form = literal; here = as_default (in_field f.name h); name = some f.name; raw = x; ty = some f.ty }) (fields rs ms fs)

-- by the member of a field, its default, and else what follows it, if it may be absent
abbrev pub follows_field : ℕ → Form → Here → Rmems → Mems → List Field → Field → Option Raw → Option Raw → Follows → Follows
follows_field k p h rs ms fs f (some x) d o = next (record { bound = k; form = p; here = in_field f.name h; name = some f.name; raw = x; ty = some f.ty }) (fields rs ms fs)
follows_field k p h rs ms fs f none (some x) o = follows_default k h rs ms fs f x
follows_field k p h rs ms fs f none none o = cond (nullable f.ty) o (missing f.name)

abbrev pub follows_fields : ℕ → Form → Here → Rmems → Mems → List Field → Follows
follows_fields k p h rs ms [] = nothing
follows_fields k p h rs ms (f ∷ fs) = follows_field k p h rs ms fs f (member ms f.name) f.dflt (follows_fields k p h rs ms fs)

abbrev pub follows : ℕ → Form → Here → Rest → Follows
follows k p h (items rs t nil) = nothing
follows k p h (items rs t (cons x xs)) = next (record { bound = k; form = p; here = h; name = none; raw = x; ty = some t }) (items rs t xs)
follows k p h (kept rs nil) = nothing
follows k p h (kept rs (cons x xs)) = next (record { bound = k; form = p; here = h; name = none; raw = x; ty = none }) (kept rs xs)
follows k p h (members rs end) = nothing
follows k p h (members rs (mem n x ms)) = next (record { bound = k; form = p; here = h; name = some n; raw = x; ty = none }) (members rs ms)
follows k p h (fields rs ms fs) = follows_fields k p h rs ms fs

-- what is in a record
abbrev pub taken_in : Rest → Rec
taken_in (items rs t xs) = r_list rs
taken_in (kept rs xs) = r_list rs
taken_in (members rs ms) = r_object rs
taken_in (fields rs ms fs) = r_object rs

-- what comes of a record that goes on so
abbrev pub followed_at : Setting → ℕ → Form → Here → ℕ → (depth used : ℕ) → Rest → Follows → Out Rec
followed_at W k p h at depth used x nothing = ok (taken_in x)
followed_at W k p h at depth used x (next c y) = and_then (coming_at W c depth used) (λ r. rest_at W k p h at depth (used + (lead_of c.name + size r)) (with_one (called c.name) r y))
followed_at W k p h at depth used x (missing n) = refuse (in_field n h) missing_field at
followed_at W k p h at depth used x too_far = beyond

-- THE BYTES

-- a record's header, with no size in it yet, and what it has taken in
abbrev pub begun : Rest → List ℕ
begun (items rs t xs) = le32 0 ++ (6 ∷ 0 ∷ encode_all rs)
begun (kept rs xs) = le32 0 ++ (6 ∷ 0 ∷ encode_all rs)
begun (members rs ms) = le32 0 ++ (7 ∷ 0 ∷ encode_mems rs)
begun (fields rs ms fs) = le32 0 ++ (7 ∷ 0 ∷ encode_mems rs)

-- the open records, the innermost first, after other bytes
abbrev pub written_at : List ℕ → List Level → List ℕ
written_at base [] = base
written_at base (m ∷ ms) = written_at base ms ++ (lead_bytes m.name ++ begun m.rest)

-- each record starts after what is written before it and its own name
abbrev pub Starts : List ℕ → List Level → Type 0
Starts base [] = Unit {0}
Starts base (m ∷ ms) = (m.start ≡ length (written_at base ms) + lead_of m.name) × Starts base ms
