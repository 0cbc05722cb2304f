-- What the walk accepts of a source is within every limit of a source.
use Rattle.std.proofs.Common.{◌≡◌, ℕ, zero, suc, Bool, true, false, cond, List, [], ◌∷◌, codes, sym, refl, ap, subst}
use mathlib.Core.Option.{Option, none, some}
use Rattle.std.proofs.lemmas.Bool.{both_ways}
use Rattle.model.specs.Values.{Name, Form, json, literal, Scalar, boolean, whole, decimal, string, symbol, Raw, Raws, Mems, null, scalar, variable, list, object, nil, cons, end, mem, Ty, named, list_of, nullable, Field, Def, int_d, float_d, string_d, boolean_d, id_d, enum_d, input_d, custom_d, output_d, TypeDef, Schema, find, declared, Plain, p_whole, p_decimal, p_string, Rec, Recs, Rmems, r_null, r_plain, r_list, r_object, r_nil, r_cons, r_end, r_mem, same, has, field_names}
use Rattle.model.specs.Refusals.{missing_field, scalar_refused, Out, ok, beyond, and_then, Here, refuse, in_field, as_default}
use Rattle.model.specs.Numbers.{in_int, is_finite, decimal_of}
use Rattle.model.specs.Scalars.{plain, whole_is_float, when, as_int, as_float, as_string, as_boolean, as_id, as_enum, scalar_at}
use Rattle.model.specs.Coercion.{Rule, keep, keep_all, keep_mems, passes, ruled, or_wrong, null_at, one, ones, list_named, first_undeclared, if_declared, Defaults, absent, field_at, put, Looks, fields_at, object_named, coerce, coerce_all, coerce_mem, coerce_at}
use Rattle.model.specs.Back.{Distinct, OfDef, OfTypes, OfInputs}
use Rattle.model.specs.Bounds.{OfDefault, EachDefault}
use Rattle.model.specs.Limits.{NameLimits, ScalarLimits, PlainLimits, mem_names, rec_names, RawLimits, RawLimitsAll, RawLimitsMems, RecLimits, RecLimitsAll, RecLimitsMems, EachName, FieldLimits, SchemaLimits, Shallow, ShallowAll, ShallowMems}
use Rattle.model.specs.Laws.{AcceptsWithin}
use Rattle.model.proofs.CoGood.{Good, good_then, good_cond, good_of}
use Rattle.model.proofs.WalkFits.{walk-accepted}
use Rattle.model.proofs.WalkNumbers.{decimal_limits}

-- the limits without those of depth: of a raw value
abbrev mutual
  RawPure : Raw → Type 0
  RawPure (null at) = Unit {0}
  RawPure (scalar at s) = ScalarLimits s
  RawPure (variable at n) = Unit {0}
  RawPure (list at xs) = RawPureAll xs
  RawPure (object at ms) = Distinct (mem_names ms) × RawPureMems ms

  RawPureAll : Raws → Type 0
  RawPureAll nil = Unit {0}
  RawPureAll (cons x xs) = RawPure x × RawPureAll xs

  RawPureMems : Mems → Type 0
  RawPureMems end = Unit {0}
  RawPureMems (mem n x ms) = NameLimits n × RawPure x × RawPureMems ms

mutual
  raw_pure : (d : ℕ) (x : Raw) → RawLimits d x → RawPure x
  raw_pure d (null at) h = tt
  raw_pure d (scalar at s) h = h.1
  raw_pure d (variable at n) h = tt
  raw_pure d (list at xs) h = raw_pure_all (suc d) xs h.1
  raw_pure d (object at ms) h = (h.1, raw_pure_mems (suc d) ms h.2)

  raw_pure_all : (d : ℕ) (xs : Raws) → RawLimitsAll d xs → RawPureAll xs
  raw_pure_all d nil h = tt
  raw_pure_all d (cons x xs) h = (raw_pure d x h.0, raw_pure_all d xs h.1)

  raw_pure_mems : (d : ℕ) (ms : Mems) → RawLimitsMems d ms → RawPureMems ms
  raw_pure_mems d end h = tt
  raw_pure_mems d (mem n x ms) h = (h.0, raw_pure d x h.1, raw_pure_mems d ms h.2)

-- and of a record
abbrev mutual
  RecPure : Rec → Type 0
  RecPure r_null = Unit {0}
  RecPure (r_plain x) = PlainLimits x
  RecPure (r_list rs) = RecPureAll rs
  RecPure (r_object ms) = Distinct (rec_names ms) × RecPureMems ms

  RecPureAll : Recs → Type 0
  RecPureAll r_nil = Unit {0}
  RecPureAll (r_cons r rs) = RecPure r × RecPureAll rs

  RecPureMems : Rmems → Type 0
  RecPureMems r_end = Unit {0}
  RecPureMems (r_mem n r ms) = NameLimits n × RecPure r × RecPureMems ms

mutual
  rec_within : (d : ℕ) (r : Rec) → Shallow d r → RecPure r → RecLimits d r
  rec_within d r_null s h = s
  rec_within d (r_plain x) s h = (s, h)
  rec_within d (r_list rs) s h = (s.0, rec_within_all (suc d) rs s.1 h)
  rec_within d (r_object ms) s h = (s.0, h.0, rec_within_mems (suc d) ms s.1 h.1)

  rec_within_all : (d : ℕ) (rs : Recs) → ShallowAll d rs → RecPureAll rs → RecLimitsAll d rs
  rec_within_all d r_nil s h = tt
  rec_within_all d (r_cons r rs) s h = (rec_within d r s.0 h.0, rec_within_all d rs s.1 h.1)

  rec_within_mems : (d : ℕ) (ms : Rmems) → ShallowMems d ms → RecPureMems ms → RecLimitsMems d ms
  rec_within_mems d r_end s h = tt
  rec_within_mems d (r_mem n r ms) s h = (h.0, rec_within d r s.0 h.1, rec_within_mems d ms s.1 h.2)

-- scalars: kept, or a whole number's decimal
abbrev Kept : Option Plain → Type 0
Kept none = Unit {0}
Kept (some x) = PlainLimits x

when_kept : (b : Bool) (x : Plain) → PlainLimits x → Kept (when b x)
when_kept true x h = h
when_kept false x h = tt

plain_pure : (s : Scalar) → ScalarLimits s → PlainLimits (plain s)
plain_pure (boolean b) h = tt
plain_pure (whole s) h = h
plain_pure (decimal d) h = h
plain_pure (string s) h = h
plain_pure (symbol s) h = h

int_kept : (s : Scalar) → ScalarLimits s → Kept (as_int s)
int_kept (boolean b) h = tt
int_kept (whole s) h = when_kept (in_int s) (p_whole s) h
int_kept (decimal d) h = tt
int_kept (string s) h = tt
int_kept (symbol s) h = tt

float_kept : (p : Form) (s : Scalar) → ScalarLimits s → Kept (as_float p s)
float_kept p (boolean b) h = tt
float_kept p (whole s) h = when_kept (whole_is_float p s) (p_decimal (decimal_of s)) (decimal_limits s h)
float_kept p (decimal d) h = when_kept (is_finite d) (p_decimal d) h
float_kept p (string s) h = tt
float_kept p (symbol s) h = tt

string_kept : (s : Scalar) → ScalarLimits s → Kept (as_string s)
string_kept (boolean b) h = tt
string_kept (whole s) h = tt
string_kept (decimal d) h = tt
string_kept (string s) h = h
string_kept (symbol s) h = tt

boolean_kept : (s : Scalar) → Kept (as_boolean s)
boolean_kept (boolean b) = tt
boolean_kept (whole s) = tt
boolean_kept (decimal d) = tt
boolean_kept (string s) = tt
boolean_kept (symbol s) = tt

id_kept : (s : Scalar) → ScalarLimits s → Kept (as_id s)
id_kept (boolean b) h = tt
id_kept (whole s) h = h
id_kept (decimal d) h = tt
id_kept (string s) h = h
id_kept (symbol s) h = tt

enum_kept : (ns : List Name) (p : Form) (s : Scalar) → ScalarLimits s → Kept (as_enum ns p s)
enum_kept ns p (boolean b) h = tt
enum_kept ns p (whole s) h = tt
enum_kept ns p (decimal d) h = tt
enum_kept ns json (string s) h = when_kept (has ns s) (p_string s) h
enum_kept ns literal (string s) h = tt
enum_kept ns json (symbol s) h = tt
enum_kept ns literal (symbol s) h = when_kept (has ns s) (p_string s) h

scalar_kept : (p : Form) (D : Def) (s : Scalar) → ScalarLimits s → Kept (scalar_at p D s)
scalar_kept p int_d s h = int_kept s h
scalar_kept p float_d s h = float_kept p s h
scalar_kept p string_d s h = string_kept s h
scalar_kept p boolean_d s h = boolean_kept s
scalar_kept p id_d s h = id_kept s h
scalar_kept p (enum_d ns) s h = enum_kept ns p s h
scalar_kept p (input_d fs) s h = tt
scalar_kept p custom_d s h = plain_pure s h
scalar_kept p output_d s h = tt

ruled-pure : (R : Rule) (h : Here) (at : ℕ) (n : Name) (D : Def) (r : Rec) → RecPure r → Good RecPure (ruled R h at n D r)
ruled-pure R h at n D r g = good_cond RecPure (passes R n D r) (ok r) (refuse h scalar_refused at) (λ e. g) (λ e. tt)

scalar_pure : (R : Rule) (h : Here) (at : ℕ) (n : Name) (D : Def) (x : Option Plain) → Kept x → Good RecPure (and_then (or_wrong h at x) (λ y. ruled R h at n D (r_plain y)))
scalar_pure R h at n D none g = tt
scalar_pure R h at n D (some x) g = ruled-pure R h at n D (r_plain x) g

-- members have the names of the raw members
abbrev Named : List Name → Rmems → Type 0
Named ns rs = (rec_names rs ≡ ns) × RecPureMems rs

mutual
  keep-pure : (h : Here) (x : Raw) → RawPure x → Good RecPure (keep h x)
  keep-pure h (null at) g = tt
  keep-pure h (scalar at s) g = plain_pure s g
  keep-pure h (variable at n) g = tt
  keep-pure h (list at xs) g = good_then RecPureAll RecPure (keep_all h xs) (λ rs. ok (r_list rs)) (keep_all-pure h xs g) (λ rs q. q)
  keep-pure h (object at ms) g = good_then (Named (mem_names ms)) RecPure (keep_mems h ms) (λ rs. ok (r_object rs)) (keep_mems-pure h ms g.1) (λ rs q. (subst Distinct (sym q.0) g.0, q.1))

  keep_all-pure : (h : Here) (xs : Raws) → RawPureAll xs → Good RecPureAll (keep_all h xs)
  keep_all-pure h nil g = tt
  keep_all-pure h (cons x xs) g = good_then RecPure RecPureAll (keep h x) _ (keep-pure h x g.0)
      (λ r p. good_then RecPureAll RecPureAll (keep_all h xs) (λ rs. ok (r_cons r rs)) (keep_all-pure h xs g.1) (λ rs q. (p, q)))

  keep_mems-pure : (h : Here) (ms : Mems) → RawPureMems ms → Good (Named (mem_names ms)) (keep_mems h ms)
  keep_mems-pure h end g = (refl, tt)
  keep_mems-pure h (mem n x ms) g = good_then RecPure (Named (n ∷ mem_names ms)) (keep h x) _ (keep-pure h x g.1)
      (λ r p. good_then (Named (mem_names ms)) (Named (n ∷ mem_names ms)) (keep_mems h ms) (λ rs. ok (r_mem n r rs)) (keep_mems-pure h ms g.2) (λ rs q. (ap (λ ns. n ∷ ns) q.0, (g.0, p, q.1))))

null_pure : (h : Here) (at : ℕ) (b : Bool) → Good RecPure (null_at h at b)
null_pure h at true = tt
null_pure h at false = tt

ones-pure : (base : Name → Out Rec) → ((n : Name) → Good RecPure (base n)) → (t : Ty) → Good RecPure (ones base t)
ones-pure base k (named b n) = k n
ones-pure base k (list_of b t) = good_then RecPure RecPure (ones base t) one (ones-pure base k t) (λ r p. (p, tt))

list_pure : (R : Rule) (h : Here) (at : ℕ) (n : Name) (q : Out Recs) → Good RecPureAll q → (D : Def) → Good RecPure (list_named R h at n q D)
list_pure R h at n q g int_d = tt
list_pure R h at n q g float_d = tt
list_pure R h at n q g string_d = tt
list_pure R h at n q g boolean_d = tt
list_pure R h at n q g id_d = tt
list_pure R h at n q g (enum_d ns) = tt
list_pure R h at n q g (input_d fs) = tt
list_pure R h at n q g custom_d = good_then RecPureAll RecPure q (λ rs. ruled R h at n custom_d (r_list rs)) g (λ rs p. ruled-pure R h at n custom_d (r_list rs) p)
list_pure R h at n q g output_d = tt

-- what defaults and members come to
abbrev DefaultsPure : Defaults → Type 0
DefaultsPure d = (h : Here) (x : Raw) (t : Ty) → RawPure x → Good RecPure (d h x t)

abbrev Found : Option (Out Rec) → Type 0
Found none = Unit {0}
Found (some o) = Good RecPure o

abbrev Slot : Option Rec → Type 0
Slot none = Unit {0}
Slot (some r) = RecPure r

absent_pure : (d : Defaults) → DefaultsPure d → (h : Here) (missing : Out (Option Rec)) → Good Slot missing → (t : Ty) (x : Option Raw) → OfDefault (λ y u. RawLimits 1 y) t x → Good Slot (absent d h missing t x)
absent_pure d k h missing m t (some x) l = good_then RecPure Slot (d (as_default h) x t) (λ r. ok (some r)) (k (as_default h) x t (raw_pure 1 x l)) (λ r p. p)
absent_pure d k h missing m t none l = good_cond Slot (nullable t) (ok none) missing (λ e. tt) (λ e. m)

field_pure : (d : Defaults) → DefaultsPure d → (h : Here) (missing : Out (Option Rec)) → Good Slot missing → (f : Field) → OfDefault (λ y u. RawLimits 1 y) f.ty f.dflt → (o : Option (Out Rec)) → Found o → Good Slot (field_at d h missing f o)
field_pure d k h missing m f l (some o) g = good_then RecPure Slot o (λ r. ok (some r)) g (λ r p. p)
field_pure d k h missing m f l none g = absent_pure d k h missing m f.ty f.dflt l

-- members have names of fields, none twice
abbrev Among : List Name → Rmems → Type 0
Among ns rs = ((m : Name) → has ns m ≡ false → has (rec_names rs) m ≡ false) × Distinct (rec_names rs) × RecPureMems rs

cond_parts : (b c : Bool) → cond b true c ≡ false → (b ≡ false) × (c ≡ false)
cond_parts true c h = absurd (both_ways true h refl)
cond_parts false c h = (refl, h)

put_among : (n : Name) (ns : List Name) → NameLimits n → has ns n ≡ false → (o : Option Rec) → Slot o → (rs : Rmems) → Among ns rs → Among (n ∷ ns) (put n o rs)
put_among n ns l e none s rs a = ((λ m f. a.0 m (cond_parts (same n m) (has ns m) f).1), a.1, a.2)
put_among n ns l e (some r) s rs a =
    ((λ m f. let q = cond_parts (same n m) (has ns m) f in subst (λ b. cond b true (has (rec_names rs) m) ≡ false) (sym q.0) (a.0 m q.1)), (a.0 n e, a.1), (l, s, a.2))

fields_pure : (d : Defaults) → DefaultsPure d → (h : Here) (at : ℕ) (g : Looks) → ((n : Name) (t : Ty) → Found (g n t)) → (fs : List Field)
    → EachName (field_names fs) → Distinct (field_names fs) → EachDefault (λ x t. RawLimits 1 x) fs → Good (Among (field_names fs)) (fields_at d h at g fs)
fields_pure d k h at g m [] names apart defaults = ((λ n e. refl), tt, tt)
fields_pure d k h at g m (f ∷ fs) names apart defaults =
    good_then Slot (Among (f.name ∷ field_names fs)) (field_at d (in_field f.name h) (refuse (in_field f.name h) missing_field at) f (g f.name f.ty)) _
    (field_pure d k (in_field f.name h) (refuse (in_field f.name h) missing_field at) tt f defaults.0 (g f.name f.ty) (m f.name f.ty))
    (λ o s. good_then (Among (field_names fs)) (Among (f.name ∷ field_names fs)) (fields_at d h at g fs) (λ ms. ok (put f.name o ms)) (fields_pure d k h at g m fs names.1 apart.1 defaults.1)
    (λ rs a. put_among f.name (field_names fs) names.0 apart.0 o s rs a))

declared_pure : (h : Here) (x : Option ℕ) (o : Out Rec) → Good RecPure o → Good RecPure (if_declared h x o)
declared_pure h none o g = g
declared_pure h (some at) o g = tt

object_pure : (d : Defaults) → DefaultsPure d → (R : Rule) (h : Here) (at : ℕ) (g : Looks) → ((n : Name) (t : Ty) → Found (g n t)) → (q : Out Rmems) (ms : Mems) → Distinct (mem_names ms) → Good (Named (mem_names ms)) q
    → (n : Name) (D : Def) → OfDef FieldLimits D → Good RecPure (object_named d R h at g q ms n D)
object_pure d k R h at g m q ms apart c n int_d l = tt
object_pure d k R h at g m q ms apart c n float_d l = tt
object_pure d k R h at g m q ms apart c n string_d l = tt
object_pure d k R h at g m q ms apart c n boolean_d l = tt
object_pure d k R h at g m q ms apart c n id_d l = tt
object_pure d k R h at g m q ms apart c n (enum_d ns) l = tt
object_pure d k R h at g m q ms apart c n (input_d fs) l = declared_pure h (first_undeclared (field_names fs) ms) _
    (good_then (Among (field_names fs)) RecPure (fields_at d h at g fs) (λ rs. ok (r_object rs)) (fields_pure d k h at g m fs l.0 l.1 l.2) (λ rs a. (a.1, a.2)))
object_pure d k R h at g m q ms apart c n custom_d l = good_then (Named (mem_names ms)) RecPure q (λ rs. ruled R h at n custom_d (r_object rs)) c (λ rs a. ruled-pure R h at n custom_d (r_object rs) (subst Distinct (sym a.0) apart, a.1))
object_pure d k R h at g m q ms apart c n output_d l = tt

found_pure : (b : Bool) (o : Out Rec) (u : Option (Out Rec)) → Good RecPure o → Found u → Found (cond b (some o) u)
found_pure true o u g m = g
found_pure false o u g m = m

-- what a name stands for has what each input type has
of_cond : (P : List Field → Type 0) (b : Bool) (D E : Def) → OfDef P D → OfDef P E → OfDef P (cond b D E)
of_cond P true D E h k = h
of_cond P false D E h k = k

of_declared : (P : List Field → Type 0) (ds : List TypeDef) → OfTypes P ds → (n : Name) → OfDef P (declared ds n)
of_declared P [] h n = tt
of_declared P (d ∷ ds) h n = of_cond P (same d.name n) d.def (declared ds n) h.0 (of_declared P ds h.1 n)

of_find : (P : List Field → Type 0) (S : Schema) → OfInputs P S → (n : Name) → OfDef P (find S n)
of_find P S h n = of_cond P (same (codes "Int") n) int_d _ tt (of_cond P (same (codes "Float") n) float_d _ tt (of_cond P (same (codes "String") n) string_d _ tt
    (of_cond P (same (codes "Boolean") n) boolean_d _ tt (of_cond P (same (codes "ID") n) id_d _ tt (of_declared P S.types h n)))))

mutual
  coerce-pure : (d : Defaults) → DefaultsPure d → (S : Schema) (R : Rule) → SchemaLimits S → (p : Form) (h : Here) (v : Raw) (t : Ty) → RawPure v → Good RecPure (coerce d S R p h v t)
  coerce-pure d k S R l p h (null at) t g = null_pure h at (nullable t)
  coerce-pure d k S R l p h (scalar at s) t g = ones-pure _ (λ n. scalar_pure R h at n (find S n) (scalar_at p (find S n) s) (scalar_kept p (find S n) s g)) t
  coerce-pure d k S R l p h (variable at n) t g = tt
  coerce-pure d k S R l p h (list at xs) (named b n) g = list_pure R h at n (keep_all h xs) (keep_all-pure h xs g) (find S n)
  coerce-pure d k S R l p h (list at xs) (list_of b t) g = good_then RecPureAll RecPure (coerce_all d S R p h xs t) (λ rs. ok (r_list rs)) (coerce_all-pure d k S R l p h xs t g) (λ rs q. q)
  coerce-pure d k S R l p h (object at ms) t g = ones-pure _
      (λ n. object_pure d k R h at (coerce_mem d S R p h ms) (coerce_mem-pure d k S R l p h ms g.1) (keep_mems h ms) ms g.0 (keep_mems-pure h ms g.1) n (find S n) (of_find FieldLimits S l n)) t

  coerce_all-pure : (d : Defaults) → DefaultsPure d → (S : Schema) (R : Rule) → SchemaLimits S → (p : Form) (h : Here) (xs : Raws) (t : Ty) → RawPureAll xs → Good RecPureAll (coerce_all d S R p h xs t)
  coerce_all-pure d k S R l p h nil t g = tt
  coerce_all-pure d k S R l p h (cons x xs) t g = good_then RecPure RecPureAll (coerce d S R p h x t) _ (coerce-pure d k S R l p h x t g.0)
      (λ r q. good_then RecPureAll RecPureAll (coerce_all d S R p h xs t) (λ rs. ok (r_cons r rs)) (coerce_all-pure d k S R l p h xs t g.1) (λ rs s. (q, s)))

  coerce_mem-pure : (d : Defaults) → DefaultsPure d → (S : Schema) (R : Rule) → SchemaLimits S → (p : Form) (h : Here) (ms : Mems) → RawPureMems ms → (n : Name) (t : Ty) → Found (coerce_mem d S R p h ms n t)
  coerce_mem-pure d k S R l p h end g n t = tt
  coerce_mem-pure d k S R l p h (mem m x ms) g n t = found_pure (same m n) (coerce d S R p (in_field n h) x t) (coerce_mem d S R p h ms n t) (coerce-pure d k S R l p (in_field n h) x t g.1) (coerce_mem-pure d k S R l p h ms g.2 n t)

coerce_at-pure : (k : ℕ) (S : Schema) (R : Rule) → SchemaLimits S → (p : Form) (h : Here) (v : Raw) (t : Ty) → RawPure v → Good RecPure (coerce_at k S R p h v t)
coerce_at-pure zero S R l p h v t g = coerce-pure (λ h x t. beyond) (λ h x t g. tt) S R l p h v t g
coerce_at-pure (suc k) S R l p h v t g = coerce-pure (coerce_at k S R literal) (coerce_at-pure k S R l literal) S R l p h v t g

pub accepts_within : AcceptsWithin
accepts_within k S R l cap p h v t depth used lead r g e =
    let a = walk-accepted k S R cap p h v t depth used lead r e in
    (rec_within depth r a.1 (good_of RecPure (coerce_at k S R p h v t) r (coerce_at-pure k S R l p h v t (raw_pure depth v g)) a.0), a.2)
