-- Two runs leave equal bytes exactly when what stands is alike.
use Rattle.std.proofs.Common.{◌≡◌, ℕ, suc, ◌+◌, Bool, true, false, cond, List, [], ◌∷◌, sym, refl, ap, ◌∙◌, subst, ap₂, arith}
use mathlib.Core.Option.{Option, none, some}
use Rattle.std.proofs.lemmas.Bool.{both_ways}
use Rattle.model.specs.Values.{Name, Form, literal, Scalar, boolean, whole, decimal, string, symbol, Raw, Raws, Mems, null, scalar, variable, list, object, nil, cons, end, mem, Ty, nullable, Schema, Variable, Plain, p_boolean, p_whole, p_decimal, p_string, Rec, Recs, Rmems, r_null, r_plain, r_list, r_object, r_nil, r_cons, r_end, r_mem, same, has, field_names, fields_of}
use Rattle.model.specs.Records.{encode_mems, size, PlainFits, Fits, FitsAll, FitsMems}
use Rattle.model.specs.Refusals.{Refusal, Out, ok, refused, beyond, and_then, Here, as_default}
use Rattle.model.specs.Coercion.{Rule, Slots, absent, put, for_variable, coerce_at, member, sheet_of}
use Rattle.model.specs.Back.{Distinct, Proper}
use Rattle.model.specs.Bounds.{OfDefault, EachDefault}
use Rattle.model.specs.Likeness.{Alike, NormalScalar, Normal, NormalAll, NormalMems, NormalSchema}
use Rattle.model.specs.Limits.{ScalarLimits, PlainLimits, RawLimits, RawLimitsAll, RawLimitsMems, RecLimits, RecLimitsAll, RecLimitsMems, FieldLimits, SchemaLimits, Shallow}
use Rattle.model.specs.Calls.{Given, Standing, Call, load, supply, withdraw, from_member}
use Rattle.model.specs.Laws.{WalkFits, SizeIsLength, EncodeInjective, SameWhenAlike, AcceptsWithin, stood, AlikeStood, AlikeStanding, Sourced, AllSourced, EqualBytesWhenAlike}
use Rattle.model.proofs.CoNames.{has_head, has_later}
use Rattle.model.proofs.LikeNames.{inputs_map, defaults_map}
use Rattle.model.proofs.RunStands.{ShallowSlot, Right, Rights, rights_none, rights_more, Gives, AllGive, names, run_held}

-- what is within the limits is in normal form
normal_scalar : (s : Scalar) → ScalarLimits s → NormalScalar s
normal_scalar (boolean b) h = tt
normal_scalar (whole s) h = h.formed
normal_scalar (decimal d) h = h.formed
normal_scalar (string s) h = tt
normal_scalar (symbol s) h = tt

mutual
  normal : (d : ℕ) (x : Raw) → RawLimits d x → Normal x
  normal d (null at) h = tt
  normal d (scalar at s) h = normal_scalar s h.1
  normal d (variable at n) h = tt
  normal d (list at xs) h = normal_all (suc d) xs h.1
  normal d (object at ms) h = normal_mems (suc d) ms h.2

  normal_all : (d : ℕ) (xs : Raws) → RawLimitsAll d xs → NormalAll xs
  normal_all d nil h = tt
  normal_all d (cons x xs) h = (normal d x h.0, normal_all d xs h.1)

  normal_mems : (d : ℕ) (ms : Mems) → RawLimitsMems d ms → NormalMems ms
  normal_mems d end h = tt
  normal_mems d (mem n x ms) h = (normal d x h.1, normal_mems d ms h.2)

-- and fits
plain_fits : (x : Plain) → PlainLimits x → PlainFits x
plain_fits (p_boolean b) h = tt
plain_fits (p_whole s) h = tt
plain_fits (p_decimal d) h = h.fits
plain_fits (p_string s) h = tt

mutual
  fits : (d : ℕ) (r : Rec) → RecLimits d r → Fits r
  fits d r_null h = tt
  fits d (r_plain x) h = plain_fits x h.1
  fits d (r_list rs) h = fits_all (suc d) rs h.1
  fits d (r_object ms) h = fits_mems (suc d) ms h.2

  fits_all : (d : ℕ) (rs : Recs) → RecLimitsAll d rs → FitsAll rs
  fits_all d r_nil h = tt
  fits_all d (r_cons r rs) h = (fits d r h.0, fits_all d rs h.1)

  fits_mems : (d : ℕ) (ms : Rmems) → RecLimitsMems d ms → FitsMems ms
  fits_mems d r_end h = tt
  fits_mems d (r_mem n r ms) h = (fits d r h.1, fits_mems d ms h.2)

pub proper_of : (S : Schema) → SchemaLimits S → Proper S
proper_of S h = inputs_map FieldLimits (λ fs. Distinct (field_names fs)) (λ fs l. l.1) S h

normal_of : (S : Schema) → SchemaLimits S → NormalSchema S
normal_of S h = inputs_map FieldLimits (EachDefault (λ x t. Normal x)) (λ fs l. defaults_map (λ x t. RawLimits 1 x) (λ x t. Normal x) (λ x t. normal 1 x) fs l.2) S h

-- what was given is within the limits of a source
abbrev pub FromSource : Option Given → Type 0
FromSource none = Unit {0}
FromSource (some g) = RawLimits 1 g.raw

source_cond : (p : Form) (b : Bool) (x : Raw) (o : Option Raw) → RawLimits 1 x → FromSource (from_member p o) → FromSource (from_member p (cond b (some x) o))
source_cond p true x o h k = h
source_cond p false x o h k = k

source_member : (p : Form) (ms : Mems) → RawLimitsMems 1 ms → (n : Name) → FromSource (from_member p (member ms n))
source_member p end h n = tt
source_member p (mem m x ms) h n = source_cond p (same m n) x (member ms n) h.1 (source_member p ms h.2 n)

source_gives : (c : Call) → Sourced c → Gives FromSource c
source_gives (load p (null at)) h = tt
source_gives (load p (scalar at s)) h = tt
source_gives (load p (variable at n)) h = tt
source_gives (load p (list at xs)) h = tt
source_gives (load p (object at ms)) h = source_member p ms h.2
source_gives (supply n p x) h = h
source_gives (withdraw n) h = tt

pub all_source : (cs : List Call) → AllSourced cs → AllGive FromSource cs
all_source [] h = tt
all_source (c ∷ cs) h = (source_gives c h.0, all_source cs h.1)

-- what a raw value came to, in some form and somewhere
pub record Came (k : ℕ) (S : Schema) (R : Rule) (t : Ty) (x : Raw) (r : Rec) : Type 0 where
  pub form : Form
  pub place : Here
  pub coerced : coerce_at k S R form place x t ≡ ok r
  pub limits : RawLimits 1 x

-- what stands for a variable, and its slot: both or neither
abbrev pub Stands : ℕ → Schema → Rule → Ty → Option Raw → Option Rec → Type 0
Stands k S R t none none = Unit {0}
Stands k S R t none (some r) = ⊥
Stands k S R t (some x) none = ⊥
Stands k S R t (some x) (some r) = Came k S R t x r

some_stands : (k : ℕ) (S : Schema) (R : Rule) (p : Form) (h : Here) (x : Raw) (t : Ty) (q : Out Rec) (o : Option Rec) → coerce_at k S R p h x t ≡ q → and_then q (λ r. ok (some r)) ≡ ok o → RawLimits 1 x → Stands k S R t (some x) o
some_stands k S R p h x t (ok r) none e f l = let z : ◌≡◌ {A = ℕ} 0 1 = cc in absurd (omega arith)
some_stands k S R p h x t (ok r) (some s) e f l = let w : r ≡ s = cc in record { form = p; place = h; coerced = e ∙ ap ok w; limits = l }
some_stands k S R p h x t (refused n) o e f l = let z : ◌≡◌ {A = ℕ} 0 1 = cc in absurd (omega arith)
some_stands k S R p h x t beyond o e f l = let z : ◌≡◌ {A = ℕ} 0 1 = cc in absurd (omega arith)

null_stands : (k : ℕ) (S : Schema) (R : Rule) (t : Ty) (b : Bool) (f : Refusal) (o : Option Rec) → cond b (ok none) (refused f) ≡ ok o → Stands k S R t none o
null_stands k S R t true f none e = tt
null_stands k S R t true f (some r) e = let z : ◌≡◌ {A = ℕ} 0 1 = cc in absurd (omega arith)
null_stands k S R t false f o e = let z : ◌≡◌ {A = ℕ} 0 1 = cc in absurd (omega arith)

absent_stands : (k : ℕ) (S : Schema) (R : Rule) (h : Here) (f : Refusal) (t : Ty) (d : Option Raw) (o : Option Rec) → OfDefault (λ x t. RawLimits 1 x) t d → absent (coerce_at k S R literal) h (refused f) t d ≡ ok o → Stands k S R t d o
absent_stands k S R h f t none o l e = null_stands k S R t (nullable t) f o e
absent_stands k S R h f t (some x) o l e = some_stands k S R literal (as_default h) x t (coerce_at k S R literal (as_default h) x t) o refl e l

-- a right slot comes from what stands
pub right_stands : (k : ℕ) (S : Schema) (R : Rule) (v : Variable) (g : Option Given) (o : Option Rec) → Right k S R v g o → FromSource g → OfDefault (λ x t. RawLimits 1 x) v.field.ty v.field.dflt → Stands k S R v.field.ty (stood v g) o
right_stands k S R v none o r l d = absent_stands k S R (for_variable v) _ v.field.ty v.field.dflt o d r.coerced
right_stands k S R v (some g) o r l d = some_stands k S R g.form (for_variable v) g.raw v.field.ty (coerce_at k S R g.form (for_variable v) g.raw v.field.ty) o refl r.coerced l

-- the first member of a sheet is a variable's
head_name : (vs : List Variable) (os : Slots) (n : Name) (r : Rec) (ms : Rmems) → sheet_of vs os ≡ r_mem n r ms → has (names vs) n ≡ true
head_name [] os n r ms e = let z : ◌≡◌ {A = ℕ} 0 1 = cc in absurd (omega arith)
head_name (v ∷ vs) [] n r ms e = let z : ◌≡◌ {A = ℕ} 0 1 = cc in absurd (omega arith)
head_name (v ∷ vs) (some s ∷ os) n r ms e = let q : v.field.name ≡ n = cc in subst (λ m. has (names (v ∷ vs)) m ≡ true) q (has_head v.field.name (names vs))
head_name (v ∷ vs) (none ∷ os) n r ms e = has_later v.field.name n (names vs) (head_name vs os n r ms e)

put_same : (n : Name) (vs : List Variable) (o q : Option Rec) (os qs : Slots) → has (names vs) n ≡ false → put n o (sheet_of vs os) ≡ put n q (sheet_of vs qs) → (o ≡ q) × (sheet_of vs os ≡ sheet_of vs qs)
put_same n vs none none os qs u e = (refl, e)
put_same n vs none (some s) os qs u e = absurd (both_ways (has (names vs) n) u (head_name vs os n s (sheet_of vs qs) e))
put_same n vs (some r) none os qs u e = absurd (both_ways (has (names vs) n) u (head_name vs qs n r (sheet_of vs os) (sym e)))
put_same n vs (some r) (some s) os qs u e = let a : r ≡ s = cc in (ap some a, cc)

-- the defaults of the variables are within the limits
abbrev pub Each : List Variable → Type 0
Each vs = EachDefault (λ x t. RawLimits 1 x) (fields_of vs)

module _ (alikes : SameWhenAlike) (k : ℕ) (S : Schema) (R : Rule) (limits : SchemaLimits S) where
  came_alike : (t : Ty) (x y : Raw) (r s : Rec) → Came k S R t x r → Came k S R t y s → (r ≡ s → Alike S t x y) × (Alike S t x y → r ≡ s)
  came_alike t x y r s a b = alikes k k S R (proper_of S limits) (normal_of S limits) a.form b.form a.place b.place x y t r s (normal 1 x a.limits) (normal 1 y b.limits) a.coerced b.coerced

  stood_alike : (t : Ty) (x y : Option Raw) (o q : Option Rec) → Stands k S R t x o → Stands k S R t y q → o ≡ q → AlikeStood S t x y
  stood_alike t none none o q a b e = tt
  stood_alike t none (some y) none none a b e = absurd b
  stood_alike t none (some y) none (some s) a b e = let z : ◌≡◌ {A = ℕ} 0 1 = cc in absurd (omega arith)
  stood_alike t none (some y) (some r) q a b e = absurd a
  stood_alike t (some x) none none q a b e = absurd a
  stood_alike t (some x) none (some r) none a b e = let z : ◌≡◌ {A = ℕ} 0 1 = cc in absurd (omega arith)
  stood_alike t (some x) none (some r) (some s) a b e = absurd b
  stood_alike t (some x) (some y) none q a b e = absurd a
  stood_alike t (some x) (some y) (some r) none a b e = absurd b
  stood_alike t (some x) (some y) (some r) (some s) a b e = let w : r ≡ s = cc in (came_alike t x y r s a b).0 w

  stood_agree : (t : Ty) (x y : Option Raw) (o q : Option Rec) → Stands k S R t x o → Stands k S R t y q → AlikeStood S t x y → o ≡ q
  stood_agree t none none none none a b l = refl
  stood_agree t none none none (some s) a b l = absurd b
  stood_agree t none none (some r) q a b l = absurd a
  stood_agree t none (some y) o q a b l = absurd l
  stood_agree t (some x) none o q a b l = absurd l
  stood_agree t (some x) (some y) none q a b l = absurd a
  stood_agree t (some x) (some y) (some r) none a b l = absurd b
  stood_agree t (some x) (some y) (some r) (some s) a b l = ap some ((came_alike t x y r s a b).1 l)

  standing_alike : {vs : List Variable} {gs hs : Standing} {os qs : Slots} → Rights FromSource k S R vs gs os → Rights FromSource k S R vs hs qs → Each vs → Distinct (names vs) → sheet_of vs os ≡ sheet_of vs qs → AlikeStanding S vs gs hs
  standing_alike rights_none rights_none d u e = tt
  standing_alike (rights_more {v = v} {vs = vs} {g = g} {o = o} {os = os} p r m) (rights_more {g = h} {o = q} {os = qs} w s n) d u e =
      let c = put_same v.field.name vs o q os qs u.0 e in
      (stood_alike v.field.ty (stood v g) (stood v h) o q (right_stands k S R v g o r p d.0) (right_stands k S R v h q s w d.0) c.0, standing_alike m n d.1 u.1 c.1)

  standing_agree : {vs : List Variable} {gs hs : Standing} {os qs : Slots} → Rights FromSource k S R vs gs os → Rights FromSource k S R vs hs qs → Each vs → AlikeStanding S vs gs hs → sheet_of vs os ≡ sheet_of vs qs
  standing_agree rights_none rights_none d l = refl
  standing_agree (rights_more {v = v} {g = g} {o = o} p r m) (rights_more {g = h} {o = q} w s n) d l =
      ap₂ (put v.field.name) (stood_agree v.field.ty (stood v g) (stood v h) o q (right_stands k S R v g o r p d.0) (right_stands k S R v h q s w d.0) l.0) (standing_agree m n d.1 l.1)

-- the records of a sheet fit
module _ (walks : WalkFits) (within : AcceptsWithin) (k : ℕ) (S : Schema) (R : Rule) (limits : SchemaLimits S) where
  came_fits : (t : Ty) (x : Raw) (r : Rec) → Came k S R t x r → Shallow 1 r → Fits r
  came_fits t x r c h =
      let w = (walks k S R (0 + (0 + size r)) c.form c.place x t 1 0 0 r).0 c.coerced h (omega arith) in
      fits 1 r (within k S R limits (0 + (0 + size r)) c.form c.place x t 1 0 0 r c.limits w).0

  put_fits : (n : Name) (t : Ty) (x : Option Raw) (o : Option Rec) (ms : Rmems) → Stands k S R t x o → ShallowSlot o → FitsMems ms → FitsMems (put n o ms)
  put_fits n t x none ms a h f = f
  put_fits n t none (some r) ms a h f = absurd a
  put_fits n t (some x) (some r) ms a h f = (came_fits t x r a h, f)

  pub sheet_fits : {vs : List Variable} {gs : Standing} {os : Slots} → Rights FromSource k S R vs gs os → Each vs → FitsMems (sheet_of vs os)
  sheet_fits rights_none d = tt
  sheet_fits (rights_more {v = v} {vs = vs} {g = g} {o = o} {os = os} p r m) d =
      put_fits v.field.name v.field.ty (stood v g) o (sheet_of vs os) (right_stands k S R v g o r p d.0) r.shallow (sheet_fits m d.1)

pub equal_bytes_from : WalkFits → SizeIsLength → EncodeInjective → AcceptsWithin → SameWhenAlike → EqualBytesWhenAlike
equal_bytes_from walks sizes injective within alikes k S R limits vs l cap dap c d cs ds i j s u e f =
    let a = run_held walks FromSource k S R cap vs l.1 cs (all_source cs i) s e in
    let b = run_held walks FromSource k S R dap vs l.1 ds (all_source ds j) u f in
    let m = sizes.1 (sheet_of vs s.slots) in
    let n = sizes.1 (sheet_of vs u.slots) in
    let x = sheet_fits walks within k S R limits a.rights l.2 in
    let y = sheet_fits walks within k S R limits b.rights l.2 in (
      λ q. standing_alike alikes k S R limits a.rights b.rights l.2 l.1 (injective.1 (sheet_of vs s.slots) (sheet_of vs u.slots) x y (omega (arith, a.within)) (omega (arith, b.within)) q),
      λ q. ap encode_mems (standing_agree alikes k S R limits a.rights b.rights l.2 q),
    )
