-- Of what is coerced as a literal, nothing is found.
use Rattle.std.proofs.Common.{◌≡◌, ℕ, suc, Bool, true, false, cond, not, ◌&&◌, List, [], ◌∷◌, ◌++◌, refl}
use mathlib.Core.Option.{Option, none, some}
use Rattle.model.specs.Values.{Name, literal, Scalar, Raw, Raws, Mems, null, scalar, variable, list, object, nil, cons, end, mem, place_of, Ty, named, list_of, nullable, Field, Def, input_d, custom_d, Schema, find, Variable, Plain, Rec, r_plain, r_list, r_object, same, field_names}
use Rattle.model.specs.Refusals.{Cause, missing_field, Out, ok, refused, beyond, and_then, Here, refuse, in_field}
use Rattle.model.specs.Scalars.{scalar_at}
use Rattle.model.specs.Coercion.{Rule, keep, keep_all, keep_mems, ruled, or_wrong, scalar_named, null_at, one, ones, list_named, first_undeclared, if_declared, Defaults, absent, field_at, Looks, fields_at, object_named, coerce, coerce_all, coerce_mem, coerce_at, member}
use Rattle.model.specs.Checking.{FindingKind, unsupported_value_type, required_field, Finding, found, inner, wrong_scalar, check_scalar, undeclared_in, undeclared_in_all, undeclared_in_mems, list_at_name, check_names, is_there, has_default, check_required, check_fields, check_object, check, check_all, check_member}
use Rattle.model.proofs.CoGood.{Good, good_then, good_cond, good_of, good_each, good_more}
use Rattle.model.proofs.ChScalars.{Either, either}
use Rattle.model.proofs.ChFound.{none_both}

null_silent : (h : Here) (at : ℕ) (b : Bool) → Good (λ r. cond b [] (found unsupported_value_type at) ≡ []) (null_at h at b)
null_silent h at true = refl
null_silent h at false = tt

or_silent : (h : Here) (at : ℕ) (o : Option Plain) (w : Option FindingKind) → Either o w → Good (λ x. check_scalar at w ≡ []) (or_wrong h at o)
or_silent h at none w e = tt
or_silent h at (some x) none e = refl
or_silent h at (some x) (some k) e = absurd e

ruled_anyway : (Q : Type 0) (R : Rule) (h : Here) (at : ℕ) (n : Name) (D : Def) (r : Rec) → Q → Good (λ x. Q) (ruled R h at n D r)
ruled_anyway Q R h at n D r q = good_each (λ x. Q) (ruled R h at n D r) (λ x. q)

scalar_silent : (R : Rule) (h : Here) (at : ℕ) (s : Scalar) (n : Name) (D : Def) → Good (λ r. check_scalar at (wrong_scalar D s) ≡ []) (scalar_named R h literal at s n D)
scalar_silent R h at s n D =
    good_then (λ x. check_scalar at (wrong_scalar D s) ≡ []) (λ r. check_scalar at (wrong_scalar D s) ≡ []) (or_wrong h at (scalar_at literal D s)) _
    (or_silent h at (scalar_at literal D s) (wrong_scalar D s) (either D s)) (λ x e. ruled_anyway (check_scalar at (wrong_scalar D s) ≡ []) R h at n D (r_plain x) e)

ones_silent : (Q : Type 0) (base : Name → Out Rec) (t : Ty) → Good (λ r. Q) (base (inner t)) → Good (λ r. Q) (ones base t)
ones_silent Q base (named b n) h = h
ones_silent Q base (list_of b t) h = good_then (λ r. Q) (λ r. Q) (ones base t) one (ones_silent Q base t h) (λ r q. q)

-- two parts that are silent, one after the other
two_silent : {X Y Z : Type 0} (fs gs : List Finding) (o : Out X) (q : Out Y) (f : X → Y → Z) → Good (λ x. fs ≡ []) o → Good (λ y. gs ≡ []) q → Good (λ z. fs ++ gs ≡ []) (and_then o (λ x. and_then q (λ y. ok (f x y))))
two_silent fs gs (ok x) (ok y) f h k = none_both fs gs h k
two_silent fs gs (ok x) (refused n) f h k = tt
two_silent fs gs (ok x) beyond f h k = tt
two_silent fs gs (refused n) q f h k = tt
two_silent fs gs beyond q f h k = tt

-- custom contents that are kept hold no variable
mutual
  keep_silent : (vs : List Variable) (h : Here) (x : Raw) → Good (λ r. undeclared_in vs x ≡ []) (keep h x)
  keep_silent vs h (null at) = refl
  keep_silent vs h (scalar at s) = refl
  keep_silent vs h (variable at n) = tt
  keep_silent vs h (list at xs) = good_then (λ rs. undeclared_in_all vs xs ≡ []) (λ r. undeclared_in_all vs xs ≡ []) (keep_all h xs) _ (keep_all-silent vs h xs) (λ rs e. e)
  keep_silent vs h (object at ms) = good_then (λ rs. undeclared_in_mems vs ms ≡ []) (λ r. undeclared_in_mems vs ms ≡ []) (keep_mems h ms) _ (keep_mems-silent vs h ms) (λ rs e. e)

  keep_all-silent : (vs : List Variable) (h : Here) (xs : Raws) → Good (λ r. undeclared_in_all vs xs ≡ []) (keep_all h xs)
  keep_all-silent vs h nil = refl
  keep_all-silent vs h (cons x xs) = two_silent (undeclared_in vs x) (undeclared_in_all vs xs) (keep h x) (keep_all h xs) _ (keep_silent vs h x) (keep_all-silent vs h xs)

  keep_mems-silent : (vs : List Variable) (h : Here) (ms : Mems) → Good (λ r. undeclared_in_mems vs ms ≡ []) (keep_mems h ms)
  keep_mems-silent vs h end = refl
  keep_mems-silent vs h (mem n x ms) = two_silent (undeclared_in vs x) (undeclared_in_mems vs ms) (keep h x) (keep_mems h ms) _ (keep_silent vs h x) (keep_mems-silent vs h ms)

list_silent : (R : Rule) (h : Here) (at : ℕ) (n : Name) (vs : List Variable) (xs : Raws) (D : Def) → Good (λ r. list_at_name at (undeclared_in_all vs xs) D ≡ []) (list_named R h at n (keep_all h xs) D)
list_silent R h at n vs xs custom_d = good_then (λ rs. undeclared_in_all vs xs ≡ []) (λ r. undeclared_in_all vs xs ≡ []) (keep_all h xs) _ (keep_all-silent vs h xs) (λ rs e. ruled_anyway (undeclared_in_all vs xs ≡ []) R h at n custom_d (r_list rs) e)
list_silent R h at n vs xs D = tt

-- FIELDS

not_required : (n h : Bool) (fs : List Finding) → cond (not n && (not h && false)) fs [] ≡ []
not_required true h fs = refl
not_required false true fs = refl
not_required false false fs = refl

has_one : (n : Bool) (fs : List Finding) → cond (not n && false) fs [] ≡ []
has_one true fs = refl
has_one false fs = refl

null_required : (h : Here) (at a : ℕ) (n d : Bool) → Good (λ r. cond (not n && (not d && true)) (found required_field at) [] ≡ []) (null_at h a n)
null_required h at a true d = refl
null_required h at a false d = tt

member_required : (d : Defaults) (S : Schema) (R : Rule) (h : Here) (at : ℕ) (f : Field) (x : Raw) → Good (λ r. check_required at f (some x) ≡ []) (coerce d S R literal h x f.ty)
member_required d S R h at f (null a) = null_required h at a (nullable f.ty) (has_default f)
member_required d S R h at f x = good_each (λ r. check_required at f (some x) ≡ []) (coerce d S R literal h x f.ty) (λ r. not_required (nullable f.ty) (has_default f) (found required_field at))

absent_required : (d : Defaults) (h : Here) (c : Cause) (at : ℕ) (t : Ty) (o : Option Raw) → Good (λ r. cond (not (nullable t) && (not (is_there o) && true)) (found required_field at) [] ≡ []) (absent d h (refuse h c at) t o)
absent_required d h c at t (some x) = good_each _ (absent d h (refuse h c at) t (some x)) (λ r. has_one (nullable t) (found required_field at))
absent_required d h c at t none = good_cond _ (nullable t) (ok none) _ (λ e. rw e refl) (λ e. tt)

-- what is heard of a field: its member, what came of it, and its findings
abbrev Silent : ℕ → Field → Option Raw → List Finding → Type 0
Silent at f m fs = (check_required at f m ≡ []) × (fs ≡ [])

abbrev Heard : ℕ → Field → Option Raw → Option (Out Rec) → List Finding → Type 0
Heard at f none none fs = fs ≡ []
Heard at f none (some o) fs = ⊥
Heard at f (some x) none fs = ⊥
Heard at f (some x) (some o) fs = Good (λ r. Silent at f (some x) fs) o

heard_cond : (at : ℕ) (f : Field) (b : Bool) (x : Raw) (m : Option Raw) (o : Out Rec) (q : Option (Out Rec)) (fs gs : List Finding) → Good (λ r. Silent at f (some x) fs) o → Heard at f m q gs → Heard at f (cond b (some x) m) (cond b (some o) q) (cond b fs gs)
heard_cond at f true x m o q fs gs h k = h
heard_cond at f false x m o q fs gs h k = k

good_both : {X : Type 0} (P Q : Type 0) (o : Out X) → Good (λ x. P) o → Good (λ x. Q) o → Good (λ x. P × Q) o
good_both P Q (ok x) h k = (h, k)
good_both P Q (refused f) h k = tt
good_both P Q beyond h k = tt

field_silent : (d : Defaults) (h : Here) (c : Cause) (at : ℕ) (f : Field) (m : Option Raw) (q : Option (Out Rec)) (fs : List Finding) → Heard at f m q fs → Good (λ o. Silent at f m fs) (field_at d h (refuse h c at) f q)
field_silent d h c at f none none fs k = good_more (λ o. check_required at f none ≡ []) (λ o. Silent at f none fs) (absent d h (refuse h c at) f.ty f.dflt) (absent_required d h c at f.ty f.dflt) (λ o e. (e, k))
field_silent d h c at f none (some o) fs k = absurd k
field_silent d h c at f (some x) none fs k = absurd k
field_silent d h c at f (some x) (some o) fs k = good_then (λ r. Silent at f (some x) fs) (λ r. Silent at f (some x) fs) o _ k (λ r e. e)

fields_silent : (d : Defaults) (h : Here) (at : ℕ) (ms : Mems) (l : Looks) (g : Field → List Finding) → ((f : Field) → Heard at f (member ms f.name) (l f.name f.ty) (g f)) → (fs : List Field) → Good (λ rs. check_fields at ms g fs ≡ []) (fields_at d h at l fs)
fields_silent d h at ms l g k [] = refl
fields_silent d h at ms l g k (f ∷ fs) =
    good_then (λ o. Silent at f (member ms f.name) (g f)) (λ rs. check_fields at ms g (f ∷ fs) ≡ []) (field_at d (in_field f.name h) (refuse (in_field f.name h) missing_field at) f (l f.name f.ty)) _
    (field_silent d (in_field f.name h) missing_field at f (member ms f.name) (l f.name f.ty) (g f) (k f))
    (λ o u. good_then (λ rs. check_fields at ms g fs ≡ []) (λ rs. check_fields at ms g (f ∷ fs) ≡ []) (fields_at d h at l fs) _ (fields_silent d h at ms l g k fs)
    (λ rs e. none_both (check_required at f (member ms f.name)) (g f ++ check_fields at ms g fs) u.0 (none_both (g f) (check_fields at ms g fs) u.1 e)))

declared_silent : (h : Here) (u : Option ℕ) (o : Out Rec) (fs : List Finding) → Good (λ r. fs ≡ []) o → Good (λ r. check_names u ++ fs ≡ []) (if_declared h u o)
declared_silent h none o fs k = k
declared_silent h (some at) o fs k = tt

object_silent : (d : Defaults) (R : Rule) (h : Here) (at : ℕ) (l : Looks) (g : Field → List Finding) (vs : List Variable) (ms : Mems) (n : Name) → ((f : Field) → Heard at f (member ms f.name) (l f.name f.ty) (g f)) → (D : Def)
    → Good (λ r. check_object at ms (undeclared_in_mems vs ms) g D ≡ []) (object_named d R h at l (keep_mems h ms) ms n D)
object_silent d R h at l g vs ms n k (input_d fs) =
    declared_silent h (first_undeclared (field_names fs) ms) _ (check_fields at ms g fs)
    (good_then (λ rs. check_fields at ms g fs ≡ []) (λ r. check_fields at ms g fs ≡ []) (fields_at d h at l fs) _ (fields_silent d h at ms l g k fs) (λ rs e. e))
object_silent d R h at l g vs ms n k custom_d =
    good_then (λ rs. undeclared_in_mems vs ms ≡ []) (λ r. undeclared_in_mems vs ms ≡ []) (keep_mems h ms) _ (keep_mems-silent vs h ms) (λ rs e. ruled_anyway (undeclared_in_mems vs ms ≡ []) R h at n custom_d (r_object rs) e)
object_silent d R h at l g vs ms n k D = tt

mutual
  silent : (d : Defaults) (S : Schema) (R : Rule) (vs : List Variable) (h : Here) (v : Raw) (t : Ty) (b : Bool) (lone : ℕ) → Good (λ r. check S vs b lone v t ≡ []) (coerce d S R literal h v t)
  silent d S R vs h (null at) t b lone = null_silent h at (nullable t)
  silent d S R vs h (scalar at s) t b lone = ones_silent (check S vs b lone (scalar at s) t ≡ []) _ t (scalar_silent R h at s (inner t) (find S (inner t)))
  silent d S R vs h (variable at n) t b lone = tt
  silent d S R vs h (list at xs) (named c n) b lone = list_silent R h at n vs xs (find S n)
  silent d S R vs h (list at xs) (list_of c t) b lone = good_then (λ rs. check_all S vs xs t ≡ []) (λ r. check_all S vs xs t ≡ []) (coerce_all d S R literal h xs t) _ (silent_all d S R vs h xs t) (λ rs e. e)
  silent d S R vs h (object at ms) t b lone = ones_silent (check S vs b lone (object at ms) t ≡ []) _ t
      (object_silent d R h at (coerce_mem d S R literal h ms) (check_member S vs ms) vs ms (inner t) (silent_member d S R vs h at ms) (find S (inner t)))

  silent_all : (d : Defaults) (S : Schema) (R : Rule) (vs : List Variable) (h : Here) (xs : Raws) (t : Ty) → Good (λ r. check_all S vs xs t ≡ []) (coerce_all d S R literal h xs t)
  silent_all d S R vs h nil t = refl
  silent_all d S R vs h (cons x xs) t = two_silent (check S vs false (place_of x) x t) (check_all S vs xs t) (coerce d S R literal h x t) (coerce_all d S R literal h xs t) _ (silent d S R vs h x t false (place_of x)) (silent_all d S R vs h xs t)

  silent_member : (d : Defaults) (S : Schema) (R : Rule) (vs : List Variable) (h : Here) (at : ℕ) (ms : Mems) (f : Field) → Heard at f (member ms f.name) (coerce_mem d S R literal h ms f.name f.ty) (check_member S vs ms f)
  silent_member d S R vs h at end f = refl
  silent_member d S R vs h at (mem m x ms) f =
      heard_cond at f (same m f.name) x (member ms f.name) (coerce d S R literal (in_field f.name h) x f.ty) (coerce_mem d S R literal h ms f.name f.ty) (check S vs (has_default f) (place_of x) x f.ty) (check_member S vs ms f)
      (good_both _ _ (coerce d S R literal (in_field f.name h) x f.ty) (member_required d S R (in_field f.name h) at f x) (silent d S R vs (in_field f.name h) x f.ty (has_default f) (place_of x)))
      (silent_member d S R vs h at ms f)

pub coerced_silent : (k : ℕ) (S : Schema) (R : Rule) (vs : List Variable) (h : Here) (v : Raw) (t : Ty) (b : Bool) (lone : ℕ) (r : Rec) → coerce_at (suc k) S R literal h v t ≡ ok r → check S vs b lone v t ≡ []
coerced_silent k S R vs h v t b lone r e = good_of (λ r. check S vs b lone v t ≡ []) (coerce_at (suc k) S R literal h v t) r (silent (coerce_at k S R literal) S R vs h v t b lone) e
