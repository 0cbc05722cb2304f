-- a conforming record comes back
use Rattle.std.proofs.Common.{◌≡◌, ℕ, zero, suc, true, false, List, ◌∷◌, sym, refl, ap, ◌∙◌, subst}
use mathlib.Core.Option.{Option, none, some}
use Rattle.std.proofs.lemmas.Bool.{cond-true, cond-false}
use Rattle.model.specs.Values.{Name, json, literal, Scalar, Raw, Raws, Mems, place_of, Ty, Field, Def, input_d, custom_d, Schema, find, Plain, p_boolean, p_whole, p_decimal, p_string, Rec, Recs, Rmems, r_plain, r_list, r_object, r_mem, same, has, field_names}
use Rattle.model.specs.Refusals.{missing_field, Out, ok, beyond, Here, refuse, in_field}
use Rattle.model.specs.Scalars.{plain, TakesScalar, int_whole, float_decimal, string_string, boolean_boolean, id_string, id_whole, enum_json, custom_any, scalar_at}
use Rattle.model.specs.Coercion.{Rule, keep_all, keep_mems, passes, scalar_named, list_named, first_undeclared, Defaults, field_at, put, Looks, fields_at, object_named, coerce, coerce_all, coerce_mem, coerce_at}
use Rattle.model.specs.Taking.{Keeps, KeepsAll, KeepsMems, k_null, k_scalar, k_list, k_object, k_nil, k_cons, k_end, k_mem}
use Rattle.model.specs.Conforming.{PlainOk, ok_int, ok_float, ok_string, ok_boolean, ok_id_string, ok_id_whole, ok_enum, ok_custom, Conforms, ConformsAll, ConformsFields, c_null, c_plain, c_list, c_input, c_any_list, c_any_object, c_nil, c_cons, f_end, f_has, f_absent}
use Rattle.model.specs.Back.{as_scalar, Shows, ShowsAll, ShowsMems, s_null, s_plain, s_list, s_object, s_nil, s_cons, s_end, s_mem, Distinct, Proper}
use Rattle.model.specs.Laws.{ComesBack}
use Rattle.model.proofs.CoNames.{same_refl, has_head, has_later, apart, has_none, of_input}
use Rattle.model.proofs.CoScalars.{scalar_taken}
use Rattle.model.proofs.CoComplete.{kept_all, kept_mems}

pub plain_back : (x : Plain) → plain (as_scalar x) ≡ x
plain_back (p_boolean b) = refl
plain_back (p_whole s) = refl
plain_back (p_decimal d) = refl
plain_back (p_string s) = refl

-- what shows a record is kept as that record
mutual
  pub shown-kept : {r : Rec} {x : Raw} → Shows r x → Keeps x r
  shown-kept s_null = k_null
  shown-kept (s_plain {x = x} e) = k_scalar (ap plain (sym e) ∙ plain_back x)
  shown-kept (s_list a) = k_list (shown-kept_all a)
  shown-kept (s_object a) = k_object (shown-kept_mems a)

  pub shown-kept_all : {rs : Recs} {xs : Raws} → ShowsAll rs xs → KeepsAll xs rs
  shown-kept_all s_nil = k_nil
  shown-kept_all (s_cons a c) = k_cons (shown-kept a) (shown-kept_all c)

  pub shown-kept_mems : {rs : Rmems} {ms : Mems} → ShowsMems rs ms → KeepsMems ms rs
  shown-kept_mems s_end = k_end
  shown-kept_mems (s_mem a c) = k_mem (shown-kept a) (shown-kept_mems c)

scalar_back : {D : Def} {x : Plain} → PlainOk D x → TakesScalar json D (as_scalar x) x
scalar_back (ok_int e) = int_whole e
scalar_back (ok_float e) = float_decimal e
scalar_back ok_string = string_string
scalar_back ok_boolean = boolean_boolean
scalar_back ok_id_string = id_string
scalar_back ok_id_whole = id_whole
scalar_back (ok_enum e) = enum_json e
scalar_back (ok_custom {x = x}) = custom_any (plain_back x)

-- a member's name is the field's
named_head : (f : Field) (fs : List Field) (n : Name) → f.name ≡ n → has (field_names (f ∷ fs)) n ≡ true
named_head f fs n e = subst (λ m. has (field_names (f ∷ fs)) m ≡ true) e (has_head f.name (field_names fs))

all_declared : {S : Schema} {R : Rule} {fs : List Field} {rs : Rmems} {ms : Mems} → ConformsFields S R fs rs → ShowsMems rs ms → (ns : List Name) → ((n : Name) → has (field_names fs) n ≡ true → has ns n ≡ true) → first_undeclared ns ms ≡ none
all_declared f_end s_end ns h = refl
all_declared (f_has {f = f} {fs = fs} {n = n} e c g) (s_mem {x = x} {ms = ms} a m) ns h =
    cond-true (has ns n) (first_undeclared ns ms) (some (place_of x)) (h n (named_head f fs n e)) ∙ all_declared g m ns (λ k u. h k (has_later f.name k (field_names fs) u))
all_declared (f_absent {f = f} {fs = fs} a b g) m ns h = all_declared g m ns (λ k u. h k (has_later f.name k (field_names fs) u))

not_there : {S : Schema} {R : Rule} {fs : List Field} {rs : Rmems} {ms : Mems} → ConformsFields S R fs rs → ShowsMems rs ms → (d : Defaults) (h : Here) (k : Name) (t : Ty) → has (field_names fs) k ≡ false → coerce_mem d S R json h ms k t ≡ none
not_there f_end s_end d h k t u = refl
not_there (f_has {f = f} {fs = fs} {n = n} e c g) (s_mem a m) d h k t u =
    cond-false (same n k) _ _ (subst (λ j. same j k ≡ false) e (has_none f.name k (field_names fs) u).0) ∙ not_there g m d h k t (has_none f.name k (field_names fs) u).1
not_there (f_absent {f = f} {fs = fs} a b g) m d h k t u = not_there g m d h k t (has_none f.name k (field_names fs) u).1

one_more : (d : Defaults) (h : Here) (at : ℕ) (g : Looks) (f : Field) (fs : List Field) (o : Option Rec) (rs : Rmems) → field_at d (in_field f.name h) (refuse (in_field f.name h) missing_field at) f (g f.name f.ty) ≡ ok o → fields_at d h at g fs ≡ ok rs → fields_at d h at g (f ∷ fs) ≡ ok (put f.name o rs)
one_more d h at g f fs o rs a b = rw (a, b) refl

scalar_named_lem : (R : Rule) (h : Here) (at : ℕ) (s : Scalar) (n : Name) (D : Def) (x : Plain) → scalar_at json D s ≡ some x → passes R n D (r_plain x) ≡ true → scalar_named R h json at s n D ≡ ok (r_plain x)
scalar_named_lem R h at s n D x e u = rw (e, u) refl

list_named_lem : (R : Rule) (h : Here) (at : ℕ) (n : Name) (o : Out Recs) (D : Def) (rs : Recs) → D ≡ custom_d → o ≡ ok rs → passes R n custom_d (r_list rs) ≡ true → list_named R h at n o D ≡ ok (r_list rs)
list_named_lem R h at n o D rs e f u = rw (e, f, u) refl

object_custom : (d : Defaults) (R : Rule) (h : Here) (at : ℕ) (g : Looks) (o : Out Rmems) (ms : Mems) (n : Name) (D : Def) (rs : Rmems) → D ≡ custom_d → o ≡ ok rs → passes R n custom_d (r_object rs) ≡ true → object_named d R h at g o ms n D ≡ ok (r_object rs)
object_custom d R h at g o ms n D rs e f u = rw (e, f, u) refl

object_input : (d : Defaults) (R : Rule) (h : Here) (at : ℕ) (g : Looks) (o : Out Rmems) (ms : Mems) (n : Name) (D : Def) (fs : List Field) (rs : Rmems) → D ≡ input_d fs → first_undeclared (field_names fs) ms ≡ none → fields_at d h at g fs ≡ ok rs → object_named d R h at g o ms n D ≡ ok (r_object rs)
object_input d R h at g o ms n D fs rs e u f = rw (e, u, f) refl

mutual
  back : {S : Schema} {R : Rule} {t : Ty} {r : Rec} {v : Raw} → Conforms S R t r → Shows r v → Proper S → (d : Defaults) (h : Here) → coerce d S R json h v t ≡ ok r
  back (c_null e) s_null w d h = rw e refl
  back {S} {R} (c_plain {n = n} {x = x} c u) (s_plain {at = at} {s = s} e) w d h =
      scalar_named_lem R h at s n (find S n) x (ap (scalar_at json (find S n)) (sym e) ∙ scalar_taken (scalar_back c)) u
  back (c_list c) (s_list a) w d h = rw (back_all c a w d h) refl
  back {S} {R} (c_input {n = n} {fs = fs} {ms = rs} e c) (s_object {at = at} {ms = ms} a) w d h =
      object_input d R h at (coerce_mem d S R json h ms) (keep_mems h ms) ms n (find S n) fs rs e (all_declared c a (field_names fs) (λ k u. u))
      (back_fields c a w d h at (coerce_mem d S R json h ms) (of_input (λ gs. Distinct (field_names gs)) S w n fs e) (λ k t u. refl))
  back {S} {R} (c_any_list {n = n} {rs = rs} e u) (s_list {at = at} {xs = xs} a) w d h = list_named_lem R h at n (keep_all h xs) (find S n) rs e (kept_all (shown-kept_all a) h) u
  back {S} {R} (c_any_object {n = n} {ms = rs} e u) (s_object {at = at} {ms = ms} a) w d h =
      object_custom d R h at (coerce_mem d S R json h ms) (keep_mems h ms) ms n (find S n) rs e (kept_mems (shown-kept_mems a) h) u

  back_all : {S : Schema} {R : Rule} {t : Ty} {rs : Recs} {xs : Raws} → ConformsAll S R t rs → ShowsAll rs xs → Proper S → (d : Defaults) (h : Here) → coerce_all d S R json h xs t ≡ ok rs
  back_all c_nil s_nil w d h = refl
  back_all (c_cons a c) (s_cons b q) w d h = rw (back a b w d h, back_all c q w d h) refl

  -- g looks up the members of these fields
  back_fields : {S : Schema} {R : Rule} {fs : List Field} {rs : Rmems} {ms : Mems} → ConformsFields S R fs rs → ShowsMems rs ms → Proper S → (d : Defaults) (h : Here) (at : ℕ) (g : Looks) → Distinct (field_names fs)
      → ((k : Name) (t : Ty) → has (field_names fs) k ≡ true → g k t ≡ coerce_mem d S R json h ms k t) → fields_at d h at g fs ≡ ok rs
  back_fields f_end s_end w d h at g u k = refl
  back_fields {S} {R} (f_has {f = f} {fs = fs} {n = n} {r = r} {ms = rs} e c m) (s_mem a q) w d h at g u k =
      subst (λ j. fields_at d h at g (f ∷ fs) ≡ ok (r_mem j r rs)) e
      (one_more d h at g f fs (some r) rs
      (ap (field_at d (in_field f.name h) (refuse (in_field f.name h) missing_field at) f)
      (k f.name f.ty (has_head f.name (field_names fs)) ∙ cond-true (same n f.name) _ _ (subst (λ j. same j f.name ≡ true) e (same_refl f.name)) ∙ ap some (back c a w d (in_field f.name h))))
      (back_fields m q w d h at g u.1 (λ j t v. k j t (has_later f.name j (field_names fs) v) ∙ cond-false (same n j) _ _ (subst (λ i. same i j ≡ false) e (apart f.name j (field_names fs) u.0 v)))))
  back_fields {S} {R} (f_absent {f = f} {fs = fs} {ms = rs} a b m) q w d h at g u k =
      one_more d h at g f fs none rs
      (ap (field_at d (in_field f.name h) (refuse (in_field f.name h) missing_field at) f) (k f.name f.ty (has_head f.name (field_names fs)) ∙ not_there m q d h f.name f.ty u.0) ∙ rw (b, a) refl)
      (back_fields m q w d h at g u.1 (λ j t v. k j t (has_later f.name j (field_names fs) v)))

pub comes_back : ComesBack
comes_back zero S R w h t r v c a = back c a w (λ i x u. beyond) h
comes_back (suc k) S R w h t r v c a = back c a w (coerce_at k S R literal) h
