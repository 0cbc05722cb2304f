-- What nothing is found of is coerced as a literal, where the defaults are right, or the rule alone refuses it.
use Rattle.std.proofs.Common.{◌≡◌, ℕ, zero, suc, Bool, true, false, cond, not, ◌&&◌, List, [], ◌∷◌, ◌++◌, ◌⊎◌, inl, inr, ⊎_elim, refl}
use mathlib.Core.Option.{Option, none, some}
use Rattle.std.proofs.lemmas.Bool.{both_ways}
use Rattle.model.specs.Values.{Name, literal, Scalar, Raw, Raws, Mems, null, scalar, variable, list, object, nil, cons, end, mem, place_of, Ty, named, list_of, nullable, Field, Def, input_d, custom_d, Schema, find, Variable, Plain, Rec, r_plain, r_list, r_object, same, field_names}
use Rattle.model.specs.Records.{encode}
use Rattle.model.specs.Refusals.{Cause, missing_field, scalar_refused, Refusal, Out, ok, refused, beyond, and_then, Here, refuse, in_field, as_default}
use Rattle.model.specs.Scalars.{scalar_at}
use Rattle.model.specs.Coercion.{Rule, keep, keep_all, keep_mems, ruled, or_wrong, scalar_named, null_at, one, ones, list_named, first_undeclared, if_declared, Defaults, absent, field_at, Looks, fields_at, object_named, coerce, coerce_all, coerce_mem, coerce_at, member}
use Rattle.model.specs.Bounds.{Within, OfDefault, EachDefault}
use Rattle.model.specs.Checking.{FindingKind, unsupported_value_type, required_field, Finding, found, inner, wrong_scalar, check_scalar, undeclared_in_all, undeclared_in_mems, list_at_name, check_names, is_there, has_default, check_required, check_fields, check_object, check, check_all, check_member, VariableInAll, VariableInMems, v_itself, v_list, v_object, v_item, v_later_item, v_member, v_later_member, VariableFree, RightDefault, RightDefaults}
use Rattle.model.specs.CheckLaws.{SilenceIsCoercion, SilenceLeavesTheRule}
use Rattle.model.proofs.CoNames.{of_input}
use Rattle.model.proofs.CoBound.{all_settle}
use Rattle.model.proofs.ChScalars.{Either, either}
use Rattle.model.proofs.ChFound.{is_something, none_left, none_right}
use Rattle.model.proofs.ChSilent.{coerced_silent}

module _ (V : Cause → Type 0) where
  -- accepted, refused by a cause of V, or beyond the bound
  abbrev Refusing : {X : Type 0} → Out X → Type 0
  Refusing (ok x) = Unit {0}
  Refusing (refused f) = V f.cause
  Refusing beyond = Unit {0}

  then_on : {X Y : Type 0} (o : Out X) (f : X → Out Y) → Refusing o → ((x : X) → Refusing (f x)) → Refusing (and_then o f)
  then_on (ok x) f h k = k x
  then_on (refused n) f h k = h
  then_on beyond f h k = tt

  -- what the rule refuses may be refused
  abbrev Rules : Rule → Type 0
  Rules R = (n : Name) (bytes : List ℕ) → R n bytes ≡ false → V scalar_refused

  passed_on : (h : Here) (at : ℕ) (b : Bool) (r : Rec) → (b ≡ false → V scalar_refused) → Refusing (cond b (ok r) (refuse h scalar_refused at))
  passed_on h at true r a = tt
  passed_on h at false r a = a refl

  ruled_on : (R : Rule) → Rules R → (h : Here) (at : ℕ) (n : Name) (D : Def) (r : Rec) → Refusing (ruled R h at n D r)
  ruled_on R a h at n custom_d r = passed_on h at (R n (encode r)) r (a n (encode r))
  ruled_on R a h at n D r = tt

  null_on : (h : Here) (at : ℕ) (b : Bool) → cond b [] (found unsupported_value_type at) ≡ [] → Refusing (null_at h at b)
  null_on h at true e = tt
  null_on h at false e = is_something _ [] e

  or_on : (h : Here) (at : ℕ) (o : Option Plain) (w : Option FindingKind) → Either o w → check_scalar at w ≡ [] → Refusing (or_wrong h at o)
  or_on h at (some x) w e k = tt
  or_on h at none none e k = absurd e
  or_on h at none (some f) e k = is_something _ [] k

  scalar_on : (R : Rule) → Rules R → (h : Here) (at : ℕ) (s : Scalar) (n : Name) (D : Def) → check_scalar at (wrong_scalar D s) ≡ [] → Refusing (scalar_named R h literal at s n D)
  scalar_on R a h at s n D k = then_on (or_wrong h at (scalar_at literal D s)) _ (or_on h at (scalar_at literal D s) (wrong_scalar D s) (either D s) k) (λ x. ruled_on R a h at n D (r_plain x))

  ones_on : (base : Name → Out Rec) (t : Ty) → Refusing (base (inner t)) → Refusing (ones base t)
  ones_on base (named b n) h = h
  ones_on base (list_of b t) h = then_on (ones base t) one (ones_on base t h) (λ r. tt)

  -- custom contents without variables are kept
  abbrev AllFree : Raws → Type 0
  AllFree xs = (at : ℕ) (n : Name) → VariableInAll at n xs → ⊥

  abbrev MemsFree : Mems → Type 0
  MemsFree ms = (at : ℕ) (n : Name) → VariableInMems at n ms → ⊥

  mutual
    keep_on : (h : Here) (x : Raw) → VariableFree x → Refusing (keep h x)
    keep_on h (null at) w = tt
    keep_on h (scalar at s) w = tt
    keep_on h (variable at n) w = absurd (w at n v_itself)
    keep_on h (list at xs) w = then_on (keep_all h xs) _ (keep_all-on h xs (λ p n i. w p n (v_list i))) (λ rs. tt)
    keep_on h (object at ms) w = then_on (keep_mems h ms) _ (keep_mems-on h ms (λ p n i. w p n (v_object i))) (λ rs. tt)

    keep_all-on : (h : Here) (xs : Raws) → AllFree xs → Refusing (keep_all h xs)
    keep_all-on h nil w = tt
    keep_all-on h (cons x xs) w = then_on (keep h x) _ (keep_on h x (λ p n i. w p n (v_item i))) (λ r. then_on (keep_all h xs) _ (keep_all-on h xs (λ p n i. w p n (v_later_item i))) (λ rs. tt))

    keep_mems-on : (h : Here) (ms : Mems) → MemsFree ms → Refusing (keep_mems h ms)
    keep_mems-on h end w = tt
    keep_mems-on h (mem m x ms) w = then_on (keep h x) _ (keep_on h x (λ p n i. w p n (v_member i))) (λ r. then_on (keep_mems h ms) _ (keep_mems-on h ms (λ p n i. w p n (v_later_member i))) (λ rs. tt))

  list_on : (R : Rule) → Rules R → (h : Here) (at : ℕ) (n : Name) (xs : Raws) (fs : List Finding) (D : Def) → AllFree xs → list_at_name at fs D ≡ [] → Refusing (list_named R h at n (keep_all h xs) D)
  list_on R a h at n xs fs custom_d w k = then_on (keep_all h xs) _ (keep_all-on h xs w) (λ rs. ruled_on R a h at n custom_d (r_list rs))
  list_on R a h at n xs fs D w k = is_something _ [] k

  -- FIELDS

  -- a default is coerced by d without a refusal
  abbrev Coerces : Defaults → Raw → Ty → Type 0
  Coerces d x t = (h : Here) → Refusing (d h x t)

  abbrev Cleared : Option Raw → Option (Out Rec) → Type 0
  Cleared none none = Unit {0}
  Cleared none (some o) = ⊥
  Cleared (some x) none = ⊥
  Cleared (some x) (some o) = Refusing o

  cleared_cond : (b : Bool) (x : Raw) (m : Option Raw) (o : Out Rec) (q : Option (Out Rec)) (fs gs : List Finding) → cond b fs gs ≡ [] → (fs ≡ [] → Refusing o) → (gs ≡ [] → Cleared m q) → Cleared (cond b (some x) m) (cond b (some o) q)
  cleared_cond true x m o q fs gs e h k = h e
  cleared_cond false x m o q fs gs e h k = k e

  absent_on : (d : Defaults) (h : Here) (c : Cause) (at p : ℕ) (t : Ty) (o : Option Raw) → OfDefault (Coerces d) t o → (b : Bool) → nullable t ≡ b → cond (not b && (not (is_there o) && true)) (found required_field p) [] ≡ [] → Refusing (absent d h (refuse h c at) t o)
  absent_on d h c at p t (some x) w b n e = then_on (d (as_default h) x t) _ (w (as_default h)) (λ r. tt)
  absent_on d h c at p t none w true n e = rw n tt
  absent_on d h c at p t none w false n e = is_something _ [] e

  field_on : (d : Defaults) (h : Here) (c : Cause) (at p : ℕ) (f : Field) (m : Option Raw) (q : Option (Out Rec)) → OfDefault (Coerces d) f.ty f.dflt → check_required p f m ≡ [] → Cleared m q → Refusing (field_at d h (refuse h c at) f q)
  field_on d h c at p f none none w e k = absent_on d h c at p f.ty f.dflt w (nullable f.ty) refl e
  field_on d h c at p f none (some o) w e k = absurd k
  field_on d h c at p f (some x) none w e k = absurd k
  field_on d h c at p f (some x) (some o) w e k = then_on o _ k (λ r. tt)

  fields_on : (d : Defaults) (h : Here) (at p : ℕ) (ms : Mems) (l : Looks) (g : Field → List Finding) → ((f : Field) → g f ≡ [] → Cleared (member ms f.name) (l f.name f.ty)) → (fs : List Field) → EachDefault (Coerces d) fs → check_fields p ms g fs ≡ [] → Refusing (fields_at d h at l fs)
  fields_on d h at p ms l g k [] w e = tt
  fields_on d h at p ms l g k (f ∷ fs) w e =
      let a = none_left (check_required p f (member ms f.name)) (g f ++ check_fields p ms g fs) e in
      let b = none_right (check_required p f (member ms f.name)) (g f ++ check_fields p ms g fs) e in
      then_on (field_at d (in_field f.name h) (refuse (in_field f.name h) missing_field at) f (l f.name f.ty)) _
      (field_on d (in_field f.name h) missing_field at p f (member ms f.name) (l f.name f.ty) w.0 a (k f (none_left (g f) (check_fields p ms g fs) b)))
      (λ o. then_on (fields_at d h at l fs) _ (fields_on d h at p ms l g k fs w.1 (none_right (g f) (check_fields p ms g fs) b)) (λ rs. tt))

  declared_on : (h : Here) (u : Option ℕ) (o : Out Rec) → check_names u ≡ [] → Refusing o → Refusing (if_declared h u o)
  declared_on h none o e k = k
  declared_on h (some at) o e k = is_something _ [] e

  object_on : (d : Defaults) (R : Rule) → Rules R → (h : Here) (at : ℕ) (l : Looks) (g : Field → List Finding) (fs : List Finding) (ms : Mems) (n : Name) → ((f : Field) → g f ≡ [] → Cleared (member ms f.name) (l f.name f.ty)) → MemsFree ms
      → (D : Def) → ((es : List Field) → D ≡ input_d es → EachDefault (Coerces d) es) → check_object at ms fs g D ≡ [] → Refusing (object_named d R h at l (keep_mems h ms) ms n D)
  object_on d R a h at l g fs ms n k w (input_d es) c e =
      declared_on h (first_undeclared (field_names es) ms) _ (none_left (check_names (first_undeclared (field_names es) ms)) (check_fields at ms g es) e)
      (then_on (fields_at d h at l es) _ (fields_on d h at at ms l g k es (c es refl) (none_right (check_names (first_undeclared (field_names es) ms)) (check_fields at ms g es) e)) (λ rs. tt))
  object_on d R a h at l g fs ms n k w custom_d c e = then_on (keep_mems h ms) _ (keep_mems-on h ms w) (λ rs. ruled_on R a h at n custom_d (r_object rs))
  object_on d R a h at l g fs ms n k w D c e = is_something _ [] e

  abbrev AllCoerce : Schema → Defaults → Type 0
  AllCoerce S d = (n : Name) (fs : List Field) → find S n ≡ input_d fs → EachDefault (Coerces d) fs

  mutual
    on : (d : Defaults) (S : Schema) (R : Rule) → Rules R → AllCoerce S d → (vs : List Variable) (b : Bool) (lone : ℕ) (h : Here) (v : Raw) (t : Ty) → VariableFree v → check S vs b lone v t ≡ [] → Refusing (coerce d S R literal h v t)
    on d S R a c vs b lone h (null at) t w e = null_on h at (nullable t) e
    on d S R a c vs b lone h (scalar at s) t w e = ones_on _ t (scalar_on R a h at s (inner t) (find S (inner t)) e)
    on d S R a c vs b lone h (variable at n) t w e = absurd (w at n v_itself)
    on d S R a c vs b lone h (list at xs) (named m n) w e = list_on R a h at n xs (undeclared_in_all vs xs) (find S n) (λ p q i. w p q (v_list i)) e
    on d S R a c vs b lone h (list at xs) (list_of m t) w e = then_on (coerce_all d S R literal h xs t) _ (on_all d S R a c vs h xs t (λ p q i. w p q (v_list i)) e) (λ rs. tt)
    on d S R a c vs b lone h (object at ms) t w e = ones_on _ t
        (object_on d R a h at (coerce_mem d S R literal h ms) (check_member S vs ms) (undeclared_in_mems vs ms) ms (inner t) (on_member d S R a c vs h ms (λ p q i. w p q (v_object i))) (λ p q i. w p q (v_object i)) (find S (inner t)) (c (inner t)) e)

    on_all : (d : Defaults) (S : Schema) (R : Rule) → Rules R → AllCoerce S d → (vs : List Variable) (h : Here) (xs : Raws) (t : Ty) → AllFree xs → check_all S vs xs t ≡ [] → Refusing (coerce_all d S R literal h xs t)
    on_all d S R a c vs h nil t w e = tt
    on_all d S R a c vs h (cons x xs) t w e =
        then_on (coerce d S R literal h x t) _ (on d S R a c vs false (place_of x) h x t (λ p q i. w p q (v_item i)) (none_left (check S vs false (place_of x) x t) (check_all S vs xs t) e))
        (λ r. then_on (coerce_all d S R literal h xs t) _ (on_all d S R a c vs h xs t (λ p q i. w p q (v_later_item i)) (none_right (check S vs false (place_of x) x t) (check_all S vs xs t) e)) (λ rs. tt))

    on_member : (d : Defaults) (S : Schema) (R : Rule) → Rules R → AllCoerce S d → (vs : List Variable) (h : Here) (ms : Mems) → MemsFree ms → (f : Field) → check_member S vs ms f ≡ [] → Cleared (member ms f.name) (coerce_mem d S R literal h ms f.name f.ty)
    on_member d S R a c vs h end w f e = tt
    on_member d S R a c vs h (mem m x ms) w f e =
        cleared_cond (same m f.name) x (member ms f.name) (coerce d S R literal (in_field f.name h) x f.ty) (coerce_mem d S R literal h ms f.name f.ty) (check S vs (has_default f) (place_of x) x f.ty) (check_member S vs ms f) e
        (on d S R a c vs (has_default f) (place_of x) (in_field f.name h) x f.ty (λ p q i. w p q (v_member i)))
        (on_member d S R a c vs h ms (λ p q i. w p q (v_later_member i)) f)

  -- BY THE BOUND

  default_more : (P Q : Raw → Ty → Type 0) → ((x : Raw) (t : Ty) → P x t → Q x t) → (t : Ty) (o : Option Raw) → OfDefault P t o → OfDefault Q t o
  default_more P Q h t none k = tt
  default_more P Q h t (some x) k = h x t k

  each_more : (P Q : Raw → Ty → Type 0) → ((x : Raw) (t : Ty) → P x t → Q x t) → (fs : List Field) → EachDefault P fs → EachDefault Q fs
  each_more P Q h [] k = tt
  each_more P Q h (f ∷ fs) k = (default_more P Q h f.ty f.dflt k.0, each_more P Q h fs k.1)

  refusing_at : (k : ℕ) (S : Schema) (R : Rule) → Rules R → RightDefaults S → (vs : List Variable) (b : Bool) (lone : ℕ) (h : Here) (v : Raw) (t : Ty) → VariableFree v → check S vs b lone v t ≡ [] → Refusing (coerce_at k S R literal h v t)
  refusing_at zero S R a c = on (λ h x t. beyond) S R a
      (λ n fs e. each_more (RightDefault S) (Coerces (λ h x t. beyond)) (λ x t r h. tt) fs (of_input (EachDefault (RightDefault S)) S c n fs e))
  refusing_at (suc k) S R a c = on (coerce_at k S R literal) S R a
      (λ n fs e. each_more (RightDefault S) (Coerces (coerce_at k S R literal)) (λ x t r h. refusing_at k S R a c [] false (place_of x) h x t r.0 r.1) fs (of_input (EachDefault (RightDefault S)) S c n fs e))

-- not refused at all
abbrev pub Unrefused : {X : Type 0} → Out X → Type 0
Unrefused o = Refusing (λ c. ⊥) o

pub on_at : (k : ℕ) (S : Schema) (R : Rule) → ((n : Name) (bytes : List ℕ) → R n bytes ≡ true) → RightDefaults S → (vs : List Variable) (b : Bool) (lone : ℕ) (h : Here) (v : Raw) (t : Ty) → VariableFree v → check S vs b lone v t ≡ [] → Unrefused (coerce_at k S R literal h v t)
on_at k S R a = refusing_at (λ c. ⊥) k S R (λ n r u. both_ways (R n r) u (a n r))

outcome : {X : Type 0} (V : Cause → Type 0) (o : Out X) → Refusing V o → Within o → ((x : X) × (o ≡ ok x)) ⊎ ((f : Refusal) × (o ≡ refused f) × V f.cause)
outcome V (ok x) h k = inl (x, refl)
outcome V (refused f) h k = inr (f, refl, h)
outcome V beyond h k = absurd k

pub silence_leaves_the_rule : SilenceLeavesTheRule
silence_leaves_the_rule k S R c w vs b lone h v t free e =
    outcome (λ x. x ≡ scalar_refused) (coerce_at (suc k) S R literal h v t) (refusing_at (λ x. x ≡ scalar_refused) (suc k) S R (λ n r u. refl) c vs b lone h v t free e) (all_settle k S R w literal h v t)

pub silence_is_coercion : SilenceIsCoercion
silence_is_coercion k S R a c w vs b lone h v t free = (
  (λ e. ⊎_elim (λ z. z) (λ z. absurd z.2) (outcome (λ x. ⊥) (coerce_at (suc k) S R literal h v t) (on_at (suc k) S R a c vs b lone h v t free e) (all_settle k S R w literal h v t))),
  coerced_silent k S R vs h v t b lone,
)
