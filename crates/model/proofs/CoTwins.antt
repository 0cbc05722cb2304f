-- Twins come to the same outcome, but for the places of refusals.
use Rattle.std.proofs.Common.{ℕ, zero, suc, Bool, true, false, cond, List, [], ◌∷◌, refl, ap, subst}
use mathlib.Core.Option.{Option, none, some}
use Rattle.model.specs.Values.{Name, Form, literal, Scalar, Raw, Raws, Mems, scalar, mem, place_of, Ty, named, list_of, nullable, Field, Def, int_d, float_d, string_d, boolean_d, id_d, enum_d, input_d, custom_d, output_d, Schema, find, Variable, Plain, Rec, Recs, Rmems, r_plain, r_list, r_object, r_mem, same, has, field_names}
use Rattle.model.specs.Refusals.{Cause, null_value, wrong_value, unknown_key, missing_field, missing_variable, scalar_refused, variable_in_value, Out, ok, refused, beyond, and_then, Here, refuse, in_field, as_default}
use Rattle.model.specs.Scalars.{plain, scalar_at}
use Rattle.model.specs.Coercion.{Rule, keep, keep_all, keep_mems, passes, ruled, or_wrong, scalar_named, null_at, ones, list_named, first_undeclared, if_declared, Defaults, absent, field_at, Looks, fields_at, object_named, coerce, coerce_all, coerce_mem, coerce_at, for_variable, given, member, variables_at}
use Rattle.model.specs.Twins.{Twin, TwinAll, TwinMems, w_null, w_scalar, w_variable, w_list, w_object, w_nil, w_cons, w_end, w_mem, SameOut, both_ok, both_refused, both_beyond}

pub same_out : {X : Type 0} (o : Out X) → SameOut o o
same_out (ok x) = both_ok refl
same_out (refused f) = both_refused (record { cause = refl; variable = refl; field = refl })
same_out beyond = both_beyond

pub same_refuse : {X : Type 0} (h : Here) (c : Cause) (a b : ℕ) → SameOut {X = X} (refuse h c a) (refuse h c b)
same_refuse h c a b = both_refused (record { cause = refl; variable = refl; field = refl })

pub same_then : {X Y : Type 0} {o q : Out X} {f g : X → Out Y} → SameOut o q → ((x : X) → SameOut (f x) (g x)) → SameOut (and_then o f) (and_then q g)
same_then {f = f} {g = g} (both_ok {x = x} e) k = subst (λ z. SameOut (f x) (g z)) e (k x)
same_then (both_refused r) k = both_refused r
same_then both_beyond k = both_beyond

pub same_cond : {X : Type 0} (b : Bool) {o q u w : Out X} → SameOut o q → SameOut u w → SameOut (cond b o u) (cond b q w)
same_cond true h k = h
same_cond false h k = k

pub same_ruled : (R : Rule) (h : Here) (a b : ℕ) (n : Name) (D : Def) (r : Rec) → SameOut (ruled R h a n D r) (ruled R h b n D r)
same_ruled R h a b n D r = same_cond (passes R n D r) (both_ok refl) (same_refuse h scalar_refused a b)

pub same_wrong : (h : Here) (a b : ℕ) (x : Option Plain) → SameOut (or_wrong h a x) (or_wrong h b x)
same_wrong h a b none = same_refuse h wrong_value a b
same_wrong h a b (some x) = both_ok refl

-- custom contents
mutual
  keep_same : (h : Here) {x y : Raw} → Twin x y → SameOut (keep h x) (keep h y)
  keep_same h w_null = both_ok refl
  keep_same h (w_scalar e) = both_ok (ap (λ s. r_plain (plain s)) e)
  keep_same h (w_variable {a = a} {b = b} e) = same_refuse h variable_in_value a b
  keep_same h (w_list ws) = same_then (keep_all-same h ws) (λ rs. both_ok refl)
  keep_same h (w_object ws) = same_then (keep_mems-same h ws) (λ rs. both_ok refl)

  keep_all-same : (h : Here) {xs ys : Raws} → TwinAll xs ys → SameOut (keep_all h xs) (keep_all h ys)
  keep_all-same h w_nil = both_ok refl
  keep_all-same h (w_cons w ws) = same_then (keep_same h w) (λ r. same_then (keep_all-same h ws) (λ rs. both_ok refl))

  keep_mems-same : (h : Here) {ms ns : Mems} → TwinMems ms ns → SameOut (keep_mems h ms) (keep_mems h ns)
  keep_mems-same h w_end = both_ok refl
  keep_mems-same h (w_mem e w ws) = same_then (keep_same h w) (λ r. same_then (keep_mems-same h ws) (λ rs. both_ok (ap (λ n. r_mem n r rs) e)))

same_null : (h : Here) (a b : ℕ) (c : Bool) → SameOut (null_at h a c) (null_at h b c)
same_null h a b true = both_ok refl
same_null h a b false = same_refuse h null_value a b

same_scalar : (R : Rule) (h : Here) (p : Form) (a b : ℕ) (s : Scalar) (n : Name) (D : Def) → SameOut (scalar_named R h p a s n D) (scalar_named R h p b s n D)
same_scalar R h p a b s n D = same_then (same_wrong h a b (scalar_at p D s)) (λ x. same_ruled R h a b n D (r_plain x))

same_ones : {f g : Name → Out Rec} → ((n : Name) → SameOut (f n) (g n)) → (t : Ty) → SameOut (ones f t) (ones g t)
same_ones h (named b n) = h n
same_ones h (list_of b t) = same_then (same_ones h t) (λ r. both_ok refl)

same_list : (R : Rule) (h : Here) (a b : ℕ) (n : Name) {o q : Out Recs} → SameOut o q → (D : Def) → SameOut (list_named R h a n o D) (list_named R h b n q D)
same_list R h a b n k int_d = same_refuse h wrong_value a b
same_list R h a b n k float_d = same_refuse h wrong_value a b
same_list R h a b n k string_d = same_refuse h wrong_value a b
same_list R h a b n k boolean_d = same_refuse h wrong_value a b
same_list R h a b n k id_d = same_refuse h wrong_value a b
same_list R h a b n k (enum_d ns) = same_refuse h wrong_value a b
same_list R h a b n k (input_d fs) = same_refuse h wrong_value a b
same_list R h a b n k custom_d = same_then k (λ rs. same_ruled R h a b n custom_d (r_list rs))
same_list R h a b n k output_d = same_refuse h wrong_value a b

-- undeclared members: in both or in neither
pub data Undeclared : Option ℕ → Option ℕ → Type 0 where
  neither : Undeclared none none
  both : {a b : ℕ} → Undeclared (some a) (some b)

undeclared_cond : (c : Bool) (a b : ℕ) {u w : Option ℕ} → Undeclared u w → Undeclared (cond c u (some a)) (cond c w (some b))
undeclared_cond true a b h = h
undeclared_cond false a b h = both

pub undeclared_same : (ns : List Name) {ms os : Mems} → TwinMems ms os → Undeclared (first_undeclared ns ms) (first_undeclared ns os)
undeclared_same ns w_end = neither
undeclared_same ns (w_mem {m = m} {x = x} {y = y} {ms = ms} {ns = os} e w ws) =
    subst (λ n. Undeclared (first_undeclared ns (mem m x ms)) (first_undeclared ns (mem n y os))) e (undeclared_cond (has ns m) (place_of x) (place_of y) (undeclared_same ns ws))

pub same_declared : (h : Here) {u w : Option ℕ} {o q : Out Rec} → Undeclared u w → SameOut o q → SameOut (if_declared h u o) (if_declared h w q)
same_declared h neither k = k
same_declared h (both {a = a} {b = b}) k = same_refuse h unknown_key a b

-- members by their names: in both, with the same outcome, or in neither
pub data Found : Option (Out Rec) → Option (Out Rec) → Type 0 where
  not_found : Found none none
  found : {o q : Out Rec} → SameOut o q → Found (some o) (some q)

pub found_cond : (c : Bool) {o q : Out Rec} {u w : Option (Out Rec)} → SameOut o q → Found u w → Found (cond c (some o) u) (cond c (some q) w)
found_cond true k f = found k
found_cond false k f = f

same_absent : (d : Defaults) (h : Here) {o q : Out (Option Rec)} → SameOut o q → (t : Ty) (x : Option Raw) → SameOut (absent d h o t x) (absent d h q t x)
same_absent d h k t none = same_cond (nullable t) (both_ok refl) k
same_absent d h k t (some x) = same_then (same_out (d (as_default h) x t)) (λ r. both_ok refl)

pub same_field : (d : Defaults) (h : Here) {o q : Out (Option Rec)} → SameOut o q → (f : Field) {u w : Option (Out Rec)} → Found u w → SameOut (field_at d h o f u) (field_at d h q f w)
same_field d h k f not_found = same_absent d h k f.ty f.dflt
same_field d h k f (found m) = same_then m (λ r. both_ok refl)

same_fields : (d : Defaults) (h : Here) (a b : ℕ) {g k : Looks} → ((n : Name) (t : Ty) → Found (g n t) (k n t)) → (fs : List Field) → SameOut (fields_at d h a g fs) (fields_at d h b k fs)
same_fields d h a b m [] = both_ok refl
same_fields d h a b m (f ∷ fs) = same_then (same_field d (in_field f.name h) (same_refuse (in_field f.name h) missing_field a b) f (m f.name f.ty))
    (λ o. same_then (same_fields d h a b m fs) (λ ms. both_ok refl))

same_object : (d : Defaults) (R : Rule) (h : Here) (a b : ℕ) {g k : Looks} → ((n : Name) (t : Ty) → Found (g n t) (k n t)) → {o q : Out Rmems} → SameOut o q → {ms os : Mems} → TwinMems ms os → (n : Name) (D : Def)
    → SameOut (object_named d R h a g o ms n D) (object_named d R h b k q os n D)
same_object d R h a b m l ws n int_d = same_refuse h wrong_value a b
same_object d R h a b m l ws n float_d = same_refuse h wrong_value a b
same_object d R h a b m l ws n string_d = same_refuse h wrong_value a b
same_object d R h a b m l ws n boolean_d = same_refuse h wrong_value a b
same_object d R h a b m l ws n id_d = same_refuse h wrong_value a b
same_object d R h a b m l ws n (enum_d ns) = same_refuse h wrong_value a b
same_object d R h a b m l ws n (input_d fs) = same_declared h (undeclared_same (field_names fs) ws) (same_then (same_fields d h a b m fs) (λ rs. both_ok refl))
same_object d R h a b m l ws n custom_d = same_then l (λ rs. same_ruled R h a b n custom_d (r_object rs))
same_object d R h a b m l ws n output_d = same_refuse h wrong_value a b

module _ (d : Defaults) (S : Schema) (R : Rule) (p : Form) where
  mutual
    twins : (h : Here) {x y : Raw} → Twin x y → (t : Ty) → SameOut (coerce d S R p h x t) (coerce d S R p h y t)
    twins h (w_null {a = a} {b = b}) t = same_null h a b (nullable t)
    twins h (w_scalar {a = a} {b = b} {s = s} e) t =
        subst (λ z. SameOut (coerce d S R p h (scalar a s) t) (coerce d S R p h (scalar b z) t)) e (same_ones (λ n. same_scalar R h p a b s n (find S n)) t)
    twins h (w_variable {a = a} {b = b} e) t = same_refuse h variable_in_value a b
    twins h (w_list {a = a} {b = b} ws) (named c n) = same_list R h a b n (keep_all-same h ws) (find S n)
    twins h (w_list ws) (list_of c t) = same_then (twins_all h ws t) (λ rs. both_ok refl)
    twins h (w_object {a = a} {b = b} ws) t = same_ones (λ n. same_object d R h a b (twins_mem h ws) (keep_mems-same h ws) ws n (find S n)) t

    twins_all : (h : Here) {xs ys : Raws} → TwinAll xs ys → (t : Ty) → SameOut (coerce_all d S R p h xs t) (coerce_all d S R p h ys t)
    twins_all h w_nil t = both_ok refl
    twins_all h (w_cons w ws) t = same_then (twins h w t) (λ r. same_then (twins_all h ws t) (λ rs. both_ok refl))

    twins_mem : (h : Here) {ms os : Mems} → TwinMems ms os → (n : Name) (t : Ty) → Found (coerce_mem d S R p h ms n t) (coerce_mem d S R p h os n t)
    twins_mem h w_end n t = not_found
    twins_mem h (w_mem {m = m} {x = x} {y = y} {ms = ms} {ns = os} e w ws) n t =
        subst (λ j. Found (coerce_mem d S R p h (mem m x ms) n t) (coerce_mem d S R p h (mem j y os) n t)) e (found_cond (same m n) (twins (in_field n h) w t) (twins_mem h ws n t))

pub twins_at : (k : ℕ) (S : Schema) (R : Rule) (p : Form) (h : Here) {x y : Raw} → Twin x y → (t : Ty) → SameOut (coerce_at k S R p h x t) (coerce_at k S R p h y t)
twins_at zero S R p h w t = twins (λ i z u. beyond) S R p h w t
twins_at (suc k) S R p h w t = twins (coerce_at k S R literal) S R p h w t

-- members by their names, before they are coerced
pub data TwinSlot : Option Raw → Option Raw → Type 0 where
  no_value : TwinSlot none none
  two_values : {x y : Raw} → Twin x y → TwinSlot (some x) (some y)

pub slot_cond : (c : Bool) {x y : Raw} {u w : Option Raw} → Twin x y → TwinSlot u w → TwinSlot (cond c (some x) u) (cond c (some y) w)
slot_cond true k f = two_values k
slot_cond false k f = f

pub twin_member : {ms os : Mems} → TwinMems ms os → (n : Name) → TwinSlot (member ms n) (member os n)
twin_member w_end n = no_value
twin_member (w_mem {m = m} {x = x} {y = y} {ms = ms} {ns = os} e w ws) n =
    subst (λ j. TwinSlot (member (mem m x ms) n) (member (mem j y os) n)) e (slot_cond (same m n) w (twin_member ws n))

given_same : (k : ℕ) (S : Schema) (R : Rule) (v : Variable) (p : Form) {x y : Option Raw} → TwinSlot x y → Found (given k S R v p x) (given k S R v p y)
given_same k S R v p no_value = not_found
given_same k S R v p (two_values w) = found (twins_at k S R p (for_variable v) w v.field.ty)

pub twins_variables : (k : ℕ) (S : Schema) (R : Rule) (p : Form) {ms os : Mems} → TwinMems ms os → (vs : List Variable) → SameOut (variables_at k S R p ms vs) (variables_at k S R p os vs)
twins_variables k S R p ws [] = both_ok refl
twins_variables k S R p ws (v ∷ vs) =
    same_then (same_field (coerce_at k S R literal) (for_variable v) (same_out (refuse (for_variable v) missing_variable v.place)) v.field (given_same k S R v p (twin_member ws v.field.name)))
    (λ o. same_then (twins_variables k S R p ws vs) (λ qs. both_ok refl))
