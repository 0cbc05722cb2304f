-- Twins have findings of the same kinds.
use Rattle.std.proofs.Common.{◌≡◌, ℕ, Bool, true, false, cond, not, ◌&&◌, List, [], ◌∷◌, ◌++◌, map, refl, subst}
use mathlib.Core.Option.{Option, none, some}
use Rattle.std.proofs.lemmas.List.{map-append}
use Rattle.model.specs.Values.{Raw, Raws, Mems, mem, place_of, Ty, named, list_of, nullable, Field, Def, input_d, custom_d, Schema, find, Variable, same, field_names}
use Rattle.model.specs.Coercion.{first_undeclared, member}
use Rattle.model.specs.Calls.{variable_of}
use Rattle.model.specs.Twins.{Twin, TwinAll, TwinMems, w_null, w_scalar, w_variable, w_list, w_object, w_nil, w_cons, w_end, w_mem}
use Rattle.model.specs.Checking.{FindingKind, unsupported_value_type, required_field, Finding, found, is_value, usage_allowed, inner, wrong_scalar, check_scalar, check_usage, if_undeclared, undeclared_in, undeclared_in_all, undeclared_in_mems, list_at_name, check_names, has_default, check_required, check_fields, check_object, check, check_all, check_member}
use Rattle.model.specs.CheckLaws.{TwinsFindAlike}
use Rattle.model.proofs.CoTwins.{Undeclared, neither, both, undeclared_same, TwinSlot, no_value, two_values, twin_member}

-- the kinds of two lists of findings are the same
abbrev pub Alike : List Finding → List Finding → Type 0
Alike fs gs = map (λ f. f.kind) fs ≡ map (λ f. f.kind) gs

pub alike_append : (fs gs hs is : List Finding) → Alike fs gs → Alike hs is → Alike (fs ++ hs) (gs ++ is)
alike_append fs gs hs is e k = rw (map-append (λ f. f.kind) fs hs, map-append (λ f. f.kind) gs is, e, k) refl

pub alike_cond : (b : Bool) (fs gs hs is : List Finding) → Alike fs gs → Alike hs is → Alike (cond b fs hs) (cond b gs is)
alike_cond true fs gs hs is e k = e
alike_cond false fs gs hs is e k = k

scalar_alike : (a b : ℕ) (o : Option FindingKind) → Alike (check_scalar a o) (check_scalar b o)
scalar_alike a b none = refl
scalar_alike a b (some k) = refl

usage_alike : (d : Bool) (l m a b : ℕ) (t : Ty) (o : Option Variable) → Alike (check_usage d l a t o) (check_usage d m b t o)
usage_alike d l m a b t none = refl
usage_alike d l m a b t (some v) = alike_cond (usage_allowed v.field d t) [] [] _ _ refl refl

undeclared_alike : (a b : ℕ) (o : Option Variable) → Alike (if_undeclared a o) (if_undeclared b o)
undeclared_alike a b none = refl
undeclared_alike a b (some v) = refl

mutual
  contents_alike : (vs : List Variable) {x y : Raw} → Twin x y → Alike (undeclared_in vs x) (undeclared_in vs y)
  contents_alike vs w_null = refl
  contents_alike vs (w_scalar e) = refl
  contents_alike vs (w_variable {a = a} {b = b} {m = m} e) = subst (λ n. Alike (if_undeclared a (variable_of vs m)) (if_undeclared b (variable_of vs n))) e (undeclared_alike a b (variable_of vs m))
  contents_alike vs (w_list ws) = all_contents_alike vs ws
  contents_alike vs (w_object ws) = member_contents_alike vs ws

  all_contents_alike : (vs : List Variable) {xs ys : Raws} → TwinAll xs ys → Alike (undeclared_in_all vs xs) (undeclared_in_all vs ys)
  all_contents_alike vs w_nil = refl
  all_contents_alike vs (w_cons {x = x} {y = y} {xs = xs} {ys = ys} w ws) = alike_append (undeclared_in vs x) (undeclared_in vs y) (undeclared_in_all vs xs) (undeclared_in_all vs ys) (contents_alike vs w) (all_contents_alike vs ws)

  member_contents_alike : (vs : List Variable) {ms ns : Mems} → TwinMems ms ns → Alike (undeclared_in_mems vs ms) (undeclared_in_mems vs ns)
  member_contents_alike vs w_end = refl
  member_contents_alike vs (w_mem {x = x} {y = y} {ms = ms} {ns = ns} e w ws) = alike_append (undeclared_in vs x) (undeclared_in vs y) (undeclared_in_mems vs ms) (undeclared_in_mems vs ns) (contents_alike vs w) (member_contents_alike vs ws)

list_alike : (a b : ℕ) (fs gs : List Finding) (D : Def) → Alike fs gs → Alike (list_at_name a fs D) (list_at_name b gs D)
list_alike a b fs gs custom_d k = k
list_alike a b fs gs D k = refl

names_alike : {u w : Option ℕ} → Undeclared u w → Alike (check_names u) (check_names w)
names_alike neither = refl
names_alike both = refl

pub is_value_alike : {m n : Option Raw} → TwinSlot m n → is_value m ≡ is_value n
is_value_alike no_value = refl
is_value_alike (two_values w_null) = refl
is_value_alike (two_values (w_scalar e)) = refl
is_value_alike (two_values (w_variable e)) = refl
is_value_alike (two_values (w_list ws)) = refl
is_value_alike (two_values (w_object ws)) = refl

required_alike : (a b : ℕ) (f : Field) (m n : Option Raw) → is_value m ≡ is_value n → Alike (check_required a f m) (check_required b f n)
required_alike a b f m n e = rw e (alike_cond (not (nullable f.ty) && (not (has_default f) && not (is_value n))) (found required_field a) (found required_field b) [] [] refl refl)

fields_alike : (a b : ℕ) {ms ns : Mems} → TwinMems ms ns → (g h : Field → List Finding) → ((f : Field) → Alike (g f) (h f)) → (fs : List Field) → Alike (check_fields a ms g fs) (check_fields b ns h fs)
fields_alike a b ws g h k [] = refl
fields_alike a b {ms} {ns} ws g h k (f ∷ fs) =
    alike_append (check_required a f (member ms f.name)) (check_required b f (member ns f.name)) (g f ++ check_fields a ms g fs) (h f ++ check_fields b ns h fs)
    (required_alike a b f (member ms f.name) (member ns f.name) (is_value_alike (twin_member ws f.name)))
    (alike_append (g f) (h f) (check_fields a ms g fs) (check_fields b ns h fs) (k f) (fields_alike a b ws g h k fs))

object_alike : (a b : ℕ) {ms ns : Mems} → TwinMems ms ns → (vs : List Variable) (g h : Field → List Finding) → ((f : Field) → Alike (g f) (h f)) → (D : Def) → Alike (check_object a ms (undeclared_in_mems vs ms) g D) (check_object b ns (undeclared_in_mems vs ns) h D)
object_alike a b {ms} {ns} ws vs g h k (input_d fs) =
    alike_append (check_names (first_undeclared (field_names fs) ms)) (check_names (first_undeclared (field_names fs) ns)) (check_fields a ms g fs) (check_fields b ns h fs)
    (names_alike (undeclared_same (field_names fs) ws)) (fields_alike a b ws g h k fs)
object_alike a b ws vs g h k custom_d = member_contents_alike vs ws
object_alike a b ws vs g h k D = refl

mutual
  alike : (S : Schema) (vs : List Variable) (d : Bool) (l m : ℕ) {x y : Raw} → Twin x y → (t : Ty) → Alike (check S vs d l x t) (check S vs d m y t)
  alike S vs d l m (w_null {a = a} {b = b}) t = alike_cond (nullable t) [] [] (found unsupported_value_type a) (found unsupported_value_type b) refl refl
  alike S vs d l m (w_scalar {a = a} {b = b} {s = s} e) t = subst (λ u. Alike (check_scalar a (wrong_scalar (find S (inner t)) s)) (check_scalar b (wrong_scalar (find S (inner t)) u))) e (scalar_alike a b (wrong_scalar (find S (inner t)) s))
  alike S vs d l m (w_variable {a = a} {b = b} {m = n} e) t = subst (λ u. Alike (check_usage d l a t (variable_of vs n)) (check_usage d m b t (variable_of vs u))) e (usage_alike d l m a b t (variable_of vs n))
  alike S vs d l m (w_list {a = a} {b = b} {xs = xs} {ys = ys} ws) (named c n) = list_alike a b (undeclared_in_all vs xs) (undeclared_in_all vs ys) (find S n) (all_contents_alike vs ws)
  alike S vs d l m (w_list ws) (list_of c t) = alike_all S vs ws t
  alike S vs d l m (w_object {a = a} {b = b} {ms = ms} {ns = ns} ws) t = object_alike a b ws vs (check_member S vs ms) (check_member S vs ns) (alike_member S vs ws) (find S (inner t))

  alike_all : (S : Schema) (vs : List Variable) {xs ys : Raws} → TwinAll xs ys → (t : Ty) → Alike (check_all S vs xs t) (check_all S vs ys t)
  alike_all S vs w_nil t = refl
  alike_all S vs (w_cons {x = x} {y = y} {xs = xs} {ys = ys} w ws) t =
      alike_append (check S vs false (place_of x) x t) (check S vs false (place_of y) y t) (check_all S vs xs t) (check_all S vs ys t) (alike S vs false (place_of x) (place_of y) w t) (alike_all S vs ws t)

  alike_member : (S : Schema) (vs : List Variable) {ms ns : Mems} → TwinMems ms ns → (f : Field) → Alike (check_member S vs ms f) (check_member S vs ns f)
  alike_member S vs w_end f = refl
  alike_member S vs (w_mem {m = m} {x = x} {y = y} {ms = ms} {ns = ns} e w ws) f =
      subst (λ n. Alike (check_member S vs (mem m x ms) f) (check_member S vs (mem n y ns) f)) e
      (alike_cond (same m f.name) (check S vs (has_default f) (place_of x) x f.ty) (check S vs (has_default f) (place_of y) y f.ty) (check_member S vs ms f) (check_member S vs ns f)
      (alike S vs (has_default f) (place_of x) (place_of y) w f.ty) (alike_member S vs ws f))

pub twins_find_alike : TwinsFindAlike
twins_find_alike S vs d l m x y w t = alike S vs d l m w t
