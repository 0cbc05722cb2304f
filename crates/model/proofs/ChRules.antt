-- A finding is told exactly where the rule of its kind is broken.
use Rattle.std.proofs.Common.{◌≡◌, ℕ, Bool, true, false, cond, not, ◌&&◌, List, [], ◌∷◌, ◌++◌, ◌⊎◌, inl, inr, refl, sym, subst, arith}
use mathlib.Core.Option.{Option, none, some}
use Rattle.std.proofs.lemmas.Bool.{both_ways}
use Rattle.model.specs.Values.{Name, Raw, Raws, Mems, null, scalar, variable, list, object, nil, cons, end, mem, place_of, Ty, named, list_of, nullable, Field, Def, input_d, custom_d, Schema, find, Variable, same, field_names}
use Rattle.model.specs.Coercion.{first_undeclared, member}
use Rattle.model.specs.Calls.{variable_of}
use Rattle.model.specs.Checking.{FindingKind, unsupported_value_type, disallowed_variable_usage, undefined_variable, undefined_input_value, required_field, Finding, found, In, is_value, usage_allowed, inner, wrong_scalar, check_scalar, check_usage, if_undeclared, undeclared_in, undeclared_in_all, undeclared_in_mems, list_at_name, check_names, is_there, has_default, check_required, check_fields, check_object, check, check_all, check_member, VariableIn, VariableInAll, VariableInMems, v_itself, v_list, v_object, v_item, v_later_item, v_member, v_later_member}
use Rattle.model.specs.Rules.{Misplaced, null_misplaced, scalar_misplaced, list_misplaced, object_misplaced, Custom, custom_list, custom_object, Among, the_first, a_later, ItemIn, first_item, later_item, Lacks, Breaks, values_of_correct_type, input_object_field_names, input_object_required_fields, all_variable_uses_defined, all_inner_uses_defined, all_variable_usages_are_allowed, Broken, by_itself, by_item, by_member}
use Rattle.model.specs.CheckLaws.{FindsTheBroken}
use Rattle.model.proofs.ChFound.{Each, each_append, each_cond, each_in, in_left, in_right}
use Rattle.model.proofs.ChScalars.{Said, wrong_said, said_more, wrong_is}
use Rattle.model.proofs.ChUsage.{allowed_exactly}

-- WHAT IS TOLD IS BROKEN

abbrev pub Told : Type 1
Told = FindingKind → ℕ → Type 0

scalar_told : (P : Told) (at : ℕ) (o : Option FindingKind) → Said (λ k. P k at) o → Each P (check_scalar at o)
scalar_told P at none h = tt
scalar_told P at (some k) h = (h, tt)

-- the undeclared variables of custom contents
undeclared_told : (P : Told) (at : ℕ) (o : Option Variable) → (o ≡ none → P undefined_variable at) → Each P (if_undeclared at o)
undeclared_told P at none h = (h refl, tt)
undeclared_told P at (some v) h = tt

mutual
  contents_told : (P : Told) (vs : List Variable) (x : Raw) → ((p : ℕ) (n : Name) → VariableIn p n x → variable_of vs n ≡ none → P undefined_variable p) → Each P (undeclared_in vs x)
  contents_told P vs (null at) k = tt
  contents_told P vs (scalar at s) k = tt
  contents_told P vs (variable at n) k = undeclared_told P at (variable_of vs n) (k at n v_itself)
  contents_told P vs (list at xs) k = all_contents_told P vs xs (λ p n i. k p n (v_list i))
  contents_told P vs (object at ms) k = member_contents_told P vs ms (λ p n i. k p n (v_object i))

  all_contents_told : (P : Told) (vs : List Variable) (xs : Raws) → ((p : ℕ) (n : Name) → VariableInAll p n xs → variable_of vs n ≡ none → P undefined_variable p) → Each P (undeclared_in_all vs xs)
  all_contents_told P vs nil k = tt
  all_contents_told P vs (cons x xs) k = each_append P (undeclared_in vs x) (undeclared_in_all vs xs) (contents_told P vs x (λ p n i. k p n (v_item i))) (all_contents_told P vs xs (λ p n i. k p n (v_later_item i)))

  member_contents_told : (P : Told) (vs : List Variable) (ms : Mems) → ((p : ℕ) (n : Name) → VariableInMems p n ms → variable_of vs n ≡ none → P undefined_variable p) → Each P (undeclared_in_mems vs ms)
  member_contents_told P vs end k = tt
  member_contents_told P vs (mem m x ms) k = each_append P (undeclared_in vs x) (undeclared_in_mems vs ms) (contents_told P vs x (λ p n i. k p n (v_member i))) (member_contents_told P vs ms (λ p n i. k p n (v_later_member i)))

abbrev is_custom : Def → Bool
is_custom custom_d = true
is_custom D = false

abbrev is_input : Def → Bool
is_input (input_d fs) = true
is_input D = false

not_custom : (D : Def) → is_custom D ≡ false → D ≡ custom_d → ⊥
not_custom D h e = let z : is_custom D ≡ true = rw e refl in both_ways (is_custom D) h z

not_input : (D : Def) → is_input D ≡ false → (fs : List Field) → D ≡ input_d fs → ⊥
not_input D h fs e = let z : is_input D ≡ true = rw e refl in both_ways (is_input D) h z

-- at a name: only a custom scalar takes a list, only it or an input object takes an object
list_told : (P : Told) (at : ℕ) (contents : List Finding) (D : Def) → (D ≡ custom_d → Each P contents) → ((D ≡ custom_d → ⊥) → P unsupported_value_type at) → Each P (list_at_name at contents D)
list_told P at contents custom_d h k = h refl
list_told P at contents D h k = (k (not_custom _ refl), tt)

object_told : (P : Told) (at : ℕ) (ms : Mems) (contents : List Finding) (g : Field → List Finding) (D : Def) → (D ≡ custom_d → Each P contents)
    → ((fs : List Field) → D ≡ input_d fs → Each P (check_names (first_undeclared (field_names fs) ms) ++ check_fields at ms g fs))
    → ((D ≡ custom_d → ⊥) → ((fs : List Field) → D ≡ input_d fs → ⊥) → P unsupported_value_type at) → Each P (check_object at ms contents g D)
object_told P at ms contents g (input_d fs) h i k = i fs refl
object_told P at ms contents g custom_d h i k = h refl
object_told P at ms contents g D h i k = (k (not_custom _ refl) (not_input _ refl), tt)

names_told : (P : Told) (u : Option ℕ) → ((p : ℕ) → u ≡ some p → P undefined_input_value p) → Each P (check_names u)
names_told P none k = tt
names_told P (some p) k = (k p refl, tt)

-- required fields
is_lacking : (m : Option Raw) → is_value m ≡ false → (m ≡ none) ⊎ ((at : ℕ) × (m ≡ some (null at)))
is_lacking none e = inl refl
is_lacking (some (null at)) e = inr (at, refl)
is_lacking (some x) e = absurd (both_ways true e refl)

pub is_none : (o : Option Raw) → is_there o ≡ false → o ≡ none
is_none none e = refl
is_none (some x) e = absurd (both_ways true e refl)

each_three : (P : Told) (n h v : Bool) (fs : List Finding) → (n ≡ false → h ≡ false → v ≡ false → Each P fs) → Each P (cond (not n && (not h && not v)) fs [])
each_three P true h v fs k = tt
each_three P false true v fs k = tt
each_three P false false true fs k = tt
each_three P false false false fs k = k refl refl refl

required_told : (P : Told) (at : ℕ) (f : Field) (m : Option Raw) → (nullable f.ty ≡ false → f.dflt ≡ none → (m ≡ none) ⊎ ((a : ℕ) × (m ≡ some (null a))) → P required_field at) → Each P (check_required at f m)
required_told P at f m k = each_three P (nullable f.ty) (has_default f) (is_value m) (found required_field at) (λ a b c. (k a (is_none f.dflt b) (is_lacking m c), tt))

fields_told : (P : Told) (at : ℕ) (ms : Mems) (g : Field → List Finding) (fs : List Field) → ((f : Field) → Among f fs → Each P (check_required at f (member ms f.name))) → ((f : Field) → Among f fs → Each P (g f)) → Each P (check_fields at ms g fs)
fields_told P at ms g [] h k = tt
fields_told P at ms g (f ∷ fs) h k =
    each_append P (check_required at f (member ms f.name)) (g f ++ check_fields at ms g fs) (h f the_first)
    (each_append P (g f) (check_fields at ms g fs) (k f the_first) (fields_told P at ms g fs (λ e i. h e (a_later i)) (λ e i. k e (a_later i))))

usage_told : (S : Schema) (vs : List Variable) (P : Told) (d : Bool) (lone at : ℕ) (n : Name) (t : Ty) (o : Option Variable) → variable_of vs n ≡ o → ((k : FindingKind) (p : ℕ) → Breaks S vs k p d lone (variable at n) t → P k p) → Each P (check_usage d lone at t o)
usage_told S vs P d lone at n t none e k = (k undefined_variable at (all_variable_uses_defined e), tt)
usage_told S vs P d lone at n t (some v) e k =
    each_cond P (usage_allowed v.field d t) [] (found disallowed_variable_usage lone) (λ a. tt)
    (λ a. (k disallowed_variable_usage lone (all_variable_usages_are_allowed v e (λ u. both_ways (usage_allowed v.field d t) a ((allowed_exactly v.field d t).1 u))), tt))

mutual
  pub told : (S : Schema) (vs : List Variable) (d : Bool) (lone : ℕ) (v : Raw) (t : Ty) (P : Told) → ((k : FindingKind) (p : ℕ) → Broken S vs k p d lone v t → P k p) → Each P (check S vs d lone v t)
  told S vs d lone (null at) t P c = each_cond P (nullable t) [] (found unsupported_value_type at) (λ e. tt) (λ e. (c unsupported_value_type at (by_itself (values_of_correct_type (null_misplaced e) refl)), tt))
  told S vs d lone (scalar at s) t P c = scalar_told P at (wrong_scalar (find S (inner t)) s) (said_more (wrong_scalar (find S (inner t)) s) (wrong_said (find S (inner t)) s) (λ k u. c k at (by_itself (values_of_correct_type (scalar_misplaced u) refl))))
  told S vs d lone (variable at n) t P c = usage_told S vs P d lone at n t (variable_of vs n) refl (λ k p b. c k p (by_itself b))
  told S vs d lone (list at xs) (named b n) P c = list_told P at (undeclared_in_all vs xs) (find S n)
      (λ e. all_contents_told P vs xs (λ p m i u. c undefined_variable p (by_itself (all_inner_uses_defined (custom_list e) (v_list i) u))))
      (λ e. c unsupported_value_type at (by_itself (values_of_correct_type (list_misplaced e) refl)))
  told S vs d lone (list at xs) (list_of b t) P c = told_all S vs xs t P (λ x i k p h. c k p (by_item x i h))
  told S vs d lone (object at ms) t P c = object_told P at ms (undeclared_in_mems vs ms) (check_member S vs ms) (find S (inner t))
      (λ e. member_contents_told P vs ms (λ p m i u. c undefined_variable p (by_itself (all_inner_uses_defined (custom_object e) (v_object i) u))))
      (λ fs e. each_append P (check_names (first_undeclared (field_names fs) ms)) (check_fields at ms (check_member S vs ms) fs)
      (names_told P (first_undeclared (field_names fs) ms) (λ p u. c undefined_input_value p (by_itself (input_object_field_names e u))))
      (fields_told P at ms (check_member S vs ms) fs
      (λ f i. required_told P at f (member ms f.name) (λ n h l. c required_field at (by_itself (input_object_required_fields f e i n h l))))
      (λ f i. told_member S vs ms f P (λ x m k p h. c k p (by_member f x e i m h)))))
      (λ e i. c unsupported_value_type at (by_itself (values_of_correct_type (object_misplaced e i) refl)))

  told_all : (S : Schema) (vs : List Variable) (xs : Raws) (t : Ty) (P : Told) → ((x : Raw) → ItemIn x xs → (k : FindingKind) (p : ℕ) → Broken S vs k p false (place_of x) x t → P k p) → Each P (check_all S vs xs t)
  told_all S vs nil t P c = tt
  told_all S vs (cons x xs) t P c = each_append P (check S vs false (place_of x) x t) (check_all S vs xs t) (told S vs false (place_of x) x t P (c x first_item)) (told_all S vs xs t P (λ y i. c y (later_item i)))

  told_member : (S : Schema) (vs : List Variable) (ms : Mems) (f : Field) (P : Told) → ((x : Raw) → member ms f.name ≡ some x → (k : FindingKind) (p : ℕ) → Broken S vs k p (has_default f) (place_of x) x f.ty → P k p) → Each P (check_member S vs ms f)
  told_member S vs end f P c = tt
  told_member S vs (mem m x ms) f P c = each_cond P (same m f.name) (check S vs (has_default f) (place_of x) x f.ty) (check_member S vs ms f)
      (λ e. told S vs (has_default f) (place_of x) x f.ty P (c x (rw e refl)))
      (λ e. told_member S vs ms f P (λ y g. c y (rw e g)))

-- WHAT IS BROKEN IS TOLD

abbrev pub finding : FindingKind → ℕ → Finding
finding k p = record { kind = k; place = p }

list_in : (at : ℕ) (contents : List Finding) (D : Def) → (D ≡ custom_d → ⊥) → In (finding unsupported_value_type at) (list_at_name at contents D)
list_in at contents custom_d h = absurd (h refl)
list_in at contents D h = inl refl

object_in : (at : ℕ) (ms : Mems) (contents : List Finding) (g : Field → List Finding) (D : Def) → (D ≡ custom_d → ⊥) → ((fs : List Field) → D ≡ input_d fs → ⊥) → In (finding unsupported_value_type at) (check_object at ms contents g D)
object_in at ms contents g (input_d fs) h i = absurd (i fs refl)
object_in at ms contents g custom_d h i = absurd (h refl)
object_in at ms contents g D h i = inl refl

misplaced_in : (S : Schema) (vs : List Variable) {t : Ty} {v : Raw} {k : FindingKind} → Misplaced S t v k → (d : Bool) (lone : ℕ) → In (finding k (place_of v)) (check S vs d lone v t)
misplaced_in S vs (null_misplaced e) d lone = rw e (inl refl)
misplaced_in S vs (scalar_misplaced u) d lone = rw (wrong_is u) (inl refl)
misplaced_in S vs (list_misplaced {n = n} {at = at} {xs = xs} h) d lone = list_in at (undeclared_in_all vs xs) (find S n) h
misplaced_in S vs (object_misplaced {t = t} {at = at} {ms = ms} h i) d lone = object_in at ms (undeclared_in_mems vs ms) (check_member S vs ms) (find S (inner t)) h i

mutual
  contents_in : (vs : List Variable) {p : ℕ} {n : Name} {x : Raw} → VariableIn p n x → variable_of vs n ≡ none → In (finding undefined_variable p) (undeclared_in vs x)
  contents_in vs v_itself e = rw e (inl refl)
  contents_in vs (v_list i) e = all_contents_in vs i e
  contents_in vs (v_object i) e = member_contents_in vs i e

  pub all_contents_in : (vs : List Variable) {p : ℕ} {n : Name} {xs : Raws} → VariableInAll p n xs → variable_of vs n ≡ none → In (finding undefined_variable p) (undeclared_in_all vs xs)
  all_contents_in vs {p} (v_item {x = x} {xs = xs} i) e = in_left (finding undefined_variable p) (undeclared_in vs x) (undeclared_in_all vs xs) (contents_in vs i e)
  all_contents_in vs {p} (v_later_item {x = x} {xs = xs} i) e = in_right (finding undefined_variable p) (undeclared_in vs x) (undeclared_in_all vs xs) (all_contents_in vs i e)

  pub member_contents_in : (vs : List Variable) {p : ℕ} {n : Name} {ms : Mems} → VariableInMems p n ms → variable_of vs n ≡ none → In (finding undefined_variable p) (undeclared_in_mems vs ms)
  member_contents_in vs {p} (v_member {x = x} {ms = ms} i) e = in_left (finding undefined_variable p) (undeclared_in vs x) (undeclared_in_mems vs ms) (contents_in vs i e)
  member_contents_in vs {p} (v_later_member {x = x} {ms = ms} i) e = in_right (finding undefined_variable p) (undeclared_in vs x) (undeclared_in_mems vs ms) (member_contents_in vs i e)

inner_in : (S : Schema) (vs : List Variable) {t : Ty} {v : Raw} → Custom S t v → {p : ℕ} {n : Name} → VariableIn p n v → variable_of vs n ≡ none → (d : Bool) (lone : ℕ) → In (finding undefined_variable p) (check S vs d lone v t)
inner_in S vs (custom_list e) (v_list i) u d lone = rw e (all_contents_in vs i u)
inner_in S vs (custom_object e) (v_object i) u d lone = rw e (member_contents_in vs i u)

-- what is found of one field is found of the object
by_required : (z : Finding) (at : ℕ) (ms : Mems) (g : Field → List Finding) {f : Field} {fs : List Field} → Among f fs → In z (check_required at f (member ms f.name)) → In z (check_fields at ms g fs)
by_required z at ms g {f} (the_first {xs = fs}) i = in_left z (check_required at f (member ms f.name)) (g f ++ check_fields at ms g fs) i
by_required z at ms g (a_later {y = e} {xs = fs} h) i = in_right z (check_required at e (member ms e.name)) (g e ++ check_fields at ms g fs) (in_right z (g e) (check_fields at ms g fs) (by_required z at ms g h i))

by_field : (z : Finding) (at : ℕ) (ms : Mems) (g : Field → List Finding) {f : Field} {fs : List Field} → Among f fs → In z (g f) → In z (check_fields at ms g fs)
by_field z at ms g {f} (the_first {xs = fs}) i = in_right z (check_required at f (member ms f.name)) (g f ++ check_fields at ms g fs) (in_left z (g f) (check_fields at ms g fs) i)
by_field z at ms g (a_later {y = e} {xs = fs} h) i = in_right z (check_required at e (member ms e.name)) (g e ++ check_fields at ms g fs) (in_right z (g e) (check_fields at ms g fs) (by_field z at ms g h i))

object_is : (z : Finding) (at : ℕ) (ms : Mems) (contents : List Finding) (g : Field → List Finding) (fs : List Field) (D : Def) → D ≡ input_d fs → In z (check_names (first_undeclared (field_names fs) ms) ++ check_fields at ms g fs) → In z (check_object at ms contents g D)
object_is z at ms contents g fs D e i = rw e i

lacks_value : (ms : Mems) (f : Field) → Lacks ms f → is_value (member ms f.name) ≡ false
lacks_value ms f (inl e) = rw e refl
lacks_value ms f (inr l) = rw l.1 refl

lacks_in : (at : ℕ) (f : Field) (m : Option Raw) → nullable f.ty ≡ false → f.dflt ≡ none → is_value m ≡ false → In (finding required_field at) (check_required at f m)
lacks_in at f m e h l = rw (e, h, l) (inl refl)

usage_in : (d : Bool) (lone at : ℕ) (t : Ty) (v : Variable) → (b : Bool) → usage_allowed v.field d t ≡ b → (b ≡ true → ⊥) → In (finding disallowed_variable_usage lone) (check_usage d lone at t (some v))
usage_in d lone at t v true e h = absurd (h refl)
usage_in d lone at t v false e h = rw e (inl refl)

breaks_in : (S : Schema) (vs : List Variable) {k : FindingKind} {p : ℕ} {d : Bool} {lone : ℕ} {v : Raw} {t : Ty} → Breaks S vs k p d lone v t → In (finding k p) (check S vs d lone v t)
breaks_in S vs (values_of_correct_type {k = k} {lone = lone} {d = d} {v = v} {t = t} m e) = subst (λ q. In (finding k q) (check S vs d lone v t)) e (misplaced_in S vs m d lone)
breaks_in S vs (input_object_field_names {p = p} {at = at} {ms = ms} {t = t} {fs = fs} e u) =
    object_is (finding undefined_input_value p) at ms (undeclared_in_mems vs ms) (check_member S vs ms) fs (find S (inner t)) e
    (in_left (finding undefined_input_value p) (check_names (first_undeclared (field_names fs) ms)) (check_fields at ms (check_member S vs ms) fs) (rw u (inl refl)))
breaks_in S vs (input_object_required_fields {at = at} {ms = ms} {t = t} {fs = fs} f e i n h l) =
    object_is (finding required_field at) at ms (undeclared_in_mems vs ms) (check_member S vs ms) fs (find S (inner t)) e
    (in_right (finding required_field at) (check_names (first_undeclared (field_names fs) ms)) (check_fields at ms (check_member S vs ms) fs)
    (by_required (finding required_field at) at ms (check_member S vs ms) i (lacks_in at f (member ms f.name) n h (lacks_value ms f l))))
breaks_in S vs (all_variable_uses_defined e) = rw e (inl refl)
breaks_in S vs (all_inner_uses_defined {lone = lone} {d = d} c i e) = inner_in S vs c i e d lone
breaks_in S vs (all_variable_usages_are_allowed {lone = lone} {at = at} {d = d} {n = n} {t = t} v e h) =
    subst (λ o. In (finding disallowed_variable_usage lone) (check_usage d lone at t o)) (sym e)
    (usage_in d lone at t v (usage_allowed v.field d t) refl (λ u. h ((allowed_exactly v.field d t).0 u)))

item_in : (S : Schema) (vs : List Variable) (z : Finding) {x : Raw} {xs : Raws} → ItemIn x xs → (t : Ty) → In z (check S vs false (place_of x) x t) → In z (check_all S vs xs t)
item_in S vs z {x} (first_item {xs = xs}) t i = in_left z (check S vs false (place_of x) x t) (check_all S vs xs t) i
item_in S vs z (later_item {y = y} {xs = xs} h) t i = in_right z (check S vs false (place_of y) y t) (check_all S vs xs t) (item_in S vs z h t i)

one_member : (z : Finding) (c : Raw → List Finding) (b : Bool) (x y : Raw) (m : Option Raw) (fs : List Finding) → cond b (some y) m ≡ some x → In z (c x) → (m ≡ some x → In z fs) → In z (cond b (c y) fs)
one_member z c true x y m fs e i k = let w : x ≡ y = cc in subst (λ r. In z (c r)) w i
one_member z c false x y m fs e i k = k e

member_in : (S : Schema) (vs : List Variable) (z : Finding) (ms : Mems) (f : Field) (x : Raw) → member ms f.name ≡ some x → In z (check S vs (has_default f) (place_of x) x f.ty) → In z (check_member S vs ms f)
member_in S vs z end f x e i = let w : ◌≡◌ {A = ℕ} 0 1 = cc in absurd (omega arith)
member_in S vs z (mem m y ms) f x e i = one_member z (λ r. check S vs (has_default f) (place_of r) r f.ty) (same m f.name) x y (member ms f.name) (check_member S vs ms f) e i (λ u. member_in S vs z ms f x u i)

pub broken_in : (S : Schema) (vs : List Variable) {k : FindingKind} {p : ℕ} {d : Bool} {lone : ℕ} {v : Raw} {t : Ty} → Broken S vs k p d lone v t → In (finding k p) (check S vs d lone v t)
broken_in S vs (by_itself b) = breaks_in S vs b
broken_in S vs {k} {p} (by_item {t = t} x i b) = item_in S vs (finding k p) i t (broken_in S vs b)
broken_in S vs {k} {p} (by_member {at = at} {ms = ms} {t = t} {fs = fs} f x e i m b) =
    object_is (finding k p) at ms (undeclared_in_mems vs ms) (check_member S vs ms) fs (find S (inner t)) e
    (in_right (finding k p) (check_names (first_undeclared (field_names fs) ms)) (check_fields at ms (check_member S vs ms) fs)
    (by_field (finding k p) at ms (check_member S vs ms) i (member_in S vs (finding k p) ms f x m (broken_in S vs b))))

pub finds_the_broken : FindsTheBroken
finds_the_broken S vs d lone v t f =
    (λ i. each_in (λ k p. Broken S vs k p d lone v t) (check S vs d lone v t) f (told S vs d lone v t (λ k p. Broken S vs k p d lone v t) (λ k p b. b)) i, λ b. broken_in S vs b)
