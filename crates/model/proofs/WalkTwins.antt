-- In the walk too twins come to the same outcome, and so do calls that give twins.
use Rattle.std.proofs.Common.{◌≡◌, ℕ, zero, suc, ◌+◌, Bool, true, false, leb, List, [], ◌∷◌, refl, ap, subst}
use mathlib.Core.Option.{Option, none, some}
use Rattle.model.specs.Values.{Name, Form, literal, Scalar, Raw, Raws, Mems, scalar, mem, Ty, named, list_of, nullable, Field, Def, int_d, float_d, string_d, boolean_d, id_d, enum_d, input_d, custom_d, output_d, Schema, find, Variable, Rec, r_null, r_plain, same, field_names}
use Rattle.model.specs.Records.{size}
use Rattle.model.specs.Refusals.{Cause, too_deep, no_space, null_value, wrong_value, missing_field, missing_variable, variable_in_value, undeclared, Refusal, Out, ok, refused, beyond, and_then, Here, refuse, in_field}
use Rattle.model.specs.Scalars.{plain, scalar_at}
use Rattle.model.specs.Coercion.{Rule, for_variable}
use Rattle.model.specs.Walk.{deepest, opening, leaf, name_size, slot_size, walk_keep, walk_keep_all, walk_keep_mems, walk_null, Placed, walk_ones, walk_scalar, walk_list_named, WalkDefaults, WalkLooks, at_place, walk_fields, walk_object_named, walk, walk_all, walk_mem, walk_at, walk_given, walk_variable}
use Rattle.model.specs.Calls.{Given, Sheet, State, Call, nowhere, slot_at, slots_at, from_member, standing_of, load_of, others_size, replaced, variable_of, set_at, set_of, answer, settle, run_from}
use Rattle.model.specs.Twins.{Twin, TwinAll, TwinMems, w_null, w_scalar, w_variable, w_list, w_object, w_nil, w_cons, w_end, w_mem, SameRefusal, SameOut, both_ok, both_refused, both_beyond, TwinCall, w_load, w_supply, w_withdraw, TwinCalls, w_none, w_next, slots_given, slots_kept}
use Rattle.model.specs.Laws.{PlacesDoNotMatter}
use Rattle.model.proofs.CoTwins.{same_out, same_refuse, same_then, same_cond, same_ruled, same_wrong, undeclared_same, same_declared, Found, not_found, found, found_cond, same_field, TwinSlot, no_value, two_values, twin_member, twins_at, twins_variables}

same_opening : (h : Here) (a b cap depth used n : ℕ) → SameOut (opening h a cap depth used n) (opening h b cap depth used n)
same_opening h a b cap depth used n = same_cond (leb depth deepest) (same_cond (leb (used + n) cap) (both_ok refl) (same_refuse h no_space a b)) (same_refuse h too_deep a b)

same_leaf : (h : Here) (a b cap depth used lead : ℕ) (r : Rec) → SameOut (leaf h a cap depth used lead r) (leaf h b cap depth used lead r)
same_leaf h a b cap depth used lead r = same_then (same_opening h a b cap depth used (lead + size r)) (λ u. both_ok refl)

-- custom contents
module _ (h : Here) (cap : ℕ) where
  mutual
    keep_same : (depth used lead : ℕ) {x y : Raw} → Twin x y → SameOut (walk_keep h cap depth used lead x) (walk_keep h cap depth used lead y)
    keep_same depth used lead (w_null {a = a} {b = b}) = same_leaf h a b cap depth used lead r_null
    keep_same depth used lead (w_scalar {a = a} {b = b} {s = s} e) =
        subst (λ z. SameOut (leaf h a cap depth used lead (r_plain (plain s))) (leaf h b cap depth used lead (r_plain (plain z)))) e (same_leaf h a b cap depth used lead (r_plain (plain s)))
    keep_same depth used lead (w_variable {a = a} {b = b} e) = same_refuse h variable_in_value a b
    keep_same depth used lead (w_list {a = a} {b = b} ws) = same_then (same_opening h a b cap depth used (lead + 6)) (λ u. same_then (keep_all-same (suc depth) (used + (lead + 6)) ws) (λ rs. both_ok refl))
    keep_same depth used lead (w_object {a = a} {b = b} ws) = same_then (same_opening h a b cap depth used (lead + 6)) (λ u. same_then (keep_mems-same (suc depth) (used + (lead + 6)) ws) (λ rs. both_ok refl))

    keep_all-same : (depth used : ℕ) {xs ys : Raws} → TwinAll xs ys → SameOut (walk_keep_all h cap depth used xs) (walk_keep_all h cap depth used ys)
    keep_all-same depth used w_nil = both_ok refl
    keep_all-same depth used (w_cons w ws) = same_then (keep_same depth used 0 w) (λ r. same_then (keep_all-same depth (used + size r) ws) (λ rs. both_ok refl))

    keep_mems-same : (depth used : ℕ) {ms ns : Mems} → TwinMems ms ns → SameOut (walk_keep_mems h cap depth used ms) (walk_keep_mems h cap depth used ns)
    keep_mems-same depth used w_end = both_ok refl
    keep_mems-same depth used (w_mem {m = m} {x = x} {y = y} {ms = ms} {ns = ns} e w ws) =
        subst (λ j. SameOut (walk_keep_mems h cap depth used (mem m x ms)) (walk_keep_mems h cap depth used (mem j y ns))) e
        (same_then (keep_same depth used (name_size m) w) (λ r. same_then (keep_mems-same depth (used + (name_size m + size r)) ws) (λ rs. both_ok refl)))

same_null : (h : Here) (a b cap depth used lead : ℕ) (c : Bool) → SameOut (walk_null h a cap depth used lead c) (walk_null h b cap depth used lead c)
same_null h a b cap depth used lead true = same_leaf h a b cap depth used lead r_null
same_null h a b cap depth used lead false = same_refuse h null_value a b

-- the same outcome at each depth, use and name
abbrev SamePlaced : Placed → Placed → Type 0
SamePlaced f g = (depth used lead : ℕ) → SameOut (f depth used lead) (g depth used lead)

same_ones : (h : Here) (a b cap : ℕ) (f g : Name → Placed) → ((n : Name) → SamePlaced (f n) (g n)) → (t : Ty) → SamePlaced (walk_ones h a cap f t) (walk_ones h b cap g t)
same_ones h a b cap f g k (named c n) depth used lead = k n depth used lead
same_ones h a b cap f g k (list_of c t) depth used lead = same_then (same_opening h a b cap depth used (lead + 6)) (λ u. same_then (same_ones h a b cap f g k t (suc depth) (used + (lead + 6)) 0) (λ r. both_ok refl))

same_scalar : (R : Rule) (h : Here) (cap : ℕ) (p : Form) (a b : ℕ) (s : Scalar) (n : Name) (D : Def) → SamePlaced (walk_scalar R h cap p a s n D) (walk_scalar R h cap p b s n D)
same_scalar R h cap p a b s n D depth used lead = same_then (same_wrong h a b (scalar_at p D s)) (λ x. same_then (same_leaf h a b cap depth used lead (r_plain x)) (λ r. same_ruled R h a b n D r))

same_list : (R : Rule) (h : Here) (a b : ℕ) (n : Name) {o q : Out Rec} → SameOut o q → (D : Def) → SameOut (walk_list_named R h a n o D) (walk_list_named R h b n q D)
same_list R h a b n k int_d = same_refuse h wrong_value a b
same_list R h a b n k float_d = same_refuse h wrong_value a b
same_list R h a b n k string_d = same_refuse h wrong_value a b
same_list R h a b n k boolean_d = same_refuse h wrong_value a b
same_list R h a b n k id_d = same_refuse h wrong_value a b
same_list R h a b n k (enum_d ns) = same_refuse h wrong_value a b
same_list R h a b n k (input_d fs) = same_refuse h wrong_value a b
same_list R h a b n k custom_d = same_then k (λ r. same_ruled R h a b n custom_d r)
same_list R h a b n k output_d = same_refuse h wrong_value a b

abbrev SameLooks : WalkLooks → WalkLooks → Type 0
SameLooks g k = (n : Name) (t : Ty) (depth used : ℕ) → Found (g n t depth used) (k n t depth used)

same_fields : (d : WalkDefaults) (h : Here) (a b : ℕ) (g k : WalkLooks) → SameLooks g k → (fs : List Field) (depth used : ℕ) → SameOut (walk_fields d h a g fs depth used) (walk_fields d h b k fs depth used)
same_fields d h a b g k m [] depth used = both_ok refl
same_fields d h a b g k m (f ∷ fs) depth used =
    same_then (same_field (at_place d depth used (name_size f.name)) (in_field f.name h) (same_refuse (in_field f.name h) missing_field a b) f (m f.name f.ty depth used))
    (λ o. same_then (same_fields d h a b g k m fs depth (used + slot_size f.name o)) (λ ms. both_ok refl))

same_object : (d : WalkDefaults) (R : Rule) (h : Here) (cap a b : ℕ) (g k : WalkLooks) → SameLooks g k → (o q : Placed) → SamePlaced o q → {ms ns : Mems} → TwinMems ms ns → (n : Name) (D : Def)
    → SamePlaced (walk_object_named d R h cap a g o ms n D) (walk_object_named d R h cap b k q ns n D)
same_object d R h cap a b g k m o q l ws n int_d depth used lead = same_refuse h wrong_value a b
same_object d R h cap a b g k m o q l ws n float_d depth used lead = same_refuse h wrong_value a b
same_object d R h cap a b g k m o q l ws n string_d depth used lead = same_refuse h wrong_value a b
same_object d R h cap a b g k m o q l ws n boolean_d depth used lead = same_refuse h wrong_value a b
same_object d R h cap a b g k m o q l ws n id_d depth used lead = same_refuse h wrong_value a b
same_object d R h cap a b g k m o q l ws n (enum_d ns) depth used lead = same_refuse h wrong_value a b
same_object d R h cap a b g k m o q l ws n (input_d fs) depth used lead = same_declared h (undeclared_same (field_names fs) ws)
    (same_then (same_opening h a b cap depth used (lead + 6)) (λ u. same_then (same_fields d h a b g k m fs (suc depth) (used + (lead + 6))) (λ rs. both_ok refl)))
same_object d R h cap a b g k m o q l ws n custom_d depth used lead = same_then (l depth used lead) (λ r. same_ruled R h a b n custom_d r)
same_object d R h cap a b g k m o q l ws n output_d depth used lead = same_refuse h wrong_value a b

module _ (d : WalkDefaults) (S : Schema) (R : Rule) (cap : ℕ) (p : Form) where
  mutual
    twins : (h : Here) {x y : Raw} → Twin x y → (t : Ty) → SamePlaced (walk d S R cap p h x t) (walk d S R cap p h y t)
    twins h (w_null {a = a} {b = b}) t depth used lead = same_null h a b cap depth used lead (nullable t)
    twins h (w_scalar {a = a} {b = b} {s = s} e) t depth used lead =
        subst (λ z. SameOut (walk d S R cap p h (scalar a s) t depth used lead) (walk d S R cap p h (scalar b z) t depth used lead)) e
        (same_ones h a b cap _ _ (λ n. same_scalar R h cap p a b s n (find S n)) t depth used lead)
    twins h (w_variable {a = a} {b = b} e) t depth used lead = same_refuse h variable_in_value a b
    twins h (w_list {a = a} {b = b} ws) (named c n) depth used lead = same_list R h a b n (keep_same h cap depth used lead (w_list ws)) (find S n)
    twins h (w_list {a = a} {b = b} ws) (list_of c t) depth used lead = same_then (same_opening h a b cap depth used (lead + 6)) (λ u. same_then (twins_all h ws t (suc depth) (used + (lead + 6))) (λ rs. both_ok refl))
    twins h (w_object {a = a} {b = b} ws) t depth used lead =
        same_ones h a b cap _ _ (λ n. same_object d R h cap a b _ _ (twins_mem h ws) _ _ (λ e u l. keep_same h cap e u l (w_object ws)) ws n (find S n)) t depth used lead

    twins_all : (h : Here) {xs ys : Raws} → TwinAll xs ys → (t : Ty) (depth used : ℕ) → SameOut (walk_all d S R cap p h xs t depth used) (walk_all d S R cap p h ys t depth used)
    twins_all h w_nil t depth used = both_ok refl
    twins_all h (w_cons w ws) t depth used = same_then (twins h w t depth used 0) (λ r. same_then (twins_all h ws t depth (used + size r)) (λ rs. both_ok refl))

    twins_mem : (h : Here) {ms ns : Mems} → TwinMems ms ns → SameLooks (walk_mem d S R cap p h ms) (walk_mem d S R cap p h ns)
    twins_mem h w_end n t depth used = not_found
    twins_mem h (w_mem {m = m} {x = x} {y = y} {ms = ms} {ns = ns} e w ws) n t depth used =
        subst (λ j. Found (walk_mem d S R cap p h (mem m x ms) n t depth used) (walk_mem d S R cap p h (mem j y ns) n t depth used)) e
        (found_cond (same m n) (twins (in_field n h) w t depth used (name_size n)) (twins_mem h ws n t depth used))

pub twins_walk : (k : ℕ) (S : Schema) (R : Rule) (cap : ℕ) (p : Form) (h : Here) {x y : Raw} → Twin x y → (t : Ty) (depth used lead : ℕ)
    → SameOut (walk_at k S R cap p h x t depth used lead) (walk_at k S R cap p h y t depth used lead)
twins_walk zero S R cap p h w t = twins (λ i z u depth used lead. beyond) S R cap p h w t
twins_walk (suc k) S R cap p h w t = twins (walk_at k S R cap literal) S R cap p h w t

-- what stands for a variable: twins of one form, or nothing
data TwinGiven : Option Given → Option Given → Type 0 where
  no_given : TwinGiven none none
  two_given : {g h : Given} → g.form ≡ h.form → Twin g.raw h.raw → TwinGiven (some g) (some h)

-- two sheets have the same slots
data SameAnswer : Out Sheet → Out Sheet → Type 0 where
  both_made : {s u : Sheet} → s.slots ≡ u.slots → SameAnswer (ok s) (ok u)
  both_not : {f g : Refusal} → SameRefusal f g → SameAnswer (refused f) (refused g)
  both_over : SameAnswer beyond beyond

not_made : (c : Cause) (a b : ℕ) → SameAnswer (refuse nowhere c a) (refuse nowhere c b)
not_made c a b = both_not (record { cause = refl; variable = refl; field = refl })

data SameState : State → State → Type 0 where
  no_sheet : SameState none none
  two_sheets : {s u : Sheet} → s.slots ≡ u.slots → SameState (some s) (some u)

made : {X : Type 0} {o q : Out X} (f g : X → Sheet) → SameOut o q → ((x : X) → (f x).slots ≡ (g x).slots) → SameAnswer (and_then o (λ x. ok (f x))) (and_then q (λ x. ok (g x)))
made f g (both_ok {x = x} e) k = both_made (subst (λ z. (f x).slots ≡ (g z).slots) e (k x))
made f g (both_refused r) k = both_not r
made f g both_beyond k = both_over

member_given : (p : Form) {x y : Option Raw} → TwinSlot x y → TwinGiven (from_member p x) (from_member p y)
member_given p no_value = no_given
member_given p (two_values w) = two_given refl w

settle_same : {st su : State} → SameState st su → {o q : Out Sheet} → SameAnswer o q → SameState (settle st o) (settle su q)
settle_same z (both_made e) = two_sheets e
settle_same z (both_not r) = z
settle_same z both_over = z

slots_kept_lem : {st su : State} → SameState st su → slots_kept st ≡ slots_kept su
slots_kept_lem no_sheet = refl
slots_kept_lem (two_sheets e) = ap some e

itself : (st : State) → SameState st st
itself none = no_sheet
itself (some s) = two_sheets refl

slots_given_lem : {o q : Out Sheet} → SameAnswer o q → SameOut (slots_given o) (slots_given q)
slots_given_lem (both_made e) = both_ok e
slots_given_lem (both_not r) = both_refused r
slots_given_lem both_over = both_beyond

module _ (k : ℕ) (S : Schema) (R : Rule) (cap : ℕ) where
  given_same : (v : Variable) (used : ℕ) (p : Form) {x y : Option Raw} → TwinSlot x y → Found (walk_given k S R cap v used p x) (walk_given k S R cap v used p y)
  given_same v used p no_value = not_found
  given_same v used p (two_values w) = found (twins_walk k S R cap p (for_variable v) w v.field.ty 1 used (name_size v.field.name))

  variable_same : (v : Variable) (used : ℕ) (p : Form) {x y : Option Raw} → TwinSlot x y → SameOut (walk_variable k S R cap v used p x) (walk_variable k S R cap v used p y)
  variable_same v used p w =
      same_field (at_place (walk_at k S R cap literal) 1 used (name_size v.field.name)) (for_variable v) (same_out (refuse (for_variable v) missing_variable v.place)) v.field (given_same v used p w)

  slot_same : (used : ℕ) (v : Variable) {g h : Option Given} → TwinGiven g h → SameOut (slot_at k S R cap used v g) (slot_at k S R cap used v h)
  slot_same used v no_given = same_out (slot_at k S R cap used v none)
  slot_same used v (two_given {g = g} {h = h} e w) =
      subst (λ q. SameOut (walk_variable k S R cap v used g.form (some g.raw)) (walk_variable k S R cap v used q (some h.raw))) e (variable_same v used g.form (two_values w))

  slots_same : (p : Form) {ms ns : Mems} → TwinMems ms ns → (vs : List Variable) (used : ℕ) → SameOut (slots_at k S R cap used vs (standing_of p ms vs)) (slots_at k S R cap used vs (standing_of p ns vs))
  slots_same p ws [] used = both_ok refl
  slots_same p ws (v ∷ vs) used = same_then (slot_same used v (member_given p (twin_member ws v.field.name))) (λ o. same_then (slots_same p ws vs (used + slot_size v.field.name o)) (λ os. both_ok refl))

  load_same : (vs : List Variable) (p : Form) {x y : Raw} → Twin x y → SameAnswer (load_of k S R cap vs p x) (load_of k S R cap vs p y)
  load_same vs p (w_null {a = a} {b = b}) = not_made wrong_value a b
  load_same vs p (w_scalar {a = a} {b = b} e) = not_made wrong_value a b
  load_same vs p (w_variable {a = a} {b = b} e) = not_made variable_in_value a b
  load_same vs p (w_list {a = a} {b = b} ws) = not_made wrong_value a b
  load_same vs p (w_object ws) = made _ _ (slots_same p ws vs 0) (λ os. refl)

  set_same : (vs : List Variable) {g h : Option Given} → TwinGiven g h → (s u : Sheet) → s.slots ≡ u.slots → (v : Option Variable) → SameAnswer (set_at k S R cap vs g s v) (set_at k S R cap vs h u v)
  set_same vs w s u e none = not_made undeclared 0 0
  set_same vs {g} {h} w s u e (some v) =
      made _ _ (subst (λ os. SameOut (slot_at k S R cap (others_size v.field.name vs s.slots) v g) (slot_at k S R cap (others_size v.field.name vs os) v h)) e
      (slot_same (others_size v.field.name vs s.slots) v w)) (λ o. ap (replaced v.field.name o vs) e)

  set_of-same : (vs : List Variable) (n : Name) {g h : Option Given} → TwinGiven g h → {st su : State} → SameState st su → SameAnswer (set_of k S R cap vs n g st) (set_of k S R cap vs n h su)
  set_of-same vs n w no_sheet = not_made undeclared 0 0
  set_of-same vs n w (two_sheets {s = s} {u = u} e) = set_same vs w s u e (variable_of vs n)

  answer_same : (vs : List Variable) {st su : State} → SameState st su → {c e : Call} → TwinCall c e → SameAnswer (answer k S R cap vs st c) (answer k S R cap vs su e)
  answer_same vs z (w_load {p = p} {x = x} {y = y} e w) = subst (λ q. SameAnswer (load_of k S R cap vs p x) (load_of k S R cap vs q y)) e (load_same vs p w)
  answer_same vs {st} {su} z (w_supply {m = m} {p = p} {q = q} {x = x} {y = y} e f w) =
      subst (λ n. SameAnswer (set_of k S R cap vs m (some (record { form = p; raw = x })) st) (set_of k S R cap vs n (some (record { form = q; raw = y })) su)) e (set_of-same vs m (two_given f w) z)
  answer_same vs {st} {su} z (w_withdraw {m = m} e) = subst (λ n. SameAnswer (set_of k S R cap vs m none st) (set_of k S R cap vs n none su)) e (set_of-same vs m no_given z)

  runs_same : (vs : List Variable) {cs es : List Call} → TwinCalls cs es → {st su : State} → SameState st su → slots_kept (run_from k S R cap vs st cs) ≡ slots_kept (run_from k S R cap vs su es)
  runs_same vs w_none z = slots_kept_lem z
  runs_same vs (w_next w ws) z = runs_same vs ws (settle_same z (answer_same vs z w))

pub places_do_not_matter : PlacesDoNotMatter
places_do_not_matter = (
  (λ k S R p h x y w t. twins_at k S R p h w t),
  (λ k S R p ms ns ws vs. twins_variables k S R p ws vs),
  (λ k S R cap p h x y w t depth used lead. twins_walk k S R cap p h w t depth used lead),
  (λ k S R cap vs st c e w. slots_given_lem (answer_same k S R cap vs (itself st) w)),
  (λ k S R cap vs cs es ws. runs_same k S R cap vs ws no_sheet),
)
