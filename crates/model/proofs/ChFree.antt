-- Where no variable is declared, a silent check leaves none anywhere.
use Rattle.std.proofs.Common.{◌≡◌, ℕ, Bool, true, false, cond, List, [], ◌∷◌, ◌++◌, ⊎_elim, refl, sym, subst}
use mathlib.Core.Option.{Option, none, some}
use Rattle.std.proofs.lemmas.Bool.{both_ways, cases_Bool}
use Rattle.model.specs.Values.{Name, Raw, Raws, Mems, null, scalar, variable, list, object, nil, cons, end, mem, place_of, Ty, named, list_of, Field, Def, input_d, custom_d, Schema, find, same, has, field_names}
use Rattle.model.specs.Back.{Distinct}
use Rattle.model.specs.Coercion.{first_undeclared, member}
use Rattle.model.specs.Limits.{mem_names}
use Rattle.model.specs.Checking.{undefined_variable, In, inner, undeclared_in_all, undeclared_in_mems, list_at_name, check_names, has_default, check_required, check_fields, check_object, check, check_all, check_member, VariableInAll, VariableInMems, v_list, v_object, v_item, v_later_item, v_member, v_later_member, VariableFree}
use Rattle.model.specs.CheckLaws.{NoNameTwice, NoNameTwiceAll, NoNameTwiceMems, SilenceHoldsNoVariable}
use Rattle.model.proofs.CoNames.{same_refl, same_true, has_head, has_later, apart}
use Rattle.model.proofs.ChFound.{is_something, none_left, none_right}
use Rattle.model.proofs.ChRules.{finding, all_contents_in, member_contents_in}

-- custom contents
no_contents : (xs : Raws) → undeclared_in_all [] xs ≡ [] → (at : ℕ) (n : Name) → VariableInAll at n xs → ⊥
no_contents xs e at n i = subst (In (finding undefined_variable at)) e (all_contents_in [] i refl)

no_member_contents : (ms : Mems) → undeclared_in_mems [] ms ≡ [] → (at : ℕ) (n : Name) → VariableInMems at n ms → ⊥
no_member_contents ms e at n i = subst (In (finding undefined_variable at)) e (member_contents_in [] i refl)

list_free : (at : ℕ) (xs : Raws) (D : Def) → list_at_name at (undeclared_in_all [] xs) D ≡ [] → (p : ℕ) (n : Name) → VariableInAll p n xs → ⊥
list_free at xs custom_d e = no_contents xs e
list_free at xs D e = is_something _ [] e

-- a field of a name whose member, if any, is silent
abbrev Heard : Schema → Mems → Name → Type 0
Heard S ms n = (f : Field) × (f.name ≡ n) × (check_member S [] ms f ≡ [])

heard : (S : Schema) (at : ℕ) (ms : Mems) (fs : List Field) (n : Name) → check_fields at ms (check_member S [] ms) fs ≡ [] → has (field_names fs) n ≡ true → Heard S ms n
heard S at ms [] n e h = absurd (both_ways false refl h)
heard S at ms (f ∷ fs) n e h =
    let a = none_right (check_required at f (member ms f.name)) (check_member S [] ms f ++ check_fields at ms (check_member S [] ms) fs) e in
    ⊎_elim (λ s. (f, same_true f.name n s, none_left (check_member S [] ms f) (check_fields at ms (check_member S [] ms) fs) a))
    (λ s. heard S at ms fs n (none_right (check_member S [] ms f) (check_fields at ms (check_member S [] ms) fs) a) (subst (λ b. cond b true (has (field_names fs) n) ≡ true) s h)) (cases_Bool (same f.name n))

declared_head : (b : Bool) (u : Option ℕ) (p : ℕ) → cond b u (some p) ≡ none → (b ≡ true) × (u ≡ none)
declared_head true u p e = (refl, e)
declared_head false u p e = absurd (subst (λ o. elim o as (λ q. Type 0) [ none ↦ ⊥ | some x ↦ Unit {0} ]) e tt)

declared_each : (ns : List Name) (ms : Mems) → first_undeclared ns ms ≡ none → (n : Name) → has (mem_names ms) n ≡ true → has ns n ≡ true
declared_each ns end e n h = absurd (both_ways false refl h)
declared_each ns (mem m x ms) e n h =
    let a = declared_head (has ns m) (first_undeclared ns ms) (place_of x) e in
    ⊎_elim (λ s. subst (λ (k : Name). has ns k ≡ true) (same_true m n s) a.0)
    (λ s. declared_each ns ms a.1 n (subst (λ b. cond b true (has (mem_names ms) n) ≡ true) s h)) (cases_Bool (same m n))

declared_none : (u : Option ℕ) → check_names u ≡ [] → u ≡ none
declared_none none e = refl
declared_none (some p) e = is_something _ [] e

-- every member is heard by a field
abbrev AllHeard : Schema → Mems → Type 0
AllHeard S ms = (n : Name) → has (mem_names ms) n ≡ true → Heard S ms n

first_heard : (S : Schema) (m : Name) (x : Raw) (ms : Mems) → AllHeard S (mem m x ms) → (f : Field) × (check S [] (has_default f) (place_of x) x f.ty ≡ [])
first_heard S m x ms k =
    let a = k m (has_head m (mem_names ms)) in
    let s : same m a.0.name ≡ true = subst (λ (n : Name). same m n ≡ true) (sym a.1) (same_refl m) in
    (a.0, subst (λ b. cond b (check S [] (has_default a.0) (place_of x) x a.0.ty) (check_member S [] ms a.0) ≡ []) s a.2)

later_heard : (S : Schema) (m : Name) (x : Raw) (ms : Mems) → has (mem_names ms) m ≡ false → AllHeard S (mem m x ms) → AllHeard S ms
later_heard S m x ms d k n h =
    let a = k n (has_later m n (mem_names ms) h) in
    let s : same m a.0.name ≡ false = subst (λ (j : Name). same m j ≡ false) (sym a.1) (apart m n (mem_names ms) d h) in
    (a.0, a.1, subst (λ b. cond b (check S [] (has_default a.0) (place_of x) x a.0.ty) (check_member S [] ms a.0) ≡ []) s a.2)

object_free : (S : Schema) (at : ℕ) (ms : Mems) → (AllHeard S ms → (p : ℕ) (n : Name) → VariableInMems p n ms → ⊥) → (D : Def) → check_object at ms (undeclared_in_mems [] ms) (check_member S [] ms) D ≡ [] → (p : ℕ) (n : Name) → VariableInMems p n ms → ⊥
object_free S at ms k (input_d fs) e =
    k (λ n h. heard S at ms fs n (none_right (check_names (first_undeclared (field_names fs) ms)) (check_fields at ms (check_member S [] ms) fs) e)
    (declared_each (field_names fs) ms (declared_none (first_undeclared (field_names fs) ms) (none_left (check_names (first_undeclared (field_names fs) ms)) (check_fields at ms (check_member S [] ms) fs) e)) n h))
object_free S at ms k custom_d e = no_member_contents ms e
object_free S at ms k D e = is_something _ [] e

mutual
  free : (S : Schema) (d : Bool) (lone : ℕ) (v : Raw) (t : Ty) → NoNameTwice v → check S [] d lone v t ≡ [] → VariableFree v
  free S d lone (null at) t u e p n i = elim i [ ]
  free S d lone (scalar at s) t u e p n i = elim i [ ]
  free S d lone (variable at m) t u e p n i = is_something _ [] e
  free S d lone (list at xs) (named b m) u e p n (v_list i) = list_free at xs (find S m) e p n i
  free S d lone (list at xs) (list_of b t) u e p n (v_list i) = free_all S xs t u e p n i
  free S d lone (object at ms) t u e p n (v_object i) = object_free S at ms (free_mems S ms u.0 u.1) (find S (inner t)) e p n i

  free_all : (S : Schema) (xs : Raws) (t : Ty) → NoNameTwiceAll xs → check_all S [] xs t ≡ [] → (p : ℕ) (n : Name) → VariableInAll p n xs → ⊥
  free_all S nil t u e p n i = elim i [ ]
  free_all S (cons x xs) t u e p n (v_item i) = free S false (place_of x) x t u.0 (none_left (check S [] false (place_of x) x t) (check_all S [] xs t) e) p n i
  free_all S (cons x xs) t u e p n (v_later_item i) = free_all S xs t u.1 (none_right (check S [] false (place_of x) x t) (check_all S [] xs t) e) p n i

  free_mems : (S : Schema) (ms : Mems) → Distinct (mem_names ms) → NoNameTwiceMems ms → AllHeard S ms → (p : ℕ) (n : Name) → VariableInMems p n ms → ⊥
  free_mems S end c u k p n i = elim i [ ]
  free_mems S (mem m x ms) c u k p n (v_member i) = let a = first_heard S m x ms k in free S (has_default a.0) (place_of x) x a.0.ty u.0 a.1 p n i
  free_mems S (mem m x ms) c u k p n (v_later_member i) = free_mems S ms c.1 u.1 (later_heard S m x ms c.0 k) p n i

pub silence_holds_no_variable : SilenceHoldsNoVariable
silence_holds_no_variable S d lone v t u e = free S d lone v t u e
