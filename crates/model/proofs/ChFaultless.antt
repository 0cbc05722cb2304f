-- Nothing is found of a use exactly where it is without a fault.
use Rattle.std.proofs.Common.{◌≡◌, ℕ, Bool, true, false, cond, not, ◌&&◌, List, [], ◌∷◌, ◌++◌, refl, sym, ap, subst}
use mathlib.Core.Option.{Option, none, some}
use Rattle.std.proofs.lemmas.Bool.{both_ways, false_from_ne_true}
use Rattle.model.specs.Values.{Name, nullable, Field, Location, Directive, Schema, Argument, Use, Variable, same, has}
use Rattle.model.specs.Back.{Distinct}
use Rattle.model.specs.Checking.{FindingKind, unique_argument, unique_directive, unsupported_location, required_argument, is_value, has_default, check}
use Rattle.model.specs.Uses.{use_names, argument_names, directive_named, argument_named, value_given, located, of_each, of_each_after, found_if, check_repeated, check_value, check_argument, check_given, check_declared, check_directive, check_use, check_uses}
use Rattle.model.specs.UseLaws.{FaultlessUse, SilentIsFaultless}
use Rattle.model.proofs.CoNames.{same_true, has_head, has_later, has_none}
use Rattle.model.proofs.ChFound.{is_something, none_left, none_right, none_both}
use Rattle.model.proofs.ChRules.{is_none}
use Rattle.model.proofs.ChUsage.{default_means, means_default}
use Rattle.model.proofs.ChEach.{none_in, none_of, none_in_after, none_after}
use Rattle.model.proofs.ChUses.{located_means, means_located}

none_if : (b : Bool) (k : FindingKind) (p : ℕ) → found_if b k p ≡ [] → b ≡ false
none_if true k p e = is_something _ [] e
none_if false k p e = refl

if_none : (b : Bool) (k : FindingKind) (p : ℕ) → b ≡ false → found_if b k p ≡ []
if_none b k p e = rw e refl

-- ARGUMENTS GIVEN ONCE

abbrev NoneRepeated : List Argument → Type 0
NoneRepeated xs = (e : List Argument) (a : Argument) (r : List Argument) → xs ≡ e ++ (a ∷ r) → has (argument_names e) a.name ≡ false

-- where an argument of a name is
abbrev Placed : Name → List Argument → Type 0
Placed n xs = (e : List Argument) × (a : Argument) × (r : List Argument) × (xs ≡ e ++ (a ∷ r)) × (a.name ≡ n)

placed_at : (b : Bool) (a : Argument) (xs : List Argument) (n : Name) → (b ≡ true → a.name ≡ n) → cond b true (has (argument_names xs) n) ≡ true → (has (argument_names xs) n ≡ true → Placed n xs) → Placed n (a ∷ xs)
placed_at true a xs n h e k = ([], a, xs, refl, h refl)
placed_at false a xs n h e k = let w = k e in (a ∷ w.0, w.1, w.2, ap (λ zs. a ∷ zs) w.3, w.4)

placed : (xs : List Argument) (n : Name) → has (argument_names xs) n ≡ true → Placed n xs
placed [] n e = absurd (both_ways false refl e)
placed (a ∷ xs) n e = placed_at (same a.name n) a xs n (same_true a.name n) e (placed xs n)

name_in : (e : List Argument) (a : Argument) (r : List Argument) → has (argument_names (e ++ (a ∷ r))) a.name ≡ true
name_in [] a r = has_head a.name (argument_names r)
name_in (y ∷ e) a r = has_later y.name a.name (argument_names (e ++ (a ∷ r))) (name_in e a r)

once : (xs : List Argument) → NoneRepeated xs → Distinct (argument_names xs)
once [] h = tt
once (y ∷ xs) h = (
  false_from_ne_true (has (argument_names xs) y.name)
      (λ q. let w = placed xs y.name q in
      both_ways (has (argument_names (y ∷ w.0)) w.1.name) (h (y ∷ w.0) w.1 w.2 (ap (λ zs. y ∷ zs) w.3)) (subst (λ (n : Name). has (argument_names (y ∷ w.0)) n ≡ true) (sym w.4) (has_head y.name (argument_names w.0)))),
  once xs (λ e a r q. (has_none y.name a.name (argument_names e) (h (y ∷ e) a r (ap (λ zs. y ∷ zs) q))).1),
)

none_twice : (e : List Argument) (a : Argument) (r : List Argument) → Distinct (argument_names (e ++ (a ∷ r))) → has (argument_names e) a.name ≡ false
none_twice [] a r d = refl
none_twice (y ∷ e) a r d =
    let s : same y.name a.name ≡ false = false_from_ne_true (same y.name a.name)
    (λ q. both_ways (has (argument_names (e ++ (a ∷ r))) y.name) d.0 (subst (λ (n : Name). has (argument_names (e ++ (a ∷ r))) n ≡ true) (sym (same_true y.name a.name q)) (name_in e a r))) in
    subst (λ b. cond b true (has (argument_names e) a.name) ≡ false) (sym s) (none_twice e a r d.1)

none_repeated : (xs : List Argument) → Distinct (argument_names xs) → NoneRepeated xs
none_repeated xs d e a r q = none_twice e a r (subst (λ zs. Distinct (argument_names zs)) q d)

-- BOOLEANS

when_not : (b c : Bool) → not b && c ≡ false → b ≡ false → c ≡ false
when_not true c e h = absurd (both_ways true h refl)
when_not false c e h = e

not_when : (b c : Bool) → (b ≡ false → c ≡ false) → not b && c ≡ false
not_when true c h = refl
not_when false c h = h refl

is_so : (b : Bool) → not b ≡ false → b ≡ true
is_so true e = refl
is_so false e = absurd (both_ways true e refl)

so : (b : Bool) → b ≡ true → not b ≡ false
so b e = rw e refl

third : (n h v : Bool) → (not n && not h) && not v ≡ false → n ≡ false → h ≡ false → v ≡ true
third true h v e a b = absurd (both_ways true a refl)
third false true v e a b = absurd (both_ways true b refl)
third false false true e a b = refl
third false false false e a b = absurd (both_ways true e refl)

none_of_three : (n h v : Bool) → (n ≡ false → h ≡ false → v ≡ true) → (not n && not h) && not v ≡ false
none_of_three true h v k = refl
none_of_three false true v k = refl
none_of_three false false v k = rw (k refl refl) refl

-- ONE ARGUMENT, ONE DEFINITION

value_right : (S : Schema) (vs : List Variable) (a : Argument) (o : Option Field) → check_value S vs a o ≡ [] → (f : Field) × (o ≡ some f) × (check S vs (has_default f) a.place a.value f.ty ≡ [])
value_right S vs a none e = is_something _ [] e
value_right S vs a (some f) e = (f, refl, e)

no_default : (f : Field) → f.dflt ≡ none → has_default f ≡ false
no_default f e = rw e refl

module _ (S : Schema) (vs : List Variable) (before : List Use) (l : Location) (u : Use) where
  declared_faultless : of_each_after check_repeated [] u.arguments ≡ [] → (o : Option Directive) → directive_named S.directives u.name ≡ o → check_directive S vs before l u o ≡ [] → FaultlessUse S vs before l u
  declared_faultless a none q e = is_something _ [] e
  declared_faultless a (some D) q e =
      let parts = none_right (found_if (not D.repeatable && has (use_names before) u.name) unique_directive u.place) _ e in
      let later = none_right (found_if (not (located D.locations l)) unsupported_location u.place) _ parts in
      record {
        directive = D;
        declared = q;
        unique = when_not D.repeatable (has (use_names before) u.name) (none_if _ _ u.place (none_left (found_if (not D.repeatable && has (use_names before) u.name) unique_directive u.place) _ e));
        located = located_means D.locations l (is_so (located D.locations l) (none_if _ _ u.place (none_left (found_if (not (located D.locations l)) unsupported_location u.place) _ parts)));
        once = once u.arguments (λ e b r s. none_if (has (argument_names e) b.name) unique_argument b.place (none_in_after check_repeated [] e b r (subst (λ xs. of_each_after check_repeated [] xs ≡ []) s a)));
        right = λ b i. value_right S vs b (argument_named D.arguments b.name) (none_in (check_argument S vs D) i (none_left (of_each (check_argument S vs D) u.arguments) _ later));
        required = λ f i n h. default_means (value_given u.arguments f.name)
            (third (nullable f.ty) (has_default f) (is_value (value_given u.arguments f.name)) (none_if _ _ u.place (none_in (check_given u) i (none_right (of_each (check_argument S vs D) u.arguments) _ later))) n (no_default f h));
      }

  use_faultless : check_use S vs before l u ≡ [] → FaultlessUse S vs before l u
  use_faultless e =
      declared_faultless (none_left (of_each_after check_repeated [] u.arguments) _ e) (directive_named S.directives u.name) refl (none_right (of_each_after check_repeated [] u.arguments) _ e)

  argument_silent : (a : Argument) (o : Option Field) → (f : Field) × (o ≡ some f) × (check S vs (has_default f) a.place a.value f.ty ≡ []) → check_value S vs a o ≡ []
  argument_silent a o h = subst (λ p. check_value S vs a p ≡ []) (sym h.1) h.2

  declared_silent : (F : FaultlessUse S vs before l u) → check_declared S vs before l u F.directive ≡ []
  declared_silent F =
      none_both (found_if (not F.directive.repeatable && has (use_names before) u.name) unique_directive u.place) _
      (if_none _ unique_directive u.place (not_when F.directive.repeatable (has (use_names before) u.name) F.unique))
      (none_both (found_if (not (located F.directive.locations l)) unsupported_location u.place) _
      (if_none _ unsupported_location u.place (so (located F.directive.locations l) (means_located F.located)))
      (none_both (of_each (check_argument S vs F.directive) u.arguments) (of_each (check_given u) F.directive.arguments)
      (none_of (check_argument S vs F.directive) u.arguments (λ a i. argument_silent a (argument_named F.directive.arguments a.name) (F.right a i)))
      (none_of (check_given u) F.directive.arguments
      (λ f i. if_none _ required_argument u.place
      (none_of_three (nullable f.ty) (has_default f) (is_value (value_given u.arguments f.name)) (λ n h. means_default (value_given u.arguments f.name) (F.required f i n (is_none f.dflt h))))))))

  use_silent : FaultlessUse S vs before l u → check_use S vs before l u ≡ []
  use_silent F =
      none_both (of_each_after check_repeated [] u.arguments) (check_directive S vs before l u (directive_named S.directives u.name))
      (none_after check_repeated [] u.arguments (λ e a r q. if_none (has (argument_names e) a.name) unique_argument a.place (none_repeated u.arguments F.once e a r q)))
      (subst (λ o. check_directive S vs before l u o ≡ []) (sym F.declared) (declared_silent F))

pub silent_is_faultless : SilentIsFaultless
silent_is_faultless S vs l = (
  (λ before u. (use_faultless S vs before l u, use_silent S vs before l u)),
  (λ us. (
    λ e before u after q. use_faultless S vs before l u (none_in_after (λ b w. check_use S vs b l w) [] before u after (subst (λ ws. check_uses S vs l ws ≡ []) q e)),
    λ h. none_after (λ b w. check_use S vs b l w) [] us (λ e u r q. use_silent S vs e l u (h e u r q)),
  )),
)
