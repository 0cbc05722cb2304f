-- What is found of a use comes in turn, and what is found of later uses comes after it.
use Rattle.std.proofs.Common.{◌≡◌, ℕ, ◌≤◌, Bool, not, ◌&&◌, List, [], ◌∷◌, ◌++◌, refl, arith}
use mathlib.Core.Option.{Option, none, some}
use Rattle.model.specs.Values.{Scalar, Raw, Ty, Field, Def, Location, Directive, Schema, Argument, Use, Variable, has}
use Rattle.model.specs.Checking.{FindingKind, unique_argument, unique_directive, unsupported_location, required_argument, Finding, has_default}
use Rattle.model.specs.Rules.{Uncoercible, past_int, whole_past_float, past_float, no_enum_value, of_another_kind, Misplaced, null_misplaced, scalar_misplaced, list_misplaced, object_misplaced, Breaks, values_of_correct_type, input_object_field_names, input_object_required_fields, all_variable_uses_defined, all_inner_uses_defined, all_variable_usages_are_allowed, Broken, by_itself, by_item, by_member}
use Rattle.model.specs.Uses.{use_names, directive_named, argument_named, located, of_each, of_each_after, found_if, check_repeated, check_value, check_argument, check_given, check_directive, check_use}
use Rattle.model.specs.UseLaws.{turn, InTurn, FoundInTurn}
use Rattle.model.proofs.ChFound.{Each}
use Rattle.model.proofs.ChRules.{told}
use Rattle.model.proofs.ChEach.{each_of, each_after, after_append}
use Rattle.model.proofs.ChUses.{each_if}

-- the literal check has its turn
uncoercible_turn : {D : Def} {s : Scalar} {k : FindingKind} → Uncoercible D s k → turn k ≡ 3
uncoercible_turn (past_int e) = refl
uncoercible_turn (whole_past_float e) = refl
uncoercible_turn (past_float e) = refl
uncoercible_turn (no_enum_value e) = refl
uncoercible_turn (of_another_kind h) = refl

misplaced_turn : {S : Schema} {t : Ty} {v : Raw} {k : FindingKind} → Misplaced S t v k → turn k ≡ 3
misplaced_turn (null_misplaced e) = refl
misplaced_turn (scalar_misplaced u) = uncoercible_turn u
misplaced_turn (list_misplaced h) = refl
misplaced_turn (object_misplaced h i) = refl

breaks_turn : {S : Schema} {vs : List Variable} {k : FindingKind} {p : ℕ} {d : Bool} {lone : ℕ} {v : Raw} {t : Ty} → Breaks S vs k p d lone v t → turn k ≡ 3
breaks_turn (values_of_correct_type m e) = misplaced_turn m
breaks_turn (input_object_field_names e u) = refl
breaks_turn (input_object_required_fields f e i n h l) = refl
breaks_turn (all_variable_uses_defined e) = refl
breaks_turn (all_inner_uses_defined c i e) = refl
breaks_turn (all_variable_usages_are_allowed v e h) = refl

broken_turn : {S : Schema} {vs : List Variable} {k : FindingKind} {p : ℕ} {d : Bool} {lone : ℕ} {v : Raw} {t : Ty} → Broken S vs k p d lone v t → turn k ≡ 3
broken_turn (by_itself b) = breaks_turn b
broken_turn (by_item x i b) = broken_turn b
broken_turn (by_member f x e i m b) = broken_turn b

-- findings of one turn
abbrev AtTurn : ℕ → FindingKind → ℕ → Type 0
AtTurn c k p = turn k ≡ c

sooner : (m c : ℕ) (fs : List Finding) → m ≤ c → InTurn c fs → InTurn m fs
sooner m c [] h i = tt
sooner m c (f ∷ fs) h i = let j = i.0 in (omega arith, i.1)

at_turn : (m c : ℕ) (fs : List Finding) → m ≤ c → Each (AtTurn c) fs → InTurn m fs
at_turn m c [] h e = tt
at_turn m c (f ∷ fs) h e = let j = e.0 in (omega arith, at_turn (turn f.kind) c fs (omega arith) e.1)

then_turn : (m c : ℕ) (fs gs : List Finding) → m ≤ c → Each (AtTurn c) fs → InTurn c gs → InTurn m (fs ++ gs)
then_turn m c [] gs h e i = sooner m c gs h i
then_turn m c (f ∷ fs) gs h e i = let j = e.0 in (omega arith, then_turn (turn f.kind) c fs gs (omega arith) e.1 i)

module _ (S : Schema) (vs : List Variable) (before : List Use) (l : Location) (u : Use) where
  value_turn : (a : Argument) (o : Option Field) → Each (AtTurn 3) (check_value S vs a o)
  value_turn a none = (refl, tt)
  value_turn a (some f) = told S vs (has_default f) a.place a.value f.ty (AtTurn 3) (λ k p b. broken_turn b)

  directive_turn : (o : Option Directive) → InTurn 0 (check_directive S vs before l u o)
  directive_turn none = (omega arith, tt)
  directive_turn (some D) =
      then_turn 0 1 (found_if (not D.repeatable && has (use_names before) u.name) unique_directive u.place) _ (omega arith) (each_if (AtTurn 1) _ unique_directive u.place (λ e. refl))
      (then_turn 1 2 (found_if (not (located D.locations l)) unsupported_location u.place) _ (omega arith) (each_if (AtTurn 2) _ unsupported_location u.place (λ e. refl))
      (then_turn 2 3 (of_each (check_argument S vs D) u.arguments) _ (omega arith) (each_of (AtTurn 3) (check_argument S vs D) u.arguments (λ a i. value_turn a (argument_named D.arguments a.name)))
      (at_turn 3 4 (of_each (check_given u) D.arguments) (omega arith) (each_of (AtTurn 4) (check_given u) D.arguments (λ f i. each_if (AtTurn 4) _ required_argument u.place (λ e. refl))))))

  use_turn : InTurn 0 (check_use S vs before l u)
  use_turn =
      then_turn 0 0 (of_each_after check_repeated [] u.arguments) _ (omega arith) (each_after (AtTurn 0) check_repeated [] u.arguments (λ e a r q. each_if (AtTurn 0) _ unique_argument a.place (λ h. refl)))
      (directive_turn (directive_named S.directives u.name))

pub found_in_turn : FoundInTurn
found_in_turn S vs l = ((λ before u. use_turn S vs before l u), (λ us ws. after_append (λ before u. check_use S vs before l u) [] us ws))
