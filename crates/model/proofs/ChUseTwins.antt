-- Twins of uses have findings of the same kinds.
use Rattle.std.proofs.Common.{◌≡◌, ℕ, Bool, cond, not, ◌&&◌, List, [], ◌∷◌, ◌++◌, refl, ap, subst}
use mathlib.Core.Option.{Option, none, some}
use Rattle.model.specs.Values.{Name, Field, Location, Directive, Schema, Argument, Use, Variable, same, has}
use Rattle.model.specs.Checking.{FindingKind, unique_argument, unique_directive, unsupported_location, required_argument, found, is_value, has_default}
use Rattle.model.specs.Twins.{Twin}
use Rattle.model.specs.Uses.{use_names, argument_names, directive_named, argument_named, value_given, located, of_each, of_each_after, found_if, check_repeated, check_value, check_argument, is_required, check_given, check_directive, check_use}
use Rattle.model.specs.UseLaws.{TwinArguments, TwinUses, TwinUsesFindAlike}
use Rattle.model.proofs.CoTwins.{TwinSlot, no_value, slot_cond}
use Rattle.model.proofs.ChTwins.{Alike, alike_append, alike_cond, is_value_alike, twins_find_alike}

if_alike : (b c : Bool) (k : FindingKind) (p q : ℕ) → b ≡ c → Alike (found_if b k p) (found_if c k q)
if_alike b c k p q e = rw e (alike_cond c (found k p) (found k q) [] [] refl refl)

-- ARGUMENTS

names_after : (xs ys : List Argument) → argument_names (xs ++ ys) ≡ argument_names xs ++ argument_names ys
names_after [] ys = refl
names_after (a ∷ xs) ys = ap (λ ns. a.name ∷ ns) (names_after xs ys)

more_names : (b c : List Argument) (x y : Argument) → argument_names b ≡ argument_names c → x.name ≡ y.name → argument_names (b ++ (x ∷ [])) ≡ argument_names (c ++ (y ∷ []))
more_names b c x y e n = rw (names_after b (x ∷ []), names_after c (y ∷ []), e, n) refl

repeated_alike : (b c xs ys : List Argument) → argument_names b ≡ argument_names c → TwinArguments xs ys → Alike (of_each_after check_repeated b xs) (of_each_after check_repeated c ys)
repeated_alike b c [] [] e w = refl
repeated_alike b c [] (y ∷ ys) e w = absurd w
repeated_alike b c (x ∷ xs) [] e w = absurd w
repeated_alike b c (x ∷ xs) (y ∷ ys) e w =
    alike_append (check_repeated b x) (check_repeated c y) (of_each_after check_repeated (b ++ (x ∷ [])) xs) (of_each_after check_repeated (c ++ (y ∷ [])) ys)
    (if_alike (has (argument_names b) x.name) (has (argument_names c) y.name) unique_argument x.place y.place (rw (e, w.0) refl))
    (repeated_alike (b ++ (x ∷ [])) (c ++ (y ∷ [])) xs ys (more_names b c x y e w.0) w.2)

value_alike : (S : Schema) (vs : List Variable) (x y : Argument) (o : Option Field) → Twin x.value y.value → Alike (check_value S vs x o) (check_value S vs y o)
value_alike S vs x y none w = refl
value_alike S vs x y (some f) w = twins_find_alike S vs (has_default f) x.place y.place x.value y.value w f.ty

argument_alike : (S : Schema) (vs : List Variable) (D : Directive) (x y : Argument) → x.name ≡ y.name → Twin x.value y.value → Alike (check_argument S vs D x) (check_argument S vs D y)
argument_alike S vs D x y e w =
    subst (λ (n : Name). Alike (check_argument S vs D x) (check_value S vs y (argument_named D.arguments n))) e (value_alike S vs x y (argument_named D.arguments x.name) w)

arguments_alike : (S : Schema) (vs : List Variable) (D : Directive) (xs ys : List Argument) → TwinArguments xs ys → Alike (of_each (check_argument S vs D) xs) (of_each (check_argument S vs D) ys)
arguments_alike S vs D [] [] w = refl
arguments_alike S vs D [] (y ∷ ys) w = absurd w
arguments_alike S vs D (x ∷ xs) [] w = absurd w
arguments_alike S vs D (x ∷ xs) (y ∷ ys) w =
    alike_append (check_argument S vs D x) (check_argument S vs D y) (of_each (check_argument S vs D) xs) (of_each (check_argument S vs D) ys) (argument_alike S vs D x y w.0 w.1) (arguments_alike S vs D xs ys w.2)

given_slot : (xs ys : List Argument) → TwinArguments xs ys → (n : Name) → TwinSlot (value_given xs n) (value_given ys n)
given_slot [] [] w n = no_value
given_slot [] (y ∷ ys) w n = absurd w
given_slot (x ∷ xs) [] w n = absurd w
given_slot (x ∷ xs) (y ∷ ys) w n =
    subst (λ (j : Name). TwinSlot (value_given (x ∷ xs) n) (cond (same j n) (some y.value) (value_given ys n))) w.0 (slot_cond (same x.name n) w.1 (given_slot xs ys w.2 n))

-- USES

abbrev TwinUse : Use → Use → Type 0
TwinUse u w = (u.name ≡ w.name) × TwinArguments u.arguments w.arguments

given_alike : (u w : Use) → TwinUse u w → (fs : List Field) → Alike (of_each (check_given u) fs) (of_each (check_given w) fs)
given_alike u w t [] = refl
given_alike u w t (f ∷ fs) =
    alike_append (check_given u f) (check_given w f) (of_each (check_given u) fs) (of_each (check_given w) fs)
    (if_alike (is_required f && not (is_value (value_given u.arguments f.name))) (is_required f && not (is_value (value_given w.arguments f.name))) required_argument u.place w.place
    (rw (is_value_alike (given_slot u.arguments w.arguments t.1 f.name)) refl))
    (given_alike u w t fs)

names_until : (us ws : List Use) → use_names (us ++ ws) ≡ use_names us ++ use_names ws
names_until [] ws = refl
names_until (u ∷ us) ws = ap (λ ns. u.name ∷ ns) (names_until us ws)

more_uses : (b c : List Use) (u w : Use) → use_names b ≡ use_names c → u.name ≡ w.name → use_names (b ++ (u ∷ [])) ≡ use_names (c ++ (w ∷ []))
more_uses b c u w e n = rw (names_until b (u ∷ []), names_until c (w ∷ []), e, n) refl

module _ (S : Schema) (vs : List Variable) (l : Location) where
  directive_alike : (b c : List Use) (u w : Use) → use_names b ≡ use_names c → TwinUse u w → (o : Option Directive) → Alike (check_directive S vs b l u o) (check_directive S vs c l w o)
  directive_alike b c u w e t none = refl
  directive_alike b c u w e t (some D) =
      alike_append (found_if (not D.repeatable && has (use_names b) u.name) unique_directive u.place) (found_if (not D.repeatable && has (use_names c) w.name) unique_directive w.place) _ _
      (if_alike (not D.repeatable && has (use_names b) u.name) (not D.repeatable && has (use_names c) w.name) unique_directive u.place w.place (rw (e, t.0) refl))
      (alike_append (found_if (not (located D.locations l)) unsupported_location u.place) (found_if (not (located D.locations l)) unsupported_location w.place) _ _
      (if_alike (not (located D.locations l)) (not (located D.locations l)) unsupported_location u.place w.place refl)
      (alike_append (of_each (check_argument S vs D) u.arguments) (of_each (check_argument S vs D) w.arguments) (of_each (check_given u) D.arguments) (of_each (check_given w) D.arguments)
      (arguments_alike S vs D u.arguments w.arguments t.1) (given_alike u w t D.arguments)))

  use_alike : (b c : List Use) (u w : Use) → use_names b ≡ use_names c → TwinUse u w → Alike (check_use S vs b l u) (check_use S vs c l w)
  use_alike b c u w e t =
      alike_append (of_each_after check_repeated [] u.arguments) (of_each_after check_repeated [] w.arguments) (check_directive S vs b l u (directive_named S.directives u.name)) (check_directive S vs c l w (directive_named S.directives w.name))
      (repeated_alike [] [] u.arguments w.arguments refl t.1)
      (subst (λ (n : Name). Alike (check_directive S vs b l u (directive_named S.directives u.name)) (check_directive S vs c l w (directive_named S.directives n))) t.0
      (directive_alike b c u w e t (directive_named S.directives u.name)))

  uses_alike : (b c us ws : List Use) → use_names b ≡ use_names c → TwinUses us ws → Alike (of_each_after (λ e u. check_use S vs e l u) b us) (of_each_after (λ e u. check_use S vs e l u) c ws)
  uses_alike b c [] [] e t = refl
  uses_alike b c [] (w ∷ ws) e t = absurd t
  uses_alike b c (u ∷ us) [] e t = absurd t
  uses_alike b c (u ∷ us) (w ∷ ws) e t =
      alike_append (check_use S vs b l u) (check_use S vs c l w) _ _ (use_alike b c u w e (t.0, t.1)) (uses_alike (b ++ (u ∷ [])) (c ++ (w ∷ [])) us ws (more_uses b c u w e t.0) t.2)

pub twin_uses_find_alike : TwinUsesFindAlike
twin_uses_find_alike S vs l us ws t = uses_alike S vs l [] [] us ws refl t
