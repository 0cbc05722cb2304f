-- Of a use of a directive, a finding is told exactly where the rule of its kind is broken.
use Rattle.std.proofs.Common.{◌≡◌, ℕ, Bool, true, false, cond, not, ◌&&◌, List, [], ◌∷◌, ◌++◌, inl, refl, sym, ap, subst, get_or}
use mathlib.Core.Option.{Option, none, some}
use Rattle.std.proofs.lemmas.Bool.{both_ways, eqb-true, eq-eqb, false_from_ne_true}
use Rattle.model.specs.Values.{Name, Raw, null, nullable, Field, Location, at_query, at_mutation, at_subscription, at_field, at_fragment_definition, at_fragment_spread, at_inline_fragment, at_variable_definition, at_schema, at_scalar, at_object, at_field_definition, at_argument_definition, at_interface, at_union, at_enum, at_enum_value, at_input_object, at_input_field_definition, Directive, Schema, Argument, Use, Variable, same, has}
use Rattle.model.specs.Checking.{FindingKind, unique_argument, unique_directive, undefined_directive, unsupported_location, undefined_argument, required_argument, Finding, In, is_value, has_default}
use Rattle.model.specs.Rules.{Among, the_first, a_later, Broken}
use Rattle.model.specs.Uses.{use_names, argument_names, directive_named, argument_named, value_given, location_number, located, of_each, of_each_after, found_if, check_repeated, check_value, check_argument, is_required, check_given, check_declared, check_directive, check_use, check_uses}
use Rattle.model.specs.UseRules.{Withheld, not_given, given_as_null, UseBreaks, argument_is_defined, argument_is_unique, required_argument_is_given, directive_is_defined, directive_is_in_valid_location, directive_is_unique_per_location, value_is_right, UsesBreak, by_use}
use Rattle.model.specs.UseLaws.{UsesFindTheBroken}
use Rattle.model.proofs.CoNames.{same_refl, same_true, has_none}
use Rattle.model.proofs.ChFound.{Each, each_append, each_in, in_left, in_right}
use Rattle.model.proofs.ChRules.{Told, finding, told, broken_in, is_none}
use Rattle.model.proofs.ChEach.{each_of, in_each, each_after, in_after}

-- LOCATIONS

abbrev locations : List Location
locations = at_query ∷ at_mutation ∷ at_subscription ∷ at_field ∷ at_fragment_definition ∷ at_fragment_spread ∷ at_inline_fragment ∷ at_variable_definition ∷ at_schema ∷ at_scalar ∷ at_object ∷ at_field_definition ∷ at_argument_definition ∷ at_interface ∷ at_union ∷ at_enum ∷ at_enum_value ∷ at_input_object ∷ at_input_field_definition ∷ []

abbrev location_at : ℕ → Location
location_at n = get_or locations n at_query

back : (l : Location) → location_at (location_number l) ≡ l
back at_query = refl
back at_mutation = refl
back at_subscription = refl
back at_field = refl
back at_fragment_definition = refl
back at_fragment_spread = refl
back at_inline_fragment = refl
back at_variable_definition = refl
back at_schema = refl
back at_scalar = refl
back at_object = refl
back at_field_definition = refl
back at_argument_definition = refl
back at_interface = refl
back at_union = refl
back at_enum = refl
back at_enum_value = refl
back at_input_object = refl
back at_input_field_definition = refl

same_location : (k l : Location) → location_number k ≡ location_number l → k ≡ l
same_location k l e = let a = back k in let b = back l in let c = ap location_at e in cc

located_head : (k l : Location) (ks : List Location) (b : Bool) → (b ≡ true → k ≡ l) → (located ks l ≡ true → Among l ks) → cond b true (located ks l) ≡ true → Among l (k ∷ ks)
located_head k l ks true h i e = subst (λ j. Among l (j ∷ ks)) (sym (h refl)) the_first
located_head k l ks false h i e = a_later (i e)

pub located_means : (ks : List Location) (l : Location) → located ks l ≡ true → Among l ks
located_means [] l e = absurd (both_ways false refl e)
located_means (k ∷ ks) l e = located_head k l ks _ (λ q. same_location k l (eqb-true (location_number k) (location_number l) q)) (located_means ks l) e

later_located : (b c : Bool) → c ≡ true → cond b true c ≡ true
later_located true c e = refl
later_located false c e = e

pub means_located : {l : Location} {ks : List Location} → Among l ks → located ks l ≡ true
means_located {l} the_first = rw (eq-eqb (location_number l) (location_number l) refl) refl
means_located (a_later i) = later_located _ _ (means_located i)

-- THE VALUE GIVEN FIRST

-- the value of a name, if any, is that of the first argument of this name
data GivenFirst (n : Name) (xs : List Argument) (x : Raw) : Type 0 where
  given_first : (a : Argument) (earlier later : List Argument) → xs ≡ earlier ++ (a ∷ later) → has (argument_names earlier) n ≡ false → a.name ≡ n → a.value ≡ x → GivenFirst n xs x

abbrev First : Name → List Argument → Option Raw → Type 0
First n xs none = has (argument_names xs) n ≡ false
First n xs (some x) = GivenFirst n xs x

first_later : (a : Argument) (n : Name) (xs : List Argument) → same a.name n ≡ false → (o : Option Raw) → First n xs o → First n (a ∷ xs) o
first_later a n xs e none h = rw e h
first_later a n xs e (some x) (given_first b earlier later q h i v) = given_first b (a ∷ earlier) later (ap (λ zs. a ∷ zs) q) (rw e h) i v

first_head : (a : Argument) (n : Name) (xs : List Argument) (b : Bool) → same a.name n ≡ b → First n xs (value_given xs n) → First n (a ∷ xs) (cond b (some a.value) (value_given xs n))
first_head a n xs true e h = given_first a [] xs refl refl (same_true a.name n e) refl
first_head a n xs false e h = first_later a n xs e (value_given xs n) h

first : (xs : List Argument) (n : Name) → First n xs (value_given xs n)
first [] n = refl
first (a ∷ xs) n = first_head a n xs (same a.name n) refl (first xs n)

no_value : (xs : List Argument) (n : Name) → has (argument_names xs) n ≡ false → value_given xs n ≡ none
no_value [] n h = refl
no_value (a ∷ xs) n h = let w = has_none a.name n (argument_names xs) h in rw w.0 (no_value xs n w.1)

value_first : (e : List Argument) (a : Argument) (r : List Argument) → has (argument_names e) a.name ≡ false → value_given (e ++ (a ∷ r)) a.name ≡ some a.value
value_first [] a r h = rw (same_refl a.name) refl
value_first (y ∷ e) a r h = let w = has_none y.name a.name (argument_names e) h in rw w.0 (value_first e a r w.1)

lacking_is_withheld : (n : Name) (xs : List Argument) (o : Option Raw) → First n xs o → is_value o ≡ false → Withheld n xs
lacking_is_withheld n xs none h k = not_given h
lacking_is_withheld n xs (some (null at)) (given_first a e r q h i v) k = given_as_null a e r at q h i v
lacking_is_withheld n xs (some x) h k = absurd (both_ways true k refl)

withheld_is_lacking : (n : Name) (xs : List Argument) → Withheld n xs → is_value (value_given xs n) ≡ false
withheld_is_lacking n xs (not_given h) = rw (no_value xs n h) refl
withheld_is_lacking n xs (given_as_null a e r at q h i v) =
    let w = value_first e a r (subst (λ (m : Name). has (argument_names e) m ≡ false) (sym i) h) in
    subst (λ zs. is_value (value_given zs n) ≡ false) (sym q) (subst (λ (m : Name). is_value (value_given (e ++ (a ∷ r)) m) ≡ false) i (rw (w, v) refl))

-- WHAT IS TOLD IS BROKEN

pub each_if : (P : Told) (b : Bool) (k : FindingKind) (p : ℕ) → (b ≡ true → P k p) → Each P (found_if b k p)
each_if P true k p h = (h refl, tt)
each_if P false k p h = tt

not_and : (b c : Bool) → not b && c ≡ true → (b ≡ false) × (c ≡ true)
not_and true c e = absurd (both_ways false refl e)
not_and false c e = (refl, e)

is_not : (b : Bool) → not b ≡ true → b ≡ false
is_not true e = absurd (both_ways false refl e)
is_not false e = refl

three_parts : (n h v : Bool) → (not n && not h) && not v ≡ true → (n ≡ false) × (h ≡ false) × (v ≡ false)
three_parts true h v e = absurd (both_ways false refl e)
three_parts false true v e = absurd (both_ways false refl e)
three_parts false false true e = absurd (both_ways false refl e)
three_parts false false false e = (refl, refl, refl)

value_told : (S : Schema) (vs : List Variable) (P : Told) (a : Argument) (o : Option Field) → (o ≡ none → P undefined_argument a.place)
    → ((f : Field) → o ≡ some f → (k : FindingKind) (p : ℕ) → Broken S vs k p (has_default f) a.place a.value f.ty → P k p) → Each P (check_value S vs a o)
value_told S vs P a none h c = (h refl, tt)
value_told S vs P a (some f) h c = told S vs (has_default f) a.place a.value f.ty P (c f refl)

module _ (S : Schema) (vs : List Variable) (before : List Use) (l : Location) (u : Use) where
  abbrev AllTold : Told → Type 0
  AllTold P = (k : FindingKind) (p : ℕ) → UseBreaks S vs before l u p k → P k p

  declared_told : (P : Told) → AllTold P → (D : Directive) → directive_named S.directives u.name ≡ some D → Each P (check_declared S vs before l u D)
  declared_told P c D q =
      each_append P (found_if (not D.repeatable && has (use_names before) u.name) unique_directive u.place) _
      (each_if P (not D.repeatable && has (use_names before) u.name) unique_directive u.place
      (λ e. let w = not_and D.repeatable (has (use_names before) u.name) e in c unique_directive u.place (directive_is_unique_per_location D q w.0 w.1 refl)))
      (each_append P (found_if (not (located D.locations l)) unsupported_location u.place) _
      (each_if P (not (located D.locations l)) unsupported_location u.place
      (λ e. c unsupported_location u.place (directive_is_in_valid_location D q (λ i. both_ways (located D.locations l) (is_not (located D.locations l) e) (means_located i)) refl)))
      (each_append P (of_each (check_argument S vs D) u.arguments) _
      (each_of P (check_argument S vs D) u.arguments
      (λ a i. value_told S vs P a (argument_named D.arguments a.name) (λ e. c undefined_argument a.place (argument_is_defined D a q i e refl)) (λ f e k p b. c k p (value_is_right D a f q i e b))))
      (each_of P (check_given u) D.arguments
      (λ f i. each_if P (is_required f && not (is_value (value_given u.arguments f.name))) required_argument u.place
      (λ e. let w = three_parts (nullable f.ty) (has_default f) (is_value (value_given u.arguments f.name)) e in
      c required_argument u.place (required_argument_is_given D f q i w.0 (is_none f.dflt w.1) (lacking_is_withheld f.name u.arguments (value_given u.arguments f.name) (first u.arguments f.name) w.2) refl))))))

  directive_told : (P : Told) → AllTold P → (o : Option Directive) → directive_named S.directives u.name ≡ o → Each P (check_directive S vs before l u o)
  directive_told P c none q = (c undefined_directive u.place (directive_is_defined q refl), tt)
  directive_told P c (some D) q = declared_told P c D q

  use_told : (P : Told) → AllTold P → Each P (check_use S vs before l u)
  use_told P c =
      each_append P (of_each_after check_repeated [] u.arguments) (check_directive S vs before l u (directive_named S.directives u.name))
      (each_after P check_repeated [] u.arguments
      (λ e a r q. each_if P (has (argument_names e) a.name) unique_argument a.place (λ h. c unique_argument a.place (argument_is_unique a e r q h refl))))
      (directive_told P c (directive_named S.directives u.name) refl)

  -- WHAT IS BROKEN IS TOLD

  abbrev arguments_found : List Finding
  arguments_found = of_each_after check_repeated [] u.arguments

  abbrev directive_found : List Finding
  directive_found = check_directive S vs before l u (directive_named S.directives u.name)

  in_directive : (z : Finding) (D : Directive) → directive_named S.directives u.name ≡ some D → In z (check_declared S vs before l u D) → In z (check_use S vs before l u)
  in_directive z D q i = in_right z arguments_found directive_found (rw q i)

  in_unique : (z : Finding) (D : Directive) → In z (found_if (not D.repeatable && has (use_names before) u.name) unique_directive u.place) → In z (check_declared S vs before l u D)
  in_unique z D i = in_left z (found_if (not D.repeatable && has (use_names before) u.name) unique_directive u.place) _ i

  in_location : (z : Finding) (D : Directive) → In z (found_if (not (located D.locations l)) unsupported_location u.place) → In z (check_declared S vs before l u D)
  in_location z D i =
      in_right z (found_if (not D.repeatable && has (use_names before) u.name) unique_directive u.place) _
      (in_left z (found_if (not (located D.locations l)) unsupported_location u.place) _ i)

  in_arguments : (z : Finding) (D : Directive) → In z (of_each (check_argument S vs D) u.arguments) → In z (check_declared S vs before l u D)
  in_arguments z D i =
      in_right z (found_if (not D.repeatable && has (use_names before) u.name) unique_directive u.place) _
      (in_right z (found_if (not (located D.locations l)) unsupported_location u.place) _
      (in_left z (of_each (check_argument S vs D) u.arguments) _ i))

  in_given : (z : Finding) (D : Directive) → In z (of_each (check_given u) D.arguments) → In z (check_declared S vs before l u D)
  in_given z D i =
      in_right z (found_if (not D.repeatable && has (use_names before) u.name) unique_directive u.place) _
      (in_right z (found_if (not (located D.locations l)) unsupported_location u.place) _
      (in_right z (of_each (check_argument S vs D) u.arguments) _ i))

  given_in : (f : Field) → nullable f.ty ≡ false → f.dflt ≡ none → Withheld f.name u.arguments → In (finding required_argument u.place) (check_given u f)
  given_in f n h w = rw (n, h, withheld_is_lacking f.name u.arguments w) (inl refl)

  breaks_told : (p : ℕ) {k : FindingKind} → UseBreaks S vs before l u p k → In (finding k p) (check_use S vs before l u)
  breaks_told p (argument_is_defined D a q i e at) =
      in_directive (finding undefined_argument p) D q (in_arguments (finding undefined_argument p) D (in_each (finding undefined_argument p) (check_argument S vs D) i (rw (e, at) (inl refl))))
  breaks_told p (argument_is_unique a e r q h at) =
      in_left (finding unique_argument p) arguments_found directive_found
      (subst (λ xs. In (finding unique_argument p) (of_each_after check_repeated [] xs)) (sym q) (in_after (finding unique_argument p) check_repeated [] e a r (rw (h, at) (inl refl))))
  breaks_told p (required_argument_is_given D f q i n h w at) =
      in_directive (finding required_argument p) D q (in_given (finding required_argument p) D (in_each (finding required_argument p) (check_given u) i (subst (λ j. In (finding required_argument j) (check_given u f)) at (given_in f n h w))))
  breaks_told p (directive_is_defined q at) = in_right (finding undefined_directive p) arguments_found directive_found (rw (q, at) (inl refl))
  breaks_told p (directive_is_in_valid_location D q n at) =
      in_directive (finding unsupported_location p) D q
      (in_location (finding unsupported_location p) D (rw (false_from_ne_true (located D.locations l) (λ e. n (located_means D.locations l e)), at) (inl refl)))
  breaks_told p (directive_is_unique_per_location D q r h at) = in_directive (finding unique_directive p) D q (in_unique (finding unique_directive p) D (rw (r, h, at) (inl refl)))
  breaks_told p {k} (value_is_right D a f q i e b) =
      in_directive (finding k p) D q (in_arguments (finding k p) D (in_each (finding k p) (check_argument S vs D) i (rw e (broken_in S vs b))))

-- THE USES AT A LOCATION

abbrev use_after : Schema → List Variable → Location → List Use → Use → List Finding
use_after S vs l before u = check_use S vs before l u

uses_told : (S : Schema) (vs : List Variable) (l : Location) (us : List Use) → Each (λ k p. UsesBreak S vs l us p k) (check_uses S vs l us)
uses_told S vs l us = each_after (λ k p. UsesBreak S vs l us p k) (use_after S vs l) [] us (λ e u r q. use_told S vs e l u (λ k p. UsesBreak S vs l us p k) (λ k p b. by_use e u r q b))

uses_in : (S : Schema) (vs : List Variable) (l : Location) (us : List Use) (p : ℕ) (k : FindingKind) → UsesBreak S vs l us p k → In (finding k p) (check_uses S vs l us)
uses_in S vs l us p k (by_use e u r q b) = subst (λ ws. In (finding k p) (check_uses S vs l ws)) (sym q) (in_after (finding k p) (use_after S vs l) [] e u r (breaks_told S vs e l u p b))

pub uses_find_the_broken : UsesFindTheBroken
uses_find_the_broken S vs l f = (
  (λ before u. (λ i. each_in (λ k p. UseBreaks S vs before l u p k) (check_use S vs before l u) f (use_told S vs before l u (λ k p. UseBreaks S vs before l u p k) (λ k p b. b)) i, λ b. breaks_told S vs before l u f.place b)),
  (λ us. (λ i. each_in (λ k p. UsesBreak S vs l us p k) (check_uses S vs l us) f (uses_told S vs l us) i, λ b. uses_in S vs l us f.place f.kind b)),
)
