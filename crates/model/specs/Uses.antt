-- What is found wrong with the uses of directives at a location, in order (sections 5.4 and 5.7).
use Rattle.std.specs.Prelude.{ℕ, Bool, true, false, cond, not, ◌&&◌, List, [], ◌∷◌, ◌++◌, length, take, ◌==◌}
use Rattle.std.proofs.Math.Option.{Option, none, some}
use Rattle.model.specs.Values.{Name, Raw, nullable, Field, Location, at_query, at_mutation, at_subscription, at_field, at_fragment_definition, at_fragment_spread, at_inline_fragment, at_variable_definition, at_schema, at_scalar, at_object, at_field_definition, at_argument_definition, at_interface, at_union, at_enum, at_enum_value, at_input_object, at_input_field_definition, Directive, Schema, Argument, Use, Variable, same, has}
use Rattle.model.specs.Checking.{FindingKind, unique_argument, unique_directive, undefined_directive, unsupported_location, undefined_argument, required_argument, Finding, found, is_value, has_default, check}

-- WHAT IS LOOKED UP

abbrev pub use_names : List Use → List Name
use_names [] = []
use_names (u ∷ us) = u.name ∷ use_names us

abbrev pub argument_names : List Argument → List Name
argument_names [] = []
argument_names (a ∷ xs) = a.name ∷ argument_names xs

-- the directive of a name
abbrev pub directive_named : List Directive → Name → Option Directive
directive_named [] n = none
directive_named (d ∷ ds) n = cond (same d.name n) (some d) (directive_named ds n)

-- the argument of a name in a directive's definition
abbrev pub argument_named : List Field → Name → Option Field
argument_named [] n = none
argument_named (f ∷ fs) n = cond (same f.name n) (some f) (argument_named fs n)

-- the value that a use gives an argument first
abbrev pub value_given : List Argument → Name → Option Raw
value_given [] n = none
value_given (a ∷ xs) n = cond (same a.name n) (some a.value) (value_given xs n)

abbrev pub location_number : Location → ℕ
location_number at_query = 0
location_number at_mutation = 1
location_number at_subscription = 2
location_number at_field = 3
location_number at_fragment_definition = 4
location_number at_fragment_spread = 5
location_number at_inline_fragment = 6
location_number at_variable_definition = 7
location_number at_schema = 8
location_number at_scalar = 9
location_number at_object = 10
location_number at_field_definition = 11
location_number at_argument_definition = 12
location_number at_interface = 13
location_number at_union = 14
location_number at_enum = 15
location_number at_enum_value = 16
location_number at_input_object = 17
location_number at_input_field_definition = 18

-- whether a location is among those of a directive
abbrev pub located : List Location → Location → Bool
located [] l = false
located (k ∷ ks) l = cond (location_number k == location_number l) true (located ks l)

-- THE CHECK

-- what g finds in each, one after another
abbrev pub of_each : {X : Type 0} → (X → List Finding) → List X → List Finding
of_each g [] = []
of_each g (x ∷ xs) = g x ++ of_each g xs

-- what g finds in each, which stands after those before it
abbrev pub of_each_after : {X : Type 0} → (List X → X → List Finding) → List X → List X → List Finding
of_each_after g before [] = []
of_each_after g before (x ∷ xs) = g before x ++ of_each_after g (before ++ (x ∷ [])) xs

abbrev pub found_if : Bool → FindingKind → ℕ → List Finding
found_if b k at = cond b (found k at) []

-- an argument whose name came before in the same use
abbrev pub check_repeated : List Argument → Argument → List Finding
check_repeated before a = found_if (has (argument_names before) a.name) unique_argument a.place

-- an argument as its directive defines it, if it does: its value is checked at its type
abbrev pub check_value : Schema → List Variable → Argument → Option Field → List Finding
check_value S vs a none = found undefined_argument a.place
check_value S vs a (some f) = check S vs (has_default f) a.place a.value f.ty

abbrev pub check_argument : Schema → List Variable → Directive → Argument → List Finding
check_argument S vs D a = check_value S vs a (argument_named D.arguments a.name)

-- an argument that is non-null and without a default is given, and not as null
abbrev pub is_required : Field → Bool
is_required f = not (nullable f.ty) && not (has_default f)

abbrev pub check_given : Use → Field → List Finding
check_given u f = found_if (is_required f && not (is_value (value_given u.arguments f.name))) required_argument u.place

-- a use after those before it at the location, where its directive is declared
abbrev pub check_declared : Schema → List Variable → List Use → Location → Use → Directive → List Finding
check_declared S vs before l u D =
    found_if (not D.repeatable && has (use_names before) u.name) unique_directive u.place
    ++ (found_if (not (located D.locations l)) unsupported_location u.place
    ++ (of_each (check_argument S vs D) u.arguments
    ++ of_each (check_given u) D.arguments))

-- nothing more is said of a use whose directive is not declared
abbrev pub check_directive : Schema → List Variable → List Use → Location → Use → Option Directive → List Finding
check_directive S vs before l u none = found undefined_directive u.place
check_directive S vs before l u (some D) = check_declared S vs before l u D

-- a use after those before it at the location
abbrev pub check_use : Schema → List Variable → List Use → Location → Use → List Finding
check_use S vs before l u = of_each_after check_repeated [] u.arguments ++ check_directive S vs before l u (directive_named S.directives u.name)

-- the uses at a location, one after another
abbrev pub check_uses : Schema → List Variable → Location → List Use → List Finding
check_uses S vs l us = of_each_after (λ before u. check_use S vs before l u) [] us

-- the answer counts all that is found, and a list of n places keeps the first
abbrev pub total : Schema → List Variable → Location → List Use → ℕ
total S vs l us = length (check_uses S vs l us)

abbrev pub kept : ℕ → Schema → List Variable → Location → List Use → List Finding
kept n S vs l us = take n (check_uses S vs l us)
