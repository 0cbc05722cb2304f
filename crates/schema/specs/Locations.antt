-- DirectiveLocation (section 3.13): the places of a schema and of an operation where a directive may stand.
use Rattle.std.specs.Prelude.{ℕ, Bool, true, false, cond, List, [], ◌∷◌, codes, ◌==◌}
use Rattle.std.proofs.Math.Option.{Option, none, some}
use Rattle.model.specs.Values.{Name, same, Location, at_query, at_mutation, at_subscription, at_field, at_fragment_definition, at_fragment_spread, at_inline_fragment, at_variable_definition, at_schema, at_scalar, at_object, at_field_definition, at_argument_definition, at_interface, at_union, at_enum, at_enum_value, at_input_object, at_input_field_definition}

-- ExecutableDirectiveLocation and TypeSystemDirectiveLocation, as they are spelled
abbrev pub location_names : List (Name × Location)
location_names =
    (codes "QUERY", at_query)
    ∷ (codes "MUTATION", at_mutation)
    ∷ (codes "SUBSCRIPTION", at_subscription)
    ∷ (codes "FIELD", at_field)
    ∷ (codes "FRAGMENT_DEFINITION", at_fragment_definition)
    ∷ (codes "FRAGMENT_SPREAD", at_fragment_spread)
    ∷ (codes "INLINE_FRAGMENT", at_inline_fragment)
    ∷ (codes "VARIABLE_DEFINITION", at_variable_definition)
    ∷ (codes "SCHEMA", at_schema)
    ∷ (codes "SCALAR", at_scalar)
    ∷ (codes "OBJECT", at_object)
    ∷ (codes "FIELD_DEFINITION", at_field_definition)
    ∷ (codes "ARGUMENT_DEFINITION", at_argument_definition)
    ∷ (codes "INTERFACE", at_interface)
    ∷ (codes "UNION", at_union)
    ∷ (codes "ENUM", at_enum)
    ∷ (codes "ENUM_VALUE", at_enum_value)
    ∷ (codes "INPUT_OBJECT", at_input_object)
    ∷ (codes "INPUT_FIELD_DEFINITION", at_input_field_definition)
    ∷ []

-- what a name is in a table
abbrev pub in_table : {X : Type 0} → List (Name × X) → Name → Option X
in_table [] w = none
in_table (r ∷ rs) w = cond (same r.0 w) (some r.1) (in_table rs w)

abbrev pub location_called : Name → Option Location
location_called = in_table location_names

-- where a place stands in that table, counted from 0
abbrev pub location_number : Location → ℕ
location_number at_query = 0
location_number at_mutation = 1
location_number at_subscription = 2
location_number at_field = 3
location_number at_fragment_definition = 4
location_number at_fragment_spread = 5
location_number at_inline_fragment = 6
location_number at_variable_definition = 7
location_number at_schema = 8
location_number at_scalar = 9
location_number at_object = 10
location_number at_field_definition = 11
location_number at_argument_definition = 12
location_number at_interface = 13
location_number at_union = 14
location_number at_enum = 15
location_number at_enum_value = 16
location_number at_input_object = 17
location_number at_input_field_definition = 18

-- whether the place with that number is among the places
abbrev pub location_in : List Location → ℕ → Bool
location_in [] i = false
location_in (l ∷ ls) i = cond (location_number l == i) true (location_in ls i)
