-- The program's locations are those of the standard.
use Rattle.std.specs.Prelude.{◌≡◌, ℕ, List, Some, None, Option}
use mathlib.Core.Option.{none, some}
use Rattle.model.specs.Values as M
use Rattle.schema.specs.declared.location.Location.{Location}
use Rattle.schema.specs.declared.location.Location.TheVariants.{Query, Mutation, Subscription, Field, FragmentDefinition, FragmentSpread, InlineFragment, VariableDefinition, Schema, Scalar, Object, FieldDefinition, ArgumentDefinition, Interface, Union, Enum, EnumValue, InputObject, InputFieldDefinition}

abbrev pub location_of : Location → M.Location
location_of Query = M.at_query
location_of Mutation = M.at_mutation
location_of Subscription = M.at_subscription
location_of Field = M.at_field
location_of FragmentDefinition = M.at_fragment_definition
location_of FragmentSpread = M.at_fragment_spread
location_of InlineFragment = M.at_inline_fragment
location_of VariableDefinition = M.at_variable_definition
location_of Schema = M.at_schema
location_of Scalar = M.at_scalar
location_of Object = M.at_object
location_of FieldDefinition = M.at_field_definition
location_of ArgumentDefinition = M.at_argument_definition
location_of Interface = M.at_interface
location_of Union = M.at_union
location_of Enum = M.at_enum
location_of EnumValue = M.at_enum_value
location_of InputObject = M.at_input_object
location_of InputFieldDefinition = M.at_input_field_definition

-- the location of a name, or that there is none
abbrev pub NamedTold : mathlib.Core.Option.Option M.Location → Option Location → Type 0
NamedTold none None = Unit {0}
NamedTold none (Some l) = ⊥
NamedTold (some k) None = ⊥
NamedTold (some k) (Some l) = location_of l ≡ k

-- a row of the table, without references
abbrev pub row_of : denote.Ref.Bor (List ℕ) × Location → M.Name × M.Location
row_of r = (r.0.now, location_of r.1)
