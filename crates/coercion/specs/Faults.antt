-- Refused values: what each case tells.
use Rattle.std.specs.Prelude.{ℕ, Some, None, Option}
use Rattle.schema.specs.declared.layer.Layer.{Layer}
use Rattle.schema.specs.declared.layer.Layer.TheVariants.{Text as TextLayer, Value as ValueLayer}
use Rattle.text.specs.Faults.{number_of as text_number, place_of as text_place}
use Rattle.coercion.specs.declared.fault.Spot.{Spot}
use Rattle.coercion.specs.declared.fault.ValueFault.{ValueFault}
use Rattle.coercion.specs.declared.fault.ValueFault.TheVariants.{Text, TooDeep, NoSpace, NullValue, WrongValue, UnknownKey, MissingField, ScalarRefused, VariableInValue}

-- the number of a refusal; a fault of a text keeps its own
abbrev pub number_of : ValueFault → Option ℕ
number_of (Text f) = text_number f
number_of (TooDeep s) = Some 2
number_of (NoSpace s) = Some 3
number_of (NullValue s) = Some 11
number_of (WrongValue s) = Some 12
number_of (UnknownKey s) = Some 13
number_of (MissingField s) = Some 14
number_of (ScalarRefused s) = Some 15
number_of (VariableInValue s) = Some 17

-- the layer that refuses: the reader of a text, or the walk of a value
abbrev pub layer_of : ValueFault → Layer
layer_of (Text f) = TextLayer
layer_of (TooDeep s) = ValueLayer
layer_of (NoSpace s) = ValueLayer
layer_of (NullValue s) = ValueLayer
layer_of (WrongValue s) = ValueLayer
layer_of (UnknownKey s) = ValueLayer
layer_of (MissingField s) = ValueLayer
layer_of (ScalarRefused s) = ValueLayer
layer_of (VariableInValue s) = ValueLayer

-- where a fault lies; a fault of a text lies at no declaration
abbrev pub spot_of : ValueFault → Spot
spot_of (Text f) = record { place = text_place f; variable = None; field = None }
spot_of (TooDeep s) = s
spot_of (NoSpace s) = s
spot_of (NullValue s) = s
spot_of (WrongValue s) = s
spot_of (UnknownKey s) = s
spot_of (MissingField s) = s
spot_of (ScalarRefused s) = s
spot_of (VariableInValue s) = s
