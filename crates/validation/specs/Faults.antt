-- Refused schemas and operations: what each case tells.
use Rattle.std.specs.Prelude.{ℕ, Some, Option}
use Rattle.schema.specs.declared.layer.Layer.{Layer}
use Rattle.schema.specs.declared.layer.Layer.TheVariants.{Text as TextLayer, Schema as SchemaLayer}
use Rattle.text.specs.Faults.{number_of as text_number, place_of as text_place}
use Rattle.validation.specs.declared.fault.MakeFault.{MakeFault}
use Rattle.validation.specs.declared.fault.MakeFault.TheVariants.{Text, UnknownType, NotInput, BadDefault, DefaultCycle}

-- the number of a refusal; a fault of the text keeps its own
abbrev pub number_of : MakeFault → Option ℕ
number_of (Text f) = text_number f
number_of (UnknownType k) = Some 6
number_of (NotInput k) = Some 7
number_of (BadDefault k) = Some 8
number_of (DefaultCycle k) = Some 9

-- the layer that refuses
abbrev pub layer_of : MakeFault → Layer
layer_of (Text f) = TextLayer
layer_of (UnknownType k) = SchemaLayer
layer_of (NotInput k) = SchemaLayer
layer_of (BadDefault k) = SchemaLayer
layer_of (DefaultCycle k) = SchemaLayer

-- where in the text the fault lies
abbrev pub place_of : MakeFault → ℕ
place_of (Text f) = text_place f
place_of (UnknownType k) = k
place_of (NotInput k) = k
place_of (BadDefault k) = k
place_of (DefaultCycle k) = k
