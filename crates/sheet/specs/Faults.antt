-- Refused requests: what each case tells.
use Rattle.std.specs.Prelude.{ℕ, Some, None, Option}
use Rattle.schema.specs.declared.layer.Layer.{Layer}
use Rattle.schema.specs.declared.layer.Layer.TheVariants.{Request as RequestLayer}
use Rattle.coercion.specs.declared.fault.Spot.{Spot}
use Rattle.coercion.specs.Faults.{number_of as value_number, layer_of as value_layer, spot_of as value_spot}
use Rattle.sheet.specs.declared.fault.RequestFault.{RequestFault}
use Rattle.sheet.specs.declared.fault.RequestFault.TheVariants.{Value, MissingVariable, NoMemory}

-- the number of a refusal; a refused value keeps its own, and want of memory is none and has no number
abbrev pub number_of : RequestFault → Option ℕ
number_of (Value f) = value_number f
number_of (MissingVariable p v) = Some 10
number_of NoMemory = None

-- the layer that refuses
abbrev pub layer_of : RequestFault → Layer
layer_of (Value f) = value_layer f
layer_of (MissingVariable p v) = RequestLayer
layer_of NoMemory = RequestLayer

-- where the fault lies
abbrev pub spot_of : RequestFault → Spot
spot_of (Value f) = value_spot f
spot_of (MissingVariable p v) = record { place = p; variable = Some v; field = None }
spot_of NoMemory = record { place = 0; variable = None; field = None }
