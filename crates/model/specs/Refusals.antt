-- Refusals: what each case of an answer carries.
use Rattle.std.specs.Prelude.{ℕ, Bool, true, cond}
use Rattle.std.proofs.Math.Option.{Option, some}
use Rattle.model.specs.Values.{Name}

pub data Cause : Type 0 where
  bad_text : Cause
  too_deep : Cause
  no_space : Cause
  repeated_name : Cause
  long_number : Cause
  unknown_type : Cause
  not_input : Cause
  bad_default : Cause
  default_cycle : Cause
  missing_variable : Cause
  null_value : Cause
  wrong_value : Cause
  unknown_key : Cause
  missing_field : Cause
  scalar_refused : Cause
  undeclared : Cause
  variable_in_value : Cause
  null_at_use : Cause
  not_clean : Cause

abbrev pub number_of : Cause → ℕ
number_of bad_text = 1
number_of too_deep = 2
number_of no_space = 3
number_of repeated_name = 4
number_of long_number = 5
number_of unknown_type = 6
number_of not_input = 7
number_of bad_default = 8
number_of default_cycle = 9
number_of missing_variable = 10
number_of null_value = 11
number_of wrong_value = 12
number_of unknown_key = 13
number_of missing_field = 14
number_of scalar_refused = 15
number_of undeclared = 16
number_of variable_in_value = 17
number_of null_at_use = 18
number_of not_clean = 19

-- who refuses: a reader or one of the first two tests of a making, or anything later
pub data Stage : Type 0 where
  reading : Stage
  later : Stage

pub data Layer : Type 0 where
  text_layer : Layer
  schema_layer : Layer
  value_layer : Layer
  request_layer : Layer

abbrev pub later_layer : Cause → Layer
later_layer bad_text = value_layer
later_layer too_deep = value_layer
later_layer no_space = value_layer
later_layer repeated_name = value_layer
later_layer long_number = value_layer
later_layer unknown_type = schema_layer
later_layer not_input = schema_layer
later_layer bad_default = schema_layer
later_layer default_cycle = schema_layer
later_layer missing_variable = request_layer
later_layer null_value = value_layer
later_layer wrong_value = value_layer
later_layer unknown_key = value_layer
later_layer missing_field = value_layer
later_layer scalar_refused = value_layer
later_layer undeclared = request_layer
later_layer variable_in_value = value_layer
later_layer null_at_use = request_layer
later_layer not_clean = request_layer

abbrev pub layer_of : Stage → Cause → Layer
layer_of reading c = text_layer
layer_of later c = later_layer c

-- a refusal: its cause, its place, and the variable and the input field that it concerns, if any
pub record Refusal : Type 0 where
  pub cause : Cause
  pub place : ℕ
  pub variable : Option Name
  pub field : Option Name

-- an outcome; `beyond` only where defaults nest more deeply than a bound allows
pub data Out (X : Type 0) : Type 0 where
  ok : X → Out X
  refused : Refusal → Out X
  beyond : Out X

abbrev pub and_then : {X Y : Type 0} → Out X → (X → Out Y) → Out Y
and_then (ok x) f = f x
and_then (refused f) g = refused f
and_then beyond f = beyond

-- where coercion is: the variable, the innermost field, and whether inside a default, whose values have no place
pub record Here : Type 0 where
  pub variable : Option Name
  pub field : Option Name
  pub in_default : Bool

-- the refusal of the value at a place
abbrev pub refuse : {X : Type 0} → Here → Cause → ℕ → Out X
refuse h c at = refused (record { cause = c; place = cond h.in_default 0 at; variable = h.variable; field = h.field })

abbrev pub in_field : Name → Here → Here
in_field n h = record { variable = h.variable; field = some n; in_default = h.in_default }

abbrev pub as_default : Here → Here
as_default h = record { variable = h.variable; field = h.field; in_default = true }
