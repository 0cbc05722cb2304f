-- Input coercion of scalars and enums (sections 3.5 and 3.9), as a relation and as a function.
use Rattle.std.specs.Prelude.{◌≡◌, ℕ, Bool, true, cond, List, nat_lt}
use Rattle.std.proofs.Math.Option.{Option, none, some}
use Rattle.model.specs.Values.{Name, Form, json, literal, Dec, Scalar, boolean, whole, decimal, string, symbol, Def, int_d, float_d, string_d, boolean_d, id_d, enum_d, input_d, custom_d, output_d, Plain, p_boolean, p_whole, p_decimal, p_string, has}
use Rattle.model.specs.Numbers.{magnitude, in_int, is_safe, float_bound, is_finite, decimal_of}

-- a scalar as it is kept without a type: enum names as strings
abbrev pub plain : Scalar → Plain
plain (boolean b) = p_boolean b
plain (whole s) = p_whole s
plain (decimal d) = p_decimal d
plain (string s) = p_string s
plain (symbol s) = p_string s

-- a whole number is a Float: of JSON up to 2 ^ 53 - 1, of a literal below the bound
abbrev pub whole_is_float : Form → List ℕ → Bool
whole_is_float json s = is_safe s
whole_is_float literal s = nat_lt (magnitude s) float_bound

-- which scalars a type takes, by form, and what it keeps
pub data TakesScalar : Form → Def → Scalar → Plain → Type 0 where
  int_whole : {p : Form} {s : List ℕ} → in_int s ≡ true → TakesScalar p int_d (whole s) (p_whole s)
  float_decimal : {p : Form} {d : Dec} → is_finite d ≡ true → TakesScalar p float_d (decimal d) (p_decimal d)
  float_whole : {p : Form} {s : List ℕ} {d : Dec} → whole_is_float p s ≡ true → decimal_of s ≡ d → TakesScalar p float_d (whole s) (p_decimal d)
  string_string : {p : Form} {s : List ℕ} → TakesScalar p string_d (string s) (p_string s)
  boolean_boolean : {p : Form} {b : Bool} → TakesScalar p boolean_d (boolean b) (p_boolean b)
  id_string : {p : Form} {s : List ℕ} → TakesScalar p id_d (string s) (p_string s)
  id_whole : {p : Form} {s : List ℕ} → TakesScalar p id_d (whole s) (p_whole s)
  enum_json : {ns : List Name} {s : Name} → has ns s ≡ true → TakesScalar json (enum_d ns) (string s) (p_string s)
  enum_literal : {ns : List Name} {s : Name} → has ns s ≡ true → TakesScalar literal (enum_d ns) (symbol s) (p_string s)
  custom_any : {p : Form} {s : Scalar} {x : Plain} → plain s ≡ x → TakesScalar p custom_d s x

-- the same as a function
abbrev pub when : Bool → Plain → Option Plain
when b x = cond b (some x) none

abbrev pub as_int : Scalar → Option Plain
as_int (boolean b) = none
as_int (whole s) = when (in_int s) (p_whole s)
as_int (decimal d) = none
as_int (string s) = none
as_int (symbol s) = none

abbrev pub as_float : Form → Scalar → Option Plain
as_float p (boolean b) = none
as_float p (whole s) = when (whole_is_float p s) (p_decimal (decimal_of s))
as_float p (decimal d) = when (is_finite d) (p_decimal d)
as_float p (string s) = none
as_float p (symbol s) = none

abbrev pub as_string : Scalar → Option Plain
as_string (boolean b) = none
as_string (whole s) = none
as_string (decimal d) = none
as_string (string s) = some (p_string s)
as_string (symbol s) = none

abbrev pub as_boolean : Scalar → Option Plain
as_boolean (boolean b) = some (p_boolean b)
as_boolean (whole s) = none
as_boolean (decimal d) = none
as_boolean (string s) = none
as_boolean (symbol s) = none

abbrev pub as_id : Scalar → Option Plain
as_id (boolean b) = none
as_id (whole s) = some (p_whole s)
as_id (decimal d) = none
as_id (string s) = some (p_string s)
as_id (symbol s) = none

abbrev pub as_enum : List Name → Form → Scalar → Option Plain
as_enum ns p (boolean b) = none
as_enum ns p (whole s) = none
as_enum ns p (decimal d) = none
as_enum ns json (string s) = when (has ns s) (p_string s)
as_enum ns literal (string s) = none
as_enum ns json (symbol s) = none
as_enum ns literal (symbol s) = when (has ns s) (p_string s)

abbrev pub scalar_at : Form → Def → Scalar → Option Plain
scalar_at p int_d s = as_int s
scalar_at p float_d s = as_float p s
scalar_at p string_d s = as_string s
scalar_at p boolean_d s = as_boolean s
scalar_at p id_d s = as_id s
scalar_at p (enum_d ns) s = as_enum ns p s
scalar_at p (input_d fs) s = none
scalar_at p custom_d s = some (plain s)
scalar_at p output_d s = none
