-- the function on scalars says what the relation says
use Rattle.std.proofs.Common.{◌≡◌, Bool, true, false, List, refl, ap, subst}
use mathlib.Core.Option.{Option, none, some}
use Rattle.std.proofs.lemmas.Bool.{cond-true}
use Rattle.model.specs.Values.{Name, Form, json, literal, Scalar, boolean, whole, decimal, string, symbol, Def, int_d, float_d, string_d, boolean_d, id_d, enum_d, input_d, custom_d, output_d, Plain, p_whole, p_decimal, p_string, has}
use Rattle.model.specs.Numbers.{in_int, is_finite, decimal_of}
use Rattle.model.specs.Scalars.{whole_is_float, TakesScalar, int_whole, float_decimal, float_whole, string_string, boolean_boolean, id_string, id_whole, enum_json, enum_literal, custom_any, when, as_int, as_float, as_string, as_boolean, as_id, as_enum, scalar_at}
use Rattle.model.specs.Laws.{ScalarsExactly}

-- P of what is there
abbrev pub There : (Plain → Type 0) → Option Plain → Type 0
There P none = Unit {0}
There P (some x) = P x

when_there : (P : Plain → Type 0) (b : Bool) (x : Plain) → (b ≡ true → P x) → There P (when b x)
when_there P true x h = h refl
when_there P false x h = tt

there_int : (p : Form) (s : Scalar) → There (TakesScalar p int_d s) (as_int s)
there_int p (boolean b) = tt
there_int p (whole s) = when_there (TakesScalar p int_d (whole s)) (in_int s) (p_whole s) (λ e. int_whole e)
there_int p (decimal d) = tt
there_int p (string s) = tt
there_int p (symbol s) = tt

there_float : (p : Form) (s : Scalar) → There (TakesScalar p float_d s) (as_float p s)
there_float p (boolean b) = tt
there_float p (whole s) = when_there (TakesScalar p float_d (whole s)) (whole_is_float p s) (p_decimal (decimal_of s)) (λ e. float_whole e refl)
there_float p (decimal d) = when_there (TakesScalar p float_d (decimal d)) (is_finite d) (p_decimal d) (λ e. float_decimal e)
there_float p (string s) = tt
there_float p (symbol s) = tt

there_string : (p : Form) (s : Scalar) → There (TakesScalar p string_d s) (as_string s)
there_string p (boolean b) = tt
there_string p (whole s) = tt
there_string p (decimal d) = tt
there_string p (string s) = string_string
there_string p (symbol s) = tt

there_boolean : (p : Form) (s : Scalar) → There (TakesScalar p boolean_d s) (as_boolean s)
there_boolean p (boolean b) = boolean_boolean
there_boolean p (whole s) = tt
there_boolean p (decimal d) = tt
there_boolean p (string s) = tt
there_boolean p (symbol s) = tt

there_id : (p : Form) (s : Scalar) → There (TakesScalar p id_d s) (as_id s)
there_id p (boolean b) = tt
there_id p (whole s) = id_whole
there_id p (decimal d) = tt
there_id p (string s) = id_string
there_id p (symbol s) = tt

there_enum : (ns : List Name) (p : Form) (s : Scalar) → There (TakesScalar p (enum_d ns) s) (as_enum ns p s)
there_enum ns p (boolean b) = tt
there_enum ns p (whole s) = tt
there_enum ns p (decimal d) = tt
there_enum ns json (string s) = when_there (TakesScalar json (enum_d ns) (string s)) (has ns s) (p_string s) (λ e. enum_json e)
there_enum ns literal (string s) = tt
there_enum ns json (symbol s) = tt
there_enum ns literal (symbol s) = when_there (TakesScalar literal (enum_d ns) (symbol s)) (has ns s) (p_string s) (λ e. enum_literal e)

pub scalar_there : (p : Form) (D : Def) (s : Scalar) → There (TakesScalar p D s) (scalar_at p D s)
scalar_there p int_d s = there_int p s
scalar_there p float_d s = there_float p s
scalar_there p string_d s = there_string p s
scalar_there p boolean_d s = there_boolean p s
scalar_there p id_d s = there_id p s
scalar_there p (enum_d ns) s = there_enum ns p s
scalar_there p (input_d fs) s = tt
scalar_there p custom_d s = custom_any refl
scalar_there p output_d s = tt

pub scalar_takes : (p : Form) (D : Def) (s : Scalar) (x : Plain) → scalar_at p D s ≡ some x → TakesScalar p D s x
scalar_takes p D s x e = subst (There (TakesScalar p D s)) e (scalar_there p D s)

when_true : (b : Bool) (x : Plain) → b ≡ true → when b x ≡ some x
when_true b x e = cond-true b (some x) none e

pub scalar_taken : {p : Form} {D : Def} {s : Scalar} {x : Plain} → TakesScalar p D s x → scalar_at p D s ≡ some x
scalar_taken (int_whole {s = s} e) = when_true (in_int s) (p_whole s) e
scalar_taken (float_decimal {d = d} e) = when_true (is_finite d) (p_decimal d) e
scalar_taken {p} (float_whole {s = s} e f) = subst (λ d. when (whole_is_float p s) (p_decimal (decimal_of s)) ≡ some (p_decimal d)) f (when_true (whole_is_float p s) (p_decimal (decimal_of s)) e)
scalar_taken string_string = refl
scalar_taken boolean_boolean = refl
scalar_taken id_string = refl
scalar_taken id_whole = refl
scalar_taken (enum_json {ns = ns} {s = s} e) = when_true (has ns s) (p_string s) e
scalar_taken (enum_literal {ns = ns} {s = s} e) = when_true (has ns s) (p_string s) e
scalar_taken (custom_any e) = ap some e

pub scalars_exactly : ScalarsExactly
scalars_exactly p D s x = (scalar_takes p D s x, λ t. scalar_taken t)
