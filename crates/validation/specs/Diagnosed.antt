-- Diagnostics as findings, and the list that counts all and keeps the first that fit.
use Rattle.std.specs.Prelude.{◌≡◌, ℕ, zero, suc, ◌+◌, ◌-◌, ◌^◌, min, map, List, [], ◌∷◌, length}
use Rattle.model.specs.Checking.{FindingKind, disallowed_variable_usage, unsupported_value_type, int_coercion_error, float_coercion_error, undefined_variable, undefined_enum_value, undefined_input_value, required_field, Finding}
use Rattle.validation.specs.declared.diagnostic.DiagnosticKind.{DiagnosticKind}
use Rattle.validation.specs.declared.diagnostic.DiagnosticKind.TheVariants.{DisallowedVariableUsage, UnsupportedValueType, IntCoercionError, FloatCoercionError, UndefinedVariable, UndefinedEnumValue, UndefinedInputValue, RequiredField}
use Rattle.validation.specs.declared.diagnostic.Diagnostic.{Diagnostic}
use Rattle.validation.specs.declared.diagnostics.Diagnostics.{Diagnostics}

abbrev pub kind_of : DiagnosticKind → FindingKind
kind_of DisallowedVariableUsage = disallowed_variable_usage
kind_of UnsupportedValueType = unsupported_value_type
kind_of IntCoercionError = int_coercion_error
kind_of FloatCoercionError = float_coercion_error
kind_of UndefinedVariable = undefined_variable
kind_of UndefinedEnumValue = undefined_enum_value
kind_of UndefinedInputValue = undefined_input_value
kind_of RequiredField = required_field

abbrev pub finding_of : Diagnostic → Finding
finding_of d = record { kind = kind_of d.kind; place = d.place }

abbrev pub findings : List Diagnostic → List Finding
findings ds = map finding_of ds

-- a place that has n findings already, after more: those that fit are in it, and past them it is as it was
abbrev pub filled : List Finding → ℕ → List Finding → List Finding
filled [] n fs = []
filled (p ∷ ps) n [] = p ∷ ps
filled (p ∷ ps) zero (f ∷ fs) = f ∷ filled ps zero fs
filled (p ∷ ps) (suc n) (f ∷ fs) = p ∷ filled ps n (f ∷ fs)

-- exactly these were found, in this order, by what made old new; the count stays at the greatest number that it can hold
pub record Noted (old new : Diagnostics) (found : List Finding) : Type 0 where
  pub same : new.place.ghost_name ≡ old.place.ghost_name
  pub place : findings new.place.now ≡ filled (findings old.place.now) old.total found
  pub total : new.total ≡ min (old.total + length found) (2 ^ 64 - 1)
