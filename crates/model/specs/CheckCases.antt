-- Worked cases of the literal check, computed from the definition.
use Rattle.std.specs.Prelude.{◌≡◌, ℕ, Bool, true, false, List, [], ◌∷◌, codes}
use Rattle.std.proofs.Math.Option.{none, some}
use Rattle.model.specs.Values.{Name, whole, string, symbol, Raw, null, scalar, variable, list, object, nil, cons, end, mem, Ty, named, list_of, Field, enum_d, input_d, custom_d, Schema, Variable}
use Rattle.model.specs.Checking.{FindingKind, unsupported_value_type, int_coercion_error, disallowed_variable_usage, undefined_variable, undefined_enum_value, undefined_input_value, required_field, Finding, check}

-- a case: a literal at a type, where the location has a default or none, and what is found
pub record Checked : Type 0 where
  pub has_default : Bool
  pub value : Raw
  pub ty : Ty
  pub finds : List Finding

-- enum E {ONE}, scalar Any, input A {a: Int!, b: [Int!]! = 1, e: E}
abbrev pub int : Bool → Ty
int b = named b (codes "Int")

abbrev one : Raw
one = scalar 90 (whole (codes "1"))

abbrev pub field : Name → Ty → Field
field n t = record { name = n; ty = t; dflt = none }

abbrev schema : Schema
schema =
    record {
      types =
          record { name = codes "E"; def = enum_d (codes "ONE" ∷ []) }
          ∷ record { name = codes "Any"; def = custom_d }
          ∷ record { name = codes "A"; def = input_d (field (codes "a") (int false) ∷ record { name = codes "b"; ty = list_of false (int false); dflt = some one } ∷ field (codes "e") (named true (codes "E")) ∷ []) }
          ∷ [];
      directives = [];
    }

-- ($i: Int, $d: Int = 1, $n: Int = null, $s: [Int!]!)
abbrev variables : List Variable
variables =
    record { field = field (codes "i") (int true); place = 0 }
    ∷ record { field = record { name = codes "d"; ty = int true; dflt = some one }; place = 0 }
    ∷ record { field = record { name = codes "n"; ty = int true; dflt = some (null 80) }; place = 0 }
    ∷ record { field = field (codes "s") (list_of false (int false)); place = 0 }
    ∷ []

abbrev at_a : Raw → List Finding → Checked
at_a v fs = record { has_default = false; value = v; ty = named true (codes "A"); finds = fs }

abbrev at_e : Raw → List Finding → Checked
at_e v fs = record { has_default = false; value = v; ty = named true (codes "E"); finds = fs }

-- a variable at Int!
abbrev at_int : Bool → Name → List Finding → Checked
at_int d n fs = record { has_default = d; value = variable 0 n; ty = int false; finds = fs }

abbrev pub told : FindingKind → ℕ → List Finding → List Finding
told k at fs = record { kind = k; place = at } ∷ fs

abbrev checked : List Checked
checked =
    -- {}, {a: null}, {x: 2, a: 2147483648}, {a: $i, b: [$s]}, {a: 1, b: $s} at A
    at_a (object 0 end) (told required_field 0 [])
    ∷ at_a (object 0 (mem (codes "a") (null 4) end)) (told required_field 0 (told unsupported_value_type 4 []))
    ∷ at_a (object 0 (mem (codes "x") (scalar 4 (whole (codes "2"))) (mem (codes "a") (scalar 10 (whole (codes "2147483648"))) end))) (told undefined_input_value 4 (told int_coercion_error 10 []))
    ∷ at_a (object 0 (mem (codes "a") (variable 4 (codes "i")) (mem (codes "b") (list 11 (cons (variable 12 (codes "s")) nil)) end))) (told disallowed_variable_usage 4 (told disallowed_variable_usage 12 []))
    ∷ at_a (object 0 (mem (codes "a") (scalar 4 (whole (codes "1"))) (mem (codes "b") (variable 10 (codes "s")) end))) []
    -- "ONE" and TWO at E
    ∷ at_e (scalar 0 (string (codes "ONE"))) (told unsupported_value_type 0 [])
    ∷ at_e (scalar 0 (symbol (codes "TWO"))) (told undefined_enum_value 0 [])
    -- $i, $d and $n at Int!, and $i where the location has a default
    ∷ at_int false (codes "i") (told disallowed_variable_usage 7 [])
    ∷ at_int false (codes "d") []
    ∷ at_int false (codes "n") (told disallowed_variable_usage 7 [])
    ∷ at_int true (codes "i") []
    -- [1, null, "1"] at [Int!]
    ∷ record {
      has_default = false;
      value = list 0 (cons (scalar 1 (whole (codes "1"))) (cons (null 4) (cons (scalar 10 (string (codes "1"))) nil)));
      ty = list_of true (int false);
      finds = told unsupported_value_type 4 (told unsupported_value_type 10 []);
    }
    -- [$i, {a: [$x]}] at Any
    ∷ record {
      has_default = false;
      value = list 0 (cons (variable 1 (codes "i")) (cons (object 5 (mem (codes "a") (list 9 (cons (variable 10 (codes "x")) nil)) end)) nil));
      ty = named true (codes "Any");
      finds = told undefined_variable 10 [];
    }
    ∷ []

-- each case finds what it says; a variable that is the value as a whole is told at 7
abbrev Holds : List Checked → Type 0
Holds [] = Unit {0}
Holds (c ∷ cs) = (check schema variables c.has_default 7 c.value c.ty ≡ c.finds) × Holds cs

abbrev pub CheckedCases : Type 0
CheckedCases = Holds checked
