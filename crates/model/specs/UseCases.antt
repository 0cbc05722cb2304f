-- Worked cases of the check of directive uses, computed from the definition.
use Rattle.std.specs.Prelude.{◌≡◌, ℕ, ◌+◌, Bool, true, false, List, [], ◌∷◌, codes}
use Rattle.std.proofs.Math.Option.{some}
use Rattle.model.specs.Values.{Name, whole, string, Raw, null, scalar, variable, list, nil, cons, list_of, Field, Location, at_query, at_mutation, at_field, Directive, Schema, Argument, Use, Variable}
use Rattle.model.specs.Checking.{unique_argument, unique_directive, undefined_directive, unsupported_location, disallowed_variable_usage, undefined_argument, required_argument, unsupported_value_type, int_coercion_error, undefined_variable, Finding}
use Rattle.model.specs.CheckCases.{int, field, told}
use Rattle.model.specs.Uses.{check_uses, total, kept}

-- a case: uses at a location, and what is found
pub record Checked : Type 0 where
  pub location : Location
  pub uses : List Use
  pub finds : List Finding

abbrev checked : Location → List Use → List Finding → Checked
checked l us fs = record { location = l; uses = us; finds = fs }

abbrev used : ℕ → Name → List Argument → Use
used at n xs = record { name = n; place = at; arguments = xs }

abbrev argument : ℕ → Name → Raw → Argument
argument at n x = record { name = n; place = at; value = x }

-- x: 1 and x: $i
abbrev number : ℕ → Name → List ℕ → Argument
number at n s = argument at n (scalar (at + 3) (whole s))

abbrev dollar : ℕ → Name → Name → Argument
dollar at n m = argument at n (variable (at + 3) m)

abbrev directive : Name → List Field → List Location → Bool → Directive
directive n fs ls r = record { name = n; arguments = fs; locations = ls; repeatable = r }

-- @one(a: Int!, b: Int! = 1, c: [Int!]) on QUERY | FIELD, @two(a: Int!, b: Int!) on FIELD, @many(x: Int) repeatable on FIELD
abbrev schema : Schema
schema =
    record {
      types = [];
      directives =
          directive (codes "one")
          (field (codes "a") (int false) ∷ record { name = codes "b"; ty = int false; dflt = some (scalar 90 (whole (codes "1"))) } ∷ field (codes "c") (list_of true (int false)) ∷ [])
          (at_query ∷ at_field ∷ []) false
          ∷ directive (codes "two") (field (codes "a") (int false) ∷ field (codes "b") (int false) ∷ []) (at_field ∷ []) false
          ∷ directive (codes "many") (field (codes "x") (int true) ∷ []) (at_field ∷ []) true
          ∷ [];
    }

-- ($i: Int)
abbrev variables : List Variable
variables = record { field = field (codes "i") (int true); place = 0 } ∷ []

abbrev cases : List Checked
cases =
    -- @one(a: 1) @many(x: 1) @many
    checked at_field (used 0 (codes "one") (number 5 (codes "a") (codes "1") ∷ []) ∷ used 11 (codes "many") (number 17 (codes "x") (codes "1") ∷ []) ∷ used 23 (codes "many") [] ∷ []) []
    -- @many(x: 1, x: 2)
    ∷ checked at_field (used 0 (codes "many") (number 6 (codes "x") (codes "1") ∷ number 12 (codes "x") (codes "2") ∷ []) ∷ []) (told unique_argument 12 [])
    -- @one(a: 1) @one(a: 2)
    ∷ checked at_query (used 0 (codes "one") (number 5 (codes "a") (codes "1") ∷ []) ∷ used 11 (codes "one") (number 16 (codes "a") (codes "2") ∷ []) ∷ []) (told unique_directive 11 [])
    -- @none
    ∷ checked at_field (used 0 (codes "none") [] ∷ []) (told undefined_directive 0 [])
    -- @many
    ∷ checked at_query (used 0 (codes "many") [] ∷ []) (told unsupported_location 0 [])
    -- @one(a: $i)
    ∷ checked at_field (used 0 (codes "one") (dollar 5 (codes "a") (codes "i") ∷ []) ∷ []) (told disallowed_variable_usage 5 [])
    -- @one(a: 1, b: $i)
    ∷ checked at_field (used 0 (codes "one") (number 5 (codes "a") (codes "1") ∷ dollar 11 (codes "b") (codes "i") ∷ []) ∷ []) []
    -- @one(a: 1, c: [$i])
    ∷ checked at_field (used 0 (codes "one") (number 5 (codes "a") (codes "1") ∷ argument 11 (codes "c") (list 14 (cons (variable 15 (codes "i")) nil)) ∷ []) ∷ []) (told disallowed_variable_usage 15 [])
    -- @many(y: [2147483648])
    ∷ checked at_field (used 0 (codes "many") (argument 6 (codes "y") (list 9 (cons (scalar 10 (whole (codes "2147483648"))) nil)) ∷ []) ∷ []) (told undefined_argument 6 [])
    -- @two
    ∷ checked at_field (used 0 (codes "two") [] ∷ []) (told required_argument 0 (told required_argument 0 []))
    -- @two(a: 2147483648)
    ∷ checked at_field (used 0 (codes "two") (number 5 (codes "a") (codes "2147483648") ∷ []) ∷ []) (told int_coercion_error 8 (told required_argument 0 []))
    -- @one(a: null)
    ∷ checked at_field (used 0 (codes "one") (argument 5 (codes "a") (null 8) ∷ []) ∷ []) (told unsupported_value_type 8 (told required_argument 0 []))
    -- @one(a: 1, b: null)
    ∷ checked at_field (used 0 (codes "one") (number 5 (codes "a") (codes "1") ∷ argument 11 (codes "b") (null 14) ∷ []) ∷ []) (told unsupported_value_type 14 [])
    -- @one(a: null, a: 1)
    ∷ checked at_field (used 0 (codes "one") (argument 5 (codes "a") (null 8) ∷ number 14 (codes "a") (codes "1") ∷ []) ∷ []) (told unique_argument 14 (told unsupported_value_type 8 (told required_argument 0 [])))
    -- @one(a: 1, a: null)
    ∷ checked at_field (used 0 (codes "one") (number 5 (codes "a") (codes "1") ∷ argument 11 (codes "a") (null 14) ∷ []) ∷ []) (told unique_argument 11 (told unsupported_value_type 14 []))
    -- @many(x: "1", x: $z)
    ∷ checked at_field (used 0 (codes "many") (argument 6 (codes "x") (scalar 9 (string (codes "1"))) ∷ dollar 14 (codes "x") (codes "z") ∷ []) ∷ []) (told unique_argument 14 (told unsupported_value_type 9 (told undefined_variable 17 [])))
    -- @none(a: $z, a: 1) @none
    ∷ checked at_query (used 0 (codes "none") (dollar 6 (codes "a") (codes "z") ∷ number 13 (codes "a") (codes "1") ∷ []) ∷ used 19 (codes "none") [] ∷ []) (told unique_argument 13 (told undefined_directive 0 (told undefined_directive 19 [])))
    -- @one(a: 1) @one(y: 1, c: $z, y: 2)
    ∷ checked at_mutation (used 0 (codes "one") (number 5 (codes "a") (codes "1") ∷ []) ∷ used 11 (codes "one") (number 16 (codes "y") (codes "1") ∷ dollar 22 (codes "c") (codes "z") ∷ number 29 (codes "y") (codes "2") ∷ []) ∷ []) (told unsupported_location 0 (told unique_argument 29 (told unique_directive 11 (told unsupported_location 11 (told undefined_argument 16 (told undefined_variable 25 (told undefined_argument 29 (told required_argument 11 []))))))))
    ∷ []

abbrev Holds : List Checked → Type 0
Holds [] = Unit {0}
Holds (c ∷ cs) = (check_uses schema variables c.location c.uses ≡ c.finds) × Holds cs

-- @none(a: $z, a: 1) @many(x: "1")
abbrev three : List Use
three = used 0 (codes "none") (dollar 6 (codes "a") (codes "z") ∷ number 13 (codes "a") (codes "1") ∷ []) ∷ used 19 (codes "many") (argument 25 (codes "x") (scalar 28 (string (codes "1"))) ∷ []) ∷ []

-- each case finds what it says; the answer counts also what a list of fewer places does not keep
abbrev pub CheckedUses : Type 0
CheckedUses =
    Holds cases
    × (total schema variables at_field three ≡ 3)
    × (kept 3 schema variables at_field three ≡ told unique_argument 13 (told undefined_directive 0 (told unsupported_value_type 28 [])))
    × (kept 2 schema variables at_field three ≡ told unique_argument 13 (told undefined_directive 0 []))
    × (kept 0 schema variables at_field three ≡ [])
