-- Worked cases, computed from the definitions.
use Rattle.std.specs.Prelude.{◌≡◌, ℕ, true, false, List, [], ◌∷◌, codes}
use Rattle.std.proofs.Math.Option.{none, some}
use Rattle.model.specs.Values.{Name, json, whole, Raw, scalar, list, object, nil, cons, end, mem, Ty, named, list_of, input_d, custom_d, Schema, Variable}
use Rattle.model.specs.Refusals.{Out, ok, refused, beyond, number_of}
use Rattle.model.specs.Coercion.{Rule}
use Rattle.model.specs.Calls.{Sheet, load, bytes_of, answer}

-- what a load leaves: the sheet's bytes, or the number of the refusal
pub data Left : Type 0 where
  bytes : List ℕ → Left
  number : ℕ → Left
  nothing : Left

abbrev pub left_of : List Variable → Out Sheet → Left
left_of vs (ok s) = bytes (bytes_of vs s.slots)
left_of vs (refused f) = number (number_of f.cause)
left_of vs beyond = nothing

-- a case: a schema, an operation's variables, the map's value, and what a load of it leaves
pub record Case : Type 0 where
  pub schema : Schema
  pub variables : List Variable
  pub map : Raw
  pub leaves : Left

-- the rule that accepts all
abbrev pub accept_all : Rule
accept_all n b = true

abbrev pub loaded : Case → Left
loaded c = left_of c.variables (answer 1 c.schema accept_all 65536 c.variables none (load json c.map))

abbrev pub Holds : List Case → Type 0
Holds [] = Unit {0}
Holds (c ∷ cs) = (loaded c ≡ c.leaves) × Holds cs

-- the parts of cases
abbrev int : ℕ → List ℕ → Raw
int at s = scalar at (whole s)

abbrev typed : Name → Ty → Variable
typed n t = record { field = record { name = n; ty = t; dflt = none }; place = 0 }

abbrev no_types : Schema
no_types = record { types = []; directives = [] }

abbrev with_ms : Schema
with_ms = record { types = record { name = codes "Ms"; def = custom_d } ∷ []; directives = [] }

abbrev with_a : Schema
with_a = record { types = record { name = codes "A"; def = input_d (record { name = codes "b"; ty = named true (codes "Int"); dflt = some (int 0 (codes "3")) } ∷ []) } ∷ []; directives = [] }

abbrev one : Name → Raw → Raw
one n x = object 0 (mem n x end)

-- one variable x of a type, given a value
abbrev single : Ty → Raw → Left → Case
single t v l = record { schema = no_types; variables = typed (codes "x") t ∷ []; map = one (codes "x") v; leaves = l }

abbrev pub worked : List Case
worked =
    record {
      schema = with_ms;
      variables = typed (codes "n") (named true (codes "Int")) ∷ record { field = record { name = codes "t"; ty = list_of true (named false (codes "Float")); dflt = some (int 0 (codes "2")) }; place = 0 } ∷ [];
      map = one (codes "n") (int 5 (codes "7"));
      leaves = bytes (1 ∷ 0 ∷ 0 ∷ 0 ∷ 8 ∷ 0 ∷ 110 ∷ 1 ∷ 0 ∷ 0 ∷ 0 ∷ 3 ∷ 0 ∷ 55 ∷ 1 ∷ 0 ∷ 0 ∷ 0 ∷ 8 ∷ 0 ∷ 116 ∷ 12 ∷ 0 ∷ 0 ∷ 0 ∷ 6 ∷ 0 ∷ 6 ∷ 0 ∷ 0 ∷ 0 ∷ 4 ∷ 0 ∷ 0 ∷ 0 ∷ 0 ∷ 0 ∷ 0 ∷ 50 ∷ []);
    }
    ∷ single (list_of true (named true (codes "Int"))) (int 5 (codes "5")) (bytes (1 ∷ 0 ∷ 0 ∷ 0 ∷ 8 ∷ 0 ∷ 120 ∷ 7 ∷ 0 ∷ 0 ∷ 0 ∷ 6 ∷ 0 ∷ 1 ∷ 0 ∷ 0 ∷ 0 ∷ 3 ∷ 0 ∷ 53 ∷ []))
    ∷ single (list_of true (list_of true (named true (codes "Int")))) (list 5 (cons (int 6 (codes "1")) (cons (int 8 (codes "2")) nil)))
    (bytes (1 ∷ 0 ∷ 0 ∷ 0 ∷ 8 ∷ 0 ∷ 120 ∷ 26 ∷ 0 ∷ 0 ∷ 0 ∷ 6 ∷ 0 ∷ 7 ∷ 0 ∷ 0 ∷ 0 ∷ 6 ∷ 0 ∷ 1 ∷ 0 ∷ 0 ∷ 0 ∷ 3 ∷ 0 ∷ 49 ∷ 7 ∷ 0 ∷ 0 ∷ 0 ∷ 6 ∷ 0 ∷ 1 ∷ 0 ∷ 0 ∷ 0 ∷ 3 ∷ 0 ∷ 50 ∷ []))
    ∷ single (named true (codes "Int")) (int 5 (codes "2147483647")) (bytes (1 ∷ 0 ∷ 0 ∷ 0 ∷ 8 ∷ 0 ∷ 120 ∷ 10 ∷ 0 ∷ 0 ∷ 0 ∷ 3 ∷ 0 ∷ codes "2147483647"))
    ∷ single (named true (codes "Int")) (int 5 (codes "2147483648")) (number 12)
    ∷ single (named true (codes "Float")) (int 5 (codes "9007199254740991")) (bytes (1 ∷ 0 ∷ 0 ∷ 0 ∷ 8 ∷ 0 ∷ 120 ∷ 21 ∷ 0 ∷ 0 ∷ 0 ∷ 4 ∷ 0 ∷ 0 ∷ 0 ∷ 0 ∷ 0 ∷ 0 ∷ codes "9007199254740991"))
    ∷ single (named true (codes "Float")) (int 5 (codes "9007199254740992")) (number 12)
    ∷ record {
      schema = with_a;
      variables = typed (codes "x") (named true (codes "A")) ∷ [];
      map = one (codes "x") (object 5 end);
      leaves = bytes (1 ∷ 0 ∷ 0 ∷ 0 ∷ 8 ∷ 0 ∷ 120 ∷ 14 ∷ 0 ∷ 0 ∷ 0 ∷ 7 ∷ 0 ∷ 1 ∷ 0 ∷ 0 ∷ 0 ∷ 8 ∷ 0 ∷ 98 ∷ 1 ∷ 0 ∷ 0 ∷ 0 ∷ 3 ∷ 0 ∷ 51 ∷ []);
    }
    ∷ []

-- each case leaves what it says
abbrev pub WorkedCases : Type 0
WorkedCases = Holds worked
