-- Default cycles by cases: where one is, and where none is.
use Rattle.std.specs.Prelude.{true, false, List, [], ◌∷◌, codes}
use Rattle.std.proofs.Math.Option.{none, some}
use Rattle.model.specs.Values.{Name, Raw, null, list, object, nil, cons, end, mem, Ty, named, list_of, Field, input_d, custom_d, TypeDef, Schema}
use Rattle.model.specs.Cycles.{InputField, OnCycle, Acyclic}

abbrev pub type_a : Name
type_a = codes "A"

abbrev pub type_b : Name
type_b = codes "B"

abbrev pub an_a : Ty
an_a = named true type_a

abbrev pub a_b : Ty
a_b = named true type_b

-- the values {}, {n: x} and null
abbrev pub empty : Raw
empty = object 0 end

abbrev holds : Name → Raw → Raw
holds n x = object 0 (mem n x end)

abbrev a_null : Raw
a_null = null 0

-- n: t = x
abbrev pub field : Name → Ty → Raw → Field
field n t x = record { name = n; ty = t; dflt = some x }

abbrev in_a : Field → InputField
in_a f = record { owner = type_a; field = f }

abbrev in_b : Field → InputField
in_b f = record { owner = type_b; field = f }

abbrev input : Name → List Field → TypeDef
input n fs = record { name = n; def = input_d fs }

abbrev one_type : Field → Schema
one_type f = record { types = input type_a (f ∷ []) ∷ []; directives = [] }

abbrev pub two_types : Field → Field → Schema
two_types f g = record { types = input type_a (f ∷ []) ∷ input type_b (g ∷ []) ∷ []; directives = [] }

-- input A {a: A = {}}
abbrev pub to_itself : Field
to_itself = field (codes "a") an_a empty

-- input A {b: B = {}} input B {a: A = {}}
abbrev pub to_b : Field
to_b = field (codes "b") a_b empty

-- input A {a: [[A!]!] = {}}: one value counts as a list of one at each level
abbrev pub in_lists : Field
in_lists = field (codes "a") (list_of true (list_of false (named false type_a))) empty

-- input A {a: [A] = [null, {}]}
abbrev pub at_an_item : Field
at_an_item = field (codes "a") (list_of true an_a) (list 0 (cons a_null (cons empty nil)))

-- input A {a: A = {a: {}}}
abbrev pub at_a_member : Field
at_a_member = field (codes "a") an_a (holds (codes "a") empty)

-- input A {a: A = {a: null}}: no object lacks it
abbrev pub given_null : Field
given_null = field (codes "a") an_a (holds (codes "a") a_null)

-- input B {a: A = null}
abbrev pub to_null : Field
to_null = field (codes "a") an_a a_null

-- input B {a: A}
abbrev pub without_default : Field
without_default = record { name = codes "a"; ty = an_a; dflt = none }

-- scalar B input A {b: B = {a: {}}}: nothing is met in custom contents
abbrev pub to_custom : Field
to_custom = field (codes "b") a_b (holds (codes "a") empty)

abbrev pub with_custom : Schema
with_custom = record { types = record { name = type_b; def = custom_d } ∷ input type_a (to_custom ∷ []) ∷ []; directives = [] }

abbrev pub CycleCases : Type 0
CycleCases =
    OnCycle (one_type to_itself) (in_a to_itself)
    × OnCycle (two_types to_b to_itself) (in_a to_b)
    × OnCycle (two_types to_b to_itself) (in_b to_itself)
    × OnCycle (one_type in_lists) (in_a in_lists)
    × OnCycle (one_type at_an_item) (in_a at_an_item)
    × OnCycle (one_type at_a_member) (in_a at_a_member)
    × Acyclic (one_type given_null)
    × Acyclic (two_types to_b to_null)
    × Acyclic (two_types to_b without_default)
    × Acyclic with_custom
    -- input A {b: B = {}} input B {b: B = {}}: A's field leads to a cycle, and is on none
    × (OnCycle (two_types to_b to_b) (in_a to_b) → ⊥)
    × OnCycle (two_types to_b to_b) (in_b to_b)
