-- Raw values, types, schemas, operations and records (sections 2.9, 3 and 2.12 of the GraphQL specification, October 2021).
use Rattle.std.specs.Prelude.{ℕ, Bool, true, false, cond, ◌&&◌, List, [], ◌∷◌, ℤ, codes, ◌==◌}
use Rattle.std.proofs.Math.Option.{Option}

-- a name or a text, by its bytes
abbrev pub Name : Type 0
Name = List ℕ

-- where a raw value was written: JSON has no enum values, literals have
pub data Form : Type 0 where
  json : Form
  literal : Form

-- a decimal: digits × 10 ^ exponent, below zero if negative
pub record Dec : Type 0 where
  pub negative : Bool
  pub exponent : ℤ
  pub digits : List ℕ

-- a raw value that holds no other: a boolean, a whole number by its text, a decimal, a string, an enum value's name
pub data Scalar : Type 0 where
  boolean : Bool → Scalar
  whole : List ℕ → Scalar
  decimal : Dec → Scalar
  string : List ℕ → Scalar
  symbol : Name → Scalar

-- a raw value, with its place in the text that it was read from; objects are lists of members
mutual
  pub data Raw : Type 0 where
    null : ℕ → Raw
    scalar : ℕ → Scalar → Raw
    variable : ℕ → Name → Raw
    list : ℕ → Raws → Raw
    object : ℕ → Mems → Raw

  pub data Raws : Type 0 where
    nil : Raws
    cons : Raw → Raws → Raws

  pub data Mems : Type 0 where
    end : Mems
    mem : Name → Raw → Mems → Mems

-- the place of a raw value
abbrev pub place_of : Raw → ℕ
place_of (null at) = at
place_of (scalar at s) = at
place_of (variable at n) = at
place_of (list at xs) = at
place_of (object at ms) = at

-- a type: a name under list levels, each nullable (true) or not
pub data Ty : Type 0 where
  named : Bool → Name → Ty
  list_of : Bool → Ty → Ty

-- whether null may stand there
abbrev pub nullable : Ty → Bool
nullable (named b n) = b
nullable (list_of b t) = b

-- an input field, an argument or a variable: its name, its type, its default if any
pub record Field : Type 0 where
  pub name : Name
  pub ty : Ty
  pub dflt : Option Raw

-- what a type's name stands for; output types are no input types
pub data Def : Type 0 where
  int_d : Def
  float_d : Def
  string_d : Def
  boolean_d : Def
  id_d : Def
  enum_d : List Name → Def
  input_d : List Field → Def
  custom_d : Def
  output_d : Def

-- a declared type
pub record TypeDef : Type 0 where
  pub name : Name
  pub def : Def

-- the places where a directive may stand (section 3.13)
pub data Location : Type 0 where
  at_query : Location
  at_mutation : Location
  at_subscription : Location
  at_field : Location
  at_fragment_definition : Location
  at_fragment_spread : Location
  at_inline_fragment : Location
  at_variable_definition : Location
  at_schema : Location
  at_scalar : Location
  at_object : Location
  at_field_definition : Location
  at_argument_definition : Location
  at_interface : Location
  at_union : Location
  at_enum : Location
  at_enum_value : Location
  at_input_object : Location
  at_input_field_definition : Location

-- a directive's definition
pub record Directive : Type 0 where
  pub name : Name
  pub arguments : List Field
  pub locations : List Location
  pub repeatable : Bool

pub record Schema : Type 0 where
  pub types : List TypeDef
  pub directives : List Directive

-- a use of a directive, with its arguments and their places
pub record Argument : Type 0 where
  pub name : Name
  pub place : ℕ
  pub value : Raw

pub record Use : Type 0 where
  pub name : Name
  pub place : ℕ
  pub arguments : List Argument

-- a variable's definition and its place
pub record Variable : Type 0 where
  pub field : Field
  pub place : ℕ

pub record Operation : Type 0 where
  pub variables : List Variable
  pub uses : List Use

-- whether two names are the same
abbrev pub same : Name → Name → Bool
same [] [] = true
same [] (y ∷ ys) = false
same (x ∷ xs) [] = false
same (x ∷ xs) (y ∷ ys) = x == y && same xs ys

-- whether a name is in a list
abbrev pub has : List Name → Name → Bool
has [] n = false
has (m ∷ ms) n = cond (same m n) true (has ms n)

-- the built-in scalars (section 3.5), and else what is declared; a name that is nowhere declared is no input type
abbrev pub declared : List TypeDef → Name → Def
declared [] n = output_d
declared (d ∷ ds) n = cond (same d.name n) d.def (declared ds n)

abbrev pub find : Schema → Name → Def
find S n =
    cond (same (codes "Int") n) int_d
    (cond (same (codes "Float") n) float_d
    (cond (same (codes "String") n) string_d
    (cond (same (codes "Boolean") n) boolean_d
    (cond (same (codes "ID") n) id_d (declared S.types n)))))

-- the names of fields
abbrev pub field_names : List Field → List Name
field_names [] = []
field_names (f ∷ fs) = f.name ∷ field_names fs

-- the variables of an operation as fields
abbrev pub fields_of : List Variable → List Field
fields_of [] = []
fields_of (v ∷ vs) = v.field ∷ fields_of vs

-- a kept value that holds no other
pub data Plain : Type 0 where
  p_boolean : Bool → Plain
  p_whole : List ℕ → Plain
  p_decimal : Dec → Plain
  p_string : List ℕ → Plain

-- a record: what coercion makes of a raw value
mutual
  pub data Rec : Type 0 where
    r_null : Rec
    r_plain : Plain → Rec
    r_list : Recs → Rec
    r_object : Rmems → Rec

  pub data Recs : Type 0 where
    r_nil : Recs
    r_cons : Rec → Recs → Recs

  pub data Rmems : Type 0 where
    r_end : Rmems
    r_mem : Name → Rec → Rmems → Rmems
