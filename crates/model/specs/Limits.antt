-- The limits of a source: depth, names, numbers, text.
use Rattle.std.specs.Prelude.{ℕ, suc, ◌≤◌, List, [], ◌∷◌, length, IsUtf8}
use Rattle.text.specs.NormalForm.{WholeForm}
use Rattle.model.specs.Values.{Name, Dec, Scalar, boolean, whole, decimal, string, symbol, Raw, Raws, Mems, null, scalar, variable, list, object, nil, cons, end, mem, Field, Schema, Variable, Plain, p_boolean, p_whole, p_decimal, p_string, Rec, Recs, Rmems, r_null, r_plain, r_list, r_object, r_nil, r_cons, r_end, r_mem, field_names, fields_of}
use Rattle.model.specs.Numbers.{NormalDec}
use Rattle.model.specs.Records.{ExponentFits}
use Rattle.model.specs.Back.{Distinct, OfInputs}
use Rattle.model.specs.Bounds.{EachDefault}

-- a name: at most 127 bytes of UTF-8
pub record NameLimits (n : Name) : Type 0 where
  pub short : length n ≤ 127
  pub utf8 : IsUtf8 n

-- a whole number in normal form, of at most 1,000 bytes
pub record WholeLimits (s : List ℕ) : Type 0 where
  pub formed : WholeForm s
  pub short : length s ≤ 1000

-- a decimal in normal form, of at most 1,000 digits, with an exponent of four bytes
pub record DecLimits (d : Dec) : Type 0 where
  pub formed : NormalDec d
  pub short : length d.digits ≤ 1000
  pub fits : ExponentFits d.exponent

abbrev pub ScalarLimits : Scalar → Type 0
ScalarLimits (boolean b) = Unit {0}
ScalarLimits (whole s) = WholeLimits s
ScalarLimits (decimal d) = DecLimits d
ScalarLimits (string s) = IsUtf8 s
ScalarLimits (symbol s) = IsUtf8 s

abbrev pub PlainLimits : Plain → Type 0
PlainLimits (p_boolean b) = Unit {0}
PlainLimits (p_whole s) = WholeLimits s
PlainLimits (p_decimal d) = DecLimits d
PlainLimits (p_string s) = IsUtf8 s

-- the names of members
abbrev pub mem_names : Mems → List Name
mem_names end = []
mem_names (mem n x ms) = n ∷ mem_names ms

abbrev pub rec_names : Rmems → List Name
rec_names r_end = []
rec_names (r_mem n r ms) = n ∷ rec_names ms

-- a raw value whose depth is d: none past depth 32, no name twice
abbrev mutual
  pub RawLimits : ℕ → Raw → Type 0
  RawLimits d (null at) = d ≤ 32
  RawLimits d (scalar at s) = (d ≤ 32) × ScalarLimits s
  RawLimits d (variable at n) = (d ≤ 32) × NameLimits n
  RawLimits d (list at xs) = (d ≤ 32) × RawLimitsAll (suc d) xs
  RawLimits d (object at ms) = (d ≤ 32) × Distinct (mem_names ms) × RawLimitsMems (suc d) ms

  pub RawLimitsAll : ℕ → Raws → Type 0
  RawLimitsAll d nil = Unit {0}
  RawLimitsAll d (cons x xs) = RawLimits d x × RawLimitsAll d xs

  pub RawLimitsMems : ℕ → Mems → Type 0
  RawLimitsMems d end = Unit {0}
  RawLimitsMems d (mem n x ms) = NameLimits n × RawLimits d x × RawLimitsMems d ms

-- the same of a record
abbrev mutual
  pub RecLimits : ℕ → Rec → Type 0
  RecLimits d r_null = d ≤ 32
  RecLimits d (r_plain x) = (d ≤ 32) × PlainLimits x
  RecLimits d (r_list rs) = (d ≤ 32) × RecLimitsAll (suc d) rs
  RecLimits d (r_object ms) = (d ≤ 32) × Distinct (rec_names ms) × RecLimitsMems (suc d) ms

  pub RecLimitsAll : ℕ → Recs → Type 0
  RecLimitsAll d r_nil = Unit {0}
  RecLimitsAll d (r_cons r rs) = RecLimits d r × RecLimitsAll d rs

  pub RecLimitsMems : ℕ → Rmems → Type 0
  RecLimitsMems d r_end = Unit {0}
  RecLimitsMems d (r_mem n r ms) = NameLimits n × RecLimits d r × RecLimitsMems d ms

abbrev pub EachName : List Name → Type 0
EachName [] = Unit {0}
EachName (n ∷ ns) = NameLimits n × EachName ns

-- fields with names within the limits, none twice, and defaults within them at depth 1
abbrev pub FieldLimits : List Field → Type 0
FieldLimits fs = EachName (field_names fs) × Distinct (field_names fs) × EachDefault (λ x t. RawLimits 1 x) fs

-- a schema within the limits, and the variables of an operation
abbrev pub SchemaLimits : Schema → Type 0
SchemaLimits S = OfInputs FieldLimits S

abbrev pub VariableLimits : List Variable → Type 0
VariableLimits vs = FieldLimits (fields_of vs)

-- how deep a record goes
abbrev mutual
  pub Shallow : ℕ → Rec → Type 0
  Shallow d r_null = d ≤ 32
  Shallow d (r_plain x) = d ≤ 32
  Shallow d (r_list rs) = (d ≤ 32) × ShallowAll (suc d) rs
  Shallow d (r_object ms) = (d ≤ 32) × ShallowMems (suc d) ms

  pub ShallowAll : ℕ → Recs → Type 0
  ShallowAll d r_nil = Unit {0}
  ShallowAll d (r_cons r rs) = Shallow d r × ShallowAll d rs

  pub ShallowMems : ℕ → Rmems → Type 0
  ShallowMems d r_end = Unit {0}
  ShallowMems d (r_mem n r ms) = Shallow d r × ShallowMems d ms
