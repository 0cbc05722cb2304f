-- What is found wrong with a literal where a type is expected, in order (sections 5.6 and 5.8).
use Rattle.std.specs.Prelude.{◌≡◌, ℕ, Bool, true, false, cond, not, ◌&&◌, ◌||◌, ◌⊎◌, List, [], ◌∷◌, ◌++◌, nat_lt}
use Rattle.std.proofs.Math.Option.{Option, none, some}
use Rattle.model.specs.Values.{Name, Scalar, boolean, whole, decimal, string, symbol, Raw, Raws, Mems, null, scalar, variable, list, object, nil, cons, end, mem, place_of, Ty, named, list_of, nullable, Field, Def, int_d, float_d, string_d, boolean_d, id_d, enum_d, input_d, custom_d, Schema, find, Variable, same, has, field_names}
use Rattle.model.specs.Numbers.{magnitude, in_int, float_bound, is_finite}
use Rattle.model.specs.Back.{OfInputs}
use Rattle.model.specs.Bounds.{EachDefault}
use Rattle.model.specs.Coercion.{first_undeclared, member}
use Rattle.model.specs.Calls.{variable_of}

-- FINDINGS

pub data FindingKind : Type 0 where
  unique_argument : FindingKind
  unique_directive : FindingKind
  undefined_directive : FindingKind
  unsupported_location : FindingKind
  disallowed_variable_usage : FindingKind
  undefined_argument : FindingKind
  required_argument : FindingKind
  unsupported_value_type : FindingKind
  int_coercion_error : FindingKind
  float_coercion_error : FindingKind
  undefined_variable : FindingKind
  undefined_enum_value : FindingKind
  undefined_input_value : FindingKind
  required_field : FindingKind

abbrev pub finding_number : FindingKind → ℕ
finding_number unique_argument = 101
finding_number unique_directive = 102
finding_number undefined_directive = 103
finding_number unsupported_location = 104
finding_number disallowed_variable_usage = 105
finding_number undefined_argument = 106
finding_number required_argument = 107
finding_number unsupported_value_type = 108
finding_number int_coercion_error = 109
finding_number float_coercion_error = 110
finding_number undefined_variable = 111
finding_number undefined_enum_value = 112
finding_number undefined_input_value = 113
finding_number required_field = 114

-- what is wrong, and its place in the text
pub record Finding : Type 0 where
  pub kind : FindingKind
  pub place : ℕ

abbrev pub found : FindingKind → ℕ → List Finding
found k at = record { kind = k; place = at } ∷ []

abbrev pub In : Finding → List Finding → Type 0
In f [] = ⊥
In f (g ∷ gs) = (f ≡ g) ⊎ In f gs

-- THE USE OF VARIABLES

-- the nullable type of a type
abbrev pub as_nullable : Ty → Ty
as_nullable (named b n) = named true n
as_nullable (list_of b t) = list_of true t

-- AreTypesCompatible of a variable's type and a location's type (section 5.8.5), step by step
pub data AreTypesCompatible : Ty → Ty → Type 0 where
  non_null_location : {v l : Ty} → nullable l ≡ false → nullable v ≡ false → AreTypesCompatible (as_nullable v) (as_nullable l) → AreTypesCompatible v l
  non_null_variable : {v l : Ty} → nullable l ≡ true → nullable v ≡ false → AreTypesCompatible (as_nullable v) l → AreTypesCompatible v l
  list_location : {v l : Ty} → AreTypesCompatible v l → AreTypesCompatible (list_of true v) (list_of true l)
  identical : {m n : Name} → m ≡ n → AreTypesCompatible (named true m) (named true n)

-- a variable's default exists and is not the value null
abbrev pub HasNonNullDefault : Field → Type 0
HasNonNullDefault v = (x : Raw) × (v.dflt ≡ some x) × ((at : ℕ) → x ≡ null at → ⊥)

-- IsVariableUsageAllowed of a variable, at a location with a default (true) or without, of a type
pub data IsVariableUsageAllowed (v : Field) : Bool → Ty → Type 0 where
  by_default : {d : Bool} {l : Ty} → nullable l ≡ false → nullable v.ty ≡ true → HasNonNullDefault v ⊎ (d ≡ true) → AreTypesCompatible v.ty (as_nullable l) → IsVariableUsageAllowed v d l
  by_type : {d : Bool} {l : Ty} → (nullable l ≡ true) ⊎ (nullable v.ty ≡ false) → AreTypesCompatible v.ty l → IsVariableUsageAllowed v d l

-- the same as functions; a nullable variable stands at a nullable location only
abbrev pub compatible : Ty → Ty → Bool
compatible (named b m) (named c n) = (not b || c) && same m n
compatible (named b m) (list_of c l) = false
compatible (list_of b v) (named c n) = false
compatible (list_of b v) (list_of c l) = (not b || c) && compatible v l

-- there is a value, and it is not null
abbrev pub is_value : Option Raw → Bool
is_value none = false
is_value (some (null at)) = false
is_value (some x) = true

abbrev pub usage_allowed : Field → Bool → Ty → Bool
usage_allowed v d l = cond (not (nullable l) && nullable v.ty) ((is_value v.dflt || d) && compatible v.ty (as_nullable l)) (compatible v.ty l)

-- THE CHECK

-- the name under the list levels of a type
abbrev pub inner : Ty → Name
inner (named b n) = n
inner (list_of b t) = inner t

abbrev pub kept_unless : Bool → FindingKind → Option FindingKind
kept_unless b k = cond b none (some k)

-- what is wrong with a scalar at a named type (sections 3.5 and 3.9)
abbrev pub wrong_scalar : Def → Scalar → Option FindingKind
wrong_scalar int_d (whole s) = kept_unless (in_int s) int_coercion_error
wrong_scalar float_d (whole s) = kept_unless (nat_lt (magnitude s) float_bound) float_coercion_error
wrong_scalar float_d (decimal d) = kept_unless (is_finite d) float_coercion_error
wrong_scalar string_d (string s) = none
wrong_scalar boolean_d (boolean b) = none
wrong_scalar id_d (string s) = none
wrong_scalar id_d (whole s) = none
wrong_scalar (enum_d ns) (symbol s) = kept_unless (has ns s) undefined_enum_value
wrong_scalar custom_d s = none
wrong_scalar D s = some unsupported_value_type

abbrev pub check_scalar : ℕ → Option FindingKind → List Finding
check_scalar at none = []
check_scalar at (some k) = found k at

-- a variable as it is declared, if it is, at a location of type t with a default (d) or without
abbrev pub check_usage : Bool → ℕ → ℕ → Ty → Option Variable → List Finding
check_usage d lone at t none = found undefined_variable at
check_usage d lone at t (some v) = cond (usage_allowed v.field d t) [] (found disallowed_variable_usage lone)

abbrev pub if_undeclared : ℕ → Option Variable → List Finding
if_undeclared at none = found undefined_variable at
if_undeclared at (some v) = []

-- the undeclared variables anywhere in the contents of a custom scalar, in the order of the text
abbrev mutual
  pub undeclared_in : List Variable → Raw → List Finding
  undeclared_in vs (null at) = []
  undeclared_in vs (scalar at s) = []
  undeclared_in vs (variable at n) = if_undeclared at (variable_of vs n)
  undeclared_in vs (list at xs) = undeclared_in_all vs xs
  undeclared_in vs (object at ms) = undeclared_in_mems vs ms

  pub undeclared_in_all : List Variable → Raws → List Finding
  undeclared_in_all vs nil = []
  undeclared_in_all vs (cons x xs) = undeclared_in vs x ++ undeclared_in_all vs xs

  pub undeclared_in_mems : List Variable → Mems → List Finding
  undeclared_in_mems vs end = []
  undeclared_in_mems vs (mem n x ms) = undeclared_in vs x ++ undeclared_in_mems vs ms

-- a list at a named type: only a custom scalar takes one
abbrev pub list_at_name : ℕ → List Finding → Def → List Finding
list_at_name at contents custom_d = contents
list_at_name at contents D = found unsupported_value_type at

-- at a list type its items count
abbrev pub check_list : Schema → ℕ → List Finding → (Ty → List Finding) → Ty → List Finding
check_list S at contents items (named b n) = list_at_name at contents (find S n)
check_list S at contents items (list_of b t) = items t

-- the value of the first undeclared member
abbrev pub check_names : Option ℕ → List Finding
check_names none = []
check_names (some at) = found undefined_input_value at

abbrev pub is_there : Option Raw → Bool
is_there none = false
is_there (some x) = true

abbrev pub has_default : Field → Bool
has_default f = is_there f.dflt

-- a field that is non-null and without a default is neither absent nor null
abbrev pub check_required : ℕ → Field → Option Raw → List Finding
check_required at f m = cond (not (nullable f.ty) && (not (has_default f) && not (is_value m))) (found required_field at) []

-- the fields of an input object in the order of their definition: each is there if required, and its member is right
abbrev pub check_fields : ℕ → Mems → (Field → List Finding) → List Field → List Finding
check_fields at ms g [] = []
check_fields at ms g (f ∷ fs) = check_required at f (member ms f.name) ++ (g f ++ check_fields at ms g fs)

-- an object, also as a list of one: only an input object or a custom scalar takes it
abbrev pub check_object : ℕ → Mems → List Finding → (Field → List Finding) → Def → List Finding
check_object at ms contents g (input_d fs) = check_names (first_undeclared (field_names fs) ms) ++ check_fields at ms g fs
check_object at ms contents g custom_d = contents
check_object at ms contents g D = found unsupported_value_type at

-- a raw value at a type; d: the location has a default; lone: the place told of a variable that is the value as a whole
abbrev mutual
  pub check : Schema → List Variable → Bool → ℕ → Raw → Ty → List Finding
  check S vs d lone (null at) t = cond (nullable t) [] (found unsupported_value_type at)
  check S vs d lone (scalar at s) t = check_scalar at (wrong_scalar (find S (inner t)) s)
  check S vs d lone (variable at n) t = check_usage d lone at t (variable_of vs n)
  check S vs d lone (list at xs) t = check_list S at (undeclared_in_all vs xs) (check_all S vs xs) t
  check S vs d lone (object at ms) t = check_object at ms (undeclared_in_mems vs ms) (check_member S vs ms) (find S (inner t))

  pub check_all : Schema → List Variable → Raws → Ty → List Finding
  check_all S vs nil t = []
  check_all S vs (cons x xs) t = check S vs false (place_of x) x t ++ check_all S vs xs t

  -- the member of a field, if there is one
  pub check_member : Schema → List Variable → Mems → Field → List Finding
  check_member S vs end f = []
  check_member S vs (mem m x ms) f = cond (same m f.name) (check S vs (has_default f) (place_of x) x f.ty) (check_member S vs ms f)

-- DEFAULTS

-- variable n stands at a place in a value, at any depth
mutual
  pub data VariableIn (at : ℕ) (n : Name) : Raw → Type 0 where
    v_itself : VariableIn at n (variable at n)
    v_list : {p : ℕ} {xs : Raws} → VariableInAll at n xs → VariableIn at n (list p xs)
    v_object : {p : ℕ} {ms : Mems} → VariableInMems at n ms → VariableIn at n (object p ms)

  pub data VariableInAll (at : ℕ) (n : Name) : Raws → Type 0 where
    v_item : {x : Raw} {xs : Raws} → VariableIn at n x → VariableInAll at n (cons x xs)
    v_later_item : {x : Raw} {xs : Raws} → VariableInAll at n xs → VariableInAll at n (cons x xs)

  pub data VariableInMems (at : ℕ) (n : Name) : Mems → Type 0 where
    v_member : {m : Name} {x : Raw} {ms : Mems} → VariableIn at n x → VariableInMems at n (mem m x ms)
    v_later_member : {m : Name} {x : Raw} {ms : Mems} → VariableInMems at n ms → VariableInMems at n (mem m x ms)

-- no variable anywhere
abbrev pub VariableFree : Raw → Type 0
VariableFree v = (at : ℕ) (n : Name) → VariableIn at n v → ⊥

-- a default is right at its type: it holds no variable, and nothing is found wrong with it
abbrev pub RightDefault : Schema → Raw → Ty → Type 0
RightDefault S x t = VariableFree x × (check S [] false (place_of x) x t ≡ [])

-- every default of the input fields is right
abbrev pub RightDefaults : Schema → Type 0
RightDefaults S = OfInputs (EachDefault (RightDefault S)) S
