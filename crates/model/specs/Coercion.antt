-- Input coercion without limits (sections 3.5 to 3.12 and 6.1.2).
use Rattle.std.specs.Prelude.{ℕ, zero, suc, Bool, true, false, cond, List, [], ◌∷◌}
use Rattle.std.proofs.Math.Option.{Option, none, some}
use Rattle.model.specs.Values.{Name, Form, literal, Scalar, Raw, Raws, Mems, null, scalar, variable, list, object, nil, cons, end, mem, place_of, Ty, named, list_of, nullable, Field, Def, int_d, float_d, string_d, boolean_d, id_d, enum_d, input_d, custom_d, output_d, Schema, find, Variable, Plain, Rec, Recs, Rmems, r_null, r_plain, r_list, r_object, r_nil, r_cons, r_end, r_mem, same, has, field_names}
use Rattle.model.specs.Records.{encode}
use Rattle.model.specs.Refusals.{null_value, wrong_value, unknown_key, missing_field, missing_variable, scalar_refused, variable_in_value, Out, ok, beyond, and_then, Here, refuse, in_field, as_default}
use Rattle.model.specs.Scalars.{plain, scalar_at}

-- a scalar rule: a set of pairs of a custom scalar's name and the bytes of a record
abbrev pub Rule : Type 0
Rule = Name → List ℕ → Bool

-- the contents of a custom scalar are kept as they are; a variable has no place in them
abbrev mutual
  pub keep : Here → Raw → Out Rec
  keep h (null at) = ok r_null
  keep h (scalar at s) = ok (r_plain (plain s))
  keep h (variable at n) = refuse h variable_in_value at
  keep h (list at xs) = and_then (keep_all h xs) (λ rs. ok (r_list rs))
  keep h (object at ms) = and_then (keep_mems h ms) (λ rs. ok (r_object rs))

  pub keep_all : Here → Raws → Out Recs
  keep_all h nil = ok r_nil
  keep_all h (cons x xs) = and_then (keep h x) (λ r. and_then (keep_all h xs) (λ rs. ok (r_cons r rs)))

  pub keep_mems : Here → Mems → Out Rmems
  keep_mems h end = ok r_end
  keep_mems h (mem n x ms) = and_then (keep h x) (λ r. and_then (keep_mems h ms) (λ rs. ok (r_mem n r rs)))

-- the rule is asked about custom scalars alone
abbrev pub passes : Rule → Name → Def → Rec → Bool
passes R n int_d r = true
passes R n float_d r = true
passes R n string_d r = true
passes R n boolean_d r = true
passes R n id_d r = true
passes R n (enum_d ns) r = true
passes R n (input_d fs) r = true
passes R n custom_d r = R n (encode r)
passes R n output_d r = true

abbrev pub ruled : Rule → Here → ℕ → Name → Def → Rec → Out Rec
ruled R h at n D r = cond (passes R n D r) (ok r) (refuse h scalar_refused at)

-- what a type keeps of a scalar, else it is a wrong value
abbrev pub or_wrong : Here → ℕ → Option Plain → Out Plain
or_wrong h at (some x) = ok x
or_wrong h at none = refuse h wrong_value at

abbrev pub scalar_named : Rule → Here → Form → ℕ → Scalar → Name → Def → Out Rec
scalar_named R h p at s n D = and_then (or_wrong h at (scalar_at p D s)) (λ x. ruled R h at n D (r_plain x))

-- null is kept at a nullable type
abbrev pub null_at : Here → ℕ → Bool → Out Rec
null_at h at true = ok r_null
null_at h at false = refuse h null_value at

-- a value that is no list counts as a list of one, at each list level (section 3.11)
abbrev pub one : Rec → Out Rec
one r = ok (r_list (r_cons r r_nil))

abbrev pub ones : (Name → Out Rec) → Ty → Out Rec
ones base (named b n) = base n
ones base (list_of b t) = and_then (ones base t) one

-- a list at a named type: only a custom scalar takes one
abbrev pub list_named : Rule → Here → ℕ → Name → Out Recs → Def → Out Rec
list_named R h at n kept int_d = refuse h wrong_value at
list_named R h at n kept float_d = refuse h wrong_value at
list_named R h at n kept string_d = refuse h wrong_value at
list_named R h at n kept boolean_d = refuse h wrong_value at
list_named R h at n kept id_d = refuse h wrong_value at
list_named R h at n kept (enum_d ns) = refuse h wrong_value at
list_named R h at n kept (input_d fs) = refuse h wrong_value at
list_named R h at n kept custom_d = and_then kept (λ rs. ruled R h at n custom_d (r_list rs))
list_named R h at n kept output_d = refuse h wrong_value at

abbrev pub list_at : Schema → Rule → Here → ℕ → Out Recs → (Ty → Out Recs) → Ty → Out Rec
list_at S R h at kept items (named b n) = list_named R h at n kept (find S n)
list_at S R h at kept items (list_of b t) = and_then (items t) (λ rs. ok (r_list rs))

-- the place of the first undeclared member's value
abbrev pub first_undeclared : List Name → Mems → Option ℕ
first_undeclared ns end = none
first_undeclared ns (mem n x ms) = cond (has ns n) (first_undeclared ns ms) (some (place_of x))

abbrev pub if_declared : Here → Option ℕ → Out Rec → Out Rec
if_declared h none o = o
if_declared h (some at) o = refuse h unknown_key at

-- the coercion of a default at its type
abbrev pub Defaults : Type 0
Defaults = Here → Raw → Ty → Out Rec

-- a field without a member: its default, coerced; else a non-null type refuses, by the given refusal, and a nullable one has nothing
abbrev pub absent : Defaults → Here → Out (Option Rec) → Ty → Option Raw → Out (Option Rec)
absent d h missing t (some x) = and_then (d (as_default h) x t) (λ r. ok (some r))
absent d h missing t none = cond (nullable t) (ok none) missing

abbrev pub field_at : Defaults → Here → Out (Option Rec) → Field → Option (Out Rec) → Out (Option Rec)
field_at d h missing f (some o) = and_then o (λ r. ok (some r))
field_at d h missing f none = absent d h missing f.ty f.dflt

abbrev pub put : Name → Option Rec → Rmems → Rmems
put n none ms = ms
put n (some r) ms = r_mem n r ms

-- the member of a name, coerced at a type, if there is one
abbrev pub Looks : Type 0
Looks = Name → Ty → Option (Out Rec)

-- the fields of an input object, in the order of their definition (section 3.10)
abbrev pub fields_at : Defaults → Here → ℕ → Looks → List Field → Out Rmems
fields_at d h at g [] = ok r_end
fields_at d h at g (f ∷ fs) =
    and_then (field_at d (in_field f.name h) (refuse (in_field f.name h) missing_field at) f (g f.name f.ty))
    (λ o. and_then (fields_at d h at g fs) (λ ms. ok (put f.name o ms)))

abbrev pub object_named : Defaults → Rule → Here → ℕ → Looks → Out Rmems → Mems → Name → Def → Out Rec
object_named d R h at g kept ms n int_d = refuse h wrong_value at
object_named d R h at g kept ms n float_d = refuse h wrong_value at
object_named d R h at g kept ms n string_d = refuse h wrong_value at
object_named d R h at g kept ms n boolean_d = refuse h wrong_value at
object_named d R h at g kept ms n id_d = refuse h wrong_value at
object_named d R h at g kept ms n (enum_d ns) = refuse h wrong_value at
object_named d R h at g kept ms n (input_d fs) = if_declared h (first_undeclared (field_names fs) ms) (and_then (fields_at d h at g fs) (λ rs. ok (r_object rs)))
object_named d R h at g kept ms n custom_d = and_then kept (λ rs. ruled R h at n custom_d (r_object rs))
object_named d R h at g kept ms n output_d = refuse h wrong_value at

-- a raw value at a type
abbrev mutual
  pub coerce : Defaults → Schema → Rule → Form → Here → Raw → Ty → Out Rec
  coerce d S R p h (null at) t = null_at h at (nullable t)
  coerce d S R p h (scalar at s) t = ones (λ n. scalar_named R h p at s n (find S n)) t
  coerce d S R p h (variable at n) t = refuse h variable_in_value at
  coerce d S R p h (list at xs) t = list_at S R h at (keep_all h xs) (coerce_all d S R p h xs) t
  coerce d S R p h (object at ms) t = ones (λ n. object_named d R h at (coerce_mem d S R p h ms) (keep_mems h ms) ms n (find S n)) t

  pub coerce_all : Defaults → Schema → Rule → Form → Here → Raws → Ty → Out Recs
  coerce_all d S R p h nil t = ok r_nil
  coerce_all d S R p h (cons x xs) t = and_then (coerce d S R p h x t) (λ r. and_then (coerce_all d S R p h xs t) (λ rs. ok (r_cons r rs)))

  pub coerce_mem : Defaults → Schema → Rule → Form → Here → Mems → Name → Ty → Option (Out Rec)
  coerce_mem d S R p h end n t = none
  coerce_mem d S R p h (mem m x ms) n t = cond (same m n) (some (coerce d S R p (in_field n h) x t)) (coerce_mem d S R p h ms n t)

-- defaults are coerced as literals, in their turn; k bounds how deeply defaults lead to defaults
abbrev pub coerce_at : ℕ → Schema → Rule → Form → Here → Raw → Ty → Out Rec
coerce_at zero S R = coerce (λ h x t. beyond) S R
coerce_at (suc k) S R = coerce (coerce_at k S R literal) S R

-- a variable's value: its member, its default, else missing or nothing
abbrev pub for_variable : Variable → Here
for_variable v = record { variable = some v.field.name; field = none; in_default = false }

abbrev pub given : ℕ → Schema → Rule → Variable → Form → Option Raw → Option (Out Rec)
given k S R v p none = none
given k S R v p (some x) = some (coerce_at k S R p (for_variable v) x v.field.ty)

abbrev pub variable_at : ℕ → Schema → Rule → Variable → Form → Option Raw → Out (Option Rec)
variable_at k S R v p x = field_at (coerce_at k S R literal) (for_variable v) (refuse (for_variable v) missing_variable v.place) v.field (given k S R v p x)

-- a member by its name
abbrev pub member : Mems → Name → Option Raw
member end n = none
member (mem m x ms) n = cond (same m n) (some x) (member ms n)

-- CoerceVariableValues: each declared variable in order, by its member; what comes of each is a record or nothing
abbrev pub Slots : Type 0
Slots = List (Option Rec)

abbrev pub variables_at : ℕ → Schema → Rule → Form → Mems → List Variable → Out Slots
variables_at k S R p ms [] = ok []
variables_at k S R p ms (v ∷ vs) =
    and_then (variable_at k S R v p (member ms v.field.name))
    (λ o. and_then (variables_at k S R p ms vs) (λ os. ok (o ∷ os)))

-- the members of a sheet: the variables that have a record, in the order of their declaration
abbrev pub sheet_of : List Variable → Slots → Rmems
sheet_of [] os = r_end
sheet_of (v ∷ vs) [] = r_end
sheet_of (v ∷ vs) (o ∷ os) = put v.field.name o (sheet_of vs os)
