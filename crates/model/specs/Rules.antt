-- The rules for literals, each by itself: where a literal breaks it (sections 5.6.1, 5.6.2, 5.6.4, 5.8.3 and 5.8.5).
use Rattle.std.specs.Prelude.{◌≡◌, ℕ, Bool, false, ◌⊎◌, List, ◌∷◌, nat_lt}
use Rattle.std.proofs.Math.Option.{none, some}
use Rattle.model.specs.Values.{Name, Scalar, boolean, whole, decimal, string, symbol, Dec, Raw, Raws, Mems, null, scalar, variable, list, object, cons, place_of, Ty, named, list_of, nullable, Field, Def, int_d, float_d, string_d, boolean_d, id_d, enum_d, input_d, custom_d, Schema, find, Variable, has, field_names}
use Rattle.model.specs.Numbers.{magnitude, in_int, float_bound, is_finite}
use Rattle.model.specs.Coercion.{first_undeclared, member}
use Rattle.model.specs.Calls.{variable_of}
use Rattle.model.specs.Checking.{FindingKind, disallowed_variable_usage, unsupported_value_type, int_coercion_error, float_coercion_error, undefined_variable, undefined_enum_value, undefined_input_value, required_field, IsVariableUsageAllowed, inner, has_default, VariableIn}

-- which scalars a type knows at all, of whatever size
pub data Akin : Def → Scalar → Type 0 where
  int_whole : {s : List ℕ} → Akin int_d (whole s)
  float_whole : {s : List ℕ} → Akin float_d (whole s)
  float_decimal : {d : Dec} → Akin float_d (decimal d)
  string_string : {s : List ℕ} → Akin string_d (string s)
  boolean_boolean : {b : Bool} → Akin boolean_d (boolean b)
  id_string : {s : List ℕ} → Akin id_d (string s)
  id_whole : {s : List ℕ} → Akin id_d (whole s)
  enum_symbol : {ns : List Name} {s : Name} → Akin (enum_d ns) (symbol s)
  custom_any : {s : Scalar} → Akin custom_d s

-- a scalar that is not coercible to a named type, by kind
pub data Uncoercible : Def → Scalar → FindingKind → Type 0 where
  past_int : {s : List ℕ} → in_int s ≡ false → Uncoercible int_d (whole s) int_coercion_error
  whole_past_float : {s : List ℕ} → nat_lt (magnitude s) float_bound ≡ false → Uncoercible float_d (whole s) float_coercion_error
  past_float : {d : Dec} → is_finite d ≡ false → Uncoercible float_d (decimal d) float_coercion_error
  no_enum_value : {ns : List Name} {s : Name} → has ns s ≡ false → Uncoercible (enum_d ns) (symbol s) undefined_enum_value
  of_another_kind : {D : Def} {s : Scalar} → (Akin D s → ⊥) → Uncoercible D s unsupported_value_type

-- a value that cannot stand where a type is expected, whatever it holds
pub data Misplaced (S : Schema) : Ty → Raw → FindingKind → Type 0 where
  null_misplaced : {t : Ty} {at : ℕ} → nullable t ≡ false → Misplaced S t (null at) unsupported_value_type
  scalar_misplaced : {t : Ty} {at : ℕ} {s : Scalar} {k : FindingKind} → Uncoercible (find S (inner t)) s k → Misplaced S t (scalar at s) k
  list_misplaced : {b : Bool} {n : Name} {at : ℕ} {xs : Raws} → (find S n ≡ custom_d → ⊥) → Misplaced S (named b n) (list at xs) unsupported_value_type
  object_misplaced : {t : Ty} {at : ℕ} {ms : Mems} → (find S (inner t) ≡ custom_d → ⊥) → ((fs : List Field) → find S (inner t) ≡ input_d fs → ⊥) → Misplaced S t (object at ms) unsupported_value_type

-- a list at a custom scalar's name, an object at a custom scalar under any list levels
pub data Custom (S : Schema) : Ty → Raw → Type 0 where
  custom_list : {b : Bool} {n : Name} {at : ℕ} {xs : Raws} → find S n ≡ custom_d → Custom S (named b n) (list at xs)
  custom_object : {t : Ty} {at : ℕ} {ms : Mems} → find S (inner t) ≡ custom_d → Custom S t (object at ms)

-- x is in a list
pub data Among {X : Type 0} (x : X) : List X → Type 0 where
  the_first : {xs : List X} → Among x (x ∷ xs)
  a_later : {y : X} {xs : List X} → Among x xs → Among x (y ∷ xs)

pub data ItemIn (x : Raw) : Raws → Type 0 where
  first_item : {xs : Raws} → ItemIn x (cons x xs)
  later_item : {y : Raw} {xs : Raws} → ItemIn x xs → ItemIn x (cons y xs)

-- there is no member of the field, or it is null
abbrev pub Lacks : Mems → Field → Type 0
Lacks ms f = (member ms f.name ≡ none) ⊎ ((at : ℕ) × (member ms f.name ≡ some (null at)))

-- a value itself breaks the rule of a kind, and the place told of it
pub data Breaks (S : Schema) (vs : List Variable) : FindingKind → ℕ → Bool → ℕ → Raw → Ty → Type 0 where
  -- 5.6.1: a value is coercible to the type expected there
  values_of_correct_type : {k : FindingKind} {p lone : ℕ} {d : Bool} {v : Raw} {t : Ty} → Misplaced S t v k → place_of v ≡ p → Breaks S vs k p d lone v t
  -- 5.6.2: each member of an input object is one of its type's fields; only the first that is none is told
  input_object_field_names : {p lone at : ℕ} {d : Bool} {ms : Mems} {t : Ty} {fs : List Field} → find S (inner t) ≡ input_d fs → first_undeclared (field_names fs) ms ≡ some p
      → Breaks S vs undefined_input_value p d lone (object at ms) t
  -- 5.6.4: a field that is non-null and without a default is there and not null
  input_object_required_fields : {lone at : ℕ} {d : Bool} {ms : Mems} {t : Ty} {fs : List Field} (f : Field) → find S (inner t) ≡ input_d fs → Among f fs → nullable f.ty ≡ false → f.dflt ≡ none → Lacks ms f
      → Breaks S vs required_field at d lone (object at ms) t
  -- 5.8.3: a variable is declared, in the contents of custom scalars too
  all_variable_uses_defined : {lone at : ℕ} {d : Bool} {n : Name} {t : Ty} → variable_of vs n ≡ none → Breaks S vs undefined_variable at d lone (variable at n) t
  all_inner_uses_defined : {p lone : ℕ} {d : Bool} {n : Name} {v : Raw} {t : Ty} → Custom S t v → VariableIn p n v → variable_of vs n ≡ none → Breaks S vs undefined_variable p d lone v t
  -- 5.8.5: the usage of a variable is allowed
  all_variable_usages_are_allowed : {lone at : ℕ} {d : Bool} {n : Name} {t : Ty} (v : Variable) → variable_of vs n ≡ some v → (IsVariableUsageAllowed v.field d t → ⊥) → Breaks S vs disallowed_variable_usage lone d lone (variable at n) t

-- a rule is broken by a value or by one inside: by an item of a list at a list type, by the member of a field of an input object
pub data Broken (S : Schema) (vs : List Variable) (k : FindingKind) (p : ℕ) : Bool → ℕ → Raw → Ty → Type 0 where
  by_itself : {d : Bool} {lone : ℕ} {v : Raw} {t : Ty} → Breaks S vs k p d lone v t → Broken S vs k p d lone v t
  by_item : {d b : Bool} {lone at : ℕ} {xs : Raws} {t : Ty} (x : Raw) → ItemIn x xs → Broken S vs k p false (place_of x) x t → Broken S vs k p d lone (list at xs) (list_of b t)
  by_member : {d : Bool} {lone at : ℕ} {ms : Mems} {t : Ty} {fs : List Field} (f : Field) (x : Raw) → find S (inner t) ≡ input_d fs → Among f fs → member ms f.name ≡ some x
      → Broken S vs k p (has_default f) (place_of x) x f.ty → Broken S vs k p d lone (object at ms) t
