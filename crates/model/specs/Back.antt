-- A record taken as a raw value in JSON form, at whatever places.
use Rattle.std.specs.Prelude.{◌≡◌, ℕ, false, List, [], ◌∷◌}
use Rattle.model.specs.Values.{Name, Scalar, boolean, whole, decimal, string, Raw, Raws, Mems, null, scalar, list, object, nil, cons, end, mem, Field, Def, int_d, float_d, string_d, boolean_d, id_d, enum_d, input_d, custom_d, output_d, TypeDef, Schema, Plain, p_boolean, p_whole, p_decimal, p_string, Rec, Recs, Rmems, r_null, r_plain, r_list, r_object, r_nil, r_cons, r_end, r_mem, has, field_names}

abbrev pub as_scalar : Plain → Scalar
as_scalar (p_boolean b) = boolean b
as_scalar (p_whole s) = whole s
as_scalar (p_decimal d) = decimal d
as_scalar (p_string s) = string s

mutual
  pub data Shows : Rec → Raw → Type 0 where
    s_null : {at : ℕ} → Shows r_null (null at)
    s_plain : {at : ℕ} {x : Plain} {s : Scalar} → as_scalar x ≡ s → Shows (r_plain x) (scalar at s)
    s_list : {at : ℕ} {rs : Recs} {xs : Raws} → ShowsAll rs xs → Shows (r_list rs) (list at xs)
    s_object : {at : ℕ} {rs : Rmems} {ms : Mems} → ShowsMems rs ms → Shows (r_object rs) (object at ms)

  pub data ShowsAll : Recs → Raws → Type 0 where
    s_nil : ShowsAll r_nil nil
    s_cons : {r : Rec} {x : Raw} {rs : Recs} {xs : Raws} → Shows r x → ShowsAll rs xs → ShowsAll (r_cons r rs) (cons x xs)

  pub data ShowsMems : Rmems → Mems → Type 0 where
    s_end : ShowsMems r_end end
    s_mem : {n : Name} {r : Rec} {x : Raw} {rs : Rmems} {ms : Mems} → Shows r x → ShowsMems rs ms → ShowsMems (r_mem n r rs) (mem n x ms)

-- no name stands twice
abbrev pub Distinct : List Name → Type 0
Distinct [] = Unit {0}
Distinct (n ∷ ns) = (has ns n ≡ false) × Distinct ns

-- P of the fields of each input type
abbrev pub OfDef : (List Field → Type 0) → Def → Type 0
OfDef P int_d = Unit {0}
OfDef P float_d = Unit {0}
OfDef P string_d = Unit {0}
OfDef P boolean_d = Unit {0}
OfDef P id_d = Unit {0}
OfDef P (enum_d ns) = Unit {0}
OfDef P (input_d fs) = P fs
OfDef P custom_d = Unit {0}
OfDef P output_d = Unit {0}

abbrev pub OfTypes : (List Field → Type 0) → List TypeDef → Type 0
OfTypes P [] = Unit {0}
OfTypes P (d ∷ ds) = OfDef P d.def × OfTypes P ds

abbrev pub OfInputs : (List Field → Type 0) → Schema → Type 0
OfInputs P S = OfTypes P S.types

-- no input type has two fields of one name
abbrev pub Proper : Schema → Type 0
Proper S = OfInputs (λ fs. Distinct (field_names fs)) S
