-- When a record conforms to a type.
use Rattle.std.specs.Prelude.{◌≡◌, ℕ, Bool, true, List, [], ◌∷◌}
use Rattle.std.proofs.Math.Option.{none}
use Rattle.model.specs.Values.{Name, Dec, Ty, named, list_of, nullable, Field, Def, int_d, float_d, string_d, boolean_d, id_d, enum_d, input_d, custom_d, Schema, find, Plain, p_boolean, p_whole, p_decimal, p_string, Rec, Recs, Rmems, r_null, r_plain, r_list, r_object, r_nil, r_cons, r_end, r_mem, has}
use Rattle.model.specs.Numbers.{in_int, is_finite}
use Rattle.model.specs.Records.{encode}
use Rattle.model.specs.Coercion.{Rule, passes}

-- what each scalar and enum keeps
pub data PlainOk : Def → Plain → Type 0 where
  ok_int : {s : List ℕ} → in_int s ≡ true → PlainOk int_d (p_whole s)
  ok_float : {d : Dec} → is_finite d ≡ true → PlainOk float_d (p_decimal d)
  ok_string : {s : List ℕ} → PlainOk string_d (p_string s)
  ok_boolean : {b : Bool} → PlainOk boolean_d (p_boolean b)
  ok_id_string : {s : List ℕ} → PlainOk id_d (p_string s)
  ok_id_whole : {s : List ℕ} → PlainOk id_d (p_whole s)
  ok_enum : {ns : List Name} {s : Name} → has ns s ≡ true → PlainOk (enum_d ns) (p_string s)
  ok_custom : {x : Plain} → PlainOk custom_d x

mutual
  pub data Conforms (S : Schema) (R : Rule) : Ty → Rec → Type 0 where
    c_null : {t : Ty} → nullable t ≡ true → Conforms S R t r_null
    c_plain : {b : Bool} {n : Name} {x : Plain} → PlainOk (find S n) x → passes R n (find S n) (r_plain x) ≡ true → Conforms S R (named b n) (r_plain x)
    c_list : {b : Bool} {t : Ty} {rs : Recs} → ConformsAll S R t rs → Conforms S R (list_of b t) (r_list rs)
    c_input : {b : Bool} {n : Name} {fs : List Field} {ms : Rmems} → find S n ≡ input_d fs → ConformsFields S R fs ms → Conforms S R (named b n) (r_object ms)
    c_any_list : {b : Bool} {n : Name} {rs : Recs} → find S n ≡ custom_d → R n (encode (r_list rs)) ≡ true → Conforms S R (named b n) (r_list rs)
    c_any_object : {b : Bool} {n : Name} {ms : Rmems} → find S n ≡ custom_d → R n (encode (r_object ms)) ≡ true → Conforms S R (named b n) (r_object ms)

  pub data ConformsAll (S : Schema) (R : Rule) : Ty → Recs → Type 0 where
    c_nil : {t : Ty} → ConformsAll S R t r_nil
    c_cons : {t : Ty} {r : Rec} {rs : Recs} → Conforms S R t r → ConformsAll S R t rs → ConformsAll S R t (r_cons r rs)

  -- declared fields only, in order; one is absent only if it is nullable and has no default
  pub data ConformsFields (S : Schema) (R : Rule) : List Field → Rmems → Type 0 where
    f_end : ConformsFields S R [] r_end
    f_has : {f : Field} {fs : List Field} {n : Name} {r : Rec} {ms : Rmems} → f.name ≡ n → Conforms S R f.ty r → ConformsFields S R fs ms → ConformsFields S R (f ∷ fs) (r_mem n r ms)
    f_absent : {f : Field} {fs : List Field} {ms : Rmems} → nullable f.ty ≡ true → f.dflt ≡ none → ConformsFields S R fs ms → ConformsFields S R (f ∷ fs) ms
