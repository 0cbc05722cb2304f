-- When two raw values are alike at a type.
use Rattle.std.specs.Prelude.{◌≡◌, ℕ, Bool, List, [], ◌∷◌, pos}
use Rattle.std.proofs.Math.Option.{none, some}
use Rattle.text.specs.NormalForm.{WholeForm}
use Rattle.model.specs.Values.{Name, Dec, Scalar, boolean, whole, decimal, string, symbol, Raw, Raws, Mems, null, scalar, variable, list, object, nil, cons, end, mem, Ty, named, list_of, Field, Def, int_d, float_d, string_d, boolean_d, id_d, enum_d, input_d, custom_d, Schema, find}
use Rattle.model.specs.Numbers.{is_negative, digits_in, NormalDec, SameDec}
use Rattle.model.specs.Back.{OfInputs}
use Rattle.model.specs.Bounds.{EachDefault}
use Rattle.model.specs.Taking.{Present, items, standing}

-- a whole number as digits × 10 ^ 0
abbrev pub whole_dec : List ℕ → Dec
whole_dec s = record { negative = is_negative s; exponent = pos 0; digits = digits_in s }

-- the number that a scalar is
pub data IsNumber : Scalar → Dec → Type 0 where
  number_whole : {s : List ℕ} {d : Dec} → whole_dec s ≡ d → IsNumber (whole s) d
  number_decimal : {d : Dec} → IsNumber (decimal d) d

-- the text that a scalar is: a string's, or an enum value's name
pub data IsText : Scalar → List ℕ → Type 0 where
  text_string : {s : List ℕ} → IsText (string s) s
  text_symbol : {s : List ℕ} → IsText (symbol s) s

-- scalars inside custom contents: by kind, truth value, number value and text
pub data AlikeKept : Scalar → Scalar → Type 0 where
  kept_boolean : {a b : Bool} → a ≡ b → AlikeKept (boolean a) (boolean b)
  kept_whole : {s t : List ℕ} → SameDec (whole_dec s) (whole_dec t) → AlikeKept (whole s) (whole t)
  kept_decimal : {d e : Dec} → SameDec d e → AlikeKept (decimal d) (decimal e)
  kept_text : {x y : Scalar} {s : List ℕ} → IsText x s → IsText y s → AlikeKept x y

-- scalars at a type: Int and Float by number, strings, booleans and enum values as such, ID by kind and content
pub data AlikeScalar : Def → Scalar → Scalar → Type 0 where
  like_int : {s t : List ℕ} → SameDec (whole_dec s) (whole_dec t) → AlikeScalar int_d (whole s) (whole t)
  like_float : {x y : Scalar} {d e : Dec} → IsNumber x d → IsNumber y e → SameDec d e → AlikeScalar float_d x y
  like_string : {s t : List ℕ} → s ≡ t → AlikeScalar string_d (string s) (string t)
  like_boolean : {a b : Bool} → a ≡ b → AlikeScalar boolean_d (boolean a) (boolean b)
  like_id_string : {s t : List ℕ} → s ≡ t → AlikeScalar id_d (string s) (string t)
  like_id_whole : {s t : List ℕ} → SameDec (whole_dec s) (whole_dec t) → AlikeScalar id_d (whole s) (whole t)
  like_enum : {ns : List Name} {x y : Scalar} {s : List ℕ} → IsText x s → IsText y s → AlikeScalar (enum_d ns) x y
  like_custom : {x y : Scalar} → AlikeKept x y → AlikeScalar custom_d x y

-- custom contents: by kind and order
mutual
  pub data AlikeIn : Raw → Raw → Type 0 where
    in_null : {a b : ℕ} → AlikeIn (null a) (null b)
    in_scalar : {a b : ℕ} {x y : Scalar} → AlikeKept x y → AlikeIn (scalar a x) (scalar b y)
    in_list : {a b : ℕ} {xs ys : Raws} → AlikeInAll xs ys → AlikeIn (list a xs) (list b ys)
    in_object : {a b : ℕ} {ms ns : Mems} → AlikeInMems ms ns → AlikeIn (object a ms) (object b ns)

  pub data AlikeInAll : Raws → Raws → Type 0 where
    in_nil : AlikeInAll nil nil
    in_cons : {x y : Raw} {xs ys : Raws} → AlikeIn x y → AlikeInAll xs ys → AlikeInAll (cons x xs) (cons y ys)

  pub data AlikeInMems : Mems → Mems → Type 0 where
    in_end : AlikeInMems end end
    in_mem : {m n : Name} {x y : Raw} {ms ns : Mems} → m ≡ n → AlikeIn x y → AlikeInMems ms ns → AlikeInMems (mem m x ms) (mem n y ns)

-- null matches only null; at list types both count as lists, alike item by item; input objects field by field,
-- where an absent field counts as its default, and without one matches only an absent field
mutual
  pub data Alike (S : Schema) : Ty → Raw → Raw → Type 0 where
    like_null : {t : Ty} {a b : ℕ} → Alike S t (null a) (null b)
    like_scalar : {b : Bool} {n : Name} {i j : ℕ} {x y : Scalar} → AlikeScalar (find S n) x y → Alike S (named b n) (scalar i x) (scalar j y)
    like_list : {b : Bool} {t : Ty} {v w : Raw} → Present v → Present w → AlikeAll S t (items v) (items w) → Alike S (list_of b t) v w
    like_input : {b : Bool} {n : Name} {i j : ℕ} {fs : List Field} {ms ns : Mems} → find S n ≡ input_d fs → AlikeFields S fs ms ns → Alike S (named b n) (object i ms) (object j ns)
    like_any_list : {b : Bool} {n : Name} {i j : ℕ} {xs ys : Raws} → find S n ≡ custom_d → AlikeInAll xs ys → Alike S (named b n) (list i xs) (list j ys)
    like_any_object : {b : Bool} {n : Name} {i j : ℕ} {ms ns : Mems} → find S n ≡ custom_d → AlikeInMems ms ns → Alike S (named b n) (object i ms) (object j ns)

  pub data AlikeAll (S : Schema) : Ty → Raws → Raws → Type 0 where
    like_nil : {t : Ty} → AlikeAll S t nil nil
    like_cons : {t : Ty} {x y : Raw} {xs ys : Raws} → Alike S t x y → AlikeAll S t xs ys → AlikeAll S t (cons x xs) (cons y ys)

  pub data AlikeFields (S : Schema) : List Field → Mems → Mems → Type 0 where
    like_end : {ms ns : Mems} → AlikeFields S [] ms ns
    like_both : {f : Field} {fs : List Field} {ms ns : Mems} {x y : Raw} → standing ms f ≡ some x → standing ns f ≡ some y → Alike S f.ty x y → AlikeFields S fs ms ns → AlikeFields S (f ∷ fs) ms ns
    like_neither : {f : Field} {fs : List Field} {ms ns : Mems} → standing ms f ≡ none → standing ns f ≡ none → AlikeFields S fs ms ns → AlikeFields S (f ∷ fs) ms ns

-- every number of a raw value is in normal form, as a source gives it
abbrev pub NormalScalar : Scalar → Type 0
NormalScalar (boolean b) = Unit {0}
NormalScalar (whole s) = WholeForm s
NormalScalar (decimal d) = NormalDec d
NormalScalar (string s) = Unit {0}
NormalScalar (symbol s) = Unit {0}

abbrev mutual
  pub Normal : Raw → Type 0
  Normal (null at) = Unit {0}
  Normal (scalar at s) = NormalScalar s
  Normal (variable at n) = Unit {0}
  Normal (list at xs) = NormalAll xs
  Normal (object at ms) = NormalMems ms

  pub NormalAll : Raws → Type 0
  NormalAll nil = Unit {0}
  NormalAll (cons x xs) = Normal x × NormalAll xs

  pub NormalMems : Mems → Type 0
  NormalMems end = Unit {0}
  NormalMems (mem n x ms) = Normal x × NormalMems ms

-- and of every default of a schema
abbrev pub NormalSchema : Schema → Type 0
NormalSchema S = OfInputs (EachDefault (λ x t. Normal x)) S
