-- Scalars that come to the same are alike, and alike ones come to the same.
use Rattle.std.proofs.Common.{◌≡◌, ℕ, List, sym, refl, ap, ◌∙◌, subst, arith}
use Rattle.text.specs.NormalForm.{WholeForm}
use Rattle.text.proofs.NormLaws.{same_back, same_onward}
use Rattle.model.specs.Values.{Name, Form, Dec, Scalar, boolean, whole, decimal, string, symbol, Def, float_d, enum_d, Plain, p_boolean, p_whole, p_decimal, p_string}
use Rattle.model.specs.Numbers.{decimal_of, NormalDec, SameDec}
use Rattle.model.specs.Scalars.{plain, TakesScalar, int_whole, float_decimal, float_whole, string_string, boolean_boolean, id_string, id_whole, enum_json, enum_literal, custom_any}
use Rattle.model.specs.Likeness.{whole_dec, IsNumber, number_whole, number_decimal, IsText, text_string, text_symbol, AlikeKept, kept_boolean, kept_whole, kept_decimal, kept_text, AlikeScalar, like_int, like_float, like_string, like_boolean, like_id_string, like_id_whole, like_enum, like_custom, NormalScalar}
use Rattle.model.specs.Laws.{WholeAsDecimal, SameNumber}

-- the laws of numbers
pub record Numbered : Type 0 where
  pub as_decimal : WholeAsDecimal
  pub number : SameNumber

same_itself : Numbered → (d : Dec) → SameDec d d
same_itself N d = N.number.2 d

same_equal : Numbered → (d e : Dec) → d ≡ e → SameDec d e
same_equal N d e q = subst (SameDec d) q (same_itself N d)

-- a whole number is worth its decimal
whole_worth : Numbered → (s : List ℕ) (d : Dec) → WholeForm s → decimal_of s ≡ d → SameDec (whole_dec s) d
whole_worth N s d f e = subst (SameDec (whole_dec s)) e (N.as_decimal s f).1

whole_normal : Numbered → (s : List ℕ) (d : Dec) → WholeForm s → decimal_of s ≡ d → NormalDec d
whole_normal N s d f e = subst NormalDec e (N.as_decimal s f).0

one_decimal : {d e : Dec} → p_decimal d ≡ p_decimal e → d ≡ e
one_decimal q = cc

pub kept_like : Numbered → (x y : Scalar) → plain x ≡ plain y → AlikeKept x y
kept_like N (boolean a) (boolean b) e = kept_boolean cc
kept_like N (boolean a) (whole t) e = let z : ◌≡◌ {A = ℕ} 0 1 = cc in absurd (omega arith)
kept_like N (boolean a) (decimal t) e = let z : ◌≡◌ {A = ℕ} 0 1 = cc in absurd (omega arith)
kept_like N (boolean a) (string t) e = let z : ◌≡◌ {A = ℕ} 0 1 = cc in absurd (omega arith)
kept_like N (boolean a) (symbol t) e = let z : ◌≡◌ {A = ℕ} 0 1 = cc in absurd (omega arith)
kept_like N (whole s) (boolean t) e = let z : ◌≡◌ {A = ℕ} 0 1 = cc in absurd (omega arith)
kept_like N (whole s) (whole t) e = let q : s ≡ t = cc in kept_whole (same_equal N (whole_dec s) (whole_dec t) (ap whole_dec q))
kept_like N (whole s) (decimal t) e = let z : ◌≡◌ {A = ℕ} 0 1 = cc in absurd (omega arith)
kept_like N (whole s) (string t) e = let z : ◌≡◌ {A = ℕ} 0 1 = cc in absurd (omega arith)
kept_like N (whole s) (symbol t) e = let z : ◌≡◌ {A = ℕ} 0 1 = cc in absurd (omega arith)
kept_like N (decimal s) (boolean t) e = let z : ◌≡◌ {A = ℕ} 0 1 = cc in absurd (omega arith)
kept_like N (decimal s) (whole t) e = let z : ◌≡◌ {A = ℕ} 0 1 = cc in absurd (omega arith)
kept_like N (decimal s) (decimal t) e = kept_decimal (same_equal N s t (one_decimal e))
kept_like N (decimal s) (string t) e = let z : ◌≡◌ {A = ℕ} 0 1 = cc in absurd (omega arith)
kept_like N (decimal s) (symbol t) e = let z : ◌≡◌ {A = ℕ} 0 1 = cc in absurd (omega arith)
kept_like N (string s) (boolean t) e = let z : ◌≡◌ {A = ℕ} 0 1 = cc in absurd (omega arith)
kept_like N (string s) (whole t) e = let z : ◌≡◌ {A = ℕ} 0 1 = cc in absurd (omega arith)
kept_like N (string s) (decimal t) e = let z : ◌≡◌ {A = ℕ} 0 1 = cc in absurd (omega arith)
kept_like N (string s) (string t) e = let q : t ≡ s = cc in kept_text {s = s} text_string (subst (λ u. IsText (string t) u) q text_string)
kept_like N (string s) (symbol t) e = let q : t ≡ s = cc in kept_text {s = s} text_string (subst (λ u. IsText (symbol t) u) q text_symbol)
kept_like N (symbol s) (boolean t) e = let z : ◌≡◌ {A = ℕ} 0 1 = cc in absurd (omega arith)
kept_like N (symbol s) (whole t) e = let z : ◌≡◌ {A = ℕ} 0 1 = cc in absurd (omega arith)
kept_like N (symbol s) (decimal t) e = let z : ◌≡◌ {A = ℕ} 0 1 = cc in absurd (omega arith)
kept_like N (symbol s) (string t) e = let q : t ≡ s = cc in kept_text {s = s} text_symbol (subst (λ u. IsText (string t) u) q text_string)
kept_like N (symbol s) (symbol t) e = let q : t ≡ s = cc in kept_text {s = s} text_symbol (subst (λ u. IsText (symbol t) u) q text_symbol)

text_plain : {x : Scalar} {s : List ℕ} → IsText x s → plain x ≡ p_string s
text_plain text_string = refl
text_plain text_symbol = refl

pub kept_agree : Numbered → {x y : Scalar} → AlikeKept x y → NormalScalar x → NormalScalar y → plain x ≡ plain y
kept_agree N (kept_boolean e) f g = ap p_boolean e
kept_agree N (kept_whole {s} {t} w) f g = ap p_whole (N.number.1 s t f g w)
kept_agree N (kept_decimal {d} {e} w) f g = ap p_decimal (N.number.0 d e f g w)
kept_agree N (kept_text a b) f g = text_plain a ∙ sym (text_plain b)

-- what a scalar comes to at Float is in normal form and worth the scalar
pub record Floats (x : Scalar) (d : Dec) : Type 0 where
  pub number : Dec
  pub is_number : IsNumber x number
  pub worth : SameDec number d
  pub normal : NormalDec d

float_takes : Numbered → {p : Form} {x : Scalar} {X : Plain} → TakesScalar p float_d x X → NormalScalar x → (d : Dec) → X ≡ p_decimal d → Floats x d
float_takes N (float_decimal {d = e} u) f d q = record { number = e; is_number = number_decimal; worth = same_equal N e d (one_decimal q); normal = subst NormalDec (one_decimal q) f }
float_takes N (float_whole {s = s} {d = e} u r) f d q =
    record { number = whole_dec s; is_number = number_whole refl; worth = whole_worth N s d f (r ∙ one_decimal q); normal = whole_normal N s d f (r ∙ one_decimal q) }

float_is : {p : Form} {x : Scalar} {X : Plain} → TakesScalar p float_d x X → (d : Dec) × (X ≡ p_decimal d)
float_is (float_decimal {d = d} u) = (d, refl)
float_is (float_whole {d = d} u e) = (d, refl)

number_once : {x : Scalar} {d e : Dec} → IsNumber x d → IsNumber x e → d ≡ e
number_once (number_whole p) (number_whole q) = sym p ∙ q
number_once number_decimal number_decimal = refl

float_like : Numbered → {p q : Form} {x y : Scalar} {X : Plain} → TakesScalar p float_d x X → NormalScalar x → TakesScalar q float_d y X → NormalScalar y → AlikeScalar float_d x y
float_like N a f b g =
    let d = float_is a in
    let u = float_takes N a f d.0 d.1 in
    let w = float_takes N b g d.0 d.1 in
    like_float u.is_number w.is_number (same_onward u.worth (same_back w.worth))

float_agree : Numbered → {p q : Form} {x y : Scalar} {X Y : Plain} {d e : Dec} → TakesScalar p float_d x X → NormalScalar x → IsNumber x d → IsNumber y e → SameDec d e → TakesScalar q float_d y Y → NormalScalar y → X ≡ Y
float_agree N {d = d} {e = e} a f i j s b g =
    let c = float_is a in
    let k = float_is b in
    let u = float_takes N a f c.0 c.1 in
    let w = float_takes N b g k.0 k.1 in
    let m : SameDec u.number e = subst (λ n. SameDec n e) (number_once i u.is_number) s in
    let o : SameDec u.number w.number = subst (λ n. SameDec u.number n) (number_once j w.is_number) m in
    let r = N.number.0 c.0 k.0 u.normal w.normal (same_onward (same_back u.worth) (same_onward o w.worth)) in
    c.1 ∙ ap p_decimal r ∙ sym k.1

-- scalars that come to the same are alike
pub scalar_like : Numbered → {p q : Form} {D : Def} {x y : Scalar} {X : Plain} → TakesScalar p D x X → NormalScalar x → TakesScalar q D y X → NormalScalar y → AlikeScalar D x y
scalar_like N (int_whole {s = s} u) f (int_whole w) g = like_int (same_itself N (whole_dec s))
scalar_like N {p} (float_decimal u) f b g = float_like N {p = p} (float_decimal u) f b g
scalar_like N {p} (float_whole u e) f b g = float_like N {p = p} (float_whole u e) f b g
scalar_like N string_string f string_string g = like_string refl
scalar_like N boolean_boolean f boolean_boolean g = like_boolean refl
scalar_like N id_string f id_string g = like_id_string refl
scalar_like N (id_whole {s = s}) f id_whole g = like_id_whole (same_itself N (whole_dec s))
scalar_like N (enum_json u) f (enum_json w) g = like_enum text_string text_string
scalar_like N (enum_json u) f (enum_literal w) g = like_enum text_string text_symbol
scalar_like N (enum_literal u) f (enum_json w) g = like_enum text_symbol text_string
scalar_like N (enum_literal u) f (enum_literal w) g = like_enum text_symbol text_symbol
scalar_like N {x = x} {y = y} (custom_any a) f (custom_any b) g = like_custom (kept_like N x y (a ∙ sym b))

enum_is : {p : Form} {ns : List Name} {x : Scalar} {s : List ℕ} {X : Plain} → TakesScalar p (enum_d ns) x X → IsText x s → X ≡ p_string s
enum_is (enum_json u) text_string = refl
enum_is (enum_literal u) text_symbol = refl

-- alike scalars come to the same
pub scalar_agree : Numbered → {p q : Form} {D : Def} {x y : Scalar} {X Y : Plain} → AlikeScalar D x y → TakesScalar p D x X → NormalScalar x → TakesScalar q D y Y → NormalScalar y → X ≡ Y
scalar_agree N (like_int {s} {t} w) (int_whole u) f (int_whole v) g = ap p_whole (N.number.1 s t f g w)
scalar_agree N (like_float i j w) a f b g = float_agree N a f i j w b g
scalar_agree N (like_string e) string_string f string_string g = ap p_string e
scalar_agree N (like_boolean e) boolean_boolean f boolean_boolean g = ap p_boolean e
scalar_agree N (like_id_string e) id_string f id_string g = ap p_string e
scalar_agree N (like_id_whole {s} {t} w) id_whole f id_whole g = ap p_whole (N.number.1 s t f g w)
scalar_agree N (like_enum i j) a f b g = enum_is a i ∙ sym (enum_is b j)
scalar_agree N (like_custom k) (custom_any a) f (custom_any b) g = sym a ∙ kept_agree N k f g ∙ b
