-- What is wrong with scalars, by what a name stands for.
use Rattle.std.proofs.Common.{◌≡◌, ℕ, suc, ◌≤◌, Bool, true, false, not, eqb, ℤ, pos, List, [], ◌∷◌, Some, Option, refl, sym, subst, arith}
use Rattle.std.specs.Bool.{then_some}
use Rattle.std.proofs.lemmas.Bool.{cond-false}
use Rattle.std.proofs.lemmas.Bool.Decides.{nat_tests}
use Rattle.text.specs.NormalForm.{WholeForm, whole_zero, whole_above, whole_below, Form as DecimalForm, form_zero, form, Each}
use Rattle.text.specs.NumberGrammar.{Digits, none as no_digits, digit}
use Rattle.model.specs.Values.{Name, Scalar, boolean, whole, decimal, string, symbol, Dec, Def, int_d, float_d, string_d, boolean_d, id_d, enum_d, input_d, output_d}
use Rattle.model.specs.Checking.{undefined_enum_value, kept_unless, wrong_scalar}
use Rattle.model.specs.Numbers.{digits_in}
use Rattle.schema.specs.declared.definition.Schema.{Schema}
use Rattle.schema.specs.declared.types.Base.{Base}
use Rattle.schema.specs.declared.types.Base.TheVariants.{Int, Float, String, Boolean, Id, Custom, Enum, Input, Output, Unknown}
use Rattle.schema.specs.Documents.{Document}
use Rattle.schema.specs.Ranges.{Numeral, zero_numeral, numeral}
use Rattle.validation.specs.declared.diagnostic.DiagnosticKind.{DiagnosticKind}
use Rattle.validation.specs.declared.diagnostic.DiagnosticKind.TheVariants.{UnsupportedValueType, UndefinedEnumValue}
use Rattle.validation.specs.Literals.{Means, ErrorTold}
use Rattle.validation.proofs.Defined.{DefIs}

pub means : (s : Schema) (D : Document) (b : Base) (d : Def) → DefIs s D b d → Means b d
means s D Int d e = e
means s D Float d e = e
means s D String d e = e
means s D Boolean d e = e
means s D Id d e = e
means s D (Custom k) d e = e
means s D (Enum k) d e = (_, e)
means s D (Input k) d e = (_, e.1)
means s D Output d e = e
means s D Unknown d e = e

-- what is told of a definition
pub told_of : (d e : Def) (x : Scalar) (o : Option DiagnosticKind) → d ≡ e → ErrorTold (wrong_scalar e x) o → ErrorTold (wrong_scalar d x) o
told_of d e x o p h = subst (λ (f : Def). ErrorTold (wrong_scalar f x) o) (sym p) h

abbrev pub Unsupported : Def → Scalar → Type 0
Unsupported d x = ErrorTold (wrong_scalar d x) (Some UnsupportedValueType)

pub whole_unsupported : (b : Base) (d : Def) (t : List ℕ) → Means b d → (b ≡ Int → ⊥) → (b ≡ Float → ⊥) → (b ≡ Id → ⊥) → ((k : ℕ) → b ≡ Custom k → ⊥) → Unsupported d (whole t)
whole_unsupported Int d t m a b c e = absurd (a refl)
whole_unsupported Float d t m a b c e = absurd (b refl)
whole_unsupported String d t m a b c e = told_of d string_d (whole t) _ m refl
whole_unsupported Boolean d t m a b c e = told_of d boolean_d (whole t) _ m refl
whole_unsupported Id d t m a b c e = absurd (c refl)
whole_unsupported (Custom k) d t m a b c e = absurd (e k refl)
whole_unsupported (Enum k) d t m a b c e = told_of d (enum_d m.0) (whole t) _ m.1 refl
whole_unsupported (Input k) d t m a b c e = told_of d (input_d m.0) (whole t) _ m.1 refl
whole_unsupported Output d t m a b c e = told_of d output_d (whole t) _ m refl
whole_unsupported Unknown d t m a b c e = told_of d output_d (whole t) _ m refl

pub decimal_unsupported : (b : Base) (d : Def) (t : Dec) → Means b d → (b ≡ Float → ⊥) → ((k : ℕ) → b ≡ Custom k → ⊥) → Unsupported d (decimal t)
decimal_unsupported Int d t m a e = told_of d int_d (decimal t) _ m refl
decimal_unsupported Float d t m a e = absurd (a refl)
decimal_unsupported String d t m a e = told_of d string_d (decimal t) _ m refl
decimal_unsupported Boolean d t m a e = told_of d boolean_d (decimal t) _ m refl
decimal_unsupported Id d t m a e = told_of d id_d (decimal t) _ m refl
decimal_unsupported (Custom k) d t m a e = absurd (e k refl)
decimal_unsupported (Enum k) d t m a e = told_of d (enum_d m.0) (decimal t) _ m.1 refl
decimal_unsupported (Input k) d t m a e = told_of d (input_d m.0) (decimal t) _ m.1 refl
decimal_unsupported Output d t m a e = told_of d output_d (decimal t) _ m refl
decimal_unsupported Unknown d t m a e = told_of d output_d (decimal t) _ m refl

pub string_unsupported : (b : Base) (d : Def) (t : List ℕ) → Means b d → (b ≡ String → ⊥) → (b ≡ Id → ⊥) → ((k : ℕ) → b ≡ Custom k → ⊥) → Unsupported d (string t)
string_unsupported Int d t m a c e = told_of d int_d (string t) _ m refl
string_unsupported Float d t m a c e = told_of d float_d (string t) _ m refl
string_unsupported String d t m a c e = absurd (a refl)
string_unsupported Boolean d t m a c e = told_of d boolean_d (string t) _ m refl
string_unsupported Id d t m a c e = absurd (c refl)
string_unsupported (Custom k) d t m a c e = absurd (e k refl)
string_unsupported (Enum k) d t m a c e = told_of d (enum_d m.0) (string t) _ m.1 refl
string_unsupported (Input k) d t m a c e = told_of d (input_d m.0) (string t) _ m.1 refl
string_unsupported Output d t m a c e = told_of d output_d (string t) _ m refl
string_unsupported Unknown d t m a c e = told_of d output_d (string t) _ m refl

pub boolean_unsupported : (b : Base) (d : Def) (t : Bool) → Means b d → (b ≡ Boolean → ⊥) → ((k : ℕ) → b ≡ Custom k → ⊥) → Unsupported d (boolean t)
boolean_unsupported Int d t m a e = told_of d int_d (boolean t) _ m refl
boolean_unsupported Float d t m a e = told_of d float_d (boolean t) _ m refl
boolean_unsupported String d t m a e = told_of d string_d (boolean t) _ m refl
boolean_unsupported Boolean d t m a e = absurd (a refl)
boolean_unsupported Id d t m a e = told_of d id_d (boolean t) _ m refl
boolean_unsupported (Custom k) d t m a e = absurd (e k refl)
boolean_unsupported (Enum k) d t m a e = told_of d (enum_d m.0) (boolean t) _ m.1 refl
boolean_unsupported (Input k) d t m a e = told_of d (input_d m.0) (boolean t) _ m.1 refl
boolean_unsupported Output d t m a e = told_of d output_d (boolean t) _ m refl
boolean_unsupported Unknown d t m a e = told_of d output_d (boolean t) _ m refl

pub symbol_unsupported : (b : Base) (d : Def) (t : Name) → Means b d → ((k : ℕ) → b ≡ Enum k → ⊥) → ((k : ℕ) → b ≡ Custom k → ⊥) → Unsupported d (symbol t)
symbol_unsupported Int d t m a e = told_of d int_d (symbol t) _ m refl
symbol_unsupported Float d t m a e = told_of d float_d (symbol t) _ m refl
symbol_unsupported String d t m a e = told_of d string_d (symbol t) _ m refl
symbol_unsupported Boolean d t m a e = told_of d boolean_d (symbol t) _ m refl
symbol_unsupported Id d t m a e = told_of d id_d (symbol t) _ m refl
symbol_unsupported (Custom k) d t m a e = absurd (e k refl)
symbol_unsupported (Enum k) d t m a e = absurd (a k refl)
symbol_unsupported (Input k) d t m a e = told_of d (input_d m.0) (symbol t) _ m.1 refl
symbol_unsupported Output d t m a e = told_of d output_d (symbol t) _ m refl
symbol_unsupported Unknown d t m a e = told_of d output_d (symbol t) _ m refl

no_minus : (d : ℕ) (ds : List ℕ) → 49 ≤ d → digits_in (d ∷ ds) ≡ d ∷ ds
no_minus d ds h = cond-false (eqb d 45) ds (d ∷ ds) (grind (arith, nat_tests))

-- numerals of numbers in normal form
pub whole_numeral : (t : List ℕ) → WholeForm t → Numeral (pos 0) (digits_in t)
whole_numeral t whole_zero = zero_numeral
whole_numeral (d ∷ ds) (whole_above a b h) = subst (Numeral (pos 0)) (sym (no_minus d ds a)) (numeral a b h)
whole_numeral t (whole_below a b h) = numeral a b h

digits_each : (ds : List ℕ) → Each ds → Digits ds
digits_each [] h = no_digits
digits_each (d ∷ ds) h = digit (h 0 (omega arith)) (digits_each ds (λ k l. h (suc k) (omega (arith, l))))

pub decimal_numeral : (n : Bool) (e : ℤ) (ds : List ℕ) → DecimalForm n e ds → Numeral e ds
decimal_numeral n e ds form_zero = zero_numeral
decimal_numeral n e [] (form h l a b) = absurd (omega (arith, l))
decimal_numeral n e (d ∷ ds) (form h l a b) = let x = h 0 (omega arith) in numeral (omega (arith, x.0, a)) x.1 (digits_each ds (λ k m. h (suc k) (omega (arith, m))))

pub told_unless : (b : Bool) → ErrorTold (kept_unless b undefined_enum_value) (then_some (not b) UndefinedEnumValue)
told_unless true = tt
told_unless false = refl
