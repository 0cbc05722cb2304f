-- What is wrong with a scalar is that its type takes nothing of it.
use Rattle.std.proofs.Common.{◌≡◌, Bool, true, false, refl, subst₂}
use mathlib.Core.Option.{Option, none, some}
use Rattle.model.specs.Values.{literal, Scalar, boolean, whole, decimal, string, symbol, Def, int_d, float_d, string_d, boolean_d, id_d, enum_d, custom_d, Plain, has}
use Rattle.model.specs.Numbers.{in_int, is_finite}
use Rattle.model.specs.Scalars.{whole_is_float, TakesScalar, when, scalar_at}
use Rattle.model.specs.Checking.{FindingKind, unsupported_value_type, kept_unless, wrong_scalar}
use Rattle.model.specs.Rules.{Akin, int_whole, float_whole, float_decimal, string_string, boolean_boolean, id_string, id_whole, enum_symbol, custom_any, Uncoercible, past_int, whole_past_float, past_float, no_enum_value, of_another_kind}
use Rattle.model.specs.CheckLaws.{UncoercibleExactly}
use Rattle.model.proofs.CoScalars.{There, scalar_there, scalar_taken}

abbrev pub Said : (FindingKind → Type 0) → Option FindingKind → Type 0
Said P none = Unit {0}
Said P (some k) = P k

said_unless : (P : FindingKind → Type 0) (b : Bool) (k : FindingKind) → (b ≡ false → P k) → Said P (kept_unless b k)
said_unless P true k h = tt
said_unless P false k h = h refl

pub wrong_said : (D : Def) (s : Scalar) → Said (Uncoercible D s) (wrong_scalar D s)
wrong_said int_d (whole s) = said_unless (Uncoercible int_d (whole s)) (in_int s) _ (λ e. past_int e)
wrong_said float_d (whole s) = said_unless (Uncoercible float_d (whole s)) _ _ (λ e. whole_past_float e)
wrong_said float_d (decimal d) = said_unless (Uncoercible float_d (decimal d)) (is_finite d) _ (λ e. past_float e)
wrong_said string_d (string s) = tt
wrong_said boolean_d (boolean b) = tt
wrong_said id_d (string s) = tt
wrong_said id_d (whole s) = tt
wrong_said (enum_d ns) (symbol s) = said_unless (Uncoercible (enum_d ns) (symbol s)) (has ns s) _ (λ e. no_enum_value e)
wrong_said custom_d s = tt
wrong_said D s = of_another_kind (λ a. elim a [ ])

pub said_more : {P Q : FindingKind → Type 0} (o : Option FindingKind) → Said P o → ((k : FindingKind) → P k → Q k) → Said Q o
said_more none h f = tt
said_more (some k) h f = f k h

akin_said : (D : Def) (s : Scalar) → (Akin D s → ⊥) → wrong_scalar D s ≡ some unsupported_value_type
akin_said int_d (whole s) h = absurd (h int_whole)
akin_said float_d (whole s) h = absurd (h float_whole)
akin_said float_d (decimal d) h = absurd (h float_decimal)
akin_said string_d (string s) h = absurd (h string_string)
akin_said boolean_d (boolean b) h = absurd (h boolean_boolean)
akin_said id_d (string s) h = absurd (h id_string)
akin_said id_d (whole s) h = absurd (h id_whole)
akin_said (enum_d ns) (symbol s) h = absurd (h enum_symbol)
akin_said custom_d s h = absurd (h custom_any)
akin_said D s h = refl

pub wrong_is : {D : Def} {s : Scalar} {k : FindingKind} → Uncoercible D s k → wrong_scalar D s ≡ some k
wrong_is (past_int e) = rw e refl
wrong_is (whole_past_float e) = rw e refl
wrong_is (past_float e) = rw e refl
wrong_is (no_enum_value e) = rw e refl
wrong_is (of_another_kind {D = D} {s = s} h) = akin_said D s h

-- either something is taken or something is wrong
abbrev pub Either : Option Plain → Option FindingKind → Type 0
Either none none = ⊥
Either none (some k) = Unit {0}
Either (some x) none = Unit {0}
Either (some x) (some k) = ⊥

either_when : (b : Bool) (x : Plain) (k : FindingKind) → Either (when b x) (kept_unless b k)
either_when true x k = tt
either_when false x k = tt

pub either : (D : Def) (s : Scalar) → Either (scalar_at literal D s) (wrong_scalar D s)
either int_d (whole s) = either_when (in_int s) _ _
either float_d (whole s) = either_when (whole_is_float literal s) _ _
either float_d (decimal d) = either_when (is_finite d) _ _
either string_d (string s) = tt
either boolean_d (boolean b) = tt
either id_d (string s) = tt
either id_d (whole s) = tt
either (enum_d ns) (symbol s) = either_when (has ns s) _ _
either D s = tt

scalar_wrong : (P : Plain → Type 0) (Q : FindingKind → Type 0) (o : Option Plain) (w : Option FindingKind) → Either o w → There P o → Said Q w → ((x : Plain) → P x → ⊥) → (k : FindingKind) × Q k
scalar_wrong P Q none none e h k n = absurd e
scalar_wrong P Q none (some k) e h q n = (k, q)
scalar_wrong P Q (some x) w e h q n = absurd (n x h)

pub uncoercible_exactly : UncoercibleExactly
uncoercible_exactly D s = (
  (λ k u x a. subst₂ Either (scalar_taken a) (wrong_is u) (either D s)),
  scalar_wrong (TakesScalar literal D s) (Uncoercible D s) (scalar_at literal D s) (wrong_scalar D s) (either D s) (scalar_there literal D s) (wrong_said D s),
)
