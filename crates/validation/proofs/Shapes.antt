-- Values by what they say of themselves.
use Rattle.std.proofs.Common.{◌≡◌, ℕ, zero, suc, ◌<◌, get_or, ⊎_elim, arith, Bool, true, false, not, List, [], Some, None, Option, is_some, refl, sym, ap, ◌∙◌}
use Rattle.std.specs.Borrow.{Bor}
use Rattle.std.proofs.Math.Option.{none, some}
use Rattle.std.proofs.lemmas.Bool.{cond-true, cond-false, cases_Bool}
use Rattle.model.specs.Values.{Name, Raw, Raws, Mems, Dec, Scalar, boolean, whole, decimal, string, symbol, null, scalar, variable, list, object, end, mem, place_of, Ty, named, list_of, Field, Schema, same, Variable}
use Rattle.model.specs.Checking.{FindingKind, found, check, check_member, check_scalar, has_default, is_there, inner, undefined_variable, disallowed_variable_usage, check_usage, check_names, usage_allowed, if_undeclared, undeclared_in}
use Rattle.source.specs.declared.raw.Kind.{Kind}
use Rattle.source.specs.declared.raw.Kind.TheVariants.{Null, Boolean, Whole, Decimal, String, Enum, Variable as VariableKind, List as ListKind, Object}
use Rattle.source.specs.Heads.{kind_of, scalar_kind}
use Rattle.source.specs.Table.{Table}
use Rattle.schema.specs.declared.operation.Variable.{Variable as VariableRow}
use Rattle.validation.specs.Literals.{RowFound, VariableHeld, PlaceFound, ErrorTold}
use Rattle.model.specs.Coercion.{member}
use Rattle.source.specs.Standing.{Found}
use Rattle.schema.specs.Types.{ty_from}
use Rattle.schema.specs.Holds.{DefaultHeld}
use Rattle.validation.specs.declared.diagnostic.DiagnosticKind.{DiagnosticKind}
use Rattle.validation.specs.Diagnosed.{kind_of as kind_of_error}

pub scalar_is : (s : Scalar) → (scalar_kind s ≡ Null → ⊥) × (scalar_kind s ≡ VariableKind → ⊥) × (scalar_kind s ≡ ListKind → ⊥) × (scalar_kind s ≡ Object → ⊥)
scalar_is (boolean b) = ((λ e. cc), (λ e. cc), (λ e. cc), (λ e. cc))
scalar_is (whole s) = ((λ e. cc), (λ e. cc), (λ e. cc), (λ e. cc))
scalar_is (decimal d) = ((λ e. cc), (λ e. cc), (λ e. cc), (λ e. cc))
scalar_is (string s) = ((λ e. cc), (λ e. cc), (λ e. cc), (λ e. cc))
scalar_is (symbol s) = ((λ e. cc), (λ e. cc), (λ e. cc), (λ e. cc))

pub variable_is : (x : Raw) → VariableKind ≡ kind_of x → (p : ℕ) × (n : Name) × (x ≡ variable p n)
variable_is (null p) e = cc
variable_is (scalar p s) e = absurd ((scalar_is s).1 (sym e))
variable_is (variable p n) e = (p, n, refl)
variable_is (list p xs) e = cc
variable_is (object p ms) e = cc

pub list_is : (x : Raw) → ListKind ≡ kind_of x → (p : ℕ) × (xs : Raws) × (x ≡ list p xs)
list_is (null p) e = cc
list_is (scalar p s) e = absurd ((scalar_is s).2 (sym e))
list_is (variable p n) e = cc
list_is (list p xs) e = (p, xs, refl)
list_is (object p ms) e = cc

pub object_is : (x : Raw) → Object ≡ kind_of x → (p : ℕ) × (ms : Mems) × (x ≡ object p ms)
object_is (null p) e = cc
object_is (scalar p s) e = absurd ((scalar_is s).3 (sym e))
object_is (variable p n) e = cc
object_is (list p xs) e = cc
object_is (object p ms) e = (p, ms, refl)

pub null_is : (x : Raw) → Null ≡ kind_of x → (p : ℕ) × (x ≡ null p)
null_is (null p) e = (p, refl)
null_is (scalar p s) e = absurd ((scalar_is s).0 (sym e))
null_is (variable p n) e = cc
null_is (list p xs) e = cc
null_is (object p ms) e = cc

-- what is neither a variable nor holds anything holds no undeclared variable
pub plain_contents : (vs : List Variable) (x : Raw) (k : Kind) → k ≡ kind_of x → (k ≡ VariableKind → ⊥) → (k ≡ ListKind → ⊥) → (k ≡ Object → ⊥) → undeclared_in vs x ≡ []
plain_contents vs (null p) k e a b c = refl
plain_contents vs (scalar p s) k e a b c = refl
plain_contents vs (variable p n) k e a b c = absurd (a e)
plain_contents vs (list p xs) k e a b c = absurd (b e)
plain_contents vs (object p ms) k e a b c = absurd (c e)

-- a variable whose row is found is declared
pub declared_row : (T : Table) (m : mathlib.Core.Option.Option Variable) (o : Option (Bor VariableRow)) (p : ℕ) → RowFound T m o → is_some o ≡ true → if_undeclared p m ≡ []
declared_row T none None p r e = absurd (let f : false ≡ true = e in cc)
declared_row T none (Some r) p h e = absurd h
declared_row T (some v) o p r e = refl

pub undeclared_row : (T : Table) (m : mathlib.Core.Option.Option Variable) (o : Option (Bor VariableRow)) (p : ℕ) → RowFound T m o → is_some o ≡ false → if_undeclared p m ≡ found undefined_variable p
undeclared_row T none o p r e = refl
undeclared_row T (some v) None p r e = absurd r
undeclared_row T (some v) (Some r) p h e = absurd (let f : true ≡ false = e in cc)

-- the use of a declared variable that is allowed
pub usage_silent : (T : Table) (m : mathlib.Core.Option.Option Variable) (r : Bor VariableRow) (d : Bool) (lone p : ℕ) (t : Ty) (b : Bool) → RowFound T m (Some r)
    → ((v : Variable) → VariableHeld T r.now v → b ≡ usage_allowed v.field d t) → b ≡ true → check_usage d lone p t m ≡ []
usage_silent T none r d lone p t b h f e = absurd h
usage_silent T (some v) r d lone p t b h f e = cond-true (usage_allowed v.field d t) [] (found disallowed_variable_usage lone) (sym (f v h) ∙ e)

-- SCALARS BY THEIR KINDS

pub whole_is : (s : Scalar) → Whole ≡ scalar_kind s → (t : List ℕ) × (s ≡ whole t)
whole_is (boolean b) e = cc
whole_is (whole t) e = (t, refl)
whole_is (decimal d) e = cc
whole_is (string t) e = cc
whole_is (symbol t) e = cc

pub decimal_is : (s : Scalar) → Decimal ≡ scalar_kind s → (d : Dec) × (s ≡ decimal d)
decimal_is (boolean b) e = cc
decimal_is (whole t) e = cc
decimal_is (decimal d) e = (d, refl)
decimal_is (string t) e = cc
decimal_is (symbol t) e = cc

pub string_is : (s : Scalar) → String ≡ scalar_kind s → (t : List ℕ) × (s ≡ string t)
string_is (boolean b) e = cc
string_is (whole t) e = cc
string_is (decimal d) e = cc
string_is (string t) e = (t, refl)
string_is (symbol t) e = cc

pub boolean_is : (s : Scalar) → Boolean ≡ scalar_kind s → (b : Bool) × (s ≡ boolean b)
boolean_is (boolean b) e = (b, refl)
boolean_is (whole t) e = cc
boolean_is (decimal d) e = cc
boolean_is (string t) e = cc
boolean_is (symbol t) e = cc

pub symbol_is : (s : Scalar) → Enum ≡ scalar_kind s → (t : Name) × (s ≡ symbol t)
symbol_is (boolean b) e = cc
symbol_is (whole t) e = cc
symbol_is (decimal d) e = cc
symbol_is (string t) e = cc
symbol_is (symbol t) e = (t, refl)

pub no_other : (s : Scalar) → (scalar_kind s ≡ Whole → ⊥) → (scalar_kind s ≡ Decimal → ⊥) → (scalar_kind s ≡ String → ⊥) → (scalar_kind s ≡ Boolean → ⊥) → (scalar_kind s ≡ Enum → ⊥) → ⊥
no_other (boolean b) w d s b' e = b' refl
no_other (whole t) w d s b e = w refl
no_other (decimal t) w d s b e = d refl
no_other (string t) w d s b e = s refl
no_other (symbol t) w d s b e = e refl

-- no member is undeclared
pub none_placed : (stands : ℕ → Raw → Type 0) (m : mathlib.Core.Option.Option ℕ) → PlaceFound stands m None → check_names m ≡ []
none_placed stands none h = refl
none_placed stands (some p) h = absurd h

pub scalar_from : (x : Raw) (k : Kind) → k ≡ kind_of x → (k ≡ Null → ⊥) → (k ≡ VariableKind → ⊥) → (k ≡ ListKind → ⊥) → (k ≡ Object → ⊥) → (p : ℕ) × (s : Scalar) × (x ≡ scalar p s)
scalar_from (null p) k e a b c d = absurd (a e)
scalar_from (scalar p s) k e a b c d = (p, s, refl)
scalar_from (variable p n) k e a b c d = absurd (b e)
scalar_from (list p xs) k e a b c d = absurd (c e)
scalar_from (object p ms) k e a b c d = absurd (d e)

pub check_some : (p q : ℕ) (m : mathlib.Core.Option.Option FindingKind) (e : DiagnosticKind) → ErrorTold m (Some e) → q ≡ p → found (kind_of_error e) q ≡ check_scalar p m
check_some p q none e h z = absurd h
check_some p q (some k) e h z = λ i. found (h i) (z i)

pub check_none : (p : ℕ) (m : mathlib.Core.Option.Option FindingKind) → ErrorTold m None → check_scalar p m ≡ []
check_none p none h = refl
check_none p (some k) h = absurd h

-- TYPES BY THEIR LEVELS

pub inner_name : (m : List Bool) (w : Name) (k : ℕ) → inner (ty_from m w k) ≡ w
inner_name m w zero = refl
inner_name m w (suc k) = inner_name m w k

pub listed_type : (m : List Bool) (w : Name) (k : ℕ) → 0 < k → (b : Bool) × (t : Ty) × (ty_from m w k ≡ list_of b t)
listed_type m w zero h = absurd (omega (arith, h))
listed_type m w (suc k) h = (not (get_or m (suc k) false), ty_from m w k, refl)

pub named_type : (m : List Bool) (w : Name) (k : ℕ) → k ≡ 0 → (b : Bool) × (ty_from m w k ≡ named b w)
named_type m w zero h = (not (get_or m 0 false), refl)
named_type m w (suc k) h = absurd (omega (arith, h))

-- MEMBERS

pub no_member : (S : Schema) (vs : List Variable) (ms : Mems) (f : Field) → member ms f.name ≡ none → check_member S vs ms f ≡ []
no_member S vs end f e = refl
no_member S vs (mem m x ms) f e = ⊎_elim
    (λ q. absurd (let z : some x ≡ none = sym (cond-true (same m f.name) (some x) (member ms f.name) q) ∙ e in cc))
    (λ q. cond-false (same m f.name) _ (check_member S vs ms f) q ∙ no_member S vs ms f (sym (cond-false (same m f.name) (some x) (member ms f.name) q) ∙ e))
    (cases_Bool (same m f.name))

pub one_member : (S : Schema) (vs : List Variable) (ms : Mems) (f : Field) (x : Raw) → member ms f.name ≡ some x → check_member S vs ms f ≡ check S vs (has_default f) (place_of x) x f.ty
one_member S vs end f x e = absurd (let z : none ≡ some x = e in cc)
one_member S vs (mem m y ms) f x e = ⊎_elim
    (λ q. cond-true (same m f.name) (check S vs (has_default f) (place_of y) y f.ty) (check_member S vs ms f) q ∙ ap (λ z. check S vs (has_default f) (place_of z) z f.ty) (let z : some y ≡ some x = sym (cond-true (same m f.name) (some y) (member ms f.name) q) ∙ e in cc))
    (λ q. cond-false (same m f.name) (check S vs (has_default f) (place_of y) y f.ty) (check_member S vs ms f) q ∙ one_member S vs ms f x (sym (cond-false (same m f.name) (some y) (member ms f.name) q) ∙ e))
    (cases_Bool (same m f.name))

pub found_none : (stands : ℕ → Raw → Type 0) (m : mathlib.Core.Option.Option Raw) → Found stands m None → m ≡ none
found_none stands none h = refl
found_none stands (some x) h = absurd h

pub found_some : (stands : ℕ → Raw → Type 0) (m : mathlib.Core.Option.Option Raw) (c : ℕ) → Found stands m (Some c) → (x : Raw) × (m ≡ some x) × stands c x
found_some stands none c h = absurd h
found_some stands (some x) c h = (x, refl, h)

pub default_there : (T : Table) (o : Option ℕ) (m : mathlib.Core.Option.Option Raw) → DefaultHeld T o m → is_some o ≡ is_there m
default_there T None none h = refl
default_there T None (some x) h = absurd h
default_there T (Some c) none h = absurd h
default_there T (Some c) (some x) h = refl
