-- The functions on types and on the usage of variables say what the standard's algorithms say.
use Rattle.std.proofs.Common.{◌≡◌, ℕ, Bool, true, false, cond, not, ◌&&◌, ◌||◌, ◌⊎◌, inl, inr, ⊎_elim, refl, sym, subst}
use mathlib.Core.Option.{Option, none, some}
use Rattle.std.proofs.lemmas.Bool.{both_ways}
use Rattle.model.specs.Values.{Raw, null, Ty, named, list_of, nullable, Field}
use Rattle.model.specs.Checking.{AreTypesCompatible, non_null_location, non_null_variable, list_location, identical, IsVariableUsageAllowed, by_default, by_type, is_value, as_nullable, compatible, usage_allowed}
use Rattle.model.specs.CheckLaws.{UsageExactly}
use Rattle.model.proofs.CoNames.{same_refl, same_true}

absurd_bool : {X : Type 0} → ◌≡◌ {A = Bool} false true → X
absurd_bool e = absurd (both_ways false refl e)

compatible_means : (v l : Ty) → compatible v l ≡ true → AreTypesCompatible v l
compatible_means (named true m) (named true n) e = identical (same_true m n e)
compatible_means (named true m) (named false n) e = absurd_bool e
compatible_means (named false m) (named true n) e = non_null_variable refl refl (identical (same_true m n e))
compatible_means (named false m) (named false n) e = non_null_location refl refl (identical (same_true m n e))
compatible_means (named b m) (list_of c l) e = absurd_bool e
compatible_means (list_of b v) (named c n) e = absurd_bool e
compatible_means (list_of true v) (list_of true l) e = list_location (compatible_means v l e)
compatible_means (list_of true v) (list_of false l) e = absurd_bool e
compatible_means (list_of false v) (list_of true l) e = non_null_variable refl refl (list_location (compatible_means v l e))
compatible_means (list_of false v) (list_of false l) e = non_null_location refl refl (list_location (compatible_means v l e))

both_non_null : (v l : Ty) → nullable l ≡ false → nullable v ≡ false → compatible (as_nullable v) (as_nullable l) ≡ true → compatible v l ≡ true
both_non_null (named b m) (named c n) e f k = rw (e, f) k
both_non_null (named b m) (list_of c l) e f k = k
both_non_null (list_of b v) (named c n) e f k = k
both_non_null (list_of b v) (list_of c l) e f k = rw (e, f) k

one_non_null : (v l : Ty) → nullable v ≡ false → compatible (as_nullable v) l ≡ true → compatible v l ≡ true
one_non_null (named false m) (named true n) f k = k
one_non_null (named false m) (named false n) f k = absurd_bool k
one_non_null (named true m) (named c n) f k = absurd (both_ways true f refl)
one_non_null (named b m) (list_of c l) f k = k
one_non_null (list_of b v) (named c n) f k = k
one_non_null (list_of false v) (list_of true l) f k = k
one_non_null (list_of false v) (list_of false l) f k = absurd_bool k
one_non_null (list_of true v) (list_of c l) f k = absurd (both_ways true f refl)

means_compatible : {v l : Ty} → AreTypesCompatible v l → compatible v l ≡ true
means_compatible (non_null_location {v = v} {l = l} e f a) = both_non_null v l e f (means_compatible a)
means_compatible (non_null_variable {v = v} {l = l} e f a) = one_non_null v l f (means_compatible a)
means_compatible (list_location a) = means_compatible a
means_compatible (identical {m = m} e) = rw (sym e) (same_refl m)

either : (b c : Bool) → b || c ≡ true → (b ≡ true) ⊎ (c ≡ true)
either true c e = inl refl
either false c e = inr e

means_either : (b c : Bool) → (b ≡ true) ⊎ (c ≡ true) → b || c ≡ true
means_either true c e = refl
means_either false c (inl e) = absurd_bool e
means_either false c (inr e) = e

both : (b c : Bool) → b && c ≡ true → (b ≡ true) × (c ≡ true)
both true c e = (refl, e)
both false c e = absurd_bool e

not_null : (x : Raw) → is_value (some x) ≡ true → (at : ℕ) → x ≡ null at → ⊥
not_null x h at e = absurd_bool (subst (λ y. is_value (some y) ≡ true) e h)

pub default_means : (o : Option Raw) → is_value o ≡ true → (x : Raw) × (o ≡ some x) × ((at : ℕ) → x ≡ null at → ⊥)
default_means none e = absurd_bool e
default_means (some x) e = (x, refl, not_null x e)

null_or_value : (x : Raw) → ((at : ℕ) → x ≡ null at → ⊥) → is_value (some x) ≡ true
null_or_value (null at) h = absurd (h at refl)
null_or_value x h = refl

pub means_default : (o : Option Raw) → (x : Raw) × (o ≡ some x) × ((at : ℕ) → x ≡ null at → ⊥) → is_value o ≡ true
means_default o h = subst (λ p. is_value p ≡ true) (sym h.1) (null_or_value h.0 h.2)

allowed_means : (v : Field) (d : Bool) (l : Ty) (b c : Bool) → nullable l ≡ b → nullable v.ty ≡ c → cond (not b && c) ((is_value v.dflt || d) && compatible v.ty (as_nullable l)) (compatible v.ty l) ≡ true → IsVariableUsageAllowed v d l
allowed_means v d l true c e f k = by_type (inl e) (compatible_means v.ty l k)
allowed_means v d l false true e f k =
    let w = both (is_value v.dflt || d) (compatible v.ty (as_nullable l)) k in
    by_default e f (⊎_elim (λ z. inl (default_means v.dflt z)) (λ z. inr z) (either (is_value v.dflt) d w.0)) (compatible_means v.ty (as_nullable l) w.1)
allowed_means v d l false false e f k = by_type (inr f) (compatible_means v.ty l k)

by_type_allowed : (b c x y : Bool) → (b ≡ true) ⊎ (c ≡ false) → y ≡ true → cond (not b && c) x y ≡ true
by_type_allowed true c x y h k = k
by_type_allowed false false x y h k = k
by_type_allowed false true x y (inl e) k = absurd_bool e
by_type_allowed false true x y (inr e) k = absurd (both_ways true e refl)

means_allowed : {v : Field} {d : Bool} {l : Ty} → IsVariableUsageAllowed v d l → usage_allowed v d l ≡ true
means_allowed {v} (by_default {d = d} {l = l} e f g a) = rw (e, f, means_either (is_value v.dflt) d (⊎_elim (λ z. inl (means_default v.dflt z)) (λ z. inr z) g)) (means_compatible a)
means_allowed {v} (by_type {d = d} {l = l} g a) = by_type_allowed (nullable l) (nullable v.ty) _ (compatible v.ty l) g (means_compatible a)

pub allowed_exactly : (v : Field) (d : Bool) (l : Ty) → (usage_allowed v d l ≡ true → IsVariableUsageAllowed v d l) × (IsVariableUsageAllowed v d l → usage_allowed v d l ≡ true)
allowed_exactly v d l = (allowed_means v d l (nullable l) (nullable v.ty) refl refl, λ a. means_allowed a)

pub usage_exactly : UsageExactly
usage_exactly = (λ v l. (compatible_means v l, λ a. means_compatible a), allowed_exactly)
