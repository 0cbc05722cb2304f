-- Types by their marks, and where variables may stand.
use Rattle.std.proofs.Common.{◌≡◌, ℕ, zero, suc, ◌-◌, ◌<◌, Bool, true, false, not, ◌&&◌, ◌||◌, ◌↔◌, cond, eqb, ltb, List, [], ◌∷◌, Some, None, get_or, slice_get, refl, sym, ap, ◌∙◌, arith}
use Rattle.std.specs.Bool.{IsTrue}
use Rattle.std.specs.Str.{bytes_eq}
use Rattle.std.proofs.lemmas.Bool.{ltb-false}
use Rattle.model.specs.Values.{Name, Ty, named, list_of, nullable, Field, same}
use Rattle.model.specs.Checking.{as_nullable, compatible, is_value, usage_allowed}
use Rattle.schema.specs.Types.{ty_from}

pub not_not : (b : Bool) → not (not b) ≡ b
not_not true = refl
not_not false = refl

never : (b : Bool) → false ≡ (b && false)
never true = refl
never false = refl

and_true : (b : Bool) → b ≡ (b && true)
and_true true = refl
and_true false = refl

and_false : (b : Bool) → false ≡ (b && false)
and_false = never

none_some : {x : Bool} → None ≡ Some x → ⊥
none_some e = cc

of_some : {x y : Bool} → Some x ≡ Some y → x ≡ y
of_some e = cc

pub nullable_from : (m : List Bool) (w : Name) (k : ℕ) → nullable (ty_from m w k) ≡ not (get_or m k false)
nullable_from m w zero = refl
nullable_from m w (suc k) = refl

marked : (m : List Bool) (k : ℕ) (b : Bool) → (IsTrue b → slice_get m k ≡ Some true) → (slice_get m k ≡ Some true → IsTrue b) → b ≡ get_or m k false
marked [] k true f g = absurd (none_some (f refl))
marked [] k false f g = refl
marked (true ∷ m) zero b f g = g refl
marked (false ∷ m) zero true f g = sym (of_some (f refl))
marked (false ∷ m) zero false f g = refl
marked (x ∷ m) (suc k) b f g = marked m k b f g

-- names by their bytes
pub same_bytes : (v w : Name) → bytes_eq v w ≡ same v w
same_bytes [] [] = refl
same_bytes [] (y ∷ ys) = refl
same_bytes (x ∷ xs) [] = refl
same_bytes (x ∷ xs) (y ∷ ys) = ap (λ b. eqb x y && b) (same_bytes xs ys)

pub none_above : (k : ℕ) → false ≡ ltb 0 k → k ≡ 0
none_above zero e = refl
none_above (suc k) e = absurd (omega (arith, ltb-false 0 (suc k) (sym e)))

-- what a type's outermost mark says
pub says_null : (m : List Bool) (w : Name) (k : ℕ) (b : Bool) → (IsTrue b ↔ (slice_get m k ≡ Some true)) → b ≡ not (nullable (ty_from m w k))
says_null m w k b e = marked m k b e.0 e.1 ∙ (sym (not_not (get_or m k false)) ∙ ap not (sym (nullable_from m w k)))

pub only_then : (n t p r : Bool) → p ≡ n → p ≡ true → r ≡ not t → not r ≡ (n && t)
only_then n true p r a b c = rw (c, ← a, b) refl
only_then n false p r a b c = rw (c, ← a, b) refl

pub only_else : (n t p : Bool) → p ≡ n → p ≡ false → p ≡ (n && t)
only_else n t p a b = rw (← a, b) refl

apart : (a b s : Bool) → ((not a || b) && s) ≡ (not (not b && a) && s)
apart true true s = refl
apart true false s = refl
apart false true s = refl
apart false false s = refl

either : (a : Bool) → (not a || true) ≡ true
either true = refl
either false = refl

-- null aside, and then null
pub null_apart : (v l : Ty) → compatible v l ≡ (not (not (nullable l) && nullable v) && compatible v (as_nullable l))
null_apart (named a m) (named b n) = apart a b (same m n) ∙ ap (λ x. not (not b && a) && (x && same m n)) (sym (either a))
null_apart (named a m) (list_of b l) = never (not (not b && a))
null_apart (list_of a v) (named b n) = never (not (not b && a))
null_apart (list_of a v) (list_of b l) = apart a b (compatible v l) ∙ ap (λ x. not (not b && a) && (x && compatible v l)) (sym (either a))

-- lists by their items
pub items_agree : (m l : List Bool) (v w : Name) (j k : ℕ) → 0 < j → 0 < k
    → compatible (ty_from m v j) (as_nullable (ty_from l w k)) ≡ compatible (ty_from m v (j - 1)) (ty_from l w (k - 1))
items_agree m l v w zero k a b = absurd (omega (arith, a))
items_agree m l v w (suc j) zero a b = absurd (omega (arith, b))
items_agree m l v w (suc j) (suc k) a b =
    let e : j ≡ suc j - 1 = omega arith in
    let f : k ≡ suc k - 1 = omega arith in
    ap (λ x. x && compatible (ty_from m v j) (ty_from l w k)) (either (not (get_or m (suc j) false)))
    ∙ (ap (λ i. compatible (ty_from m v i) (ty_from l w k)) e ∙ ap (λ i. compatible (ty_from m v (suc j - 1)) (ty_from l w i)) f)

-- names by their bytes
pub names_agree : (m l : List Bool) (v w : Name) (j k : ℕ) → j ≡ 0 → k ≡ 0 → compatible (ty_from m v j) (as_nullable (ty_from l w k)) ≡ same v w
names_agree m l v w j k a b = rw (a, b) (ap (λ x. x && same v w) (either (not (get_or m 0 false))))

-- a list and a name
pub none_agree : (m l : List Bool) (v w : Name) (j k : ℕ) → j ≡ 0 → 0 < k → compatible (ty_from m v j) (as_nullable (ty_from l w k)) ≡ false
none_agree m l v w j zero a b = absurd (omega (arith, b))
none_agree m l v w j (suc k) a b = rw a refl

pub none_agree' : (m l : List Bool) (v w : Name) (j k : ℕ) → 0 < j → k ≡ 0 → compatible (ty_from m v j) (as_nullable (ty_from l w k)) ≡ false
none_agree' m l v w zero k a b = absurd (omega (arith, a))
none_agree' m l v w (suc j) k a b = rw b refl

-- IsVariableUsageAllowed by parts
usage : (o d x c : Bool) → cond o ((x || d) && c) (not o && c) ≡ (c && (d || (not o || x)))
usage true true true c = and_true c
usage true true false c = and_true c
usage true false true c = and_true c
usage true false false c = and_false c
usage false true x c = and_true c
usage false false x c = and_true c

pub usage_parts : (v : Field) (d : Bool) (l : Ty) → usage_allowed v d l ≡ (compatible v.ty (as_nullable l) && (d || (not (not (nullable l) && nullable v.ty) || is_value v.dflt)))
usage_parts v d l =
    ap (λ c. cond (not (nullable l) && nullable v.ty) ((is_value v.dflt || d) && compatible v.ty (as_nullable l)) c) (null_apart v.ty l)
    ∙ usage (not (nullable l) && nullable v.ty) d (is_value v.dflt) (compatible v.ty (as_nullable l))

-- a field lacks a value: none of its parts is there
pub all_lack : (n a b r h v : Bool) → r ≡ not n → h ≡ a → h ≡ false → v ≡ b → v ≡ false → r ≡ (not n && (not a && not b))
all_lack n a b r h v e f p g q =
    let x : a ≡ false = sym f ∙ p in
    let y : b ≡ false = sym g ∙ q in
    rw (x, y) (e ∙ and_true (not n))
