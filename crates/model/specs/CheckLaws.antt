-- The laws of the literal check, each stated once; small public functions have them as contracts.
use Rattle.std.specs.Prelude.{◌≡◌, ℕ, suc, Bool, true, ◌⊎◌, List, [], map}
use Rattle.model.specs.Values.{Name, literal, Scalar, Raw, Raws, Mems, null, scalar, variable, list, object, nil, cons, end, mem, Ty, Field, Def, Schema, Variable, Plain, Rec}
use Rattle.model.specs.Refusals.{scalar_refused, Refusal, ok, refused, Here}
use Rattle.model.specs.Scalars.{TakesScalar}
use Rattle.model.specs.Coercion.{Rule, coerce_at}
use Rattle.model.specs.Back.{Distinct}
use Rattle.model.specs.Bounds.{Settles}
use Rattle.model.specs.Limits.{mem_names}
use Rattle.model.specs.Checking.{FindingKind, Finding, In, AreTypesCompatible, IsVariableUsageAllowed, compatible, usage_allowed, check, VariableFree, RightDefaults}
use Rattle.model.specs.Rules.{Uncoercible, Broken}
use Rattle.model.specs.Twins.{Twin}

-- the functions on types and on the usage of variables say what the standard's algorithms say
abbrev pub UsageExactly : Type 0
UsageExactly =
    ((v l : Ty) → (compatible v l ≡ true → AreTypesCompatible v l) × (AreTypesCompatible v l → compatible v l ≡ true))
    × ((v : Field) (d : Bool) (l : Ty) → (usage_allowed v d l ≡ true → IsVariableUsageAllowed v d l) × (IsVariableUsageAllowed v d l → usage_allowed v d l ≡ true))

-- a scalar is uncoercible by some kind exactly where its type takes nothing of it as a literal
abbrev pub UncoercibleExactly : Type 0
UncoercibleExactly = (D : Def) (s : Scalar)
    → ((k : FindingKind) → Uncoercible D s k → (x : Plain) → TakesScalar literal D s x → ⊥)
    × (((x : Plain) → TakesScalar literal D s x → ⊥) → (k : FindingKind) × Uncoercible D s k)

-- a finding is told exactly where the rule of its kind is broken
abbrev pub FindsTheBroken : Type 0
FindsTheBroken = (S : Schema) (vs : List Variable) (d : Bool) (lone : ℕ) (v : Raw) (t : Ty) (f : Finding)
    → (In f (check S vs d lone v t) → Broken S vs f.kind f.place d lone v t) × (Broken S vs f.kind f.place d lone v t → In f (check S vs d lone v t))

-- where the defaults are right and settle, under a rule that accepts everything, a value without variables is coerced exactly where the check is silent
abbrev pub SilenceIsCoercion : Type 0
SilenceIsCoercion = (k : ℕ) (S : Schema) (R : Rule) → ((n : Name) (bytes : List ℕ) → R n bytes ≡ true) → RightDefaults S → Settles S R k
    → (vs : List Variable) (d : Bool) (lone : ℕ) (h : Here) (v : Raw) (t : Ty) → VariableFree v
    → (check S vs d lone v t ≡ [] → (r : Rec) × (coerce_at (suc k) S R literal h v t ≡ ok r))
    × ((r : Rec) → coerce_at (suc k) S R literal h v t ≡ ok r → check S vs d lone v t ≡ [])

-- and under any rule, whatever the check is silent about is coerced, or the rule alone refuses it
abbrev pub SilenceLeavesTheRule : Type 0
SilenceLeavesTheRule = (k : ℕ) (S : Schema) (R : Rule) → RightDefaults S → Settles S R k
    → (vs : List Variable) (d : Bool) (lone : ℕ) (h : Here) (v : Raw) (t : Ty) → VariableFree v → check S vs d lone v t ≡ []
    → ((r : Rec) × (coerce_at (suc k) S R literal h v t ≡ ok r)) ⊎ ((f : Refusal) × (coerce_at (suc k) S R literal h v t ≡ refused f) × (f.cause ≡ scalar_refused))

-- no object in a value has two members of one name
abbrev mutual
  pub NoNameTwice : Raw → Type 0
  NoNameTwice (null at) = Unit {0}
  NoNameTwice (scalar at s) = Unit {0}
  NoNameTwice (variable at n) = Unit {0}
  NoNameTwice (list at xs) = NoNameTwiceAll xs
  NoNameTwice (object at ms) = Distinct (mem_names ms) × NoNameTwiceMems ms

  pub NoNameTwiceAll : Raws → Type 0
  NoNameTwiceAll nil = Unit {0}
  NoNameTwiceAll (cons x xs) = NoNameTwice x × NoNameTwiceAll xs

  pub NoNameTwiceMems : Mems → Type 0
  NoNameTwiceMems end = Unit {0}
  NoNameTwiceMems (mem n x ms) = NoNameTwice x × NoNameTwiceMems ms

-- where no variable is declared, a silent check leaves none anywhere: of a default, silence is enough
abbrev pub SilenceHoldsNoVariable : Type 0
SilenceHoldsNoVariable = (S : Schema) (d : Bool) (lone : ℕ) (v : Raw) (t : Ty) → NoNameTwice v → check S [] d lone v t ≡ [] → VariableFree v

-- twins have findings of the same kinds
abbrev pub TwinsFindAlike : Type 0
TwinsFindAlike = (S : Schema) (vs : List Variable) (d : Bool) (l m : ℕ) (x y : Raw) → Twin x y → (t : Ty) → map (λ f. f.kind) (check S vs d l x t) ≡ map (λ f. f.kind) (check S vs d m y t)
