-- The laws of default cycles.
use Rattle.std.specs.Prelude.{◌≡◌, ℕ, suc, ◌≤◌, ◌⊎◌, ◌↔◌, true, List, [], ◌∷◌, length}
use Rattle.std.proofs.Math.Option.{some}
use Rattle.model.specs.Values.{Name, literal, Raw, TypeDef, Schema, Rec}
use Rattle.model.specs.Refusals.{Refusal, refused, beyond, Here}
use Rattle.model.specs.Coercion.{Rule, coerce_at}
use Rattle.model.specs.Taking.{Takes}
use Rattle.model.specs.Back.{OfInputs, Distinct, Proper}
use Rattle.model.specs.Bounds.{EachDefault, Settles}
use Rattle.model.specs.Checking.{RightDefaults}
use Rattle.model.specs.Paths.{Steps, Through}
use Rattle.model.specs.Cycles.{InputField, OnCycle, Acyclic, input_fields, with_default, nth, LeadsByNumber}

-- without a cycle the defaults settle at any bound that is at least the number of the input fields that have one
abbrev pub AcyclicSettles : Type 0
AcyclicSettles = (S : Schema) → Acyclic S → (k : ℕ) → length (with_default (input_fields S)) ≤ k → (R : Rule) → Settles S R k

-- no default on a cycle comes to a record, at any bound: if it is not refused, it is beyond each
abbrev pub CyclesNeverSettle : Type 0
CyclesNeverSettle = (S : Schema) (R : Rule) (F : InputField) (x : Raw) → OnCycle S F → F.field.dflt ≡ some x
    → ((r : Rec) → Takes S R literal F.field.ty x r → ⊥)
    × ((k : ℕ) (h : Here) → ((f : Refusal) → coerce_at k S R literal h x F.field.ty ≡ refused f → ⊥) → coerce_at k S R literal h x F.field.ty ≡ beyond)

-- where no default is refused, there is no cycle exactly when the defaults settle at some bound
abbrev pub AcyclicExactly : Type 0
AcyclicExactly = (S : Schema) (R : Rule)
    → OfInputs (EachDefault (λ x t. (k : ℕ) (h : Here) (f : Refusal) → coerce_at k S R literal h x t ≡ refused f → ⊥)) S
    → Acyclic S ↔ (k : ℕ) × Settles S R k

-- under a rule that accepts everything, where every default is right, there is no cycle exactly when every default comes to a record
abbrev pub AcyclicWhenTaken : Type 0
AcyclicWhenTaken = (S : Schema) (R : Rule) → ((n : Name) (bytes : List ℕ) → R n bytes ≡ true) → RightDefaults S
    → Acyclic S ↔ OfInputs (EachDefault (λ x t. (r : Rec) × Takes S R literal t x r)) S

-- cycles by numbers, and Warshall's sets: none of the inner points below 0, all of them below the number of fields, and what each step adds
abbrev pub CyclesByNumber : Type 0
CyclesByNumber = (S : Schema)
    → ((i : ℕ) (F : InputField) → nth (input_fields S) i ≡ some F → OnCycle S F ↔ Steps (LeadsByNumber S) i i)
    × (Acyclic S ↔ ((i : ℕ) → Steps (LeadsByNumber S) i i → ⊥))
    × ((i j : ℕ) → LeadsByNumber S i j ↔ Through (LeadsByNumber S) 0 i j)
    × ((k i j : ℕ) → Through (LeadsByNumber S) (suc k) i j ↔ Through (LeadsByNumber S) k i j ⊎ (Through (LeadsByNumber S) k i k × Through (LeadsByNumber S) k k j))
    × ((i j : ℕ) → Steps (LeadsByNumber S) i j ↔ Through (LeadsByNumber S) (length (input_fields S)) i j)

abbrev pub type_names : List TypeDef → List Name
type_names [] = []
type_names (d ∷ ds) = d.name ∷ type_names ds

-- where no type is declared twice and no input type has two fields of one name, a field has one number
abbrev pub NumberedOnce : Type 0
NumberedOnce = (S : Schema) → Distinct (type_names S.types) → Proper S → (i j : ℕ) (F G : InputField)
    → nth (input_fields S) i ≡ some F → nth (input_fields S) j ≡ some G → F.owner ≡ G.owner → F.field.name ≡ G.field.name → i ≡ j
