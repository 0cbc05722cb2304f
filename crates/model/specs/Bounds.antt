-- The bound on defaults within defaults.
use Rattle.std.specs.Prelude.{ℕ, List, [], ◌∷◌}
use Rattle.std.proofs.Math.Option.{Option, none, some}
use Rattle.model.specs.Values.{literal, Raw, Ty, Field, Schema}
use Rattle.model.specs.Back.{OfInputs}
use Rattle.model.specs.Refusals.{Out, ok, refused, beyond, Here}
use Rattle.model.specs.Coercion.{Rule, coerce_at}

-- the outcome is not beyond the bound
abbrev pub Within : {X : Type 0} → Out X → Type 0
Within (ok x) = Unit {0}
Within (refused f) = Unit {0}
Within beyond = ⊥

abbrev pub OfDefault : (Raw → Ty → Type 0) → Ty → Option Raw → Type 0
OfDefault P t none = Unit {0}
OfDefault P t (some x) = P x t

abbrev pub EachDefault : (Raw → Ty → Type 0) → List Field → Type 0
EachDefault P [] = Unit {0}
EachDefault P (f ∷ fs) = OfDefault P f.ty f.dflt × EachDefault P fs

-- at the bound k every default of the schema has an outcome
abbrev pub Settles : Schema → Rule → ℕ → Type 0
Settles S R k = OfInputs (EachDefault (λ x t. (h : Here) → Within (coerce_at k S R literal h x t))) S
