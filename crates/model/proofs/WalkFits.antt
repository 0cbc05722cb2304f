-- What fits the limits is accepted by the walk, and what the walk accepts fits them.
use Rattle.std.proofs.Common.{◌≡◌, ℕ, ◌+◌, ◌≤◌}
use Rattle.model.specs.Values.{Form, Raw, Ty, Schema, Rec}
use Rattle.model.specs.Refusals.{ok, Here}
use Rattle.model.specs.Records.{size}
use Rattle.model.specs.Coercion.{Rule, coerce_at}
use Rattle.model.specs.Walk.{walk_at}
use Rattle.model.specs.Limits.{Shallow}
use Rattle.model.specs.Laws.{WalkFits}
use Rattle.model.proofs.WalkMeets.{meets_accepted, meets_fitting}
use Rattle.model.proofs.WalkAgrees.{Room, walk_at-meets}

-- what the walk accepts is accepted without limits, and fits
pub walk-accepted : (k : ℕ) (S : Schema) (R : Rule) (cap : ℕ) (p : Form) (h : Here) (v : Raw) (t : Ty) (depth used lead : ℕ) (r : Rec)
    → walk_at k S R cap p h v t depth used lead ≡ ok r → (coerce_at k S R p h v t ≡ ok r) × Shallow depth r × (used + (lead + size r) ≤ cap)
walk-accepted k S R cap p h v t depth used lead r e =
    let a = meets_accepted (Room cap depth used lead) (walk_at k S R cap p h v t depth used lead) (coerce_at k S R p h v t) r (walk_at-meets k S R cap p h v t depth used lead) e in
    (a.0, a.1.0, a.1.1)

pub walk-fits : WalkFits
walk-fits k S R cap p h v t depth used lead r = (
  (λ e d s. meets_fitting (Room cap depth used lead) (walk_at k S R cap p h v t depth used lead) (coerce_at k S R p h v t) r (walk_at-meets k S R cap p h v t depth used lead) e (d, s)),
  walk-accepted k S R cap p h v t depth used lead r,
)
