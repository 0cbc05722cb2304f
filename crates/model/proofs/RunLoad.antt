-- An accepted load leaves what CoerceVariableValues gives.
use Rattle.std.proofs.Common.{◌≡◌, ℕ, List, [], ◌∷◌, refl, ap, ◌∙◌, subst}
use mathlib.Core.Option.{Option, none, some}
use Rattle.model.specs.Values.{Form, Raw, Mems, object, Schema, Variable}
use Rattle.model.specs.Refusals.{ok, and_then}
use Rattle.model.specs.Coercion.{Rule, Slots, member, variable_at, variables_at}
use Rattle.model.specs.Calls.{Standing, Sheet, load, from_member, standing_of, slots_at, load_of, settle}
use Rattle.model.specs.Laws.{Coerced, RunsStand, LoadCoerces}
use Rattle.model.proofs.CoGood.{good_all, good_of}

-- one variable's slot, then the others
next_slot : (k : ℕ) (S : Schema) (R : Rule) (p : Form) (ms : Mems) (v : Variable) (vs : List Variable) (x : Option Raw) (gs : Standing) (os : Slots)
    → ((qs : Slots) → Coerced k S R vs gs qs → variables_at k S R p ms vs ≡ ok qs)
    → Coerced k S R (v ∷ vs) (from_member p x ∷ gs) os
    → and_then (variable_at k S R v p x) (λ o. and_then (variables_at k S R p ms vs) (λ rs. ok (o ∷ rs))) ≡ ok os
next_slot k S R p ms v vs none gs [] h c = absurd c
next_slot k S R p ms v vs none gs (o ∷ os) h c =
    ap (λ q. and_then q (λ o. and_then (variables_at k S R p ms vs) (λ rs. ok (o ∷ rs)))) c.0 ∙ ap (λ q. and_then q (λ rs. ok (o ∷ rs))) (h os c.1)
next_slot k S R p ms v vs (some x) gs [] h c = absurd c
next_slot k S R p ms v vs (some x) gs (o ∷ os) h c =
    ap (λ q. and_then q (λ o. and_then (variables_at k S R p ms vs) (λ rs. ok (o ∷ rs)))) c.0 ∙ ap (λ q. and_then q (λ rs. ok (o ∷ rs))) (h os c.1)

all_slots : (k : ℕ) (S : Schema) (R : Rule) (p : Form) (ms : Mems) (vs : List Variable) (os : Slots) → Coerced k S R vs (standing_of p ms vs) os → variables_at k S R p ms vs ≡ ok os
all_slots k S R p ms [] [] c = refl
all_slots k S R p ms [] (o ∷ os) c = absurd c
all_slots k S R p ms (v ∷ vs) os c = next_slot k S R p ms v vs (member ms v.field.name) (standing_of p ms vs) os (all_slots k S R p ms vs) c

-- what stands after an accepted load
load_stands : (k : ℕ) (S : Schema) (R : Rule) (cap : ℕ) (vs : List Variable) (p : Form) (at : ℕ) (ms : Mems) (s : Sheet) → load_of k S R cap vs p (object at ms) ≡ ok s → s.standing ≡ standing_of p ms vs
load_stands k S R cap vs p at ms s e =
    good_of (λ (u : Sheet). u.standing ≡ standing_of p ms vs) (load_of k S R cap vs p (object at ms)) s
    (good_all (λ (u : Sheet). u.standing ≡ standing_of p ms vs) (slots_at k S R cap 0 vs (standing_of p ms vs)) (λ os. ok (record { standing = standing_of p ms vs; slots = os })) (λ os. refl)) e

pub load_coerces_from : RunsStand → LoadCoerces
load_coerces_from runs k S R cap vs d st p at ms s e =
    let c = (runs k S R cap vs d (load p (object at ms) ∷ []) s (ap (settle none) e)).0 in
    all_slots k S R p ms vs s.slots (subst (λ gs. Coerced k S R vs gs s.slots) (load_stands k S R cap vs p at ms s e) c)
