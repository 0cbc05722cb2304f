-- Default cycles by the numbers of the fields
use Rattle.std.proofs.Common.{◌≡◌, ℕ, zero, suc, ◌<◌, ◌↔◌, List, [], ◌∷◌, length, refl, subst, arith}
use mathlib.Core.Option.{Option, none, some}
use Rattle.model.specs.Values.{Schema}
use Rattle.model.specs.Paths.{Steps, step, on, direct}
use Rattle.model.specs.Cycles.{InputField, Among, first, later, Leads, leads, LeadsOn, OnCycle, Acyclic, input_fields, nth, LeadsByNumber, by_number}
use Rattle.model.specs.CycleLaws.{CyclesByNumber}
use Rattle.model.proofs.CyPaths.{steps_same, through_zero, through_step, through_steps, steps_through}
use Rattle.model.proofs.CySettle.{lacks-among}

pub one_some : {A : Type 0} {o : Option A} {x y : A} → o ≡ some x → o ≡ some y → x ≡ y
one_some p q = cc

pub numbered : {A : Type 0} {x : A} {xs : List A} → Among x xs → (i : ℕ) × (nth xs i ≡ some x)
numbered first = (0, refl)
numbered (later a) = let n = numbered a in (suc n.0, n.1)

pub none_some : {A : Type 0} {x : A} → ◌≡◌ {A = Option A} none (some x) → ⊥
none_some e = let z : ◌≡◌ {A = ℕ} 0 1 = cc in omega arith

pub nth_below : {A : Type 0} (xs : List A) (i : ℕ) (x : A) → nth xs i ≡ some x → i < length xs
nth_below [] i x e = absurd (none_some e)
nth_below (y ∷ xs) zero x e = omega arith
nth_below (y ∷ xs) (suc i) x e = let h = nth_below xs i x e in omega arith

-- a field that is led to has a number
met_numbered : {S : Schema} {F G : InputField} → Leads S F G → (i : ℕ) × (nth (input_fields S) i ≡ some G)
met_numbered (leads e l) = numbered (lacks-among l)

pub to_numbers : {S : Schema} {F G : InputField} (i j : ℕ) → nth (input_fields S) i ≡ some F → nth (input_fields S) j ≡ some G → LeadsOn S F G → Steps (LeadsByNumber S) i j
to_numbers i j p q (step e) = step (by_number p q e)
to_numbers i j p q (on e r) = let m = met_numbered e in on (by_number p m.1 e) (to_numbers m.0 j m.1 q r)

-- fields of these numbers, of which one leads on to the other
abbrev LedOn : Schema → ℕ → ℕ → Type 0
LedOn S i j = (F : InputField) × (G : InputField) × (nth (input_fields S) i ≡ some F) × (nth (input_fields S) j ≡ some G) × LeadsOn S F G

led_on : {S : Schema} {i j : ℕ} → Steps (LeadsByNumber S) i j → LedOn S i j
led_on (step (by_number {F = F} {G = G} p q e)) = (F, G, p, q, step e)
led_on {S} (on (by_number {F = F} {G = G} p q e) r) =
    let l = led_on r in
    (F, l.1, p, l.3, on e (subst (λ (H : InputField). LeadsOn S H l.1) (one_some l.2 q) l.4))

pub cycle_numbered : (S : Schema) (i : ℕ) (F : InputField) → nth (input_fields S) i ≡ some F → OnCycle S F ↔ Steps (LeadsByNumber S) i i
cycle_numbered S i F p = (λ c. to_numbers i i p p c, λ s. back (led_on s))
  where
    back : LedOn S i i → OnCycle S F
    back l = subst (λ (G : InputField). LeadsOn S F G) (one_some l.3 p) (subst (λ (G : InputField). LeadsOn S G l.1) (one_some l.2 p) l.4)

-- a field on a cycle has a number
cycle_met : {S : Schema} {F G : InputField} → LeadsOn S F G → (i : ℕ) × (nth (input_fields S) i ≡ some G)
cycle_met (step e) = met_numbered e
cycle_met (on e r) = cycle_met r

pub acyclic_numbered : (S : Schema) → Acyclic S ↔ ((i : ℕ) → Steps (LeadsByNumber S) i i → ⊥)
acyclic_numbered S = (
  λ a i s. let l = led_on s in a l.0 ((cycle_numbered S i l.0 l.2).1 s),
  λ n F c. let m = cycle_met c in n m.0 ((cycle_numbered S m.0 F m.1).0 c),
)

begins_below : (S : Schema) (i j : ℕ) → LeadsByNumber S i j → i < length (input_fields S)
begins_below S i j (by_number {F = F} p q e) = nth_below (input_fields S) i F p

pub cycles_by_number : CyclesByNumber
cycles_by_number S = (
  cycle_numbered S,
  acyclic_numbered S,
  λ i j. (λ e. direct e, through_zero),
  through_step,
  λ i j. (steps_through (length (input_fields S)) (begins_below S), through_steps),
)

-- by any relation that is the one by numbers
pub cycle_related : (S : Schema) (L : ℕ → ℕ → Type 0) → ((i j : ℕ) → L i j ↔ LeadsByNumber S i j) → (i : ℕ) (F : InputField) → nth (input_fields S) i ≡ some F → OnCycle S F ↔ Steps L i i
cycle_related S L h i F p = (
  λ c. steps_same (λ a b. (h a b).1) ((cycle_numbered S i F p).0 c),
  λ s. (cycle_numbered S i F p).1 (steps_same (λ a b. (h a b).0) s),
)
