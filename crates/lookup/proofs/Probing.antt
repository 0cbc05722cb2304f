-- The search for a name among the slots, and a number that comes to an empty slot.
use Rattle.std.proofs.Common.{◌≡◌, ℕ, ◌+◌, ◌%◌, ◌^◌, mod-lt, ◌<◌, ◌≤◌, ◌⊎◌, inl, inr, List, [], length, get_or, set, replicate, Some, None, Option, Bool, true, false, true≢false, ⊎_elim, sym, ◌∙◌, ap, subst, arith, refl}
use Rattle.std.proofs.lemmas.Bool.{cases_lt, cases_eq}
use Rattle.std.proofs.lemmas.List.{get_or-set_same, get_or-set_other, get_or-replicate, get_or_past, length-replicate, length-set}
use Rattle.std.proofs.lemmas.Option.{get_or_from_slice_get, slice_get-get_or, slice_get_within}
use Rattle.std.specs.List.{slice_get}
use Rattle.lookup.specs.First.{First}
use Rattle.lookup.specs.Slots.{name_hash, slot_at, at_slot, Sound, Passed, Reached, ProbeTold}
use Rattle.lookup.specs.declared.index.Probe.{Probe}
use Rattle.lookup.specs.declared.index.Probe.TheVariants.{Held, Vacant, Full}

module _ (many : ℕ) (names : List (List ℕ)) where
  -- where a name has a number, the number is the name's
  pub has_named : (n : ℕ) (name : List ℕ) → slice_get names n ≡ Some name → get_or names n [] ≡ name
  has_named n name e = get_or_from_slice_get names n name [] e

  -- a number of the list that is not the name's
  pub has_other : (n : ℕ) (name : List ℕ) (b : Bool) → (slice_get names n ≡ Some name → b ≡ true) → b ≡ false → n < length names → get_or names n [] ≡ name → ⊥
  has_other n name b f e h is = true≢false (sym (f (slice_get-get_or names n [] h ∙ ap Some is)) ∙ e)

  -- one step further
  pub passed_more : (slots : List (Option ℕ)) (name : List ℕ) (steps n : ℕ) → Passed many names slots name steps
      → at_slot slots (slot_at many name steps) ≡ Some n → (get_or names n [] ≡ name → ⊥) → Passed many names slots name (steps + 1)
  passed_more slots name steps n p is other t h =
      ⊎_elim (p t)
      (λ a. let same : steps ≡ t = omega arith in subst (λ (t : ℕ). (n : ℕ) × (at_slot slots (slot_at many name t) ≡ Some n) × (get_or names n [] ≡ name → ⊥)) same (n, is, other))
      (cases_lt t steps)

abbrev nothing : Option ℕ
nothing = None

none_some : {A : Type 0} (o : Option A) (x : A) → o ≡ None → o ≡ Some x → ⊥
none_some None x e f = cc
none_some (Some y) x e f = cc

some_same : {A : Type 0} (o : Option A) (x y : A) → o ≡ Some x → o ≡ Some y → x ≡ y
some_same None x y e f = cc
some_same (Some z) x y e f = cc

pub reads_none : (n i : ℕ) → get_or (replicate n (nothing)) i None ≡ None
reads_none n i =
    ⊎_elim
    (λ h. get_or-replicate n i None None h)
    (λ h. get_or_past (replicate n None) i None (omega (arith, length-replicate n nothing)))
    (cases_lt i n)

module _ (many : ℕ) (names : List (List ℕ)) where
  pub sound_none : (slots : List (Option ℕ)) → ((i : ℕ) → get_or slots i None ≡ None) → Sound names slots
  sound_none slots none slot n e = absurd (none_some _ n (none slot) e)

  -- what stands at a slot after another number came to one
  at_set : (slots : List (Option ℕ)) (slot m s n : ℕ) → slot < length slots → at_slot (set slots slot (Some m)) s ≡ Some n
      → (m ≡ n) ⊎ (at_slot slots s ≡ Some n)
  at_set slots slot m s n h e =
      ⊎_elim
      (λ same. inl (some_same _ m n (get_or-set_same slots slot (Some m) None h) (subst (λ (j : ℕ). at_slot (set slots slot (Some m)) j ≡ Some n) same e)))
      (λ ne. inr (sym (get_or-set_other slots slot s (Some m) None ne) ∙ e))
      (cases_eq s slot)

  -- a slot that is filled stays so
  filled_set : (slots : List (Option ℕ)) (slot m s : ℕ) → slot < length slots → (at_slot slots s ≡ None → ⊥) → at_slot (set slots slot (Some m)) s ≡ None → ⊥
  filled_set slots slot m s h f e =
      ⊎_elim
      (λ same. none_some _ m (subst (λ (j : ℕ). at_slot (set slots slot (Some m)) j ≡ None) same e) (get_or-set_same slots slot (Some m) None h))
      (λ ne. f (sym (get_or-set_other slots slot s (Some m) None ne) ∙ e))
      (cases_eq s slot)

  -- what stands at a slot that is filled stays when a number comes to an empty one
  kept_set : (slots : List (Option ℕ)) (slot m s n : ℕ) → at_slot slots slot ≡ None → at_slot slots s ≡ Some n → at_slot (set slots slot (Some m)) s ≡ Some n
  kept_set slots slot m s n none is =
      get_or-set_other slots slot s (Some m) None (λ same. none_some _ n none (subst (λ (j : ℕ). at_slot slots j ≡ Some n) same is)) ∙ is

  pub sound_set : (slots : List (Option ℕ)) (slot m : ℕ) → slot < length slots → Sound names slots → First names (get_or names m []) (Some m) → Sound names (set slots slot (Some m))
  sound_set slots slot m h s f k n e =
      ⊎_elim
      (λ same. subst (λ (j : ℕ). First names (get_or names j []) (Some j)) same f)
      (λ is. s k n is)
      (at_set slots slot m k n h e)

  -- a name that the search does not meet is no earlier one
  pub first_new : (slots : List (Option ℕ)) (name : List ℕ) (number steps : ℕ)
      → ((k : ℕ) → k < number → Reached many names slots (get_or names k []))
      → Passed many names slots name steps → steps < many → at_slot slots (slot_at many name steps) ≡ None
      → number < length names → get_or names number [] ≡ name → First names (get_or names number []) (Some number)
  first_new slots name number steps reached p h none within is = (
    within,
    refl,
    λ k below same.
        let r : Reached many names slots name = subst (λ (n : List ℕ). Reached many names slots n) (same ∙ is) (reached k below) in
        ⊎_elim
        (λ (a : r.steps < steps).
        let e = r.ends (omega arith) in
        let q = p r.steps a in
        q.2 (subst (λ (j : ℕ). get_or names j [] ≡ name) (some_same _ e.0 q.0 e.1 q.1) e.2))
        (λ (a : steps ≤ r.steps).
        ⊎_elim
        (λ (b : steps < r.steps). r.filled steps b none)
        (λ (b : r.steps ≤ steps).
        let same : r.steps ≡ steps = omega arith in
        let e = r.ends (omega arith) in
        none_some _ e.0 (subst (λ (j : ℕ). at_slot slots (slot_at many name j) ≡ None) (sym same) none) e.1)
        (cases_lt steps r.steps))
        (cases_lt r.steps steps),
  )

  passed_filled : (slots : List (Option ℕ)) (name : List ℕ) (steps : ℕ) → Passed many names slots name steps → (t : ℕ) → t < steps → at_slot slots (slot_at many name t) ≡ None → ⊥
  passed_filled slots name steps p t h e = let q = p t h in none_some _ q.0 e q.1

  pub reached_set : (slots : List (Option ℕ)) (slot m : ℕ) (name : List ℕ) → slot < length slots → at_slot slots slot ≡ None → Reached many names slots name → Reached many names (set slots slot (Some m)) name
  reached_set slots slot m name h none r =
      record {
        steps = r.steps;
        filled = λ t a. filled_set slots slot m (slot_at many name t) h (r.filled t a);
        ends = λ a. let e = r.ends a in (e.0, kept_set slots slot m (slot_at many name r.steps) e.0 none e.1, e.2);
        most = r.most;
      }

  pub reached_new : (slots : List (Option ℕ)) (m : ℕ) (name : List ℕ) (steps : ℕ) → slot_at many name steps < length slots → Passed many names slots name steps → steps < many → get_or names m [] ≡ name
      → Reached many names (set slots (slot_at many name steps) (Some m)) name
  reached_new slots m name steps h p within is =
      record {
        steps = steps;
        filled = λ t a. filled_set slots (slot_at many name steps) m (slot_at many name t) h (passed_filled slots name steps p t a);
        ends = λ a. (m, get_or-set_same slots (slot_at many name steps) (Some m) None h, is);
        most = omega arith;
      }

  pub reached_met : (slots : List (Option ℕ)) (n : ℕ) (name : List ℕ) (steps : ℕ) → Passed many names slots name steps → steps < many → at_slot slots (slot_at many name steps) ≡ Some n → get_or names n [] ≡ name → Reached many names slots name
  reached_met slots n name steps p within is named =
      record { steps = steps; filled = passed_filled slots name steps p; ends = λ a. (n, is, named); most = omega arith }

  pub reached_full : (slots : List (Option ℕ)) (name : List ℕ) → Passed many names slots name many → Reached many names slots name
  reached_full slots name p = record { steps = many; filled = passed_filled slots name many p; ends = λ a. absurd (omega arith); most = omega arith }

  -- the numbers below one are in the slots
  pub record Upto (slots : List (Option ℕ)) (number : ℕ) : Type 0 where
    pub long : length slots ≡ many
    pub sound : Sound names slots
    pub reached : (k : ℕ) → k < number → Reached many names slots (get_or names k [])

  pub upto_none : (n : ℕ) → n ≡ many → Upto (replicate n nothing) 0
  upto_none n e = record { long = length-replicate n nothing ∙ e; sound = sound_none _ (reads_none n); reached = λ k h. absurd (omega arith) }

  -- what holds of the numbers below one and of it holds below the next
  next_reached : (slots : List (Option ℕ)) (number : ℕ) (name : List ℕ) → get_or names number [] ≡ name → ((k : ℕ) → k < number → Reached many names slots (get_or names k []))
      → Reached many names slots name → (k : ℕ) → k < number + 1 → Reached many names slots (get_or names k [])
  next_reached slots number name is before last k h =
      ⊎_elim
      (λ a. before k a)
      (λ a. let same : number ≡ k = omega arith in subst (λ (j : ℕ). Reached many names slots (get_or names j [])) same (subst (λ (n : List ℕ). Reached many names slots n) (sym is) last))
      (cases_lt k number)

  pub upto_vacant : (slots : List (Option ℕ)) (number slot : ℕ) (name : List ℕ) → Upto slots number → slice_get names number ≡ Some name → ProbeTold many names slots name (Vacant slot)
      → Upto (set slots slot (Some number)) (number + 1)
  upto_vacant slots number slot name u e (steps, within, p, is, none) =
      let named = has_named many names number name e in
      let here : at_slot slots (slot_at many name steps) ≡ None = subst (λ (j : ℕ). at_slot slots j ≡ None) is none in
      let inside : slot_at many name steps < length slots = subst (λ (n : ℕ). slot_at many name steps < n) (sym u.long) (mod-lt ((name_hash name + steps) % 2 ^ 64) (omega arith)) in
      let new = first_new slots name number steps u.reached p within here (slice_get_within names number name e) named in
      let now : Upto (set slots (slot_at many name steps) (Some number)) (number + 1) =
      record {
        long = length-set slots (slot_at many name steps) (Some number) ∙ u.long;
        sound = sound_set slots (slot_at many name steps) number inside u.sound new;
        reached = next_reached _ number name named (λ k h. reached_set slots (slot_at many name steps) number _ inside here (u.reached k h)) (reached_new slots number name steps inside p within named);
      } in
      subst (λ (j : ℕ). Upto (set slots j (Some number)) (number + 1)) (sym is) now

  met : (slots : List (Option ℕ)) (name : List ℕ) (r : Probe) → ProbeTold many names slots name r → ((slot : ℕ) → r ≡ Vacant slot → ⊥) → Reached many names slots name
  met slots name (Held n) (steps, within, p, is, named) other = reached_met slots n name steps p within is named
  met slots name (Vacant slot) t other = absurd (other slot refl)
  met slots name Full p other = reached_full slots name p

  pub upto_met : (slots : List (Option ℕ)) (number : ℕ) (name : List ℕ) (r : Probe) → Upto slots number → slice_get names number ≡ Some name → ProbeTold many names slots name r → ((slot : ℕ) → r ≡ Vacant slot → ⊥)
      → Upto slots (number + 1)
  upto_met slots number name r u e t other =
      record { long = u.long; sound = u.sound; reached = next_reached slots number name (has_named many names number name e) u.reached (met slots name r t other) }
