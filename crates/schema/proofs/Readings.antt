-- Readings put together: where each part has one outcome, the whole has one.
use Rattle.std.proofs.Common.{◌≡◌, ℕ, Bool, true, false, List, [], sym, refl, ap, ◌∙◌, subst}
use Rattle.std.proofs.Math.Option.{Option}
use Rattle.text.specs.TokenGrammar.{Lexical}
use Rattle.reader.specs.Tokens.{Sight, sees, blind}
use Rattle.reader.specs.Reading.{Out, got, fails}
use Rattle.schema.specs.Outcomes.{Goes, Then, Gives, Maps, Sees, Takes, taken, Chosen, Chooses, IfToken, Room, shuts, before, Items, i_shut, i_fails, i_more}

-- a family of outcomes that has one at each place
abbrev pub One : {X : Type 0} → (ℕ → Out X → Type 0) → Type 0
One {X} R = (i : ℕ) (o p : Out X) → R i o → R i p → o ≡ p

pub goes_once : {X Y : Type 0} (B : X → ℕ → Out Y → Type 0) → ((x : X) → One (B x)) → (q : Out X) (o p : Out Y) → Goes B q o → Goes B q p → o ≡ p
goes_once B b (got j x) o p g h = b x j o p g h
goes_once B b (fails f) o p g h = sym g ∙ h

pub once_then : {X Y : Type 0} (A : ℕ → Out X → Type 0) (B : X → ℕ → Out Y → Type 0) → One A → ((x : X) → One (B x)) → One (Then A B)
once_then A B a b i o p h g = goes_once B b h.0 o p h.2 (subst (λ q. Goes B q p) (sym (a i h.0 g.0 h.1 g.1)) g.2)

pub once_gives : {X : Type 0} (x : X) → One (Gives x)
once_gives x i o p h g = sym h ∙ g

pub once_maps : {X Y : Type 0} (f : X → Y) (A : ℕ → Out X → Type 0) → One A → One (Maps f A)
once_maps f A a = once_then A (λ x. Gives (f x)) a (λ x. once_gives (f x))

pub once_room : (n most p : ℕ) → One (Room n most p)
once_room n most p i o q h g = sym h ∙ g

module _ (N : ℕ → Sight → Type 0) (one : (i : ℕ) (v w : Sight) → N i v → N i w → v ≡ w) where
  pub once_sees : {X : Type 0} (k : Sight → ℕ → Out X → Type 0) → ((v : Sight) → One (k v)) → One (Sees N k)
  once_sees k b i o p h g = b h.0 i o p h.2 (subst (λ v. k v i p) (sym (one i h.0 g.0 h.1 g.1)) g.2)

  pub once_takes : {X : Type 0} (of : ℕ → Lexical → Option X) → One (Takes N of)
  once_takes of i o p h g = sym h.2 ∙ ap (taken of) (one i h.0 g.0 h.1 g.1) ∙ g.2

  chosen_once : (c : Bool) {X : Type 0} (P Q : Out X → Type 0) → ((o p : Out X) → P o → P p → o ≡ p) → ((o p : Out X) → Q o → Q p → o ≡ p) → (o p : Out X) → Chosen c (P o) (Q o) → Chosen c (P p) (Q p) → o ≡ p
  chosen_once true P Q a b o p h g = a o p h g
  chosen_once false P Q a b o p h g = b o p h g

  chooses_once : {X : Type 0} (test : Lexical → Bool) (B : ℕ → ℕ → Out X → Type 0) (C : ℕ → Out X → Type 0) → ((s : ℕ) → One (B s)) → One C → (v : Sight) → One (Chooses test B C v)
  chooses_once test B C b c (sees s e x) i o p h g = chosen_once (test x) (B s e) (C i) (b s e) (c i) o p h g
  chooses_once test B C b c (blind f) i o p h g = sym h ∙ g

  pub once_if : {X : Type 0} (test : Lexical → Bool) (B : ℕ → ℕ → Out X → Type 0) (C : ℕ → Out X → Type 0) → ((s : ℕ) → One (B s)) → One C → One (IfToken N test B C)
  once_if test B C b c = once_sees (Chooses test B C) (chooses_once test B C b c)

  module _ {S X : Type 0} (closes : Lexical → Bool) (step : S → X → S) (A : S → ℕ → Out X → Type 0) (a : (s : S) → One (A s)) where
    -- what follows an item
    abbrev pub After : S → Out (List X) → X → ℕ → Type 0
    After s p x j = (q : Out (List X)) × Items N closes step A true (step s x) j q × (before x q ≡ p)

    abbrev pub AfterItem : S → Out (List X) → Out X → Type 0
    AfterItem s p (got j x) = After s p x j
    AfterItem s p (fails f) = fails f ≡ p

    abbrev pub end_of : Sight → ℕ
    end_of (sees s e x) = e
    end_of (blind f) = 0

    -- what an outcome is, by whether what is seen closes the items
    abbrev pub ItemsOn : S → ℕ → Out (List X) → Sight → Bool → Type 0
    ItemsOn s i p v true = got (end_of v) [] ≡ p
    ItemsOn s i p v false = (q : Out X) × A s i q × AfterItem s p q

    pub view : {may : Bool} {s : S} {i : ℕ} {p : Out (List X)} → Items N closes step A may s i p → (v : Sight) → N i v → ItemsOn s i p v (shuts may closes v)
    view {may} {s} {i} {p} (i_shut {b = b} {e = e} {x = x} n h) v m =
        subst (λ w. ItemsOn s i p w (shuts may closes w)) (one i (sees b e x) v n m) (subst (ItemsOn s i p (sees b e x)) (sym h) refl)
    view {may} {s} {i} {p} (i_fails {v = u} {f = f} n h r) v m =
        subst (λ w. ItemsOn s i p w (shuts may closes w)) (one i u v n m) (subst (ItemsOn s i p u) (sym h) (fails f, r, refl))
    view {may} {s} {i} {p} (i_more {j = j} {v = u} {x = x} {q = q} n h r k e) v m =
        subst (λ w. ItemsOn s i p w (shuts may closes w)) (one i u v n m) (subst (ItemsOn s i p u) (sym h) (got j x, r, (q, k, e)))

    same_items : {may : Bool} {s : S} {i : ℕ} {o p : Out (List X)} → Items N closes step A may s i o → Items N closes step A may s i p → o ≡ p
    same_items {s = s} {i = i} {p = p} (i_shut {b = b} {e = e} {x = x} n h) q = subst (ItemsOn s i p (sees b e x)) h (view q (sees b e x) n)
    same_items {s = s} {i = i} {p = p} (i_fails {v = v} {f = f} n h r) q =
        let w = subst (ItemsOn s i p v) h (view q v n) in
        subst (AfterItem s p) (sym (a s i (fails f) w.0 r w.1)) w.2
    same_items {s = s} {i = i} {p = p} (i_more {j = j} {v = v} {x = x} n h r k e) q =
        let w = subst (ItemsOn s i p v) h (view q v n) in
        let u = subst (AfterItem s p) (sym (a s i (got j x) w.0 r w.1)) w.2 in
        sym e ∙ ap (before x) (same_items k u.1) ∙ u.2

    pub once_items : (may : Bool) (s : S) → One (Items N closes step A may s)
    once_items may s i o p h g = same_items h g
