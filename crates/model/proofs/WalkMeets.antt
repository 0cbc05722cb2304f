-- Outcomes with limits beside outcomes without: the same, or a limit refuses what does not fit.
use Rattle.std.proofs.Common.{◌≡◌, ℕ, ◌+◌, ◌≤◌, Bool, true, false, cond, leb, ◌⊎◌, sym, refl, ap, subst, inl, inr, arith}
use Rattle.std.proofs.lemmas.Bool.{leb-true, leb-false}
use Rattle.model.specs.Refusals.{too_deep, no_space, Refusal, Out, ok, refused, beyond, and_then, Here, refuse}
use Rattle.model.specs.Walk.{opening}
use Rattle.model.specs.Laws.{Limited}
use Rattle.model.proofs.CoGood.{Good, good_then, good_of, good_more}

-- the refusal is one of a limit
abbrev pub OfLimit : Refusal → Type 0
OfLimit f = (f.cause ≡ too_deep) ⊎ (f.cause ≡ no_space)

-- accepted with P, as without limits; or refused by a limit where nothing with P is accepted; or else the same
abbrev pub Meets : {X : Type 0} → (X → Type 0) → Out X → Out X → Type 0
Meets P (ok x) q = (q ≡ ok x) × P x
Meets P (refused f) q = (q ≡ refused f) ⊎ (OfLimit f × Good (λ x. P x → ⊥) q)
Meets P beyond q = q ≡ beyond

-- nothing with Q comes of what has no P
lower : {X Y : Type 0} (P : X → Type 0) (Q : Y → Type 0) (x : X) → (P x → ⊥) → (o : Out Y) → Good (λ y. Q y → P x) o → Good (λ y. Q y → ⊥) o
lower P Q x n (ok y) f = λ a. n (f a)
lower P Q x n (refused r) f = tt
lower P Q x n beyond f = tt

none_then : {X Y : Type 0} (P : X → Type 0) (Q : Y → Type 0) (q : Out X) (g : X → Out Y) → Good (λ x. P x → ⊥) q → ((x : X) → Good (λ y. Q y → P x) (g x)) → Good (λ y. Q y → ⊥) (and_then q g)
none_then P Q q g h k = good_then (λ x. P x → ⊥) (λ y. Q y → ⊥) q g h (λ x n. lower P Q x n (g x) (k x))

pub meets_then : {X Y : Type 0} (P : X → Type 0) (Q : Y → Type 0) (o q : Out X) (f g : X → Out Y) → Meets P o q → ((x : X) → P x → Meets Q (f x) (g x)) → ((x : X) → Good (λ y. Q y → P x) (g x)) → Meets Q (and_then o f) (and_then q g)
meets_then P Q (ok x) q f g h k l = rw h.0 (k x h.1)
meets_then P Q (refused r) q f g (inl e) k l = inl (ap (λ o. and_then o g) e)
meets_then P Q (refused r) q f g (inr (c, n)) k l = inr (c, none_then P Q q g n l)
meets_then P Q beyond q f g h k l = ap (λ o. and_then o g) h

-- what is accepted is put into something larger, which fits exactly where its part does
pub meets_put : {X Y : Type 0} (P : X → Type 0) (Q : Y → Type 0) (o q : Out X) (c : X → Y) → Meets P o q → ((x : X) → P x → Q (c x)) → ((x : X) → Q (c x) → P x) → Meets Q (and_then o (λ x. ok (c x))) (and_then q (λ x. ok (c x)))
meets_put P Q o q c h k l = meets_then P Q o q (λ x. ok (c x)) (λ x. ok (c x)) h (λ x p. (refl, k x p)) l

pub meets_cond : {X : Type 0} (P : X → Type 0) (b : Bool) (o q u w : Out X) → Meets P o q → Meets P u w → Meets P (cond b o u) (cond b q w)
meets_cond P true o q u w h k = h
meets_cond P false o q u w h k = k

-- something is opened first, which all that fits has room for
open_cases : {X : Type 0} (Q : X → Type 0) (h : Here) (at depth used n cap : ℕ) (b c : Bool) (F G : Out X) → leb depth 32 ≡ b → leb (used + n) cap ≡ c
    → (depth ≤ 32 → used + n ≤ cap → Meets Q F G) → Good (λ x. Q x → (depth ≤ 32) × (used + n ≤ cap)) G
    → Meets Q (and_then (cond b (cond c (ok tt) (refuse h no_space at)) (refuse h too_deep at)) (λ (u : Unit {0}). F)) G
open_cases Q h at depth used n cap true true F G d s k l = k (leb-true depth 32 d) (leb-true (used + n) cap s)
open_cases Q h at depth used n cap true false F G d s k l = inr (inr refl, good_more (λ x. Q x → (depth ≤ 32) × (used + n ≤ cap)) (λ x. Q x → ⊥) G l (λ x f q. omega (arith, leb-false (used + n) cap s, f q)))
open_cases Q h at depth used n cap false c F G d s k l = inr (inl refl, good_more (λ x. Q x → (depth ≤ 32) × (used + n ≤ cap)) (λ x. Q x → ⊥) G l (λ x f q. omega (arith, leb-false depth 32 d, f q)))

pub meets_open : {X : Type 0} (Q : X → Type 0) (h : Here) (at cap depth used n : ℕ) (F G : Out X)
    → (depth ≤ 32 → used + n ≤ cap → Meets Q F G) → Good (λ x. Q x → (depth ≤ 32) × (used + n ≤ cap)) G
    → Meets Q (and_then (opening h at cap depth used n) (λ u. F)) G
meets_open Q h at cap depth used n F G k l = open_cases Q h at depth used n cap (leb depth 32) (leb (used + n) cap) F G refl refl k l

-- what each way says
pub meets_limited : {X : Type 0} (P : X → Type 0) (o q : Out X) → Meets P o q → Limited o ⊎ (o ≡ q)
meets_limited P (ok x) q h = inr (sym h.0)
meets_limited P (refused f) q (inl e) = inr (sym e)
meets_limited P (refused f) q (inr (c, n)) = inl (f, refl, c)
meets_limited P beyond q h = inr (sym h)

pub meets_accepted : {X : Type 0} (P : X → Type 0) (o q : Out X) (x : X) → Meets P o q → o ≡ ok x → (q ≡ ok x) × P x
meets_accepted P o q x h e = subst (λ u. Meets P u q) e h

pub meets_fitting : {X : Type 0} (P : X → Type 0) (o q : Out X) (x : X) → Meets P o q → q ≡ ok x → P x → o ≡ ok x
meets_fitting P (ok y) q x h e p = cc
meets_fitting P (refused f) q x (inl d) e p = let z : ◌≡◌ {A = ℕ} 0 1 = cc in absurd (omega arith)
meets_fitting P (refused f) q x (inr (c, n)) e p = absurd (good_of (λ y. P y → ⊥) q x n e p)
meets_fitting P beyond q x h e p = let z : ◌≡◌ {A = ℕ} 0 1 = cc in absurd (omega arith)
