-- Lists of findings: what holds of each, and what is among them.
use Rattle.std.proofs.Common.{◌≡◌, ℕ, Bool, true, false, cond, List, [], ◌∷◌, ◌++◌, inl, inr, refl, sym, subst}
use Rattle.model.specs.Checking.{FindingKind, Finding, In}

abbrev pub Each : (FindingKind → ℕ → Type 0) → List Finding → Type 0
Each P [] = Unit {0}
Each P (f ∷ fs) = P f.kind f.place × Each P fs

pub each_append : (P : FindingKind → ℕ → Type 0) (fs gs : List Finding) → Each P fs → Each P gs → Each P (fs ++ gs)
each_append P [] gs h k = k
each_append P (f ∷ fs) gs h k = (h.0, each_append P fs gs h.1 k)

pub each_cond : (P : FindingKind → ℕ → Type 0) (b : Bool) (fs gs : List Finding) → (b ≡ true → Each P fs) → (b ≡ false → Each P gs) → Each P (cond b fs gs)
each_cond P true fs gs h k = h refl
each_cond P false fs gs h k = k refl

pub each_in : (P : FindingKind → ℕ → Type 0) (fs : List Finding) (f : Finding) → Each P fs → In f fs → P f.kind f.place
each_in P [] f h i = absurd i
each_in P (g ∷ gs) f h (inl e) = subst (λ (x : Finding). P x.kind x.place) (sym e) h.0
each_in P (g ∷ gs) f h (inr i) = each_in P gs f h.1 i

pub in_left : (f : Finding) (fs gs : List Finding) → In f fs → In f (fs ++ gs)
in_left f [] gs i = absurd i
in_left f (g ∷ fs) gs (inl e) = inl e
in_left f (g ∷ fs) gs (inr i) = inr (in_left f fs gs i)

pub in_right : (f : Finding) (fs gs : List Finding) → In f gs → In f (fs ++ gs)
in_right f [] gs i = i
in_right f (g ∷ fs) gs i = inr (in_right f fs gs i)

-- something is not nothing
pub is_something : {X : Type 0} (f : Finding) (fs : List Finding) → f ∷ fs ≡ [] → X
is_something f fs e = absurd (subst (Each (λ k p. ⊥)) (sym e) tt).0

-- nothing was found in two parts together exactly where nothing was found in either
pub none_left : (fs gs : List Finding) → fs ++ gs ≡ [] → fs ≡ []
none_left [] gs e = refl
none_left (f ∷ fs) gs e = is_something f (fs ++ gs) e

pub none_right : (fs gs : List Finding) → fs ++ gs ≡ [] → gs ≡ []
none_right [] gs e = e
none_right (f ∷ fs) gs e = is_something f (fs ++ gs) e

pub none_both : (fs gs : List Finding) → fs ≡ [] → gs ≡ [] → fs ++ gs ≡ []
none_both fs gs e f = rw (e, f) refl
