-- Findings in each of a list, with what stands before it or without.
use Rattle.std.proofs.Common.{◌≡◌, ℕ, List, [], ◌∷◌, ◌++◌, refl, sym, ap, subst}
use Rattle.std.proofs.lemmas.List.{append_assoc, append-nil}
use Rattle.model.specs.Checking.{FindingKind, Finding, In}
use Rattle.model.specs.Rules.{Among, the_first, a_later}
use Rattle.model.specs.Uses.{of_each, of_each_after}
use Rattle.model.proofs.ChFound.{Each, each_append, in_left, in_right, none_left, none_right, none_both}

module _ {X : Type 0} where
  pub among_after : (x : X) (e r : List X) → Among x (e ++ (x ∷ r))
  among_after x [] r = the_first
  among_after x (y ∷ e) r = a_later (among_after x e r)

  -- WITHOUT WHAT STANDS BEFORE

  pub each_of : (P : FindingKind → ℕ → Type 0) (g : X → List Finding) (xs : List X) → ((x : X) → Among x xs → Each P (g x)) → Each P (of_each g xs)
  each_of P g [] h = tt
  each_of P g (x ∷ xs) h = each_append P (g x) (of_each g xs) (h x the_first) (each_of P g xs (λ y i. h y (a_later i)))

  pub in_each : (z : Finding) (g : X → List Finding) {x : X} {xs : List X} → Among x xs → In z (g x) → In z (of_each g xs)
  in_each z g {x} (the_first {xs = xs}) i = in_left z (g x) (of_each g xs) i
  in_each z g (a_later {y = y} {xs = xs} h) i = in_right z (g y) (of_each g xs) (in_each z g h i)

  pub none_in : (g : X → List Finding) {x : X} {xs : List X} → Among x xs → of_each g xs ≡ [] → g x ≡ []
  none_in g {x} (the_first {xs = xs}) e = none_left (g x) (of_each g xs) e
  none_in g (a_later {y = y} {xs = xs} h) e = none_in g h (none_right (g y) (of_each g xs) e)

  pub none_of : (g : X → List Finding) (xs : List X) → ((x : X) → Among x xs → g x ≡ []) → of_each g xs ≡ []
  none_of g [] h = refl
  none_of g (x ∷ xs) h = none_both (g x) (of_each g xs) (h x the_first) (none_of g xs (λ y i. h y (a_later i)))

  -- AFTER WHAT STANDS BEFORE

  -- one more before
  one_more : (before e : List X) (y : X) → (before ++ (y ∷ [])) ++ e ≡ before ++ (y ∷ e)
  one_more before e y = append_assoc before (y ∷ []) e

  pub each_after : (P : FindingKind → ℕ → Type 0) (g : List X → X → List Finding) (before xs : List X) → ((e : List X) (x : X) (r : List X) → xs ≡ e ++ (x ∷ r) → Each P (g (before ++ e) x)) → Each P (of_each_after g before xs)
  each_after P g before [] h = tt
  each_after P g before (y ∷ xs) h =
      each_append P (g before y) (of_each_after g (before ++ (y ∷ [])) xs) (subst (λ b. Each P (g b y)) (append-nil before) (h [] y xs refl))
      (each_after P g (before ++ (y ∷ [])) xs (λ e x r q. subst (λ b. Each P (g b x)) (sym (one_more before e y)) (h (y ∷ e) x r (ap (λ zs. y ∷ zs) q))))

  pub in_after : (z : Finding) (g : List X → X → List Finding) (before e : List X) (x : X) (r : List X) → In z (g (before ++ e) x) → In z (of_each_after g before (e ++ (x ∷ r)))
  in_after z g before [] x r i = in_left z (g before x) (of_each_after g (before ++ (x ∷ [])) r) (subst (λ b. In z (g b x)) (append-nil before) i)
  in_after z g before (y ∷ e) x r i =
      in_right z (g before y) (of_each_after g (before ++ (y ∷ [])) (e ++ (x ∷ r))) (in_after z g (before ++ (y ∷ [])) e x r (subst (λ b. In z (g b x)) (sym (one_more before e y)) i))

  pub none_in_after : (g : List X → X → List Finding) (before e : List X) (x : X) (r : List X) → of_each_after g before (e ++ (x ∷ r)) ≡ [] → g (before ++ e) x ≡ []
  none_in_after g before [] x r q = subst (λ b. g b x ≡ []) (sym (append-nil before)) (none_left (g before x) (of_each_after g (before ++ (x ∷ [])) r) q)
  none_in_after g before (y ∷ e) x r q =
      subst (λ b. g b x ≡ []) (one_more before e y)
      (none_in_after g (before ++ (y ∷ [])) e x r (none_right (g before y) (of_each_after g (before ++ (y ∷ [])) (e ++ (x ∷ r))) q))

  pub none_after : (g : List X → X → List Finding) (before xs : List X) → ((e : List X) (x : X) (r : List X) → xs ≡ e ++ (x ∷ r) → g (before ++ e) x ≡ []) → of_each_after g before xs ≡ []
  none_after g before [] h = refl
  none_after g before (y ∷ xs) h =
      none_both (g before y) (of_each_after g (before ++ (y ∷ [])) xs) (subst (λ b. g b y ≡ []) (append-nil before) (h [] y xs refl))
      (none_after g (before ++ (y ∷ [])) xs (λ e x r q. subst (λ b. g b x ≡ []) (sym (one_more before e y)) (h (y ∷ e) x r (ap (λ zs. y ∷ zs) q))))

  -- two lists, one after the other
  pub after_append : (g : List X → X → List Finding) (before xs ys : List X) → of_each_after g before (xs ++ ys) ≡ of_each_after g before xs ++ of_each_after g (before ++ xs) ys
  after_append g before [] ys = ap (λ b. of_each_after g b ys) (sym (append-nil before))
  after_append g before (x ∷ xs) ys =
      let i = after_append g (before ++ (x ∷ [])) xs ys in
      rw (i, one_more before xs x) (sym (append_assoc (g before x) (of_each_after g (before ++ (x ∷ [])) xs) (of_each_after g (before ++ (x ∷ xs)) ys)))
