-- What is noted one after another.
use Rattle.std.proofs.Common.{◌≡◌, ℕ, zero, suc, ◌+◌, ◌-◌, ◌^◌, ◌≤◌, min, List, [], ◌∷◌, ◌++◌, length, refl, ap, sym, ◌∙◌, set, length-append, append_assoc, subst, arith, ⊎_elim}
use Rattle.std.proofs.lemmas.Bool.{cases_lt}
use Rattle.std.proofs.lemmas.List.{append-nil, length-map}
use Rattle.model.specs.Checking.{Finding}
use Rattle.validation.specs.declared.diagnostic.Diagnostic.{Diagnostic}
use Rattle.validation.specs.declared.diagnostics.Diagnostics.{Diagnostics}
use Rattle.validation.specs.Diagnosed.{finding_of, findings, filled, Noted}

-- one more is kept where it fits
pub noted_at : (ds : List Diagnostic) (n : ℕ) (d : Diagnostic) → findings (set ds n d) ≡ filled (findings ds) n (finding_of d ∷ [])
noted_at [] n d = refl
noted_at (x ∷ []) zero d = refl
noted_at (x ∷ y ∷ ds) zero d = refl
noted_at (x ∷ ds) (suc n) d = ap (λ fs. finding_of x ∷ fs) (noted_at ds n d)

-- past the place nothing changes
past_place : (ps : List Finding) (n : ℕ) (fs : List Finding) → length ps ≤ n → filled ps n fs ≡ ps
past_place [] n fs h = refl
past_place (p ∷ ps) n [] h = refl
past_place (p ∷ ps) zero (f ∷ fs) h = absurd (omega (arith, h))
past_place (p ∷ ps) (suc n) (f ∷ fs) h = ap (λ xs. p ∷ xs) (past_place ps n (f ∷ fs) (omega (arith, h)))

pub noted_past : (ds : List Diagnostic) (n : ℕ) (fs : List Finding) → length ds ≤ n → findings ds ≡ filled (findings ds) n fs
noted_past ds n fs h = sym (past_place (findings ds) n fs (omega (arith, h, length-map ds finding_of)))

none_noted : (ps : List Finding) (n : ℕ) → filled ps n [] ≡ ps
none_noted [] n = refl
none_noted (p ∷ ps) n = refl

-- what is found in two parts
noted_more : (ps : List Finding) (n m : ℕ) (xs ys : List Finding) → m ≡ n + length xs → filled (filled ps n xs) m ys ≡ filled ps n (xs ++ ys)
noted_more [] n m xs ys e = refl
noted_more (p ∷ ps) n m [] ys e = ap (λ k. filled (p ∷ ps) k ys) (omega (arith, e))
noted_more (p ∷ ps) n m (x ∷ xs) [] e = none_noted (filled (p ∷ ps) n (x ∷ xs)) m ∙ ap (filled (p ∷ ps) n) (sym (append-nil (x ∷ xs)))
noted_more (p ∷ ps) n zero (x ∷ xs) (y ∷ ys) e = absurd (omega (arith, e))
noted_more (p ∷ ps) zero (suc m) (x ∷ xs) (y ∷ ys) e = ap (λ zs. x ∷ zs) (noted_more ps zero m xs (y ∷ ys) (omega (arith, e)))
noted_more (p ∷ ps) (suc n) (suc m) (x ∷ xs) (y ∷ ys) e = ap (λ zs. p ∷ zs) (noted_more ps n m (x ∷ xs) (y ∷ ys) (omega (arith, e)))

filled_length : (ps : List Finding) (n : ℕ) (fs : List Finding) → length (filled ps n fs) ≡ length ps
filled_length [] n fs = refl
filled_length (p ∷ ps) n [] = refl
filled_length (p ∷ ps) zero (f ∷ fs) = ap suc (filled_length ps zero fs)
filled_length (p ∷ ps) (suc n) (f ∷ fs) = ap suc (filled_length ps n (f ∷ fs))

either_way : (ps : List Finding) (n m : ℕ) (xs ys : List Finding) → length ps ≤ 2 ^ 64 - 1 → m ≡ min (n + length xs) (2 ^ 64 - 1) → filled (filled ps n xs) m ys ≡ filled ps n (xs ++ ys)
either_way ps n m xs ys h e = ⊎_elim
    (λ l. noted_more ps n m xs ys (omega arith))
    (λ l. past_place (filled ps n xs) m ys (omega (arith, filled_length ps n xs)) ∙ (sym (past_place (filled ps n xs) (n + length xs) ys (omega (arith, filled_length ps n xs))) ∙ noted_more ps n (n + length xs) xs ys refl))
    (cases_lt (n + length xs) (2 ^ 64))

-- what is found in two parts, by a count that stays at the greatest number
pub then_noted : {a b c : Diagnostics} {xs ys : List Finding} → Noted a b xs → Noted b c ys → Noted a c (xs ++ ys)
then_noted {a} {b} {c} {xs} {ys} g h = record {
  same = h.same ∙ g.same;
  place = h.place ∙ (ap (λ ps. filled ps b.total ys) g.place ∙ either_way (findings a.place.now) a.total b.total xs ys (omega (arith, a.indexed, length-map a.place.now finding_of)) (omega arith));
  total = omega (arith, h.total, g.total, length-append xs ys);
}

-- nothing is found
pub none_found : (a : Diagnostics) → Noted a a []
none_found a = record { same = refl; place = sym (none_noted (findings a.place.now) a.total); total = omega arith }

-- b was made of a, and what is found from b on is found from a on with what was found before
abbrev pub Onwards : Diagnostics → Diagnostics → List Finding → List Finding → Type 0
Onwards a b rest whole = (xs : List Finding) × Noted a b xs × (xs ++ rest ≡ whole)

pub onwards_start : (a : Diagnostics) (fs : List Finding) → Onwards a a fs fs
onwards_start a fs = ([], none_found a, refl)

pub onwards_step : {a b c : Diagnostics} {xs rest whole : List Finding} → Onwards a b (xs ++ rest) whole → Noted b c xs → Onwards a c rest whole
onwards_step {xs = xs} {rest} (ys, g, e) h = (ys ++ xs, then_noted g h, append_assoc ys xs rest ∙ e)

pub onwards_end : {a b : Diagnostics} {whole : List Finding} → Onwards a b [] whole → Noted a b whole
onwards_end {a} {b} (ys, g, e) = subst (Noted a b) (sym (append-nil ys) ∙ e) g
