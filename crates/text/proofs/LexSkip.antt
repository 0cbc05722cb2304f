-- What is ignored, one thing after another.
use Rattle.std.proofs.Common.{◌≡◌, ℕ, ◌≤◌, min, List, length, drop, sym, refl, ap, ◌∙◌, subst, ⊎_elim, arith}
use Rattle.std.proofs.lemmas.Bool.{cases_lt}
use Rattle.text.specs.declared.language.Language.{Language}
use Rattle.text.specs.TokenGrammar.{Skips, skipped, skip, Ignored}
use Rattle.text.specs.TokenFound.{Stops, Skipped, StepAt}
use Rattle.text.proofs.LexBase.{gone}

-- one more thing at the end
pub then : {I : List ℕ → List ℕ → Type 0} {xs ys zs : List ℕ} → Skips I xs ys → I ys zs → Skips I xs zs
then skipped i = skip i skipped
then (skip j k) i = skip j (then k i)

-- without the first thing
peel : {I : List ℕ → List ℕ → Type 0} {xs ys r : List ℕ} → I xs ys → ((s : List ℕ) → I xs s → ys ≡ s) → ((s : List ℕ) → I r s → ⊥) → Skips I xs r → Skips I ys r
peel {ys = ys} i o n skipped = absurd (n ys i)
peel {I} {r = r} i o n (skip {ys = zs} j k) = subst (λ l. Skips I l r) (sym (o zs j)) k

-- nothing to skip
rests : {I : List ℕ → List ℕ → Type 0} {xs r : List ℕ} → ((s : List ℕ) → I xs s → ⊥) → Skips I xs r → xs ≡ r
rests n skipped = refl
rests n (skip {ys = ys} i k) = absurd (n ys i)

-- what is ignored leads from `at` to here, and goes on from here
pub record SkipSofar (language : Language) (text : List ℕ) (at here : ℕ) : Type 0 where
  pub onward : at ≤ length text → at ≤ here
  pub within : here ≤ length text
  pub leads : Skips (Ignored language) (drop at text) (drop here text)
  pub back : (r : List ℕ) → Skips (Ignored language) (drop at text) r → Stops language r → Skips (Ignored language) (drop here text) r

least : (text : List ℕ) (at here : ℕ) → here ≡ min at (length text) → drop at text ≡ drop here text
least text at here e =
    ⊎_elim
    (λ h. let f : at ≡ here = omega arith in ap (λ n. drop n text) f)
    (λ h. gone text at h ∙ sym (gone text here (omega arith)))
    (cases_lt at (length text))

pub skip_start : (language : Language) (text : List ℕ) (at here : ℕ) → here ≡ min at (length text) → SkipSofar language text at here
skip_start language text at here e =
    let d = least text at here e in
    record {
      onward = λ h. omega arith;
      within = omega arith;
      leads = subst (λ l. Skips (Ignored language) (drop at text) l) d skipped;
      back = λ r k n. subst (λ l. Skips (Ignored language) l r) d k;
    }

pub skip_more : {language : Language} {text : List ℕ} {at here : ℕ} (next : ℕ) → SkipSofar language text at here → StepAt (Ignored language) text here next → SkipSofar language text at next
skip_more next s p = record {
  onward = λ h. omega (arith, s.onward h, p.forward);
  within = p.within;
  leads = then s.leads p.reads;
  back = λ r k n. peel p.reads p.only n (s.back r k n);
}

pub skip_done : {language : Language} {text : List ℕ} {at here : ℕ} → SkipSofar language text at here → Stops language (drop here text) → Skipped language text at here
skip_done s n = record {
  onward = s.onward;
  within = s.within;
  leads = s.leads;
  stops = n;
  only = λ r k m. rests n (s.back r k m);
}
