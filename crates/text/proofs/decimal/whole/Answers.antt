use Rattle.std.proofs.Common.{◌≡◌, ℕ, ◌-◌, ◌≢◌, List, [], ◌∷◌, length, take, drop, sym, refl, ap, ◌∙◌}
use Rattle.std.proofs.lemmas.Slice.Eq.{slice_eq-Decides}
use Rattle.text.specs.NormalForm.{WholeOf}
use Rattle.text.proofs.LexBase.{torn}
use Rattle.text.proofs.NormLaws.{whole_normal}
use Rattle.text.proofs.decimal.whole.Goals as goal
use Rattle.std.proofs.lemmas.Bool.Decides.{Decides-eqb}

cut_minus : (text : List ℕ) → text ≡ 45 ∷ 48 ∷ [] → WholeOf text (take (length text - 1) (drop 1 text))
cut_minus text e = record { zero = λ h. ap (λ l. take (length l - 1) (drop 1 l)) e; other = λ n. absurd (n e) }

left_alone : (text : List ℕ) → text ≢ 45 ∷ 48 ∷ [] → WholeOf text text
left_alone text n = record { zero = λ h. absurd (n h); other = λ h. refl }

pub returns-then-eq-clause-normal : goal.returns-then-eq-clause-normal
returns-then-eq-clause-normal c =
    let told = slice_eq-Decides Decides-eqb c.args.text.now c.as_slice.result.now c.eq.result c.eq.ensures in
    whole_normal c.args.text.now _ (cut_minus c.args.text.now (told.0 c.if-eq.true ∙ c.as_slice.ensures))

pub returns-else-eq-clause-normal : goal.returns-else-eq-clause-normal
returns-else-eq-clause-normal c =
    let told = slice_eq-Decides Decides-eqb c.args.text.now c.as_slice.result.now c.eq.result c.eq.ensures in
    whole_normal c.args.text.now c.args.text.now (left_alone c.args.text.now (λ e. torn (told.1 (e ∙ sym c.as_slice.ensures)) c.if-eq.false))
