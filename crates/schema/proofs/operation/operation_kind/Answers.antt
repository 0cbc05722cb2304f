use Rattle.std.proofs.Common.{◌≡◌, ◌∙◌, false, sym, ap, subst, codes}
use Rattle.std.proofs.Math.Option.{none}
use Rattle.std.proofs.lemmas.Bool.{cond-false, false_from_ne_true}
use Rattle.std.proofs.lemmas.Bool.Decides.{Decides-eqb}
use Rattle.std.proofs.lemmas.Slice.Eq.{slice_eq-Decides}
use Rattle.model.specs.Values.{Name, same}
use Rattle.model.proofs.CoNames.{same_true}
use Rattle.text.specs.TokenGrammar.{a_name}
use Rattle.reader.proofs.RdSame.{no_both}
use Rattle.reader.specs.Tokens.{sees}
use Rattle.schema.specs.Locations.{in_table}
use Rattle.schema.specs.OperationReading.{kinds}
use Rattle.schema.specs.Outcomes.{accepted}
use Rattle.schema.specs.Told.{sights}
use Rattle.schema.proofs.Seeing.{name_seen}
use Rattle.schema.proofs.operation.operation_kind.Goals as goal

other : (m w : Name) → (w ≡ m → ⊥) → same m w ≡ false
other m w h = false_from_ne_true (same m w) (λ e. h (sym (same_true m w e)))

no_kind : (w : Name) → (w ≡ codes "query" → ⊥) → (w ≡ codes "mutation" → ⊥) → (w ≡ codes "subscription" → ⊥) → in_table kinds w ≡ none
no_kind w a b c =
    cond-false (same (codes "query") w) _ _ (other (codes "query") w a)
    ∙ cond-false (same (codes "mutation") w) _ _ (other (codes "mutation") w b)
    ∙ cond-false (same (codes "subscription") w) _ _ (other (codes "subscription") w c)

pub returns-else-eq-3 : goal.returns-else-eq-3
returns-else-eq-3 c =
    let t = c.args.tokens.now in
    let n = c.in_ok-name.ensures.told in
    let w = c.in_ok-name.field-0.name.now in
    let a = λ (e : w ≡ codes "query"). no_both ((slice_eq-Decides Decides-eqb w c.as_slice.result.now c.eq.result c.eq.ensures).1 (e ∙ sym c.as_slice.ensures)) c.if-eq.false in
    let b = λ (e : w ≡ codes "mutation"). no_both ((slice_eq-Decides Decides-eqb w c.as_slice-else-eq.result.now c.eq-else-eq.result c.eq-else-eq.ensures).1 (e ∙ sym c.as_slice-else-eq.ensures)) c.if-eq-2.false in
    let d = λ (e : w ≡ codes "subscription"). no_both ((slice_eq-Decides Decides-eqb w c.as_slice-else-eq-2.result.now c.eq-else-eq-2.result c.eq-else-eq-2.ensures).1 (e ∙ sym c.as_slice-else-eq-2.ensures)) c.if-eq-3.false in
    let s = subst (λ l. sights t t.at (sees l.place c.name.new.self.at (a_name l.name))) (sym n.means) (name_seen (sights t) t.at c.name.new.self.at n.value n.reads) in
    (sees c.in_ok-name.field-0.place c.name.new.self.at (a_name w), s, ap (accepted c.in_ok-name.field-0.place c.name.new.self.at) (no_kind w a b d))
