use Rattle.std.proofs.Common.{[], ◌∷◌, false, sym, subst, ◌∙◌}
use Rattle.std.proofs.lemmas.Bool.Decides.{Decides-eqb}
use Rattle.std.proofs.lemmas.Slice.Eq.{strip_prefix_is}
use Rattle.std.specs.Option.{unwrap_or}
use Rattle.text.specs.NormalForm.{Signs, Led}
use Rattle.text.proofs.NormValues.{led_minus, led_rest}
use Rattle.text.proofs.decimal.lead.Goals as goal

pub returns-then-negative : goal.returns-then-negative
returns-then-negative c = led_minus c.args.power.now c.sign-negative.result.1.now (subst (λ b. Signs c.args.power.now b c.sign-negative.result.1.now) c.if-negative.true c.sign-negative.ensures)

pub returns-else-negative : goal.returns-else-negative
returns-else-negative c =
    let s = subst (λ b. Signs c.args.power.now b c.sign-negative.result.1.now) c.if-negative.false c.sign-negative.ensures in
    let n = strip_prefix_is Decides-eqb c.sign-negative.result.1.now (43 ∷ []) c.strip_prefix.result c.strip_prefix.ensures.cases in
    rw c.unwrap_or.ensures
    (subst (λ l. Led l false (unwrap_or c.strip_prefix.result c.sign-negative.result.1).now) s.0 (led_rest c.sign-negative.result.1 (λ r e. s.1 r (sym s.0 ∙ e)) c.strip_prefix.result n))
