use Rattle.std.proofs.Common.{true≢false, sym, ◌∙◌, refl, arith}
use Rattle.validation.proofs.types.based.Goals as goal

pub returns-then-stands_for : goal.returns-then-stands_for
returns-then-stands_for c = ((c.stands_for.ensures.0 c.if-stands_for.true, refl), λ q x. omega (arith, x.1))

pub returns : goal.returns
returns c = λ q x. true≢false (sym (c.stands_for.ensures.1 x.0) ∙ c.if-stands_for.false)
