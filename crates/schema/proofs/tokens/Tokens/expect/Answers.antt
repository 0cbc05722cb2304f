use Rattle.std.proofs.Common.{◌∙◌, sym, refl, Ok, arith}
use Rattle.std.proofs.lemmas.Bool.{not-true, not-false}
use Rattle.text.proofs.Handed.{handed_on}
use Rattle.text.specs.TokenFound.{view_of}
use Rattle.reader.proofs.Faults.{blames_all}
use Rattle.reader.specs.Tokens.{blind}
use Rattle.reader.specs.Reading.{fails}
use Rattle.schema.specs.Outcomes.{Takes}
use Rattle.schema.specs.Told.{sights, the_token}
use Rattle.schema.proofs.Taking.{looked, expected, missed}
use Rattle.schema.proofs.tokens.Tokens.expect.Goals as goal

pub returns-in_err-lexeme-clause-told : goal.returns-in_err-lexeme-clause-told
returns-in_err-lexeme-clause-told c h =
    rw (handed_on c.from_residual.ensures.1) (blames_all (λ g. Takes (sights c.args.self.now) (the_token (view_of c.args.wanted)) c.args.self.now.at (fails g)) _ (blind c.in_err-lexeme.field-0.0, c.in_err-lexeme.ensures.told, refl))

pub returns-then-ne-clause-told : goal.returns-then-ne-clause-told
returns-then-ne-clause-told c h =
    let l = c.in_ok-lexeme.lexeme in
    missed c.args.self.now c.args.self.now l (looked c.args.self.now (Ok l) c.in_ok-lexeme.ensures.told c.in_ok-lexeme.ensures.placed) c.args.wanted h (not-true _ (sym c.ne.ensures ∙ c.if-ne.true))

pub returns-clause-told : goal.returns-clause-told
returns-clause-told c h =
    let l = c.in_ok-lexeme.lexeme in
    expected c.args.self.now _ l (looked c.args.self.now (Ok l) c.in_ok-lexeme.ensures.told c.in_ok-lexeme.ensures.placed) c.args.wanted h (not-false _ (sym c.ne.ensures ∙ c.if-ne.false)) (omega arith) refl refl
