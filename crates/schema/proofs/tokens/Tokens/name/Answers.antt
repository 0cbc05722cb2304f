use Rattle.std.proofs.Common.{refl, Ok, arith}
use Rattle.text.proofs.Handed.{handed_on}
use Rattle.reader.proofs.Faults.{blames_all}
use Rattle.reader.specs.Tokens.{blind}
use Rattle.reader.specs.Reading.{fails}
use Rattle.schema.specs.Outcomes.{Takes, any_name}
use Rattle.schema.specs.Told.{sights}
use Rattle.schema.proofs.Taking.{looked, named_token, no_name_token}
use Rattle.schema.proofs.tokens.Tokens.name.Goals as goal

pub returns-in_err-lexeme-clause-told : goal.returns-in_err-lexeme-clause-told
returns-in_err-lexeme-clause-told c =
    rw (handed_on c.from_residual.ensures.1) (blames_all (λ g. Takes (sights c.args.self.now) any_name c.args.self.now.at (fails g)) _ (blind c.in_err-lexeme.field-0.0, c.in_err-lexeme.ensures.told, refl))

pub returns-in_default : goal.returns-in_default
returns-in_default c =
    let l = c.in_ok-lexeme.lexeme in
    record { told = no_name_token c.args.self.now l (looked c.args.self.now (Ok l) c.in_ok-lexeme.ensures.told c.in_ok-lexeme.ensures.placed) c.in_default.not-Name; onward = tt }

pub returns-clause-told : goal.returns-clause-told
returns-clause-told c =
    let l = c.in_ok-lexeme.lexeme in
    named_token c.args.self.now _ l (looked c.args.self.now (Ok l) c.in_ok-lexeme.ensures.told c.in_ok-lexeme.ensures.placed) _ _ c.in-Name.is refl (omega arith) refl refl
