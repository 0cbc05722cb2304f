use Rattle.std.proofs.Common.{[], refl}
use Rattle.text.specs.TokenGrammar.{open_paren}
use Rattle.reader.specs.Reading.{got, is_mark}
use Rattle.source.proofs.Keeping.{keeps_all}
use Rattle.schema.specs.OperationReading.{ReadsArgumentList}
use Rattle.schema.specs.Outcomes.{Gives}
use Rattle.schema.specs.Told.{sights, TokenIfAny}
use Rattle.schema.proofs.Rowing.{appended_none}
use Rattle.schema.proofs.Seeing.{itself, after_left}
use Rattle.schema.proofs.operation.use_arguments.Goals as goal

pub returns-in-None : goal.returns-in-None
returns-in-None c =
    let t = c.args.tokens.now in
    let u = c.eat.new.self in
    let x = c.in_ok-eat.ensures.told tt in
    record {
      value = [];
      reads = after_left (sights t) (is_mark open_paren) (λ s. ReadsArgumentList (sights t)) (Gives []) (got u.at []) t.at u.at (itself 0 (λ N. TokenIfAny N (is_mark open_paren)) t u _ _ x c.in-None.is) refl;
      means = record { arguments = appended_none _ _; inside = refl; keeps = keeps_all _ };
      onward = x.onward;
    }
