use Rattle.std.proofs.Common.{[], sym, refl, subst}
use Rattle.text.specs.TokenGrammar.{open_paren}
use Rattle.reader.specs.Reading.{got, is_mark}
use Rattle.source.specs.Table.{table_of}
use Rattle.source.proofs.Keeping.{keeps_all}
use Rattle.schema.specs.Holds.{Each}
use Rattle.schema.specs.HoldsOperation.{VariableHeld}
use Rattle.schema.specs.OperationReading.{ReadsVariableList}
use Rattle.schema.specs.Outcomes.{Gives}
use Rattle.schema.specs.Rows.{base_in}
use Rattle.schema.specs.Told.{sights, TokenIfAny}
use Rattle.schema.proofs.Seeing.{itself, after_left}
use Rattle.schema.proofs.operation.variables.Goals as goal

pub returns-in-None-clause-told : goal.returns-in-None-clause-told
returns-in-None-clause-told c S h =
    let t = c.args.tokens.now in
    let u = c.eat.new.self in
    let x = c.in_ok-eat.ensures.told tt in
    record {
      value = [];
      reads = after_left (sights t) (is_mark open_paren) (λ s. ReadsVariableList (sights t)) (Gives []) (got u.at []) t.at u.at (itself 0 (λ N. TokenIfAny N (is_mark open_paren)) t u _ _ x c.in-None.is) refl;
      means = record { each = subst (λ xs. Each (VariableHeld (base_in S) (table_of t.text.now c.args.nodes.now)) xs []) (sym c.new.ensures.items) tt; keeps = keeps_all _ };
      onward = x.onward;
    }
