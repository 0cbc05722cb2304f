use Rattle.text.proofs.Handed.{handed_on}
use Rattle.reader.specs.Told.{manner_of}
use Rattle.reader.proofs.Beginning.{blamed_blind, blamed_none}
use Rattle.reader.proofs.reading.Reader.begin.Goals as goal

pub returns-in_err-lexeme : goal.returns-in_err-lexeme
returns-in_err-lexeme g c =
    rw (handed_on c.from_residual.ensures.1) (blamed_blind (manner_of g.W.Written.LANGUAGE c.args.self) c.args.self.text.now c.args.at _ c.in_err-lexeme.ensures)

pub returns-in_err-content : goal.returns-in_err-content
returns-in_err-content g c =
    let k = c.in_ok-lexeme.ensures in
    rw (handed_on c.from_residual-in_err-content.ensures.1) (blamed_none (manner_of g.W.Written.LANGUAGE c.args.self) c.args.self.text.now c.args.at _ k _ (c.in_err-content.ensures k.lexed))
