use Rattle.text.proofs.StrChars.{char_none, char_escape, char_settled}
use Rattle.text.proofs.string.next.Goals as goal

pub returns-in_err-c : goal.returns-in_err-c
returns-in_err-c c = rw c.from_residual.ensures (char_none c.args.language c.args.text.now c.args.at c.in_err-c.ensures)

pub returns-then-c-eq92 : goal.returns-then-c-eq92
returns-then-c-eq92 c = char_escape c.args.language c.args.text.now c.args.at c.in_ok-c.ensures c.if-c-eq92.true c.escape.result c.escape.ensures

pub returns : goal.returns
returns c = rw c.then_some.ensures (char_settled c.args.language c.args.text.now c.args.at c.in_ok-c.ensures c.if-c-eq92.false c.unescaped.result c.unescaped.ensures)
