use Rattle.text.proofs.LexIgnored.{char_told}
use Rattle.text.proofs.graphql.comment_char.Goals as goal

pub returns : goal.returns
returns c = rw c.then_some.ensures (char_told c.args.text.now c.args.at c.in_ok-c.end c.in_ok-c.c c.in_ok-c.ensures c.within_line.result c.within_line.ensures)
