use Rattle.std.proofs.Common.{rules, sym, subst}
use Rattle.text.specs.StringGrammar.{LineTerminator}
use Rattle.text.proofs.LexIgnored.{comment_start, comment_more, comment_broken, comment_done, comment_line}
use Rattle.text.proofs.graphql.comment.Goals as goal

pub loop-byte-init : goal.loop-byte-init
loop-byte-init c = comment_start c.args.text.now c.args.at c.requires.0 c.requires.1

pub returns-in_err-next : goal.returns-in_err-next
returns-in_err-next c =
    let b = c.in-Some.ensures.lookup.3 in
    rw c.from_residual.ensures (comment_broken c.loop-byte.invariant b.0 (λ l. c.if-not-ends_line.ensures (subst LineTerminator (sym (b.1 0)) l)) c.in_err-next.ensures)

pub loop-byte-preserved : goal.loop-byte-preserved
loop-byte-preserved c =
    let b = c.in-Some.ensures.lookup.3 in
    comment_more c.loop-byte.invariant c.in_ok-next.next b.0 (λ l. c.if-not-ends_line.ensures (subst LineTerminator (sym (b.1 0)) l)) c.in_ok-next.ensures

pub returns-in-loop-byte : goal.returns-in-loop-byte
returns-in-loop-byte c = comment_done c.loop-byte.invariant (search rules)

pub returns-else-not-ends_line : goal.returns-else-not-ends_line
returns-else-not-ends_line c =
    let b = c.in-Some.ensures.lookup.3 in
    comment_line c.loop-byte.invariant b.0 (subst LineTerminator (b.1 0) c.if-not-ends_line.ensures)
