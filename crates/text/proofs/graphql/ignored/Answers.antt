use Rattle.std.proofs.Common.{sym, ◌∙◌, subst, arith}
use Rattle.text.specs.TokenGrammar.{IgnoredByte}
use Rattle.text.proofs.LexIgnored.{ignored_end, ignored_one, ignored_none, comment_told, mark_told}
use Rattle.text.proofs.graphql.ignored.Goals as goal

pub returns-in_err-byte : goal.returns-in_err-byte
returns-in_err-byte c = rw c.from_residual.ensures (ignored_end c.args.text.now c.args.at c.in_err-byte.ensures.lookup.3)

pub returns-then-ignored_byte : goal.returns-then-ignored_byte
returns-then-ignored_byte c = let b = c.in_ok-byte.ensures.lookup.3 in ignored_one c.args.text.now c.args.at b.0 (subst IgnoredByte (b.1 0) c.if-ignored_byte.ensures)

pub returns-in-35 : goal.returns-in-35
returns-in-35 c = let b = c.in_ok-byte.ensures.lookup.3 in comment_told c.args.text.now c.args.at b.0 (sym (b.1 0) ∙ c.in-35.is) c.comment.result c.comment.ensures

pub returns-in-239 : goal.returns-in-239
returns-in-239 c = let b = c.in_ok-byte.ensures.lookup.3 in mark_told c.args.text.now c.args.at b.0 (sym (b.1 0) ∙ c.in-239.is) c.byte_order_mark.result c.byte_order_mark.ensures

pub returns-in_default : goal.returns-in_default
returns-in_default c =
    let b = c.in_ok-byte.ensures.lookup.3 in
    let e = b.1 0 in
    ignored_none c.args.text.now c.args.at b.0 (λ i. c.if-ignored_byte.ensures (subst IgnoredByte (sym e) i)) (omega arith) (omega arith)
