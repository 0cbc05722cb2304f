use Rattle.std.proofs.Common.{refl}
use Rattle.text.proofs.LexBase.{begins, begins_not}
use Rattle.text.proofs.token.spelled.Goals as goal

pub returns-then-not-starts_with : goal.returns-then-not-starts_with
returns-then-not-starts_with c = (refl, begins_not c.args.text.now c.args.word.now c.args.start c.starts_with.ensures.value c.if-not-starts_with.true)

pub returns : goal.returns
returns c = (refl, begins c.args.text.now c.args.word.now c.args.start c.starts_with.ensures.value c.if-not-starts_with.false)
