use Rattle.std.proofs.Common.{arith}
use Rattle.stored.proofs.CoForms.{boolean_told}
use Rattle.stored.proofs.content.boolean_form.Goals as goal

pub returns-in-0 : goal.returns-in-0
returns-in-0 c = boolean_told c.args.body.now (omega arith) (omega arith)
