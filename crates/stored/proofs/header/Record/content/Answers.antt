use Rattle.std.proofs.Common.{arith}
use Rattle.text.proofs.Handed.{handed_on}
use Rattle.stored.proofs.CoForms.{of_kind, empty_decides, told_null, told_boolean, told_whole, told_decimal, told_string, told_unknown}
use Rattle.stored.proofs.header.Record.content.Goals as goal

pub returns-in_err-try_from : goal.returns-in_err-try_from
returns-in_err-try_from c =
    rw (handed_on c.from_residual.ensures.1) (told_unknown c.args.self.kind c.args.self.body.now c.in_err-try_from.ensures.1)

pub returns-in-Null : goal.returns-in-Null
returns-in-Null c = of_kind c.args.self.body.now c.in_ok-try_from.ensures c.in-Null.is c.leaf.ensures (told_null c.args.self.body.now c.is_empty.result (empty_decides c.args.self.body.now c.is_empty.result c.is_empty.ensures))

pub returns-in-Boolean : goal.returns-in-Boolean
returns-in-Boolean c = of_kind c.args.self.body.now c.in_ok-try_from.ensures c.in-Boolean.is c.leaf-in-Boolean.ensures (told_boolean c.args.self.body.now c.boolean_form.result c.boolean_form.ensures)

pub returns-in-Whole-2 : goal.returns-in-Whole-2
returns-in-Whole-2 c = of_kind c.args.self.body.now c.in_ok-try_from.ensures c.in-Whole-2.is c.leaf-in-Whole-2.ensures (told_whole c.args.self.body.now c.whole_form.result c.if-body-gt-LONGEST_NUMBER.false c.whole_form.ensures)

pub returns-in-Decimal-2 : goal.returns-in-Decimal-2
returns-in-Decimal-2 c = of_kind c.args.self.body.now c.in_ok-try_from.ensures c.in-Decimal-2.is c.leaf-in-Decimal-2.ensures (told_decimal c.args.self.body.now c.decimal_form.result (omega arith) c.decimal_form.ensures)

pub returns-in-String : goal.returns-in-String
returns-in-String c = of_kind c.args.self.body.now c.in_ok-try_from.ensures c.in-String.is c.leaf-in-String.ensures (told_string c.args.self.body.now c.text_form.result c.text_form.ensures)
