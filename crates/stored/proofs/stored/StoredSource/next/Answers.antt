use Rattle.stored.proofs.CuSpans.{items_valueless, items_first, members_valueless, members_first}
use Rattle.stored.proofs.PaLaws.{taken_valued}
use Rattle.stored.proofs.stored.StoredSource.next.Goals as goal

pub returns-in_err-record-clause-item : goal.returns-in_err-record-clause-item
returns-in_err-record-clause-item c xs h = rw c.from_residual.ensures (items_valueless c.args.self.now.bytes.now c.args.span xs c.in_err-record.ensures h)

pub returns-in_err-record-clause-field : goal.returns-in_err-record-clause-field
returns-in_err-record-clause-field c ms h = rw c.from_residual.ensures (members_valueless c.args.self.now.bytes.now c.args.span ms c.in_err-record.ensures h)

pub returns-clause-taken : goal.returns-clause-taken
returns-clause-taken c = rw c.end.ensures (taken_valued c.args.span c.in_ok-record.ensures)

pub returns-clause-item : goal.returns-clause-item
returns-clause-item c xs h = rw c.end.ensures (items_first c.args.self.now.bytes.now c.args.span xs _ c.in_ok-record.ensures h)

pub returns-clause-field : goal.returns-clause-field
returns-clause-field c ms h = rw c.end.ensures (members_first c.args.self.now.bytes.now c.args.span ms _ c.in_ok-record.ensures h)
