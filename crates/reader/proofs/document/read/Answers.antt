use Rattle.text.proofs.Handed.{handed_on}
use Rattle.reader.proofs.Documents.{parsed, unreadable}
use Rattle.reader.proofs.document.read.Goals as goal

pub returns-in_err-tree : goal.returns-in_err-tree
returns-in_err-tree g c =
    rw (handed_on c.from_residual.ensures.1) (unreadable g.W.Written.LANGUAGE c.args.text.now _ c.in_err-tree.ensures)

pub returns : goal.returns
returns g c = parsed g.W.Written.LANGUAGE c.args.text.now _ c.in_ok-tree.ensures
