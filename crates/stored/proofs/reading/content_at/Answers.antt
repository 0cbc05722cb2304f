use Rattle.std.proofs.Common.{rules, subst}
use Rattle.stored.specs.Frames.{RecordTold}
use Rattle.stored.specs.Outcomes.{r_none}
use Rattle.text.proofs.Handed.{handed_on}
use Rattle.stored.proofs.RdSteps.{found, ok_or_none, refused_content}
use Rattle.stored.proofs.reading.content_at.Goals as goal

pub returns-in_err-record : goal.returns-in_err-record
returns-in_err-record c =
    let e = c.in_err-record.ensures in
    rw (handed_on c.from_residual.ensures.1, ok_or_none e.value e.ok_part) (λ d. r_none (subst (RecordTold c.args.bytes.now c.args.at c.args.to) e.ok_part c.at.ensures))

pub returns-in_err-content : goal.returns-in_err-content
returns-in_err-content c =
    let f = found c.in_ok-record.ensures.ok_part c.at.ensures in
    rw (handed_on c.from_residual-in_err-content.ensures.1) (refused_content c.content.result f c.content.ensures (search rules))
