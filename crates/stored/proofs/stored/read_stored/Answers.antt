use Rattle.std.proofs.Common.{refl, arith}
use Rattle.text.specs.declared.fault.Fault.TheVariants.{BadText}
use Rattle.stored.specs.Outcomes.{all_long}
use Rattle.text.proofs.Handed.{handed_on}
use Rattle.stored.proofs.CuOne.{accepted, refused, refused_members}
use Rattle.stored.proofs.stored.read_stored.Goals as goal

pub returns-then-bytes-gt-LONGEST_SHEET : goal.returns-then-bytes-gt-LONGEST_SHEET
returns-then-bytes-gt-LONGEST_SHEET c = refused c.args.bytes.now (BadText 0) (all_long (omega arith))

pub returns-in_err-members : goal.returns-in_err-members
returns-in_err-members c =
    rw (handed_on c.from_residual.ensures.1) (refused_members c.args.bytes.now _ (omega arith) c.in_err-members.ensures)

pub returns : goal.returns
returns c =
    let m = c.in_ok-members.ensures.0 in
    (refl, accepted c.args.bytes.now m.0 (omega arith) m.1)
