use Rattle.text.proofs.ScanLaws.{scans_once}
use Rattle.text.proofs.number.one_scan.Goals as goal

pub returns : goal.returns
returns c = scans_once
