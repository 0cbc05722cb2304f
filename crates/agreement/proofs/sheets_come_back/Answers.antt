use Rattle.agreement.proofs.Sheets.{sheets_come_back_lem}
use Rattle.agreement.proofs.sheets_come_back.Goals as goal

pub returns : goal.returns
returns c = sheets_come_back_lem
