use Rattle.reader.proofs.Documents.{one_reading_lem}
use Rattle.reader.proofs.document.one_reading.Goals as goal

pub returns : goal.returns
returns c = one_reading_lem
