use Rattle.schema.proofs.CursorLaws.{one_cursor, passes_one}
use Rattle.schema.proofs.cursor.one_cursor.Goals as goal

pub returns : goal.returns
returns c = record { once = one_cursor; passes = passes_one }
