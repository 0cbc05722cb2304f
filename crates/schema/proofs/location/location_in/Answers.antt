use Rattle.schema.proofs.Placing.{among}
use Rattle.schema.proofs.location.location_in.Goals as goal

pub returns : goal.returns
returns c = among c.args.rows.now c.args.name.now c.first.result c.first.ensures
