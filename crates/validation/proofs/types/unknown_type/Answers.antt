use Rattle.validation.proofs.BaseStands.{first_unknown}
use Rattle.validation.proofs.types.unknown_type.Goals as goal

pub returns : goal.returns
returns c D h = first_unknown D c.args.schema.now h c.first_with.result c.first_with.ensures
