use Rattle.validation.proofs.BaseStands.{first_output}
use Rattle.validation.proofs.types.not_input.Goals as goal

pub returns : goal.returns
returns c D h = first_output D c.args.schema.now h c.first_with.result c.first_with.ensures
