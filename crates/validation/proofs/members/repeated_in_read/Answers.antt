use Rattle.validation.proofs.Unrepeated.{first_name}
use Rattle.validation.proofs.members.repeated_in_read.Goals as goal

pub returns-clause-first : goal.returns-clause-first
returns-clause-first c e D r h = first_name c.args.schema.now D h (c.in_ok-all_apart.ensures c.if-not-branch.false) e r c.name_twice.result (c.name_twice.ensures D h)
