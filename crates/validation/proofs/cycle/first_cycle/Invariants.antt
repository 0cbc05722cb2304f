use Rattle.validation.specs.Making.{FirstFault}
use Rattle.validation.specs.Lacking.{CyclesBefore}
use Rattle.validation.proofs.cycle.first_cycle.Given as goal

abbrev pub invariant-loop-row : goal.invariant-loop-row
invariant-loop-row l = FirstFault (CyclesBefore l.leads.rows.items l.schema.fields.items l.row) l.first
