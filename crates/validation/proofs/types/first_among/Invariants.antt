use Rattle.std.proofs.Common.{take}
use Rattle.validation.specs.Making.{FirstFault}
use Rattle.validation.specs.Places.{StandsFor}
use Rattle.validation.proofs.types.first_among.Given as goal

abbrev pub invariant-loop-field : goal.invariant-loop-field
invariant-loop-field l = FirstFault (StandsFor l.base (take l.field-index l.fields)) l.first
