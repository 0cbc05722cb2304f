use Rattle.std.proofs.Common.{take}
use Rattle.validation.specs.Making.{FirstFault}
use Rattle.validation.specs.Repeats.{OneOf, TwiceArgued}
use Rattle.validation.proofs.repeats.in_directives.Given as goal

abbrev pub invariant-loop-directive : goal.invariant-loop-directive
invariant-loop-directive l = FirstFault (OneOf (TwiceArgued l.schema) (take l.directive-index l.directive-items)) l.first
