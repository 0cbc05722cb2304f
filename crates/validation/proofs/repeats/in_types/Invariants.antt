use Rattle.std.proofs.Common.{take}
use Rattle.validation.specs.Making.{FirstFault}
use Rattle.validation.specs.Repeats.{OneOf, TwiceInside}
use Rattle.validation.proofs.repeats.in_types.Given as goal

abbrev pub invariant-loop-ty : goal.invariant-loop-ty
invariant-loop-ty l = FirstFault (OneOf (TwiceInside l.schema) (take l.ty-index l.ty-items)) l.first
