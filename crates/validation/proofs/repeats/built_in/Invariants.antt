use Rattle.std.proofs.Common.{take}
use Rattle.validation.specs.Making.{FirstFault}
use Rattle.validation.specs.Repeats.{OneOf, BuiltIn}
use Rattle.validation.proofs.repeats.built_in.Given as goal

abbrev pub invariant-loop-ty : goal.invariant-loop-ty
invariant-loop-ty l = FirstFault (OneOf BuiltIn (take l.ty-index l.types)) l.first
