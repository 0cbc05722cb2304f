use Rattle.validation.proofs.variables.+agree.Given as goal

abbrev pub decreases-agree : goal.decreases-agree
decreases-agree l = l.ty.shape.levels
