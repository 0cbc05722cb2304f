use Rattle.std.proofs.Common.{◌∙◌, [], cond, not, sym, ap, subst}
use Rattle.model.specs.Values.{nullable}
use Rattle.model.specs.Checking.{found, unsupported_value_type}
use Rattle.validation.specs.Diagnosed.{Noted}
use Rattle.validation.specs.Literals.{type_of}
use Rattle.validation.proofs.Notes.{none_found}
use Rattle.validation.proofs.Usages.{says_null, not_not}
use Rattle.validation.proofs.literal.LiteralCheck.null.Goals as goal

pub returns-else-is_non_null : goal.returns-else-is_non_null
returns-else-is_non_null g c p h =
    let ty = c.args.ty in
    let e = ap not (sym c.if-is_non_null.false ∙ says_null ty.shape.non_null ty.name.now ty.shape.levels _ c.is_non_null.ensures) ∙ not_not (nullable (type_of ty)) in
    subst (λ b. Noted c.args.found.now c.args.found.now (cond b [] (found unsupported_value_type p))) e (none_found c.args.found.now)
