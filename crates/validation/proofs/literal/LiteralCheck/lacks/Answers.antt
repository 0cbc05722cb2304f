use Rattle.std.proofs.Common.{◌∙◌, not, ap}
use Rattle.model.specs.Values.{nullable}
use Rattle.model.specs.Checking.{has_default, is_value}
use Rattle.schema.specs.Documents.{Typed, field_of}
use Rattle.validation.proofs.Usages.{says_null, all_lack}
use Rattle.validation.proofs.Shapes.{default_there}
use Rattle.validation.proofs.literal.LiteralCheck.lacks.Goals as goal

pub returns : goal.returns
returns g c B T d x f m =
    let ty = c.args.field.now.ty in
    all_lack (nullable d.typed.ty) (has_default (field_of d)) (is_value x) c.is_non_null.result c.is_some-has_default.result c.is_value-has_value.result
    (says_null ty.shape.non_null ty.name.now ty.shape.levels _ c.is_non_null.ensures ∙ ap (λ (t : Typed). not (nullable t.ty)) f.typed)
    (c.is_some-has_default.ensures ∙ default_there T c.args.field.now.default d.dflt f.default)
    c.if-has_default.false
    (c.is_value-has_value.ensures x m)
    c.if-has_value.false
