use Rattle.std.proofs.Common.{map, ap, subst, List, ◌∙◌}
use Rattle.schema.specs.declared.definition.Field.{Field}
use Rattle.schema.specs.Spans.{rows_in}
use Rattle.validation.specs.Making.{FirstFault, Twice}
use Rattle.validation.specs.Repeats.{field_name}
use Rattle.validation.proofs.repeats.in_directive.Goals as goal

pub returns : goal.returns
returns c =
    let told : List Field → Type 0 = λ fs. FirstFault (Twice (map field_name fs)) c.twice.result in
    subst told (c.between.ensures ∙ ap (λ (fs : List Field). rows_in fs c.args.directive.now.arguments) c.deref.ensures.value) c.twice.ensures
