use Rattle.std.proofs.Common.{map, ap, sym, subst, List, ◌∙◌}
use Rattle.schema.specs.declared.definition.Field.{Field}
use Rattle.schema.specs.declared.definition.TypeKind.{TypeKind}
use Rattle.schema.specs.declared.tokens.Name.{Name}
use Rattle.schema.specs.Spans.{rows_in}
use Rattle.validation.specs.Making.{FirstFault, Twice}
use Rattle.validation.specs.Repeats.{field_name, value_name, names_inside}
use Rattle.validation.proofs.repeats.in_type.Goals as goal

pub returns-in-Enum : goal.returns-in-Enum
returns-in-Enum c =
    let t = c.args.ty.now in
    let told : List Name → Type 0 = λ vs. FirstFault (Twice (map value_name vs)) c.twice.result in
    let kind : TypeKind → Type 0 = λ k. FirstFault (Twice (names_inside c.args.schema.now t k)) c.twice.result in
    subst kind (sym c.in-Enum.is) (subst told (c.between.ensures ∙ ap (λ (vs : List Name). rows_in vs t.inside) c.deref.ensures.value) c.twice.ensures)

pub returns-in-Input : goal.returns-in-Input
returns-in-Input c =
    let t = c.args.ty.now in
    let told : List Field → Type 0 = λ fs. FirstFault (Twice (map field_name fs)) c.twice-in-Input.result in
    let kind : TypeKind → Type 0 = λ k. FirstFault (Twice (names_inside c.args.schema.now t k)) c.twice-in-Input.result in
    subst kind (sym c.in-Input.is) (subst told (c.between-in-Input.ensures ∙ ap (λ (fs : List Field). rows_in fs t.inside) c.deref-in-Input.ensures.value) c.twice-in-Input.ensures)
