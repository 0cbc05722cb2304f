use Rattle.std.proofs.Common.{◌∙◌, ap}
use Rattle.schema.specs.Spans.{inside_at}
use Rattle.schema.proofs.Spanning.{inside_there, inside_nowhere}
use Rattle.schema.proofs.definition.Schema.inside.Goals as goal

pub returns-in-Some : goal.returns-in-Some
returns-in-Some c =
    let f = c.in-Some.ensures.lookup in
    inside_there c.deref.result.now c.args.index c.in-Some.ty.now f.3.0 f.1 ∙ ap (λ ts. inside_at ts c.args.index) c.deref.ensures.value

pub returns-in-None : goal.returns-in-None
returns-in-None c =
    let f = c.in-None.ensures.lookup in
    inside_nowhere c.deref.result.now c.args.index f.3 ∙ ap (λ ts. inside_at ts c.args.index) c.deref.ensures.value
