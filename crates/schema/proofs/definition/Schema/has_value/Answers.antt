use Rattle.std.proofs.Common.{◌∙◌, List, map, ap}
use Rattle.model.specs.Values.{has}
use Rattle.schema.specs.declared.tokens.Name.{Name}
use Rattle.schema.proofs.Spanning.{found_has}
use Rattle.schema.proofs.definition.Schema.has_value.Goals as goal

pub returns : goal.returns
returns c =
    c.is_some.ensures ∙ found_has _ c.args.name.now c.find.result c.find.ensures.first
    ∙ ap (λ (rows : List Name). has (map (λ (v : Name). v.name.now) rows) c.args.name.now) (c.new.ensures ∙ c.values_of.ensures)
