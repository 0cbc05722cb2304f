use Rattle.std.proofs.Common.{map, sym, subst}
use Rattle.model.specs.Coercion.{first_undeclared}
use Rattle.schema.specs.declared.definition.Field.{Field}
use Rattle.validation.specs.Diagnosed.{Noted}
use Rattle.validation.proofs.Notes.{none_found}
use Rattle.validation.proofs.Shapes.{none_placed}
use Rattle.validation.proofs.literal.LiteralCheck.first_undeclared.Goals as goal

pub returns-in_default : goal.returns-in_default
returns-in_default g c p ms h =
    subst (Noted c.args.found.now c.args.found.now)
    (sym (none_placed (g.S.Source.stands c.args.self.now.source.now) (first_undeclared (map (λ (f : Field). f.name.now) c.args.fields.now) ms) (rw c.in_default.is at (c.undeclared.ensures p ms h))))
    (none_found c.args.found.now)
