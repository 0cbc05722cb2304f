use Rattle.std.proofs.Common.{◌∙◌, Bool, [], cond, sym, subst}
use Rattle.model.specs.Values.{object}
use Rattle.model.specs.Checking.{found, required_field}
use Rattle.validation.specs.Diagnosed.{Noted}
use Rattle.validation.proofs.Notes.{none_found}
use Rattle.validation.proofs.literal.LiteralCheck.required.Goals as goal

pub returns-then-lacks : goal.returns-then-lacks
returns-then-lacks g c B T d p ms x f h m =
    subst (λ (b : Bool). Noted c.args.found.now c.note.new.self (cond b (found required_field p) [])) (sym c.if-lacks.true ∙ c.lacks.ensures B T d x f m)
    (subst (λ q. Noted c.args.found.now c.note.new.self (found required_field q)) (c.place.ensures (object p ms) h) c.note.ensures)

pub returns-else-lacks : goal.returns-else-lacks
returns-else-lacks g c B T d p ms x f h m =
    subst (λ (b : Bool). Noted c.args.found.now c.args.found.now (cond b (found required_field p) [])) (sym c.if-lacks.false ∙ c.lacks.ensures B T d x f m)
    (none_found c.args.found.now)
