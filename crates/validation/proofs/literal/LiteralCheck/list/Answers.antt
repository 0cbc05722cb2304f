use Rattle.std.proofs.Common.{◌∙◌, sym, subst}
use Rattle.model.specs.Values.{list, find}
use Rattle.model.specs.Checking.{list_at_name, undeclared_in_all, unsupported_value_type, found}
use Rattle.schema.specs.Documents.{schema_of}
use Rattle.validation.specs.Diagnosed.{Noted}
use Rattle.validation.proofs.Defined.{DefIs, def_is}
use Rattle.validation.proofs.Errors.{means}
use Rattle.validation.proofs.Compounds.{list_unsupported}
use Rattle.validation.proofs.literal.LiteralCheck.list.Goals as goal

pub returns-in-Custom : goal.returns-in-Custom
returns-in-Custom g c D vs n p xs k e h =
    let s = c.args.self.now.schema.now in
    let f = subst (λ b. DefIs s D b (find (schema_of D) n)) (sym e ∙ c.in-Custom.is) (def_is s D k.holds n) in
    subst (λ d. Noted c.args.found.now c.contents.new.found (list_at_name p (undeclared_in_all vs xs) d)) (sym f) (c.contents.ensures vs (list p xs) k.declares h)

pub returns-in_default : goal.returns-in_default
returns-in_default g c D vs n p xs k e h =
    let s = c.args.self.now.schema.now in
    let m = means s D c.args.base _ (subst (λ b. DefIs s D b (find (schema_of D) n)) (sym e) (def_is s D k.holds n)) in
    subst (Noted c.args.found.now c.note.new.self) (sym (list_unsupported c.args.base _ p (undeclared_in_all vs xs) m c.in_default.not-Custom))
    (subst (λ q. Noted c.args.found.now c.note.new.self (found unsupported_value_type q)) (c.place.ensures (list p xs) h) c.note.ensures)
