use Rattle.std.proofs.Common.{sym, subst}
use Rattle.model.specs.Values.{variable}
use Rattle.model.specs.Calls.{variable_of}
use Rattle.source.specs.Table.{tree_table}
use Rattle.validation.specs.Diagnosed.{Noted}
use Rattle.validation.specs.Literals.{type_of}
use Rattle.validation.proofs.Notes.{none_found}
use Rattle.validation.proofs.Shapes.{usage_silent}
use Rattle.validation.proofs.literal.LiteralCheck.variable.Goals as goal

pub returns-else-not-allow : goal.returns-else-not-allow
returns-else-not-allow g c vs p n d h =
    let l = c.args.location in
    let w = c.text.ensures (variable p n) h in
    subst (Noted c.args.found.now c.args.found.now)
    (sym (usage_silent (tree_table c.args.self.now.variables.tree.now) (variable_of vs n) c.in-Some.variable l.has_default l.place p (type_of l.ty) c.allow.result (rw w at (c.in-Some.ensures vs d)) c.allow.ensures c.if-not-allow.false))
    (none_found c.args.found.now)
