use Rattle.std.proofs.Common.{◌≡◌, ◌-◌, List}
use Rattle.model.specs.Values.{Raws, Mems, Variable}
use Rattle.model.specs.Checking.{undeclared_in_all, undeclared_in_mems}
use Rattle.source.specs.Spans.{Within}
use Rattle.source.specs.Table.{tree_table}
use Rattle.validation.specs.Literals.{Declares}
use Rattle.validation.proofs.Notes.{Onwards}
use Rattle.validation.proofs.literal.LiteralCheck.+contents.Given as goal

abbrev pub decreases-contents : goal.decreases-contents
decreases-contents g l = g.S.Source.past l.self.now.source.now l.at - l.at

-- what the values to come give, all give
abbrev pub invariant-loop-at : goal.invariant-loop-at
invariant-loop-at g l =
    (goal.iterator-loop-at g).can_next l.at-iterator ×
    (goal.iterator-loop-at g).is_finite l.at-iterator ×
    (l.at-iterator.source.now ≡ l.self.source.now) ×
    Within (g.S.Source.past l.self.source.now l.fn.at) l.fn.at l.at-iterator.span ×
    ((vs : List Variable) (xs : Raws) → Declares (g.L.Lookup.names l.self.variables.names.now) (tree_table l.self.variables.tree.now) l.self.variables.rows.now vs → g.S.Source.items l.self.source.now l.initial.at-iterator.span xs
    → (ys : Raws) × g.S.Source.items l.self.source.now l.at-iterator.span ys × Onwards l.initial.found l.found (undeclared_in_all vs ys) (undeclared_in_all vs xs)) ×
    ((vs : List Variable) (ms : Mems) → Declares (g.L.Lookup.names l.self.variables.names.now) (tree_table l.self.variables.tree.now) l.self.variables.rows.now vs → g.S.Source.members l.self.source.now l.initial.at-iterator.span ms
    → (ns : Mems) × g.S.Source.members l.self.source.now l.at-iterator.span ns × Onwards l.initial.found l.found (undeclared_in_mems vs ns) (undeclared_in_mems vs ms))
