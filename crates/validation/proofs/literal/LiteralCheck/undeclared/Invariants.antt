use Rattle.std.proofs.Common.{◌≡◌, map}
use Rattle.model.specs.Values.{Mems}
use Rattle.model.specs.Coercion.{first_undeclared}
use Rattle.schema.specs.declared.definition.Field.{Field}
use Rattle.validation.proofs.literal.LiteralCheck.undeclared.Given as goal

-- all members that came are declared: the first that is not is among those to come
abbrev pub invariant-loop-member : goal.invariant-loop-member
invariant-loop-member g l =
    (goal.iterator-loop-member g).can_next l.member-iterator ×
    (goal.iterator-loop-member g).is_finite l.member-iterator ×
    (l.member-iterator.source.now ≡ l.self.source.now) ×
    (l.table.records.now ≡ l.fields) ×
    ((ms : Mems) → g.S.Source.members l.self.source.now l.initial.member-iterator.span ms
    → (ns : Mems) × g.S.Source.members l.self.source.now l.member-iterator.span ns × (first_undeclared (map (λ (f : Field). f.name.now) l.fields) ms ≡ first_undeclared (map (λ (f : Field). f.name.now) l.fields) ns))
