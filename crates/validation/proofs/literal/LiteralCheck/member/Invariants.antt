use Rattle.std.proofs.Common.{◌≡◌}
use Rattle.model.specs.Values.{Mems}
use Rattle.model.specs.Coercion.{member}
use Rattle.source.specs.Spans.{Within}
use Rattle.validation.proofs.literal.LiteralCheck.member.Given as goal

-- no member was found yet: the one with the name is among those to come
abbrev pub invariant-loop-member : goal.invariant-loop-member
invariant-loop-member g l =
    (goal.iterator-loop-member g).can_next l.member-iterator ×
    (goal.iterator-loop-member g).is_finite l.member-iterator ×
    (l.member-iterator.source.now ≡ l.self.source.now) ×
    Within (g.S.Source.past l.self.source.now l.at) l.at l.member-iterator.span ×
    ((ms : Mems) → g.S.Source.members l.self.source.now l.initial.member-iterator.span ms → (ns : Mems) × g.S.Source.members l.self.source.now l.member-iterator.span ns × (member ms l.name ≡ member ns l.name))
