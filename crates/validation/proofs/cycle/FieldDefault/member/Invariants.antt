use Rattle.std.proofs.Common.{◌≡◌, ℕ}
use Rattle.model.specs.Values.{Mems, object}
use Rattle.model.specs.Coercion.{member}
use Rattle.source.specs.Spans.{Within}
use Rattle.validation.proofs.cycle.FieldDefault.member.Given as goal

abbrev pub invariant-loop-member : goal.invariant-loop-member
invariant-loop-member g l =
    (goal.iterator-loop-member g).can_next l.member-iterator ×
    (goal.iterator-loop-member g).is_finite l.member-iterator ×
    (l.member-iterator.source.now ≡ l.self.source.now) ×
    Within (g.S.Source.past l.self.source.now l.at) l.at l.member-iterator.span ×
    ((p : ℕ) (ms : Mems) → g.S.Source.stands l.self.source.now l.at (object p ms) → (ns : Mems) × g.S.Source.members l.self.source.now l.member-iterator.span ns × (member ms l.name ≡ member ns l.name))
