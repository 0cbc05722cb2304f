use Rattle.std.proofs.Common.{◌≡◌, ◌+◌, ◌-◌, ◌*◌, vec_items}
use Rattle.stored.specs.Told.{Same}
use Rattle.stored.proofs.RdSteps.{SofarItems, SofarMembers}
use Rattle.stored.proofs.reading.Reader.+items_members_value.Given as goal

abbrev pub decreases-items : goal.decreases-items
decreases-items l = 2 * l.levels + 1

abbrev pub decreases-members : goal.decreases-members
decreases-members l = 2 * l.levels + 1

abbrev pub decreases-value : goal.decreases-value
decreases-value l = 2 * l.levels

abbrev pub invariant-items-loop-next : goal.invariant-items-loop-next
invariant-items-loop-next l =
    SofarItems l.initial.self.bytes.now l.levels l.from l.next l.to × Same l.initial.self l.self

abbrev pub decreases-items-loop-next : goal.decreases-items-loop-next
decreases-items-loop-next l = l.to - l.next

abbrev pub invariant-members-loop-next : goal.invariant-members-loop-next
invariant-members-loop-next l =
    SofarMembers l.self.bytes.now l.levels l.from l.next l.to l.base (vec_items l.initial.self.names.links) (vec_items l.self.names.links) × (l.self.bytes ≡ l.initial.self.bytes)

abbrev pub decreases-members-loop-next : goal.decreases-members-loop-next
decreases-members-loop-next l = l.to - l.next
