use Rattle.std.proofs.Common.{◌≡◌, ◌+◌, ◌-◌, ◌*◌, ◌≤◌, List, length, take, vec_items}
use Rattle.model.specs.Values.{Name}
use Rattle.source.specs.Table.{table_of}
use Rattle.reader.specs.Told.{NamesHeld, manner_of}
use Rattle.reader.proofs.Growing.{SofarItems, SofarMembers}
use Rattle.reader.proofs.reading.Reader.+items_list_members_object_value.Given as goal

abbrev pub decreases-items : goal.decreases-items
decreases-items g l = 4 * l.levels + 4

abbrev pub decreases-list : goal.decreases-list
decreases-list g l = 4 * l.levels + 2

abbrev pub decreases-members : goal.decreases-members
decreases-members g l = 4 * l.levels + 4

abbrev pub decreases-object : goal.decreases-object
decreases-object g l = 4 * l.levels + 2

abbrev pub decreases-value : goal.decreases-value
decreases-value g l = 4 * l.levels + 3

abbrev pub invariant-items-loop-end : goal.invariant-items-loop-end
invariant-items-loop-end g l =
    SofarItems (manner_of g.W.Written.LANGUAGE l.self) l.self.text.now l.levels l.at l.next (table_of l.self.text.now l.initial.nodes) (table_of l.self.text.now l.nodes)
    × (vec_items l.nodes.names.links ≡ vec_items l.initial.nodes.names.links)

abbrev pub decreases-items-loop-end : goal.decreases-items-loop-end
decreases-items-loop-end g l = length l.self.text.now - l.next

abbrev pub invariant-members-loop-name : goal.invariant-members-loop-name
invariant-members-loop-name g l =
    (ns : List Name)
    × SofarMembers (manner_of g.W.Written.LANGUAGE l.self) l.self.text.now l.levels l.at l.next ns (table_of l.self.text.now l.initial.nodes) (table_of l.self.text.now l.nodes)
    × NamesHeld l.self.distinct l.self.text.now (vec_items l.nodes.pool) (vec_items l.nodes.names.links) l.base ns
    × (take l.base (vec_items l.nodes.names.links) ≡ take l.base (vec_items l.initial.nodes.names.links))
    × (l.base ≤ length (vec_items l.nodes.names.links))

abbrev pub decreases-members-loop-name : goal.decreases-members-loop-name
decreases-members-loop-name g l = length l.self.text.now - l.next
