use Rattle.std.proofs.Common.{◌+◌, refl, ap}
use Rattle.source.specs.declared.nodes.Node.{Node}
use Rattle.source.proofs.Standings.{held_items, held_members}
use Rattle.source.proofs.value.ValueSource.inside.Goals as goal

pub returns-in-List-clause-listed : goal.returns-in-List-clause-listed
returns-in-List-clause-listed g c p xs h = held_items _ h refl (ap (λ (n : Node). c.args.at + n.size) c.node-node.ensures)

pub returns-in-List-clause-fielded : goal.returns-in-List-clause-fielded
returns-in-List-clause-fielded g c p ms h = held_members _ h refl (ap (λ (n : Node). c.args.at + n.size) c.node-node.ensures)
