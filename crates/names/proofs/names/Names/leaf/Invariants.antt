use Rattle.std.proofs.Common.{◌-◌, length, vec_items}
use Rattle.names.proofs.Walk.{Walking}
use Rattle.names.proofs.names.Names.leaf.Given as goal

abbrev pub invariant-loop-holder : goal.invariant-loop-holder
invariant-loop-holder l = Walking l.holder.text.now l.holder.pool.now (vec_items l.self.links) l.base l.hash l.name l.at l.level

abbrev pub decreases-loop-holder : goal.decreases-loop-holder
decreases-loop-holder l = length (vec_items l.self.links) - l.at
