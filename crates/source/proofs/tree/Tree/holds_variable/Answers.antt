use Rattle.std.proofs.Common.{◌≡◌, ◌-◌, length, min, ap, ◌∙◌, arith, rules}
use Rattle.std.specs.List.{list_any, slice_range}
use Rattle.source.specs.Nodes.{node_at}
use Rattle.source.specs.Table.{tree_table, past_of}
use Rattle.source.specs.OneTree.{head_of}
use Rattle.source.specs.Variables.{is_variable}
use Rattle.source.proofs.Variables.{any_told, below_cut}
use Rattle.source.proofs.tree.Tree.holds_variable.Goals as goal

pub returns-clause-tree : goal.returns-clause-tree
returns-clause-tree c t h =
    let k = head_of (tree_table c.args.self.now) c.args.at t h in
    let j : c.min-past.result ≡ past_of c.args.self.now.nodes.list.items c.args.at = omega (arith, c.min-past.ensures, c.saturating_add.ensures, c.len.ensures, ap (λ n. n.size) c.get-size.ensures, k.inside, c.deref.ensures.len) in
    let s : c.unwrap_or_default.result.now ≡ slice_range c.args.self.now.nodes.list.items c.args.at c.min-past.result = search rules in
    any_told (tree_table c.args.self.now) c.args.at c.min-past.result t c.any_variable.result h j (rw s at c.any_variable.ensures)

pub returns-clause-nodes : goal.returns-clause-nodes
returns-clause-nodes c =
    let nodes = c.args.self.now.nodes.list.items in
    let size = (node_at nodes c.args.at).size in
    let p : c.min-past.result - c.args.at ≡ min size (length nodes - c.args.at) = omega (arith, c.min-past.ensures, c.saturating_add.ensures, c.len.ensures, ap (λ n. n.size) c.get-size.ensures, c.deref.ensures.len, c.ranges.at.fits) in
    let s : c.unwrap_or_default.result.now ≡ slice_range nodes c.args.at c.min-past.result = search rules in
    c.any_variable.ensures ∙ ap (list_any is_variable) (s ∙ below_cut nodes c.args.at size c.min-past.result p)
