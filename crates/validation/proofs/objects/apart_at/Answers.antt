use Rattle.std.proofs.Common.{◌<◌, vec_items, true, Ok, sym, ap, ◌∙◌, subst, arith}
use Rattle.std.specs.declared.alloc.AllocError.{AllocError}
use Rattle.names.specs.Index.{AddTold}
use Rattle.source.specs.declared.nodes.Node.{Node}
use Rattle.source.specs.Table.{tree_table, past_of}
use Rattle.validation.proofs.ObjectsApart.{sofar_more, sofar_all}
use Rattle.validation.proofs.objects.apart_at.Goals as goal

pub loop-at-preserved : goal.loop-at-preserved
loop-at-preserved c =
    let T = tree_table c.args.tree.now in
    let inside : c.loop-at.at < past_of T.nodes c.args.object = omega (arith, c.loop-at-test.true, c.saturating_add-end.ensures, ap (λ (n : Node). n.size) c.get.ensures) in
    let before = vec_items c.loop-at.names.links in
    let after = vec_items c.add.new.self.links in
    sofar_more T c.args.object c.loop-at.at c.saturating_add-at.result before after c.in-Some.name inside
    (ap (λ (n : Node). n.name) (sym c.get-node.ensures) ∙ c.in-Some.is)
    (subst (λ q. AddTold {E = AllocError} T.text q 0 before after c.in-Some.name (Ok true)) c.deref.ensures.value (subst (λ b. AddTold {E = AllocError} T.text c.deref.result.now 0 before after c.in-Some.name (Ok b)) c.if-not-branch.false c.in_ok-add.ensures))
    (λ k m. omega (arith, c.saturating_add-at.ensures, c.max.ensures, ap (λ (n : Node). n.size) c.get-node.ensures, k, m, c.deref.ensures.len))
    c.loop-at.invariant

pub returns : goal.returns
returns c t =
    let T = tree_table c.args.tree.now in
    sofar_all T c.args.object c.loop-at.at (vec_items c.loop-at.names.links)
    (λ k. omega (arith, c.loop-at-test.false, c.saturating_add-end.ensures, ap (λ (n : Node). n.size) c.get.ensures, k))
    c.loop-at.invariant
