use Rattle.std.proofs.Common.{◌∙◌, Some, None, sym, subst}
use Rattle.source.specs.Standing.{Found}
use Rattle.source.proofs.Standings.{found_here, found_later}
use Rattle.validation.proofs.Leading.{at_base, narrower, none_left, differ, agree}
use Rattle.validation.proofs.literal.LiteralCheck.member.Goals as goal

pub loop-member-preserved : goal.loop-member-preserved
loop-member-preserved g c =
    let i = c.loop-member.invariant in
    let s = c.args.self.now.source.now in
    let k = at_base g.S.Source.past g.S.Source.named g.S.Source.stands g.S.Source.items g.S.Source.members _ s _ _ _ i.2 c.in-Some.ensures.steps.1 in (
      tt,
      tt,
      c.in-Some.ensures.steps.0 ∙ i.2,
      narrower k.taken i.3,
      λ ms m.
          let n = i.4 ms m in
          let l = found_later (g.S.Source.named s) (g.S.Source.stands s) (g.S.Source.members s) c.args.name.now n.0 c.in-Some.member _ (k.field n.0 n.1)
          (λ q w. λ e. differ _ c.args.name.now _ c.eq.ensures c.if-eq.false (c.name.ensures q w ∙ e)) in
          (l.0, l.1, n.2 ∙ l.2),
    )

pub returns-then-eq-clause-found : goal.returns-then-eq-clause-found
returns-then-eq-clause-found g c p ms h =
    let i = c.loop-member.invariant in
    let s = c.args.self.now.source.now in
    let k = at_base g.S.Source.past g.S.Source.named g.S.Source.stands g.S.Source.items g.S.Source.members _ s _ _ _ i.2 c.in-Some.ensures.steps.1 in
    let n = i.4 ms (rw c.into_iter-member-iterator.ensures.into_iter_gives (c.values-member-items.ensures.fielded p ms h)) in
    subst (λ o. Found (g.S.Source.stands s) o (Some c.in-Some.member)) (sym n.2)
    (found_here (g.S.Source.named s) (g.S.Source.stands s) (g.S.Source.members s) c.args.name.now n.0 c.in-Some.member _ (k.field n.0 n.1)
    (λ q w. sym (c.name.ensures q w) ∙ agree _ c.args.name.now _ c.eq.ensures c.if-eq.true))

pub returns-clause-found : goal.returns-clause-found
returns-clause-found g c p ms h =
    let i = c.loop-member.invariant in
    let s = c.args.self.now.source.now in
    let k = at_base g.S.Source.past g.S.Source.named g.S.Source.stands g.S.Source.items g.S.Source.members _ s _ _ _ i.2 c.in-None.ensures.steps.1 in
    let n = i.4 ms (rw c.into_iter-member-iterator.ensures.into_iter_gives (c.values-member-items.ensures.fielded p ms h)) in
    subst (λ o. Found (g.S.Source.stands s) o None) (sym n.2) (none_left (g.S.Source.named s) (g.S.Source.stands s) (g.S.Source.items s) (g.S.Source.members s) n.0 c.args.name.now (k.field n.0 n.1))
