use Rattle.std.proofs.Common.{◌∙◌, List, Some, not, sym, ap, subst, map}
use Rattle.schema.specs.declared.definition.Field.{Field}
use Rattle.model.specs.Values.{has}
use Rattle.schema.proofs.Spanning.{found_has}
use Rattle.validation.specs.Literals.{PlaceFound}
use Rattle.validation.proofs.Leading.{at_base, declared_passed, undeclared_here}
use Rattle.validation.proofs.literal.LiteralCheck.undeclared.Goals as goal

pub loop-member-preserved : goal.loop-member-preserved
loop-member-preserved g c =
    let i = c.loop-member.invariant in
    let s = c.args.self.now.source.now in
    let k = at_base g.S.Source.past g.S.Source.named g.S.Source.stands g.S.Source.items g.S.Source.members _ s _ _ _ i.2 c.in-Some.ensures.steps.1 in (
      tt,
      tt,
      c.in-Some.ensures.steps.0 ∙ i.2,
      i.3,
      λ ms m.
          let n = i.4 ms m in
          let l = declared_passed (g.S.Source.named s) (g.S.Source.stands s) (g.S.Source.items s) (g.S.Source.members s) _ n.0 c.in-Some.member _ (k.field n.0 n.1) (λ q w. sym (ap (λ (rows : List Field). has (map (λ (f : Field). f.name.now) rows) q) i.3)
          ∙ (ap (has (map (λ (f : Field). f.name.now) c.new-table.result.records.now)) (sym (c.name.ensures q w))
          ∙ (sym (found_has _ c.name.result.now c.find.result c.find.ensures.first) ∙ (c.is_none.ensures ∙ ap not c.if-is_none.false)))) in
          (l.0, l.1, n.2 ∙ l.2),
    )

pub returns-then-is_none : goal.returns-then-is_none
returns-then-is_none g c p ms h =
    let i = c.loop-member.invariant in
    let s = c.args.self.now.source.now in
    let k = at_base g.S.Source.past g.S.Source.named g.S.Source.stands g.S.Source.items g.S.Source.members _ s _ _ _ i.2 c.in-Some.ensures.steps.1 in
    let n = i.4 ms (rw c.into_iter-member-iterator.ensures.into_iter_gives (c.values-member-items.ensures.fielded p ms h)) in
    subst (λ o. PlaceFound (g.S.Source.stands s) o (Some c.in-Some.member)) (sym n.2)
    (undeclared_here (g.S.Source.named s) (g.S.Source.stands s) (g.S.Source.items s) (g.S.Source.members s) _ n.0 c.in-Some.member _ (k.field n.0 n.1) (λ q w. sym (ap (λ (rows : List Field). has (map (λ (f : Field). f.name.now) rows) q) i.3)
    ∙ (ap (has (map (λ (f : Field). f.name.now) c.new-table.result.records.now)) (sym (c.name.ensures q w))
    ∙ (sym (found_has _ c.name.result.now c.find.result c.find.ensures.first) ∙ (c.is_none.ensures ∙ ap not c.if-is_none.true)))))
