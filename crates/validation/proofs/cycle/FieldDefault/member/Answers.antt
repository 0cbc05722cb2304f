use Rattle.std.proofs.Common.{◌≡◌, true, false, Some, None, refl, rules, sym, ◌∙◌, subst}
use Rattle.model.specs.Values.{Name}
use Rattle.model.specs.Coercion.{member}
use Rattle.source.specs.Standing.{Found}
use Rattle.model.specs.Values.{same}
use Rattle.validation.proofs.Handing.{bytes_same, other_member, this_member, no_member}
use Rattle.validation.proofs.cycle.FieldDefault.member.Goals as goal

pub loop-member-init : goal.loop-member-init
loop-member-init g c = (
  search rules,
  search rules,
  search rules,
  search rules,
  λ p ms h.
      (ms, subst (λ v. g.S.Source.members c.args.self.now.source.now v.span ms) (sym c.into_iter-member-iterator.ensures.into_iter_gives) (c.values-member-items.ensures.fielded p ms h), refl),
)

pub loop-member-preserved : goal.loop-member-preserved
loop-member-preserved g c = (
  search rules,
  search rules,
  search rules,
  search rules,
  λ p ms h.
      let i = c.loop-member.invariant.4 p ms h in
      let e = c.loop-member.invariant.2 in
      let s = c.loop-member.member-iterator.source.now in
      let o = other_member (g.S.Source.named s) (g.S.Source.stands s) (g.S.Source.members s) i.0 c.next.result c.in-Some.member c.next.new.self.span c.args.name.now
      (c.next.ensures.steps.1.field i.0 (subst (λ r. g.S.Source.members r c.loop-member.member-iterator.span i.0) (sym e) i.1)) c.in-Some.is
      (λ n m. subst (λ (k : Name). same k c.args.name.now ≡ false) (c.name.ensures n (subst (λ r. g.S.Source.named r c.in-Some.member n) e m)) (bytes_same c.name.result.now c.args.name.now false (sym c.if-eq.false ∙ c.eq.ensures))) in
      (o.0, subst (λ r. g.S.Source.members r c.next.new.self.span o.0) e o.1, i.2 ∙ o.2),
)

pub returns-then-eq-clause-found : goal.returns-then-eq-clause-found
returns-then-eq-clause-found g c p ms h =
    let i = c.loop-member.invariant.4 p ms h in
    let e = c.loop-member.invariant.2 in
    let s = c.loop-member.member-iterator.source.now in
    let f = this_member (g.S.Source.named s) (g.S.Source.stands s) (g.S.Source.members s) i.0 c.next.result c.in-Some.member c.next.new.self.span c.args.name.now
    (c.next.ensures.steps.1.field i.0 (subst (λ r. g.S.Source.members r c.loop-member.member-iterator.span i.0) (sym e) i.1)) c.in-Some.is
    (λ n m. subst (λ (k : Name). same k c.args.name.now ≡ true) (c.name.ensures n (subst (λ r. g.S.Source.named r c.in-Some.member n) e m)) (bytes_same c.name.result.now c.args.name.now true (sym c.if-eq.true ∙ c.eq.ensures))) in
    subst (λ r. Found (g.S.Source.stands r) (member ms c.args.name.now) (Some c.in-Some.member)) e (subst (λ o. Found (g.S.Source.stands s) o (Some c.in-Some.member)) (sym i.2) f)

pub returns-clause-found : goal.returns-clause-found
returns-clause-found g c p ms h =
    let i = c.loop-member.invariant.4 p ms h in
    let e = c.loop-member.invariant.2 in
    let s = c.loop-member.member-iterator.source.now in
    let f = no_member (g.S.Source.named s) (g.S.Source.stands s) (g.S.Source.members s) i.0 c.next.result c.next.new.self.span c.args.name.now
    (c.next.ensures.steps.1.field i.0 (subst (λ r. g.S.Source.members r c.loop-member.member-iterator.span i.0) (sym e) i.1)) c.in-None.is in
    subst (λ r. Found (g.S.Source.stands r) (member ms c.args.name.now) None) e (subst (λ o. Found (g.S.Source.stands s) o None) (sym i.2) f)
