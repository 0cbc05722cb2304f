use Rattle.std.proofs.Common.{◌≡◌, ◌∙◌, sym, ap, subst, ⊎_elim}
use Rattle.model.specs.Calls.{variable_of}
use Rattle.model.specs.Checking.{undeclared_in, undeclared_in_all, undeclared_in_mems}
use Rattle.source.specs.Heads.{text_of}
use Rattle.source.specs.Table.{tree_table}
use Rattle.validation.specs.Diagnosed.{Noted}
use Rattle.validation.proofs.Notes.{Onwards, onwards_start, onwards_step, onwards_end, none_found}
use Rattle.validation.proofs.Shapes.{variable_is, list_is, object_is, plain_contents, declared_row}
use Rattle.validation.proofs.Leading.{at_base, narrower, items_led, items_over, members_led, members_over}
use Rattle.validation.proofs.literal.LiteralCheck.+contents.Goals as goal

pub loop-at-init : goal.loop-at-init
loop-at-init g t c = (
  tt,
  tt,
  rw c.into_iter-at-iterator.ensures.into_iter_gives c.values-at-items.ensures.source,
  rw c.into_iter-at-iterator.ensures.into_iter_gives c.values-at-items.ensures.narrow,
  (λ vs xs d m. (xs, m, onwards_start _ _)),
  (λ vs ms d m. (ms, m, onwards_start _ _)),
)

pub loop-at-preserved : goal.loop-at-preserved
loop-at-preserved g t c =
    let i = c.loop-at.invariant in
    let s = c.args.self.now.source.now in
    let k = at_base g.S.Source.past g.S.Source.named g.S.Source.stands g.S.Source.items g.S.Source.members _ s _ _ _ i.2 c.in-Some.ensures.steps.1 in (
      tt,
      tt,
      c.in-Some.ensures.steps.0 ∙ i.2,
      narrower k.taken i.3,
      (λ vs xs d m.
          let n = i.4 vs xs d m in
          let l = items_led (g.S.Source.named s) (g.S.Source.stands s) (g.S.Source.items s) (g.S.Source.members s) n.0 c.in-Some.at _ (k.item n.0 n.1) in
          (l.1, l.4, onwards_step {xs = undeclared_in vs l.0} (subst (λ z. Onwards c.args.found.now c.loop-at.found (undeclared_in_all vs z) (undeclared_in_all vs xs)) l.2 n.2) (c.contents.ensures vs l.0 d l.3))),
      (λ vs ms d m.
          let n = i.5 vs ms d m in
          let l = members_led (g.S.Source.named s) (g.S.Source.stands s) (g.S.Source.items s) (g.S.Source.members s) n.0 c.in-Some.at _ (k.field n.0 n.1) in
          (l.2, l.6, onwards_step {xs = undeclared_in vs l.1} (subst (λ z. Onwards c.args.found.now c.loop-at.found (undeclared_in_mems vs z) (undeclared_in_mems vs ms)) l.3 n.2) (c.contents.ensures vs l.1 d l.5))),
    )

pub returns-else-is_none : goal.returns-else-is_none
returns-else-is_none g t c vs x d h =
    let v = variable_is x (sym c.in-Variable.is ∙ c.kind.ensures x h) in
    let n : c.text.result.now ≡ v.1 = c.text.ensures x h ∙ ap text_of v.2 in
    let e = declared_row (tree_table c.args.self.now.variables.tree.now) (variable_of vs v.1) c.find.result v.0 (rw n at (c.find.ensures vs d)) c.if-is_none.ensures in
    subst (Noted c.args.found.now c.args.found.now) (sym (ap (undeclared_in vs) v.2 ∙ e)) (none_found c.args.found.now)

pub returns-in-None : goal.returns-in-None
returns-in-None g t c vs x d h =
    let i = c.loop-at.invariant in
    let s = c.args.self.now.source.now in
    let k = at_base g.S.Source.past g.S.Source.named g.S.Source.stands g.S.Source.items g.S.Source.members _ s _ _ _ i.2 c.in-None.ensures.steps.1 in
    ⊎_elim
    (λ e.
    let l = list_is x (sym e ∙ c.kind.ensures x h) in
    let n = i.4 vs l.1 d (rw c.into_iter-at-iterator.ensures.into_iter_gives (c.values-at-items.ensures.listed l.0 l.1 (subst (g.S.Source.stands s c.args.at) l.2 h))) in
    let z = items_over (g.S.Source.named s) (g.S.Source.stands s) (g.S.Source.items s) (g.S.Source.members s) n.0 (k.item n.0 n.1) in
    subst (Noted c.args.found.now c.loop-at.found) (sym (ap (undeclared_in vs) l.2)) (onwards_end (subst (λ ys. Onwards c.args.found.now c.loop-at.found (undeclared_in_all vs ys) (undeclared_in_all vs l.1)) z n.2)))
    (λ e.
    let l = object_is x (sym e ∙ c.kind.ensures x h) in
    let n = i.5 vs l.1 d (rw c.into_iter-at-iterator.ensures.into_iter_gives (c.values-at-items.ensures.fielded l.0 l.1 (subst (g.S.Source.stands s c.args.at) l.2 h))) in
    let z = members_over (g.S.Source.named s) (g.S.Source.stands s) (g.S.Source.items s) (g.S.Source.members s) n.0 (k.field n.0 n.1) in
    subst (Noted c.args.found.now c.loop-at.found) (sym (ap (undeclared_in vs) l.2)) (onwards_end (subst (λ ys. Onwards c.args.found.now c.loop-at.found (undeclared_in_mems vs ys) (undeclared_in_mems vs l.1)) z n.2)))
    c.in-List.is

pub returns-in_default : goal.returns-in_default
returns-in_default g t c vs x d h =
    subst (Noted c.args.found.now c.args.found.now) (sym (plain_contents vs x c.kind.result (c.kind.ensures x h) c.in_default.not-Variable c.in_default.not-List c.in_default.not-Object)) (none_found c.args.found.now)
