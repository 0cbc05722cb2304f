use Rattle.std.proofs.Common.{◌+◌, ℕ, take, sym, ◌∙◌, ap, subst, Option, arith}
use Rattle.std.proofs.lemmas.List.{take_all}
use Rattle.source.specs.Table.{tree_table}
use Rattle.validation.specs.Making.{FirstFault}
use Rattle.validation.specs.Repeats.{OneOf, DefaultTwice}
use Rattle.validation.proofs.Least.{one_more}
use Rattle.validation.proofs.members.in_literals.Goals as goal

pub loop-record-preserved : goal.loop-record-preserved
loop-record-preserved g c =
    let T = tree_table c.args.tree.now in
    let at = g.R.Valued.stands_at in
    let rows = c.args.records.now in
    let i = c.loop-record.record-index in
    let x = c.record-item.result in
    let next : Option ℕ → Type 0 = FirstFault (OneOf (λ r. DefaultTwice T (at r)) (take (i + 1) rows)) in
    let told : Option ℕ → Type 0 = λ o. FirstFault (DefaultTwice T o) c.in_ok-found.found in
    subst next (sym c.lesser-first.ensures) (one_more (λ r. DefaultTwice T (at r)) rows i x c.loop-record-test.true c.loop-record.first c.in_ok-found.found c.loop-record.invariant (subst told (c.cursor.ensures ∙ ap at c.record-item.is) c.in_ok-found.ensures.first))

pub returns-clause-first : goal.returns-clause-first
returns-clause-first g c =
    let T = tree_table c.args.tree.now in
    subst (λ rs. FirstFault (OneOf (λ r. DefaultTwice T (g.R.Valued.stands_at r)) rs) c.loop-record.first) (take_all c.loop-record.record-index c.args.records.now (omega (arith, c.loop-record-test.false))) c.loop-record.invariant
