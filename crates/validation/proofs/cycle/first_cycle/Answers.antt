use Rattle.std.proofs.Common.{◌+◌, ◌<◌, length, sym, ◌∙◌, subst, arith}
use Rattle.validation.specs.Making.{FirstFault}
use Rattle.validation.specs.Lacking.{CyclesBefore}
use Rattle.validation.proofs.CycleTest.{some_at, first_start, first_more, first_kept}
use Rattle.validation.proofs.cycle.first_cycle.Goals as goal
use Rattle.validation.proofs.cycle.first_cycle.Goals.{then-leads, else-leads}

pub loop-row-init : goal.loop-row-init
loop-row-init c = first_start c.args.leads.now.rows.items c.args.schema.now.fields.items

pub loop-row-preserved : goal.loop-row-preserved
loop-row-preserved c =
    let within : c.loop-row.row < length c.args.schema.now.fields.items = omega (arith, c.args.schema.now.fields.ok.0, c.len-row-end.ensures, c.loop-row-test.true) in
    elim c.if-leads.branch [
      | then-leads w ↦ subst (λ o. FirstFault (CyclesBefore c.args.leads.now.rows.items c.args.schema.now.fields.items (c.loop-row.row + 1)) o) (sym (w.first-is ∙ w.lesser-first.ensures))
          (first_more c.args.leads.now.rows.items c.args.schema.now.fields.items c.loop-row.row within w.index.result.now (sym w.index.ensures) c.loop-row.first c.loop-row.invariant (sym c.leads.ensures ∙ w.if-leads.true))
      | else-leads w ↦ subst (λ o. FirstFault (CyclesBefore c.args.leads.now.rows.items c.args.schema.now.fields.items (c.loop-row.row + 1)) o) (sym w.first-is)
          (let f = some_at c.args.schema.now.fields.items c.loop-row.row within in
          first_kept c.args.leads.now.rows.items c.args.schema.now.fields.items c.loop-row.row within f.0 f.1 c.loop-row.first c.loop-row.invariant (sym c.leads.ensures ∙ w.if-leads.false))
    ]

pub returns : goal.returns
returns c = subst (λ n. FirstFault (CyclesBefore c.args.leads.now.rows.items c.args.schema.now.fields.items n) c.loop-row.first) (omega (arith, c.args.schema.now.fields.ok.0, c.len-row-end.ensures, c.loop-row-test.false, c.loop-row.auto.row-end)) c.loop-row.invariant
