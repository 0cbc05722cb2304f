use Rattle.std.proofs.Common.{◌+◌, ◌<◌, length, vec_len, refl, ap, sym, ◌∙◌, subst, arith}
use Rattle.source.specs.Table.{tree_table, Held}
use Rattle.validation.proofs.CycleTest.{Filled, filled_start, filled_more, filled_none, here, default_held, first_of_all}
use Rattle.validation.proofs.cycle.default_cycle.Goals as goal
use Rattle.validation.proofs.cycle.default_cycle.Goals.{in-Some, in_default}

pub loop-row-init : goal.loop-row-init
loop-row-init c = (refl, λ D h a u. filled_start D c.in_ok-leads.leads.rows.items c.in_ok-leads.ensures.none)

pub loop-row-preserved : goal.loop-row-preserved
loop-row-preserved c =
    let within : c.loop-row.row < length c.args.schema.now.fields.items = omega (arith, c.args.schema.now.fields.ok.0, c.len-row-end.ensures, c.loop-row-test.true) in
    elim c.match-field.branch [
      | in-Some w ↦ (
        ap (λ z. vec_len z.rows) w.leads-is ∙ w.value.ensures.rows ∙ c.loop-row.invariant.0,
        λ D h a u. subst (λ z. Filled D (c.loop-row.row + 1) z.rows.items) (sym w.leads-is)
            (let x = default_held D c.args.schema.now h a u c.loop-row.row c.index-field.result.now (sym c.index-field.ensures) within w.in-Some.cursor w.in-Some.is in
            filled_more D c.args.schema.now h a u c.loop-row.row c.index-field.result.now (sym c.index-field.ensures) within w.in-Some.cursor w.in-Some.is c.loop-row.leads.rows.items w.value.new.leads.rows.items
            (c.loop-row.invariant.1 D h a u)
            (w.value.ensures.told D h a x.0
            (subst (λ t. Held (tree_table t) w.root.result x.0) (sym w.new-source.ensures.tree) (subst (λ k. Held (tree_table c.args.schema.now.tree) k x.0) (sym (w.root.ensures ∙ w.new-source.ensures.root)) x.1))
            (here D c.args.schema.now h a u c.loop-row.row c.index-field.result.now (sym c.index-field.ensures) within).1.base)),
      )
      | in_default w ↦ (
        ap (λ z. vec_len z.rows) w.leads-is ∙ c.loop-row.invariant.0,
        λ D h a u. subst (λ z. Filled D (c.loop-row.row + 1) z.rows.items) (sym w.leads-is)
            (filled_none D c.args.schema.now h a u c.loop-row.row c.index-field.result.now (sym c.index-field.ensures) within c.loop-row.leads.rows.items w.in_default.is (c.loop-row.invariant.1 D h a u)),
      )
    ]

pub returns : goal.returns
returns c D h a u = first_of_all D c.args.schema.now h a c.loop-row.row (omega (arith, c.args.schema.now.fields.ok.0, c.len-row-end.ensures, c.loop-row-test.false)) c.loop-row.leads.rows.items c.close.new.self.rows.items (c.loop-row.invariant.1 D h a u) c.close.ensures.closed c.first_cycle.result c.first_cycle.ensures
