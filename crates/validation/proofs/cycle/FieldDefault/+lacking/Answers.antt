use Rattle.std.proofs.Common.{vec_items, refl, rules, sym, ◌∙◌, subst}
use Rattle.schema.specs.Holds.{typed_of}
use Rattle.validation.specs.Lacking.{Adds, LacksRowIn}
use Rattle.validation.proofs.Handing.{next_item, no_item}
use Rattle.validation.proofs.CycleFields.{fields_more, field_past, field_given, field_added, field_left, past, met}
use Rattle.validation.proofs.CycleObjects.{object_told, object_past}
use Rattle.validation.proofs.CycleValues.{value_items, value_list, value_object, value_other, value_no_input, items_more, items_none}
use Rattle.validation.proofs.cycle.FieldDefault.+lacking.Goals as goal

pub value-returns-then-is_list-clause-told : goal.value-returns-then-is_list-clause-told
value-returns-then-is_list-clause-told g t c =
    value_items (g.S.Source.stands c.args.self.now.source.now) c.args.self.now.row c.args.self.now.schema.now c.args.at c.args.ty c.item.result c.args.leads.now.rows.items c.items.new.leads.rows.items
    (λ x st. sym (c.kind.ensures x st) ∙ c.in-List.is) (sym c.is_list.ensures ∙ c.if-is_list.true) c.item.ensures.shape c.item.ensures.name c.items.ensures.told

pub value-returns-else-is_list : goal.value-returns-else-is_list
value-returns-else-is_list g t c = record { rows = refl; told = value_list (g.S.Source.stands c.args.self.now.source.now) c.args.self.now.row c.args.self.now.schema.now c.args.at c.args.ty c.args.leads.now.rows.items (λ x st. sym (c.kind.ensures x st) ∙ c.in-List.is) (sym c.is_list.ensures ∙ c.if-is_list.false) }

pub value-returns-in-Input-clause-told : goal.value-returns-in-Input-clause-told
value-returns-in-Input-clause-told g t c =
    value_object (g.S.Source.stands c.args.self.now.source.now) c.args.self.now.row c.args.self.now.schema.now c.args.at c.args.ty c.in-Input.index c.args.leads.now.rows.items c.object.new.leads.rows.items
    (λ x st. sym (c.kind.ensures x st) ∙ c.in-Object.is) c.in-Input.is c.object.ensures.told

pub value-returns-in_default-base : goal.value-returns-in_default-base
value-returns-in_default-base g t c = record { rows = refl; told = value_no_input (g.S.Source.stands c.args.self.now.source.now) c.args.self.now.row c.args.self.now.schema.now c.args.at c.args.ty c.args.leads.now.rows.items (λ x st. sym (c.kind.ensures x st) ∙ c.in-Object.is) (λ i e. c.in_default-base.not-Input i e) }

pub value-returns-in_default : goal.value-returns-in_default
value-returns-in_default g t c = record { rows = refl; told = value_other (g.S.Source.stands c.args.self.now.source.now) c.args.self.now.row c.args.self.now.schema.now c.args.at c.args.ty c.args.leads.now.rows.items (λ x st. ((λ e. c.in_default.not-List (c.kind.ensures x st ∙ e)), (λ e. c.in_default.not-Object (c.kind.ensures x st ∙ e)))) }

pub items-loop-at-preserved : goal.items-loop-at-preserved
items-loop-at-preserved g t c = (
  search rules,
  search rules,
  search rules,
  search rules,
  search rules,
  λ D h a p xs st b.
      let i = c.loop-at.invariant.5 D h a p xs st b in
      let e = c.loop-at.invariant.2 in
      let s = c.loop-at.at-iterator.source.now in
      let n = next_item (g.S.Source.stands s) (g.S.Source.items s) i.0 c.next.result c.in-Some.at c.next.new.self.span (c.next.ensures.steps.1.item i.0 (subst (λ r. g.S.Source.items r c.loop-at.at-iterator.span i.0) (sym e) i.1)) c.in-Some.is in (
        n.1,
        subst (λ r. g.S.Source.items r c.next.new.self.span n.1) e n.4,
        λ new q. i.2 new (subst (λ zs. Adds c.args.self.now.row (LacksRowIn D zs (typed_of c.args.ty).ty) c.loop-at.leads.rows.items new) (sym n.2)
            (items_more D c.args.self.now.row n.0 n.1 (typed_of c.args.ty).ty c.loop-at.leads.rows.items c.value.new.leads.rows.items new (c.value.ensures.told D h a n.0 (subst (λ r. g.S.Source.stands r c.in-Some.at n.0) e n.3) b) q)),
      ),
)

pub items-returns-clause-told : goal.items-returns-clause-told
items-returns-clause-told g t c D h a p xs st b =
    let i = c.loop-at.invariant.5 D h a p xs st b in
    let e = c.loop-at.invariant.2 in
    let s = c.loop-at.at-iterator.source.now in
    let n = no_item (g.S.Source.stands s) (g.S.Source.items s) i.0 c.next.result c.next.new.self.span (c.next.ensures.steps.1.item i.0 (subst (λ r. g.S.Source.items r c.loop-at.at-iterator.span i.0) (sym e) i.1)) c.in-None.is in
    i.2 c.loop-at.leads.rows.items (subst (λ zs. Adds c.args.self.now.row (LacksRowIn D zs (typed_of c.args.ty).ty) c.loop-at.leads.rows.items c.loop-at.leads.rows.items) (sym n) (items_none D c.args.self.now.row (typed_of c.args.ty).ty c.loop-at.leads.rows.items))

pub object-loop-row-preserved : goal.object-loop-row-preserved
object-loop-row-preserved g t c = (
  search rules,
  λ D h a p ms st.
      fields_more D ms c.args.self.now.row c.in-Some.ty.now.inside.from c.loop-row.row c.args.leads.now.rows.items c.loop-row.leads.rows.items c.field.new.leads.rows.items c.loop-row.auto.row (c.loop-row.invariant.1 D h a p ms st) (c.field.ensures.told D h a p ms st),
)

pub object-returns-clause-told : goal.object-returns-clause-told
object-returns-clause-told g t c D h a p ms st n e =
    let w = met c.args.index (vec_items c.args.self.now.schema.now.types) c.deref.result.now c.in-Some.ty.now c.deref.ensures.value (sym c.in-Some.ensures.lookup.0) c.in-Some.ensures.lookup.1 in
    object_told D c.args.self.now.schema.now h a p ms n c.args.self.now.row c.args.index e c.in-Some.ty.now w.0 w.1 c.loop-row.row c.args.leads.now.rows.items c.loop-row.leads.rows.items
    c.loop-row-test.false c.loop-row.auto.row-end (c.loop-row.invariant.1 D h a p ms st)

pub object-returns-in_default-clause-told : goal.object-returns-in_default-clause-told
object-returns-in_default-clause-told g t c D h a p ms st n e =
    absurd (object_past D c.args.self.now.schema.now h n c.args.index e (past c.args.index (vec_items c.args.self.now.schema.now.types) c.deref.result.now c.deref.ensures.value (sym c.in_default.ensures.lookup.0)))

pub field-returns-in_default-clause-told : goal.field-returns-in_default-clause-told
field-returns-in_default-clause-told g t c D h a p ms st = field_past D c.args.self.now.schema.now h a ms c.args.self.now.row c.args.row c.args.leads.now.rows.items (past c.args.row (vec_items c.args.self.now.schema.now.fields) c.deref.result.now c.deref.ensures.value (sym c.in_default.ensures.lookup.0))

pub field-returns-in-Some-member-clause-told : goal.field-returns-in-Some-member-clause-told
field-returns-in-Some-member-clause-told g t c D h a p ms st =
    let w = met c.args.row (vec_items c.args.self.now.schema.now.fields) c.deref.result.now c.in-Some.field.now c.deref.ensures.value (sym c.in-Some.ensures.lookup.0) c.in-Some.ensures.lookup.1 in
    field_given D c.args.self.now.schema.now h a ms c.args.self.now.row c.args.row c.in-Some.field.now w.0 w.1 (g.S.Source.stands c.args.self.now.source.now) c.in-Some-member.member c.args.leads.now.rows.items c.value.new.leads.rows.items
    (c.in-Some-member.ensures.found p ms st) c.value.ensures.told

pub field-returns-in-None-clause-told : goal.field-returns-in-None-clause-told
field-returns-in-None-clause-told g t c D h a p ms st =
    let w = met c.args.row (vec_items c.args.self.now.schema.now.fields) c.deref.result.now c.in-Some.field.now c.deref.ensures.value (sym c.in-Some.ensures.lookup.0) c.in-Some.ensures.lookup.1 in
    field_added D c.args.self.now.schema.now h a ms c.args.self.now.row c.args.row c.in-Some.field.now w.0 w.1 (g.S.Source.stands c.args.self.now.source.now) c.args.leads.now.rows.items c.add.new.self.rows.items
    (c.in-None.ensures.found p ms st) (sym c.if-is_some.ensures) c.add.ensures.added

pub field-returns-else-is_some-clause-told : goal.field-returns-else-is_some-clause-told
field-returns-else-is_some-clause-told g t c D h a p ms st =
    let w = met c.args.row (vec_items c.args.self.now.schema.now.fields) c.deref.result.now c.in-Some.field.now c.deref.ensures.value (sym c.in-Some.ensures.lookup.0) c.in-Some.ensures.lookup.1 in
    field_left D c.args.self.now.schema.now h a ms c.args.self.now.row c.args.row c.in-Some.field.now w.0 w.1 (g.S.Source.stands c.args.self.now.source.now) c.args.leads.now.rows.items
    (c.in-None.ensures.found p ms st) (sym c.if-is_some.ensures)
