use Rattle.std.proofs.Common.{◌∙◌, ◌<◌, map, length, get_or, sym, refl, ap, subst, vec_items, arith}
use Rattle.std.proofs.lemmas.List.{length-set}
use Rattle.schema.specs.Holds.{Each, FieldHeld, type_row_of}
use Rattle.schema.specs.Rows.{base_by}
use Rattle.schema.specs.Types.{ty_from}
use Rattle.schema.proofs.Resolving.{Resolved, all_resolved, turned_done, turned_rest, written_back}
use Rattle.schema.proofs.document.resolve_in.Goals as goal

pub loop-field-init : goal.loop-field-init
loop-field-init c =
    let v = c.deref_mut-field-items.ensures.value in
    (ap length v, λ k d h. absurd (omega (arith, h)), λ k d h. ap (λ xs. get_or xs k d) v)

pub loop-field-preserved : goal.loop-field-preserved
loop-field-preserved c =
    let i = c.loop-field.invariant in
    let o = c.of-field.ensures in
    let B = base_by (map type_row_of c.args.types.now) in
    let long : c.loop-field.field-index < length c.loop-field.field-items = omega (arith, c.loop-field-test.true, c.loop-field.auto.field-items) in
    let r : Resolved B _ _ = record { name = refl; place = refl; typed = λ j. record { ty = ty_from (o.shape j).non_null (o.name j).now (o.shape j).levels; place = o.place j }; base = ap (λ z. z.base) o.shape ∙ c.base_among.ensures ∙ ap (λ z. B z.now) (sym o.name); default = refl } in (
      length-set c.loop-field.field-items c.loop-field.field-index _ ∙ i.0,
      turned_done B c.loop-field.field-items (vec_items c.args.fields.now) c.loop-field.field-index _ _ long r i.1 i.2,
      turned_rest B c.loop-field.field-items (vec_items c.args.fields.now) c.loop-field.field-index _ _ long r i.1 i.2,
    )

pub returns-clause-held : goal.returns-clause-held
returns-clause-held c T ds h =
    let i = c.loop-field.invariant in
    subst (λ xs. Each (FieldHeld (base_by (map type_row_of c.args.types.now)) T) xs ds) (written_back c.args.fields.now.len c.loop-field.field-items c.args.fields.now.items (c.args.fields.now.ok.0 ∙ sym i.0))
    (all_resolved _ T c.loop-field.field-items (vec_items c.args.fields.now) ds i.0 (λ k d l. i.1 k d (omega (arith, l, c.loop-field-test.false, c.loop-field.auto.field-items, i.0))) h)
