use Rattle.std.proofs.Common.{◌≡◌, ◌∙◌, ◌∷◌, [], ◌++◌, false, sym, refl, ap, subst, arith, vec_len}
use Rattle.text.proofs.Handed.{handed_on}
use Rattle.text.specs.TokenFound.{view_of}
use Rattle.text.specs.declared.fault.Fault.TheVariants.{NoSpace}
use Rattle.reader.specs.Reading.{got, fails}
use Rattle.reader.proofs.Faults.{blames_map}
use Rattle.source.specs.Table.{table_of, Keeps}
use Rattle.source.proofs.Keeping.{keeps_all, keeps_on}
use Rattle.schema.specs.Declarations.{ReadsDeclared}
use Rattle.schema.specs.Holds.{label_of, typed_of}
use Rattle.schema.specs.Types.{ty_from}
use Rattle.schema.specs.DeclarationTold.{DeclaredBy}
use Rattle.schema.specs.Outcomes.{Takes, any_name}
use Rattle.schema.specs.SchemaReading.{next, ReadsField, ReadsFieldList}
use Rattle.schema.specs.SchemaTold.{Open, unknown}
use Rattle.schema.specs.Told.{sights, is_token}
use Rattle.schema.proofs.Entering.{new_fails, new_taken, new_full, item_begun, item_unbegun, item_ended, onward_on, room_is, no_room, span_is, same_sights}
use Rattle.schema.proofs.Listing.{sofar_start, sofar_step, sofar_fails, sofar_done, sofar_as}
use Rattle.schema.proofs.Rowing.{appended_none, appended_one, appended_map, appended_length, field_kept, field_row}
use Rattle.schema.proofs.document.fields.Goals as goal

pub loop-name-init : goal.loop-name-init
loop-name-init c =
    let u = c.args.tokens.now in (
      [],
      sofar_as (sights u) (is_token (view_of c.args.close)) next (ReadsField (sights u) c.args.most) (sofar_start (sights u) (is_token (view_of c.args.close)) next (ReadsField (sights u) c.args.most) false (vec_len c.args.table.now) u.at) (sym (no_room _ _ (omega arith))) refl refl,
      appended_none _ _,
      (refl, omega arith),
      c.len-from.ensures,
      omega (arith, c.len-from.ensures),
      c.requires.few,
      keeps_all _,
    )

pub returns-in_err-name-clause-told : goal.returns-in_err-name-clause-told
returns-in_err-name-clause-told c =
    let t = c.loop-name.tokens in
    let u = c.args.tokens.now in
    let i = c.loop-name.invariant in
    let close = is_token (view_of c.args.close) in
    rw (handed_on c.from_residual.ensures.1)
    (blames_map (λ g. Open close _ t × Takes (sights t) any_name t.at (fails g)) (λ g. ReadsFieldList (sights u) close c.args.most (vec_len c.args.table.now) u.at (fails g))
    (λ g h. let o = item_unbegun t u i.3.0 close c.len.result c.len-from.result (vec_len c.args.table.now) (vec_len c.loop-name.table) c.len.ensures i.4 (omega (arith, i.4, i.5)) g h in
    sofar_fails (sights u) close next (ReadsField (sights u) c.args.most) i.1 o.sight g o.seen o.goes (fails g, new_fails (sights u) c.args.most _ any_name t.at g o.name, refl))
    _ c.in_err-name.ensures)

pub returns-then-len-most-clause-told : goal.returns-then-len-most-clause-told
returns-then-len-most-clause-told c =
    let t = c.loop-name.tokens in
    let u = c.args.tokens.now in
    let i = c.loop-name.invariant in
    let close = is_token (view_of c.args.close) in
    let o = item_begun t u i.3.0 close c.len.result c.len-from.result (vec_len c.args.table.now) (vec_len c.loop-name.table) c.len.ensures i.4 (omega (arith, i.4, i.5)) c.item_name.new.tokens _ _ c.in-Some.is c.in_ok-name.ensures in
    let g = NoSpace c.in-Some.field-0.place in
    sofar_fails (sights u) close next (ReadsField (sights u) c.args.most) i.1 o.sight g o.seen o.goes
    (fails g, new_full (sights u) c.args.most _ any_name t.at _ (label_of c.in-Some.field-0) o.name (no_room _ _ (omega (arith, c.if-len-most.true, c.len-in-Some.ensures))), refl)

pub returns-in_err-ty-clause-told : goal.returns-in_err-ty-clause-told
returns-in_err-ty-clause-told c =
    let t = c.loop-name.tokens in
    let u = c.args.tokens.now in
    let i = c.loop-name.invariant in
    let close = is_token (view_of c.args.close) in
    let o = item_begun t u i.3.0 close c.len.result c.len-from.result (vec_len c.args.table.now) (vec_len c.loop-name.table) c.len.ensures i.4 (omega (arith, i.4, i.5)) c.item_name.new.tokens _ _ c.in-Some.is c.in_ok-name.ensures in
    let l = label_of c.in-Some.field-0 in
    let n = c.item_name.new.tokens in
    let r = new_taken (sights u) c.args.most _ any_name t.at _ l o.name (room_is _ _ (omega (arith, c.if-len-most.false, c.len-in-Some.ensures))) in
    rw (handed_on c.from_residual-in_err-ty.ensures.1)
    (blames_map (λ g. ReadsDeclared (sights n) l n.at (fails g)) (λ g. ReadsFieldList (sights u) close c.args.most (vec_len c.args.table.now) u.at (fails g))
    (λ g h. sofar_fails (sights u) close next (ReadsField (sights u) c.args.most) i.1 o.sight g o.seen o.goes (got n.at l, r, subst (λ N. ReadsDeclared N l n.at (fails g)) (same_sights n u (o.onward.0 ∙ i.3.0)) h))
    _ (c.in_err-ty.ensures.told l))

pub loop-name-preserved : goal.loop-name-preserved
loop-name-preserved c =
    let t = c.loop-name.tokens in
    let u = c.args.tokens.now in
    let i = c.loop-name.invariant in
    let close = is_token (view_of c.args.close) in
    let o = item_begun t u i.3.0 close c.len.result c.len-from.result (vec_len c.args.table.now) (vec_len c.loop-name.table) c.len.ensures i.4 (omega (arith, i.4, i.5)) c.item_name.new.tokens _ _ c.in-Some.is c.in_ok-name.ensures in
    let l = label_of c.in-Some.field-0 in
    let n = c.item_name.new.tokens in
    let r = new_taken (sights u) c.args.most (vec_len c.loop-name.table) any_name t.at _ l o.name (room_is _ _ (omega (arith, c.if-len-most.false, c.len-in-Some.ensures))) in
    let d = c.in_ok-ty.ensures.told l in
    let same = o.onward.0 ∙ i.3.0 in
    let typed : typed_of c.of.result ≡ typed_of c.in_ok-ty.field-0.ty = λ i. record { ty = ty_from (c.of.ensures.shape i).non_null (c.of.ensures.name i).now (c.of.ensures.shape i).levels; place = c.of.ensures.place i } in
    let keeps = subst (λ x. Keeps 0 (table_of x c.loop-name.nodes) (table_of x c.declared.new.nodes)) same c.in_ok-ty.ensures.keeps in
    let s = sofar_step (sights u) close next (ReadsField (sights u) c.args.most) i.1 o.sight _ d.value o.seen o.goes (got n.at l, r, subst (λ N. ReadsDeclared N l n.at (got c.declared.new.tokens.at d.value)) (same_sights n u same) d.reads) in (
      i.0 ++ d.value ∷ [],
      sofar_as (sights u) close next (ReadsField (sights u) c.args.most) s (sym (room_is _ _ (omega (arith, i.4, i.5, c.in_ok-push.ensures.len)))) (omega (arith, c.in_ok-push.ensures.len)) refl,
      appended_one _ _ _ _ i.0 _ d.value
          (appended_map _ _ _ _ i.0 (field_kept unknown (table_of u.text.now c.loop-name.nodes) (table_of u.text.now c.declared.new.nodes) keeps) i.2)
          c.in_ok-push.ensures.items
          (field_row (table_of u.text.now c.declared.new.nodes) _ l c.in_ok-ty.field-0 d.value refl refl typed (ap (λ z. z.base) c.of.ensures.shape) refl
          (subst (λ x. DeclaredBy l (table_of x c.declared.new.nodes) c.in_ok-ty.field-0 d.value) same d.means)),
      onward_on 0 1 u t c.declared.new.tokens i.3 (onward_on 1 1 t n c.declared.new.tokens o.onward d.onward),
      i.4,
      omega (arith, i.5, c.in_ok-push.ensures.len),
      omega (arith, c.in_ok-push.ensures.len, c.if-len-most.false, c.len-in-Some.ensures),
      keeps_on i.7 keeps,
    )

pub returns-clause-told : goal.returns-clause-told
returns-clause-told c =
    let t = c.loop-name.tokens in
    let u = c.args.tokens.now in
    let i = c.loop-name.invariant in
    let close = is_token (view_of c.args.close) in
    let o = item_ended t u i.3.0 close c.len.result c.len-from.result (vec_len c.args.table.now) (vec_len c.loop-name.table) c.len.ensures i.4 (omega (arith, i.4, i.5)) c.item_name.new.tokens _ c.in_default.is c.in_ok-name.ensures in
    record {
      value = i.0;
      reads = sofar_done (sights u) close next (ReadsField (sights u) c.args.most) i.1 o.start _ o.token o.seen o.closes;
      means = record { fields = i.2; inside = span_is _ _ _ _ (i.4 ∙ c.args.table.now.ok.0) (c.len-2.ensures ∙ c.loop-name.table.ok.0 ∙ appended_length _ _ _ i.0 i.2); keeps = i.7 };
      onward = onward_on 0 0 u t c.item_name.new.tokens i.3 o.onward;
    }
