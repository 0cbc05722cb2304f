use Rattle.std.proofs.Common.{◌∙◌, ◌∷◌, [], ◌++◌, map, length, sym, refl, ap, arith, append_assoc, vec_len, vec_items}
use Rattle.std.proofs.lemmas.List.{map-append}
use Rattle.text.proofs.Handed.{handed_on}
use Rattle.text.specs.TokenGrammar.{close_brace}
use Rattle.text.specs.declared.fault.Fault.TheVariants.{BadText, NoSpace}
use Rattle.reader.specs.Reading.{fails, is_mark}
use Rattle.reader.proofs.Faults.{blames_map}
use Rattle.schema.specs.Holds.{label_of}
use Rattle.schema.specs.Outcomes.{Takes, any_name}
use Rattle.schema.specs.SchemaReading.{next, value_name, ReadsNew, ReadsValueList}
use Rattle.schema.specs.SchemaTold.{Open}
use Rattle.schema.specs.Told.{sights}
use Rattle.schema.proofs.Entering.{value_fails, value_taken, value_refused, new_fails, new_taken, new_full, item_begun, item_unbegun, item_ended, onward_on, room_is, no_room, span_is, grown_by}
use Rattle.schema.proofs.Listing.{sofar_step, sofar_fails, sofar_done, sofar_as}
use Rattle.schema.proofs.document.enum_values.Goals as goal

pub returns-in_err-value-clause-told : goal.returns-in_err-value-clause-told
returns-in_err-value-clause-told c =
    let t = c.loop-value.tokens in
    let u = c.args.tokens.now in
    let i = c.loop-value.invariant in
    rw (handed_on c.from_residual.ensures.1)
    (blames_map (λ g. Open (is_mark close_brace) _ t × Takes (sights t) any_name t.at (fails g)) (λ g. ReadsValueList (sights u) (vec_len c.args.values.now) u.at (fails g))
    (λ g h. let o = item_unbegun t u i.3.0 (is_mark close_brace) c.len.result c.len-from.result (vec_len c.args.values.now) (vec_len c.loop-value.values) c.len.ensures i.4 (omega (arith, i.4, i.5)) g h in
    sofar_fails (sights u) (is_mark close_brace) next (λ k. ReadsNew (sights u) 1024 k value_name) i.1 o.sight g o.seen o.goes (new_fails (sights u) 1024 _ value_name t.at g (value_fails (sights u) t.at g o.name)))
    _ (c.in_err-value.ensures))

pub returns-then-is_reserved-clause-told : goal.returns-then-is_reserved-clause-told
returns-then-is_reserved-clause-told c =
    let t = c.loop-value.tokens in
    let u = c.args.tokens.now in
    let i = c.loop-value.invariant in
    let o = item_begun t u i.3.0 (is_mark close_brace) c.len.result c.len-from.result (vec_len c.args.values.now) (vec_len c.loop-value.values) c.len.ensures i.4 (omega (arith, i.4, i.5)) c.item_name.new.tokens _ _ c.in-Some.is (c.in_ok-value.ensures) in
    let g = BadText c.in-Some.value.place in
    sofar_fails (sights u) (is_mark close_brace) next (λ k. ReadsNew (sights u) 1024 k value_name) i.1 o.sight g o.seen o.goes
    (new_fails (sights u) 1024 _ value_name t.at g (value_refused (sights u) t.at _ (label_of c.in-Some.value) o.name (sym c.is_reserved.ensures ∙ c.if-is_reserved.true)))

pub returns-then-len-ge-MOST_VALUES-clause-told : goal.returns-then-len-ge-MOST_VALUES-clause-told
returns-then-len-ge-MOST_VALUES-clause-told c =
    let t = c.loop-value.tokens in
    let u = c.args.tokens.now in
    let i = c.loop-value.invariant in
    let o = item_begun t u i.3.0 (is_mark close_brace) c.len.result c.len-from.result (vec_len c.args.values.now) (vec_len c.loop-value.values) c.len.ensures i.4 (omega (arith, i.4, i.5)) c.item_name.new.tokens _ _ c.in-Some.is (c.in_ok-value.ensures) in
    let g = NoSpace c.in-Some.value.place in
    sofar_fails (sights u) (is_mark close_brace) next (λ k. ReadsNew (sights u) 1024 k value_name) i.1 o.sight g o.seen o.goes
    (new_full (sights u) 1024 _ value_name t.at _ (label_of c.in-Some.value) (value_taken (sights u) t.at _ (label_of c.in-Some.value) o.name (sym c.is_reserved.ensures ∙ c.if-is_reserved.false)) (no_room _ _ (omega (arith, c.if-len-ge-MOST_VALUES.true, c.len-in-Some.ensures))))

pub loop-value-smaller : goal.loop-value-smaller
loop-value-smaller c =
    let t = c.loop-value.tokens in
    let u = c.args.tokens.now in
    let i = c.loop-value.invariant in
    let o = item_begun t u i.3.0 (is_mark close_brace) c.len.result c.len-from.result (vec_len c.args.values.now) (vec_len c.loop-value.values) c.len.ensures i.4 (omega (arith, i.4, i.5)) c.item_name.new.tokens _ _ c.in-Some.is (c.in_ok-value.ensures) in
    omega (arith, o.onward.1, ap length o.onward.0, c.item_name.new.tokens.inside)

pub loop-value-preserved : goal.loop-value-preserved
loop-value-preserved c =
    let t = c.loop-value.tokens in
    let u = c.args.tokens.now in
    let i = c.loop-value.invariant in
    let o = item_begun t u i.3.0 (is_mark close_brace) c.len.result c.len-from.result (vec_len c.args.values.now) (vec_len c.loop-value.values) c.len.ensures i.4 (omega (arith, i.4, i.5)) c.item_name.new.tokens _ _ c.in-Some.is (c.in_ok-value.ensures) in
    let l = label_of c.in-Some.value in
    let r = new_taken (sights u) 1024 (vec_len c.loop-value.values) value_name t.at _ l (value_taken (sights u) t.at _ l o.name (sym c.is_reserved.ensures ∙ c.if-is_reserved.false)) (room_is _ _ (omega (arith, c.if-len-ge-MOST_VALUES.false, c.len-in-Some.ensures))) in
    let s = sofar_step (sights u) (is_mark close_brace) next (λ k. ReadsNew (sights u) 1024 k value_name) i.1 o.sight _ l o.seen o.goes r in (
      i.0 ++ l ∷ [],
      sofar_as (sights u) (is_mark close_brace) next (λ k. ReadsNew (sights u) 1024 k value_name) s (sym (room_is _ _ (omega (arith, i.4, i.5, c.in_ok-push.ensures.len)))) (omega (arith, c.in_ok-push.ensures.len)) refl,
      ap (map label_of) c.in_ok-push.ensures.items ∙ map-append label_of (vec_items c.loop-value.values) (c.in-Some.value ∷ []) ∙ ap (λ x. x ++ l ∷ []) i.2 ∙ append_assoc (map label_of (vec_items c.args.values.now)) i.0 (l ∷ []),
      onward_on 0 1 u t c.item_name.new.tokens i.3 o.onward,
      i.4,
      omega (arith, i.5, c.in_ok-push.ensures.len),
      omega (arith, c.in_ok-push.ensures.len, c.if-len-ge-MOST_VALUES.false, c.len-in-Some.ensures),
    )

pub returns-clause-told : goal.returns-clause-told
returns-clause-told c =
    let t = c.loop-value.tokens in
    let u = c.args.tokens.now in
    let i = c.loop-value.invariant in
    let o = item_ended t u i.3.0 (is_mark close_brace) c.len.result c.len-from.result (vec_len c.args.values.now) (vec_len c.loop-value.values) c.len.ensures i.4 (omega (arith, i.4, i.5)) c.item_name.new.tokens _ c.in_default.is (c.in_ok-value.ensures) in
    record {
      value = i.0;
      reads = sofar_done (sights u) (is_mark close_brace) next (λ k. ReadsNew (sights u) 1024 k value_name) i.1 o.start _ o.token o.seen o.closes;
      means = record { values = i.2; inside = span_is _ _ _ _ (i.4 ∙ c.args.values.now.ok.0) (c.len-2.ensures ∙ c.loop-value.values.ok.0 ∙ grown_by label_of (vec_items c.args.values.now) (vec_items c.loop-value.values) i.0 i.2) };
      onward = onward_on 0 0 u t c.item_name.new.tokens i.3 o.onward;
    }
