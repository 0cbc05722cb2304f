use Rattle.std.proofs.Common.{◌≡◌, ◌∙◌, ◌+◌, ◌<◌, ◌∷◌, [], ◌++◌, false, sym, refl, subst, arith, length, vec_len, vec_items}
use Rattle.text.proofs.Handed.{handed_on}
use Rattle.text.specs.TokenGrammar.{close_paren, colon}
use Rattle.reader.specs.Reading.{got, fails, is_mark}
use Rattle.reader.proofs.Faults.{blames_map}
use Rattle.source.specs.Table.{table_of, Keeps, Stands}
use Rattle.source.proofs.Keeping.{keeps_all, keeps_on}
use Rattle.schema.specs.Declarations.{ReadsLiteral}
use Rattle.schema.specs.Holds.{label_of}
use Rattle.schema.specs.Outcomes.{Takes, any_name, the_mark}
use Rattle.schema.specs.OperationReading.{unchanged, argument_of, ReadsArgument, ReadsArgumentList}
use Rattle.schema.specs.SchemaTold.{Open}
use Rattle.schema.specs.Told.{sights}
use Rattle.schema.proofs.Entering.{item_begun, item_unbegun, item_ended, onward_on, room_is, no_room, span_is}
use Rattle.schema.proofs.Listing.{sofar_start, sofar_step, sofar_fails, sofar_done, sofar_as}
use Rattle.schema.proofs.OperationSteps.{argument_kept, some_span, more_than}
use Rattle.schema.proofs.Rowing.{appended_none, appended_one, appended_map, appended_length}
use Rattle.schema.proofs.Seeing.{read_in}
use Rattle.schema.proofs.operation.arguments_in.Goals as goal

pub loop-name-init : goal.loop-name-init
loop-name-init c =
    let u = c.args.tokens.now in
    let A = λ (x : Unit {0}). ReadsArgument (sights u) in (
      [],
      sofar_as (sights u) (is_mark close_paren) unchanged A (sofar_start (sights u) (is_mark close_paren) unchanged A false tt u.at) (sym (no_room _ _ (omega arith))) refl refl,
      appended_none _ _,
      (refl, omega arith),
      c.len-from.ensures,
      omega (arith, c.len-from.ensures),
      keeps_all _,
    )

pub returns-in_err-name : goal.returns-in_err-name
returns-in_err-name c =
    let t = c.loop-name.tokens in
    let u = c.args.tokens.now in
    let i = c.loop-name.invariant in
    let close = is_mark close_paren in
    rw (handed_on c.from_residual.ensures.1)
    (blames_map (λ g. Open close _ t × Takes (sights t) any_name t.at (fails g)) (λ g. ReadsArgumentList (sights u) u.at (fails g))
    (λ g h. let o = item_unbegun t u i.3.0 close c.len.result c.len-from.result (vec_len c.args.arguments.now) (vec_len c.loop-name.arguments) c.len.ensures i.4 (omega (arith, i.4, i.5)) g h in
    sofar_fails (sights u) close unchanged (λ x. ReadsArgument (sights u)) i.1 o.sight g o.seen o.goes (fails g, o.name, refl))
    _ c.in_err-name.ensures)

pub returns-in_err-expect : goal.returns-in_err-expect
returns-in_err-expect c =
    let t = c.loop-name.tokens in
    let u = c.args.tokens.now in
    let n = c.item_name.new.tokens in
    let i = c.loop-name.invariant in
    let close = is_mark close_paren in
    let o = item_begun t u i.3.0 close c.len.result c.len-from.result (vec_len c.args.arguments.now) (vec_len c.loop-name.arguments) c.len.ensures i.4 (omega (arith, i.4, i.5)) n _ _ c.in-Some.is c.in_ok-name.ensures in
    let l = label_of c.in-Some.field-0 in
    rw (handed_on c.from_residual-in_err-expect.ensures.1)
    (blames_map (λ g. Takes (sights n) (the_mark colon) n.at (fails g)) (λ g. ReadsArgumentList (sights u) u.at (fails g))
    (λ g h. sofar_fails (sights u) close unchanged (λ x. ReadsArgument (sights u)) i.1 o.sight g o.seen o.goes
    (got n.at l, o.name, (fails g, read_in (λ N. Takes N (the_mark colon)) u n n.at (fails g) (o.onward.0 ∙ i.3.0) h, refl)))
    _ (c.in_err-expect.ensures.told tt))

pub returns-in_err-value : goal.returns-in_err-value
returns-in_err-value c =
    let t = c.loop-name.tokens in
    let u = c.args.tokens.now in
    let n = c.item_name.new.tokens in
    let v = c.expect.new.self in
    let i = c.loop-name.invariant in
    let close = is_mark close_paren in
    let o = item_begun t u i.3.0 close c.len.result c.len-from.result (vec_len c.args.arguments.now) (vec_len c.loop-name.arguments) c.len.ensures i.4 (omega (arith, i.4, i.5)) n _ _ c.in-Some.is c.in_ok-name.ensures in
    let l = label_of c.in-Some.field-0 in
    let x = c.in_ok-expect.ensures.told tt in
    rw (handed_on c.from_residual-in_err-value.ensures.1)
    (blames_map (λ g. ReadsLiteral (sights v) v.at (fails g)) (λ g. ReadsArgumentList (sights u) u.at (fails g))
    (λ g h. sofar_fails (sights u) close unchanged (λ x. ReadsArgument (sights u)) i.1 o.sight g o.seen o.goes
    (got n.at l, o.name, (got v.at x.value, read_in (λ N. Takes N (the_mark colon)) u n n.at _ (o.onward.0 ∙ i.3.0) x.reads, (fails g, read_in ReadsLiteral u v v.at (fails g) (x.onward.0 ∙ o.onward.0 ∙ i.3.0) h, refl))))
    _ c.in_err-value.ensures.told)

pub loop-name-preserved : goal.loop-name-preserved
loop-name-preserved c =
    let t = c.loop-name.tokens in
    let u = c.args.tokens.now in
    let n = c.item_name.new.tokens in
    let v = c.expect.new.self in
    let w = c.literal.new.self in
    let i = c.loop-name.invariant in
    let close = is_mark close_paren in
    let o = item_begun t u i.3.0 close c.len.result c.len-from.result (vec_len c.args.arguments.now) (vec_len c.loop-name.arguments) c.len.ensures i.4 (omega (arith, i.4, i.5)) n _ _ c.in-Some.is c.in_ok-name.ensures in
    let l = label_of c.in-Some.field-0 in
    let x = c.in_ok-expect.ensures.told tt in
    let y = c.in_ok-value.ensures.told in
    let same = x.onward.0 ∙ o.onward.0 ∙ i.3.0 in
    let keeps = subst (λ x. Keeps 0 (table_of x c.loop-name.nodes) (table_of x c.literal.new.nodes)) same c.in_ok-value.ensures.keeps in
    let s = sofar_step (sights u) close unchanged (λ x. ReadsArgument (sights u)) i.1 o.sight w.at (argument_of l y.value) o.seen o.goes
    (got n.at l, o.name, (got v.at x.value, read_in (λ N. Takes N (the_mark colon)) u n n.at _ (o.onward.0 ∙ i.3.0) x.reads, (got w.at y.value, read_in ReadsLiteral u v v.at _ same y.reads, refl))) in (
      i.0 ++ argument_of l y.value ∷ [],
      sofar_as (sights u) close unchanged (λ x. ReadsArgument (sights u)) s (sym (room_is _ _ (omega (arith, i.4, i.5, c.in_ok-push.ensures.len)))) refl refl,
      appended_one _ _ _ _ i.0 _ (argument_of l y.value)
          (appended_map _ _ _ _ i.0 (argument_kept (table_of u.text.now c.loop-name.nodes) (table_of u.text.now c.literal.new.nodes) keeps) i.2)
          c.in_ok-push.ensures.items
          (record { name = refl; place = refl; value = subst (λ x. Stands (table_of x c.literal.new.nodes) c.in_ok-value.value y.value) same y.means }),
      onward_on 0 1 u t w i.3 (onward_on 1 0 t n w o.onward (onward_on 0 1 n v w x.onward y.onward)),
      i.4,
      omega (arith, i.5, c.in_ok-push.ensures.len),
      keeps_on i.6 keeps,
    )

pub returns : goal.returns
returns c =
    let t = c.loop-name.tokens in
    let u = c.args.tokens.now in
    let i = c.loop-name.invariant in
    let close = is_mark close_paren in
    let o = item_ended t u i.3.0 close c.len.result c.len-from.result (vec_len c.args.arguments.now) (vec_len c.loop-name.arguments) c.len.ensures i.4 (omega (arith, i.4, i.5)) c.item_name.new.tokens _ c.in_default.is c.in_ok-name.ensures in
    let grown : length (vec_items c.loop-name.arguments) ≡ length (vec_items c.args.arguments.now) + length i.0 = appended_length _ (vec_items c.args.arguments.now) (vec_items c.loop-name.arguments) i.0 i.2 in
    let more : vec_len c.args.arguments.now < vec_len c.loop-name.arguments = more_than _ _ _ o.closes in
    record {
      value = i.0;
      reads = sofar_done (sights u) close unchanged (λ x. ReadsArgument (sights u)) i.1 o.start _ o.token o.seen o.closes;
      means = record {
        arguments = i.2;
        inside = span_is _ _ _ _ (i.4 ∙ c.args.arguments.now.ok.0) (c.len-2.ensures ∙ c.loop-name.arguments.ok.0 ∙ grown) ∙ some_span (length (vec_items c.args.arguments.now)) (length i.0) (omega (arith, grown, more, c.args.arguments.now.ok.0, c.loop-name.arguments.ok.0));
        keeps = i.6;
      };
      onward = onward_on 0 0 u t c.item_name.new.tokens i.3 o.onward;
    }
