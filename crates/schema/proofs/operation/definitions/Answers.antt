use Rattle.std.proofs.Common.{◌≡◌, ◌∙◌, ◌∷◌, [], ◌++◌, not, false, nat_lt, sym, refl, subst, arith, vec_len, vec_items}
use Rattle.std.proofs.lemmas.Bool.Decides.{nat_tests}
use Rattle.text.proofs.Handed.{handed_on}
use Rattle.text.specs.TokenGrammar.{dollar, close_paren}
use Rattle.text.specs.TokenFound.{v_mark}
use Rattle.reader.specs.Reading.{got, fails, is_mark}
use Rattle.reader.proofs.Faults.{blames_map}
use Rattle.source.specs.Table.{table_of, Keeps}
use Rattle.source.proofs.Keeping.{keeps_all, keeps_on}
use Rattle.schema.specs.Holds.{Each}
use Rattle.schema.specs.HoldsOperation.{VariableHeld}
use Rattle.schema.specs.OperationReading.{ReadsAfterDollar, ReadsVariable, ReadsVariableList}
use Rattle.schema.specs.Outcomes.{Takes, the_mark}
use Rattle.schema.specs.Rows.{base_in}
use Rattle.schema.specs.SchemaReading.{next}
use Rattle.schema.specs.SchemaTold.{Open}
use Rattle.schema.specs.Told.{sights}
use Rattle.schema.proofs.Entering.{onward_on, room_is, no_room}
use Rattle.schema.proofs.Listing.{sofar_start, sofar_step, sofar_fails, sofar_done, sofar_as}
use Rattle.schema.proofs.OperationSteps.{begun, unbegun, ended, variable_kept}
use Rattle.schema.proofs.Rowing.{each_map, each_append}
use Rattle.schema.proofs.Seeing.{read_in}
use Rattle.schema.proofs.operation.definitions.Goals as goal

pub loop-variables-init : goal.loop-variables-init
loop-variables-init c =
    let u = c.args.tokens.now in
    let e = c.new-variables.ensures in (
      omega (arith, e.len),
      (refl, omega arith),
      λ S h. (
        [],
        sofar_as (sights u) (is_mark close_paren) next (ReadsVariable (sights u)) (sofar_start (sights u) (is_mark close_paren) next (ReadsVariable (sights u)) false 0 u.at) (sym (no_room _ _ (omega (arith, e.len)))) (omega (arith, e.len)) refl,
        subst (λ xs. Each (VariableHeld (base_in S) (table_of u.text.now c.args.nodes.now)) xs []) (sym e.items) tt,
        keeps_all _,
      ),
    )

pub returns-in_err-place-clause-told : goal.returns-in_err-place-clause-told
returns-in_err-place-clause-told c S h =
    let t = c.loop-variables.tokens in
    let u = c.args.tokens.now in
    let i = c.loop-variables.invariant in
    let r = i.2 S h in
    let may : not c.is_empty.result ≡ nat_lt 0 (vec_len c.loop-variables.variables) = grind (arith, nat_tests, c.is_empty.ensures) in
    rw (handed_on c.from_residual.ensures.1)
    (blames_map (λ g. Open (is_mark close_paren) (not c.is_empty.result) t × Takes (sights t) (the_mark dollar) t.at (fails g)) (λ g. ReadsVariableList (sights u) u.at (fails g))
    (λ g x. let o = unbegun t u i.1.0 (v_mark dollar) (v_mark close_paren) (not c.is_empty.result) (nat_lt 0 (vec_len c.loop-variables.variables)) may g x in
    sofar_fails (sights u) (is_mark close_paren) next (ReadsVariable (sights u)) r.1 o.sight g o.seen o.goes (fails g, o.token, refl))
    _ c.in_err-place.ensures)

pub returns-in_err-variable_at-clause-told : goal.returns-in_err-variable_at-clause-told
returns-in_err-variable_at-clause-told c S h =
    let t = c.loop-variables.tokens in
    let u = c.args.tokens.now in
    let n = c.begins.new.tokens in
    let i = c.loop-variables.invariant in
    let r = i.2 S h in
    let may : not c.is_empty.result ≡ nat_lt 0 (vec_len c.loop-variables.variables) = grind (arith, nat_tests, c.is_empty.ensures) in
    let o = begun t u i.1.0 (v_mark dollar) (v_mark close_paren) (not c.is_empty.result) (nat_lt 0 (vec_len c.loop-variables.variables)) may n c.in_ok-place.field-0 c.in-Some.place c.in-Some.is c.in_ok-place.ensures in
    rw (handed_on c.from_residual-in_err-variable_at.ensures.1)
    (blames_map (λ g. ReadsAfterDollar (sights n) c.len.result c.in-Some.place n.at (fails g)) (λ g. ReadsVariableList (sights u) u.at (fails g))
    (λ g x. sofar_fails (sights u) (is_mark close_paren) next (ReadsVariable (sights u)) r.1 o.sight g o.seen o.goes
    (got n.at c.in-Some.place, o.token, subst (λ k. ReadsAfterDollar (sights u) k c.in-Some.place n.at (fails g)) c.len.ensures (read_in (λ N. ReadsAfterDollar N c.len.result c.in-Some.place) u n n.at (fails g) (o.onward.0 ∙ i.1.0) x)))
    _ (c.in_err-variable_at.ensures.told S h))

pub loop-variables-preserved : goal.loop-variables-preserved
loop-variables-preserved c =
    let t = c.loop-variables.tokens in
    let u = c.args.tokens.now in
    let n = c.begins.new.tokens in
    let v = c.variable_at.new.tokens in
    let i = c.loop-variables.invariant in
    let may : not c.is_empty.result ≡ nat_lt 0 (vec_len c.loop-variables.variables) = grind (arith, nat_tests, c.is_empty.ensures) in
    let o = begun t u i.1.0 (v_mark dollar) (v_mark close_paren) (not c.is_empty.result) (nat_lt 0 (vec_len c.loop-variables.variables)) may n c.in_ok-place.field-0 c.in-Some.place c.in-Some.is c.in_ok-place.ensures in
    let same = o.onward.0 ∙ i.1.0 in (
      omega (arith, c.in_ok-push.ensures.len, c.in_ok-variable_at.ensures.few, c.len.ensures),
      onward_on 0 0 u t v i.1 (onward_on 0 1 t n v o.onward c.in_ok-variable_at.ensures.onward),
      λ S h.
          let r = i.2 S h in
          let d = c.in_ok-variable_at.ensures.told S h in
          let keeps = subst (λ x. Keeps 0 (table_of x c.loop-variables.nodes) (table_of x c.variable_at.new.nodes)) same d.means.keeps in
          let held = subst (λ x. VariableHeld (base_in S) (table_of x c.variable_at.new.nodes) c.in_ok-variable_at.field-0 d.value) same d.means.held in
          let s = sofar_step (sights u) (is_mark close_paren) next (ReadsVariable (sights u)) r.1 o.sight v.at d.value o.seen o.goes
          (got n.at c.in-Some.place, o.token, subst (λ k. ReadsAfterDollar (sights u) k c.in-Some.place n.at (got v.at d.value)) c.len.ensures (read_in (λ N. ReadsAfterDollar N c.len.result c.in-Some.place) u n n.at _ same d.reads)) in (
            r.0 ++ d.value ∷ [],
            sofar_as (sights u) (is_mark close_paren) next (ReadsVariable (sights u)) s (sym (room_is _ _ (omega (arith, c.in_ok-push.ensures.len)))) (omega (arith, c.in_ok-push.ensures.len)) refl,
            subst (λ xs. Each (VariableHeld (base_in S) (table_of u.text.now c.variable_at.new.nodes)) xs (r.0 ++ d.value ∷ [])) (sym c.in_ok-push.ensures.items)
                (each_append _ (vec_items c.loop-variables.variables) r.0 (c.in_ok-variable_at.field-0 ∷ []) (d.value ∷ [])
                (each_map _ _ (variable_kept (base_in S) (table_of u.text.now c.loop-variables.nodes) (table_of u.text.now c.variable_at.new.nodes) keeps) (vec_items c.loop-variables.variables) r.0 r.2)
                (held, tt)),
            keeps_on r.3 keeps,
          ),
    )

pub returns-clause-told : goal.returns-clause-told
returns-clause-told c S h =
    let t = c.loop-variables.tokens in
    let u = c.args.tokens.now in
    let i = c.loop-variables.invariant in
    let r = i.2 S h in
    let may : not c.is_empty.result ≡ nat_lt 0 (vec_len c.loop-variables.variables) = grind (arith, nat_tests, c.is_empty.ensures) in
    let o = ended t u i.1.0 (v_mark dollar) (v_mark close_paren) (not c.is_empty.result) (nat_lt 0 (vec_len c.loop-variables.variables)) may c.begins.new.tokens c.in_ok-place.field-0 c.in_default.is c.in_ok-place.ensures in
    record {
      value = r.0;
      reads = sofar_done (sights u) (is_mark close_paren) next (ReadsVariable (sights u)) r.1 o.start _ o.token o.seen o.closes;
      means = record { each = r.2; keeps = r.3 };
      onward = onward_on 0 0 u t c.begins.new.tokens i.1 o.onward;
    }
