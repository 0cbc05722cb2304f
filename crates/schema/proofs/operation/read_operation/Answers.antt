use Rattle.std.proofs.Common.{◌≡◌, ◌∙◌, ◌≤◌, ◌∷◌, [], ◌++◌, true, sym, refl, ap, subst, arith, length, map, vec_items}
use Rattle.text.proofs.Handed.{handed_on}
use Rattle.text.specs.declared.fault.Fault.TheVariants.{BadText}
use Rattle.text.specs.TokenGrammar.{at_sign}
use Rattle.text.specs.TokenFound.{v_mark, v_end}
use Rattle.reader.specs.Reading.{got, fails}
use Rattle.reader.proofs.Faults.{blames_all, blames_map}
use Rattle.source.specs.Table.{table_of, Keeps}
use Rattle.source.proofs.Keeping.{keeps_all, keeps_on}
use Rattle.schema.specs.Documents.{Document}
use Rattle.schema.specs.Holds.{Each, Holds}
use Rattle.text.specs.declared.fault.Fault.{Fault}
use Rattle.schema.specs.HoldsOperation.{VariableHeld, ArgumentHeld, use_row_of, arguments_in}
use Rattle.schema.specs.OperationReading.{a_kind, ReadsName, ReadsVariables, ReadsAfterAt, ReadsUse, ReadsUses, ReadsOperation, operation_long, unchanged}
use Rattle.schema.specs.Outcomes.{Takes, the_mark}
use Rattle.schema.specs.Rows.{base_in}
use Rattle.schema.specs.SchemaGrammar.{ends}
use Rattle.schema.specs.SchemaTold.{Open}
use Rattle.schema.specs.Told.{sights}
use Rattle.schema.proofs.Entering.{onward_on}
use Rattle.schema.proofs.Listing.{sofar_start, sofar_step, sofar_fails, sofar_done}
use Rattle.schema.proofs.OperationRows.{arguments_more, rows_more, kind_fails, name_fails, variables_fail, uses_fail, all_read, not_long, too_long, whole}
use Rattle.schema.proofs.OperationSteps.{begun, unbegun, ended, variable_kept, argument_kept}
use Rattle.schema.proofs.Rowing.{each_map, each_append, each_length}
use Rattle.schema.proofs.Seeing.{read_in}
use Rattle.schema.proofs.operation.read_operation.Goals as goal
use Rattle.schema.proofs.operation.read_operation.Goals.{In_ok-tokens, In_ok-variables}

pub returns-in_err-tokens-clause-told : goal.returns-in_err-tokens-clause-told
returns-in_err-tokens-clause-told c S h =
    let l = too_long (length c.args.text.now) c.in_err-tokens.field-0.0 (BadText 0) c.in_err-tokens.ensures.long c.in_err-tokens.ensures.whole in
    rw (handed_on c.from_residual.ensures.1) (blames_all (λ g. ReadsOperation c.args.text.now (fails g)) _ (subst (λ g. ReadsOperation c.args.text.now (fails g)) (sym l.1) (operation_long l.0)))

-- the text is not too long, and is read from its beginning
started : (c : In_ok-tokens) → (length c.args.text.now ≤ 65535) × (c.in_ok-tokens.tokens.text.now ≡ c.args.text.now) × (c.in_ok-tokens.tokens.at ≡ 0)
started c =
    let s = not_long (length c.args.text.now) c.in_ok-tokens.tokens (BadText 0) c.in_ok-tokens.ensures.long in
    let w = c.in_ok-tokens.ensures.whole s in
    (s, w.0, w.1)

pub returns-in_err-kind-clause-told : goal.returns-in_err-kind-clause-told
returns-in_err-kind-clause-told c S h =
    let b = started (goal.at.returns-in_err-kind-clause-told c).In_ok-tokens in
    let t = c.in_ok-tokens.tokens in
    rw (handed_on c.from_residual-in_err-kind.ensures.1)
    (blames_map (λ g. Takes (sights t) a_kind t.at (fails g)) (λ g. ReadsOperation c.args.text.now (fails g))
    (λ g x. whole c.args.text.now t (fails g) b.0 b.1 b.2 (kind_fails (sights t) t.at g x)) _ c.in_err-kind.ensures)

pub returns-in_err-pass_name-clause-told : goal.returns-in_err-pass_name-clause-told
returns-in_err-pass_name-clause-told c S h =
    let b = started (goal.at.returns-in_err-pass_name-clause-told c).In_ok-tokens in
    let t = c.in_ok-tokens.tokens in
    let u = c.operation_kind.new.tokens in
    let x = c.in_ok-kind.ensures in
    rw (handed_on c.from_residual-in_err-pass_name.ensures.1)
    (blames_map (λ g. ReadsName (sights u) u.at (fails g)) (λ g. ReadsOperation c.args.text.now (fails g))
    (λ g n. whole c.args.text.now t (fails g) b.0 b.1 b.2 (name_fails (sights t) t.at u.at x.value x.reads g (read_in ReadsName t u u.at (fails g) x.onward.0 n))) _ c.in_err-pass_name.ensures)

pub returns-in_err-variables-clause-told : goal.returns-in_err-variables-clause-told
returns-in_err-variables-clause-told c S h =
    let b = started (goal.at.returns-in_err-variables-clause-told c).In_ok-tokens in
    let t = c.in_ok-tokens.tokens in
    let u = c.operation_kind.new.tokens in
    let v = c.pass_name.new.tokens in
    let x = c.in_ok-kind.ensures in
    let y = c.in_ok-pass_name.ensures in
    rw (handed_on c.from_residual-in_err-variables.ensures.1)
    (blames_map (λ g. ReadsVariables (sights v) v.at (fails g)) (λ g. ReadsOperation c.args.text.now (fails g))
    (λ g n. whole c.args.text.now t (fails g) b.0 b.1 b.2
    (variables_fail (sights t) t.at u.at x.value x.reads v.at (read_in ReadsName t u u.at _ x.onward.0 y.reads) g (read_in ReadsVariables t v v.at (fails g) (y.onward.0 ∙ x.onward.0) n))) _ (c.in_err-variables.ensures.told S h))

pub loop-arguments-init : goal.loop-arguments-init
loop-arguments-init c =
    let t = c.variables.new.tokens in (
      [],
      sofar_start (sights t) ends unchanged (λ u. ReadsUse (sights t)) true tt t.at,
      ap (λ us. map use_row_of us) c.new-uses.ensures.items,
      subst (λ xs. Each (ArgumentHeld (table_of t.text.now c.variables.new.nodes)) xs []) (sym c.new-arguments.ensures.items) tt,
      keeps_all _,
      (refl, omega arith),
    )

-- what the uses come to from behind the variables on, the whole comes to
from_uses : (c : In_ok-variables) (S : Document) → Holds c.args.schema.now S → (g : Fault) → ReadsUses (sights c.variables.new.tokens) c.variables.new.tokens.at (fails g) → ReadsOperation c.args.text.now (fails g)
from_uses c S h g r =
    let b = started (goal.at.In_ok-variables c).In_ok-tokens in
    let t = c.in_ok-tokens.tokens in
    let u = c.operation_kind.new.tokens in
    let v = c.pass_name.new.tokens in
    let w = c.variables.new.tokens in
    let x = c.in_ok-kind.ensures in
    let y = c.in_ok-pass_name.ensures in
    let z = c.in_ok-variables.ensures.told S h in
    whole c.args.text.now t (fails g) b.0 b.1 b.2
    (uses_fail (sights t) t.at u.at x.value x.reads v.at (read_in ReadsName t u u.at _ x.onward.0 y.reads) w.at z.value (read_in ReadsVariables t v v.at _ (y.onward.0 ∙ x.onward.0) z.reads) g
    (read_in ReadsUses t w w.at (fails g) (z.onward.0 ∙ y.onward.0 ∙ x.onward.0) r))

pub returns-in_err-place-clause-told : goal.returns-in_err-place-clause-told
returns-in_err-place-clause-told c S h =
    let w = c.variables.new.tokens in
    let t = c.loop-arguments.tokens in
    let i = c.loop-arguments.invariant in
    rw (handed_on c.from_residual-in_err-place.ensures.1)
    (blames_map (λ g. Open ends true t × Takes (sights t) (the_mark at_sign) t.at (fails g)) (λ g. ReadsOperation c.args.text.now (fails g))
    (λ g x. let o = unbegun t w i.5.0 (v_mark at_sign) v_end true true refl g x in
    from_uses (goal.at.returns-in_err-place-clause-told c).In_ok-variables S h g (sofar_fails (sights w) ends unchanged (λ u. ReadsUse (sights w)) i.1 o.sight g o.seen o.goes (fails g, o.token, refl)))
    _ c.in_err-place.ensures)

pub returns-in_err-directive_use-clause-told : goal.returns-in_err-directive_use-clause-told
returns-in_err-directive_use-clause-told c S h =
    let w = c.variables.new.tokens in
    let t = c.loop-arguments.tokens in
    let n = c.begins.new.tokens in
    let i = c.loop-arguments.invariant in
    let o = begun t w i.5.0 (v_mark at_sign) v_end true true refl n c.in_ok-place.field-0 c.in-Some.place c.in-Some.is c.in_ok-place.ensures in
    rw (handed_on c.from_residual-in_err-directive_use.ensures.1)
    (blames_map (λ g. ReadsAfterAt (sights n) c.in-Some.place n.at (fails g)) (λ g. ReadsOperation c.args.text.now (fails g))
    (λ g x. from_uses (goal.at.returns-in_err-directive_use-clause-told c).In_ok-variables S h g
    (sofar_fails (sights w) ends unchanged (λ u. ReadsUse (sights w)) i.1 o.sight g o.seen o.goes
    (got n.at c.in-Some.place, o.token, read_in (λ N. ReadsAfterAt N c.in-Some.place) w n n.at (fails g) (o.onward.0 ∙ i.5.0) x)))
    _ c.in_err-directive_use.ensures)

pub loop-arguments-preserved : goal.loop-arguments-preserved
loop-arguments-preserved c =
    let w = c.variables.new.tokens in
    let t = c.loop-arguments.tokens in
    let n = c.begins.new.tokens in
    let v = c.directive_use.new.tokens in
    let i = c.loop-arguments.invariant in
    let o = begun t w i.5.0 (v_mark at_sign) v_end true true refl n c.in_ok-place.field-0 c.in-Some.place c.in-Some.is c.in_ok-place.ensures in
    let d = c.in_ok-directive_use.ensures in
    let same = o.onward.0 ∙ i.5.0 in
    let keeps = subst (λ x. Keeps 0 (table_of x c.loop-arguments.nodes) (table_of x c.directive_use.new.nodes)) same d.means.keeps in
    let U = table_of w.text.now c.directive_use.new.nodes in
    let olds = vec_items c.loop-arguments.arguments in
    let added = d.means.arguments in
    let held = subst (λ x. Each (ArgumentHeld (table_of x c.directive_use.new.nodes)) added.rows d.value.arguments) same added.each in (
      i.0 ++ d.value ∷ [],
      sofar_step (sights w) ends unchanged (λ u. ReadsUse (sights w)) i.1 o.sight v.at d.value o.seen o.goes (got n.at c.in-Some.place, o.token, read_in (λ N. ReadsAfterAt N c.in-Some.place) w n n.at _ same d.reads),
      ap (λ us. map use_row_of us) c.in_ok-push.ensures.items ∙ rows_more (vec_items c.loop-arguments.uses) c.in_ok-directive_use.field-0 i.0 d.value (length olds) i.2 d.means.row (each_length _ olds (arguments_in i.0) i.3),
      subst (λ xs. Each (ArgumentHeld U) xs (arguments_in (i.0 ++ d.value ∷ []))) (sym added.added)
          (subst (Each (ArgumentHeld U) (olds ++ added.rows)) (sym (arguments_more i.0 d.value))
          (each_append (ArgumentHeld U) olds (arguments_in i.0) added.rows d.value.arguments
          (each_map _ _ (argument_kept (table_of w.text.now c.loop-arguments.nodes) U keeps) olds (arguments_in i.0) i.3)
          held)),
      keeps_on i.4 keeps,
      onward_on 0 0 w t v i.5 (onward_on 0 1 t n v o.onward d.onward),
    )

pub returns-clause-told : goal.returns-clause-told
returns-clause-told c S h =
    let b = started (goal.at.returns-clause-told c).In_ok-tokens in
    let t = c.in_ok-tokens.tokens in
    let u = c.operation_kind.new.tokens in
    let v = c.pass_name.new.tokens in
    let w = c.variables.new.tokens in
    let l = c.loop-arguments.tokens in
    let e = c.begins.new.tokens in
    let x = c.in_ok-kind.ensures in
    let y = c.in_ok-pass_name.ensures in
    let z = c.in_ok-variables.ensures.told S h in
    let i = c.loop-arguments.invariant in
    let o = ended l w i.5.0 (v_mark at_sign) v_end true true refl e c.in_ok-place.field-0 c.in_default.is c.in_ok-place.ensures in
    let r = sofar_done (sights w) ends unchanged (λ u. ReadsUse (sights w)) i.1 o.start e.at o.token o.seen o.closes in
    let same = z.onward.0 ∙ y.onward.0 ∙ x.onward.0 in
    let to_text = same ∙ b.1 in
    let keeps = subst (λ s. Keeps 0 (table_of s c.variables.new.nodes) (table_of s c.loop-arguments.nodes)) to_text i.4 in
    let held = subst (λ s. Each (VariableHeld (base_in S) (table_of s c.variables.new.nodes)) (vec_items c.in_ok-variables.variables) z.value) (y.onward.0 ∙ x.onward.0 ∙ b.1) z.means.each in (
      e.at,
      record { kind = x.value; variables = z.value; uses = i.0 },
      whole c.args.text.now t (got e.at (record { kind = x.value; variables = z.value; uses = i.0 })) b.0 b.1 b.2
          (all_read (sights t) t.at u.at x.value x.reads v.at (read_in ReadsName t u u.at _ x.onward.0 y.reads) w.at z.value (read_in ReadsVariables t v v.at _ (y.onward.0 ∙ x.onward.0) z.reads) e.at i.0 (read_in ReadsUses t w w.at _ same r)),
      record {
        kind = x.means;
        variables = each_map _ _ (variable_kept (base_in S) (table_of c.args.text.now c.variables.new.nodes) (table_of c.args.text.now c.loop-arguments.nodes) keeps) (vec_items c.in_ok-variables.variables) z.value held;
        uses = i.2;
        arguments = subst (λ s. Each (ArgumentHeld (table_of s c.loop-arguments.nodes)) (vec_items c.loop-arguments.arguments) (arguments_in i.0)) to_text i.3;
      },
    )
