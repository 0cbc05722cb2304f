use Rattle.std.proofs.Common.{◌∙◌, sym, refl, subst, arith}
use Rattle.text.proofs.Handed.{handed_on}
use Rattle.text.specs.TokenGrammar.{at_sign}
use Rattle.reader.specs.Reading.{got, fails}
use Rattle.reader.proofs.Faults.{blames_map}
use Rattle.source.specs.Table.{table_of}
use Rattle.schema.specs.Documents.{a_directive}
use Rattle.schema.specs.Holds.{label_of}
use Rattle.schema.specs.Outcomes.{Takes, the_mark, any_name}
use Rattle.schema.specs.SchemaReading.{ReadsDirective, ReadsArguments, ReadsManner, ReadsAllLocations}
use Rattle.schema.specs.SchemaTold.{FieldsAdded, counts}
use Rattle.schema.specs.Told.{sights}
use Rattle.schema.proofs.Defining.{directive_unmarked, directive_unnamed, directive_bad_arguments, directive_bad_manner, directive_bad_locations, directive_got, directive_added}
use Rattle.schema.proofs.Entering.{new_fails, new_taken, new_full, room_is, no_room, same_sights, takes_in}
use Rattle.schema.proofs.document.directive.Goals as goal

pub returns-in_err-expect-clause-told : goal.returns-in_err-expect-clause-told
returns-in_err-expect-clause-told c =
    let u = c.args.tokens.now in
    let k = counts c.args.schema.now in
    rw (handed_on c.from_residual.ensures.1)
    (blames_map (λ g. Takes (sights u) (the_mark at_sign) u.at (fails g)) (λ g. ReadsDirective (sights u) k u.at (fails g))
    (λ g h. directive_unmarked (sights u) k u.at g h)
    _ (c.in_err-expect.ensures.told tt))

pub returns-in_err-name-clause-told : goal.returns-in_err-name-clause-told
returns-in_err-name-clause-told c =
    let u = c.args.tokens.now in
    let t = c.expect.new.self in
    let k = counts c.args.schema.now in
    let m = c.in_ok-expect.ensures.told tt in
    rw (handed_on c.from_residual-in_err-name.ensures.1)
    (blames_map (λ g. Takes (sights t) any_name t.at (fails g)) (λ g. ReadsDirective (sights u) k u.at (fails g))
    (λ g h. directive_unnamed (sights u) k u.at t.at m.value m.reads g (new_fails (sights u) 64 k.directives any_name t.at g (takes_in t u any_name t.at (fails g) m.onward.0 h)))
    _ c.in_err-name.ensures.told)

pub returns-then-len-ge-MOST_DIRECTIVES-clause-told : goal.returns-then-len-ge-MOST_DIRECTIVES-clause-told
returns-then-len-ge-MOST_DIRECTIVES-clause-told c =
    let u = c.args.tokens.now in
    let t = c.expect.new.self in
    let n = c.name.new.self in
    let k = counts c.args.schema.now in
    let m = c.in_ok-expect.ensures.told tt in
    let r = c.in_ok-name.ensures.told in
    let h = takes_in t u any_name t.at _ m.onward.0 (subst (λ l. Takes (sights t) any_name t.at (got n.at l)) (sym r.means) r.reads) in
    directive_unnamed (sights u) k u.at t.at m.value m.reads _ (new_full (sights u) 64 k.directives any_name t.at n.at (label_of c.in_ok-name.field-0) h (no_room _ _ (omega (arith, c.if-len-ge-MOST_DIRECTIVES.true, c.len.ensures))))

pub returns-in_err-arguments-clause-told : goal.returns-in_err-arguments-clause-told
returns-in_err-arguments-clause-told c =
    let u = c.args.tokens.now in
    let t = c.expect.new.self in
    let n = c.name.new.self in
    let k = counts c.args.schema.now in
    let m = c.in_ok-expect.ensures.told tt in
    let r = c.in_ok-name.ensures.told in
    let l = label_of c.in_ok-name.field-0 in
    let h = takes_in t u any_name t.at _ m.onward.0 (subst (λ l. Takes (sights t) any_name t.at (got n.at l)) (sym r.means) r.reads) in
    let w = new_taken (sights u) 64 k.directives any_name t.at n.at l h (room_is _ _ (omega (arith, c.if-len-ge-MOST_DIRECTIVES.false, c.len.ensures))) in
    rw (handed_on c.from_residual-in_err-arguments.ensures.1)
    (blames_map (λ g. ReadsArguments (sights n) k.arguments n.at (fails g)) (λ g. ReadsDirective (sights u) k u.at (fails g))
    (λ g e. directive_bad_arguments (sights u) k u.at t.at m.value m.reads n.at l w g (subst (λ N. ReadsArguments N k.arguments n.at (fails g)) (same_sights n u (r.onward.0 ∙ m.onward.0)) e))
    _ c.in_err-arguments.ensures.told)

pub returns-in_err-repeatable-clause-told : goal.returns-in_err-repeatable-clause-told
returns-in_err-repeatable-clause-told c =
    let u = c.args.tokens.now in
    let t = c.expect.new.self in
    let n = c.name.new.self in
    let q = c.arguments.new.tokens in
    let k = counts c.args.schema.now in
    let m = c.in_ok-expect.ensures.told tt in
    let r = c.in_ok-name.ensures.told in
    let l = label_of c.in_ok-name.field-0 in
    let h = takes_in t u any_name t.at _ m.onward.0 (subst (λ l. Takes (sights t) any_name t.at (got n.at l)) (sym r.means) r.reads) in
    let w = new_taken (sights u) 64 k.directives any_name t.at n.at l h (room_is _ _ (omega (arith, c.if-len-ge-MOST_DIRECTIVES.false, c.len.ensures))) in
    let a = c.in_ok-arguments.ensures.told in
    let x = subst (λ N. ReadsArguments N k.arguments n.at (got q.at a.value)) (same_sights n u (r.onward.0 ∙ m.onward.0)) a.reads in
    let same = a.onward.0 ∙ r.onward.0 ∙ m.onward.0 in
    rw (handed_on c.from_residual-in_err-repeatable.ensures.1)
    (blames_map (λ g. ReadsManner (sights q) q.at (fails g)) (λ g. ReadsDirective (sights u) k u.at (fails g))
    (λ g e. directive_bad_manner (sights u) k u.at t.at m.value m.reads n.at l w q.at a.value x g (subst (λ N. ReadsManner N q.at (fails g)) (same_sights q u same) e))
    _ c.in_err-repeatable.ensures)

pub returns-in_err-locations-clause-told : goal.returns-in_err-locations-clause-told
returns-in_err-locations-clause-told c =
    let u = c.args.tokens.now in
    let t = c.expect.new.self in
    let n = c.name.new.self in
    let q = c.arguments.new.tokens in
    let k = counts c.args.schema.now in
    let m = c.in_ok-expect.ensures.told tt in
    let r = c.in_ok-name.ensures.told in
    let l = label_of c.in_ok-name.field-0 in
    let h = takes_in t u any_name t.at _ m.onward.0 (subst (λ l. Takes (sights t) any_name t.at (got n.at l)) (sym r.means) r.reads) in
    let w = new_taken (sights u) 64 k.directives any_name t.at n.at l h (room_is _ _ (omega (arith, c.if-len-ge-MOST_DIRECTIVES.false, c.len.ensures))) in
    let a = c.in_ok-arguments.ensures.told in
    let x = subst (λ N. ReadsArguments N k.arguments n.at (got q.at a.value)) (same_sights n u (r.onward.0 ∙ m.onward.0)) a.reads in
    let same = a.onward.0 ∙ r.onward.0 ∙ m.onward.0 in
    let p = c.is_repeatable.new.tokens in
    let b = c.in_ok-repeatable.ensures in
    let y = subst (λ N. ReadsManner N q.at (got p.at b.value)) (same_sights q u same) b.reads in
    rw (handed_on c.from_residual-in_err-locations.ensures.1)
    (blames_map (λ g. ReadsAllLocations (sights p) p.at (fails g)) (λ g. ReadsDirective (sights u) k u.at (fails g))
    (λ g e. directive_bad_locations (sights u) k u.at t.at m.value m.reads n.at l w q.at a.value x p.at b.value y g (subst (λ N. ReadsAllLocations N p.at (fails g)) (same_sights p u (b.onward.0 ∙ same)) e))
    _ c.in_err-locations.ensures.told)

pub returns-clause-told : goal.returns-clause-told
returns-clause-told c =
    let u = c.args.tokens.now in
    let t = c.expect.new.self in
    let n = c.name.new.self in
    let q = c.arguments.new.tokens in
    let k = counts c.args.schema.now in
    let m = c.in_ok-expect.ensures.told tt in
    let r = c.in_ok-name.ensures.told in
    let l = label_of c.in_ok-name.field-0 in
    let h = takes_in t u any_name t.at _ m.onward.0 (subst (λ l. Takes (sights t) any_name t.at (got n.at l)) (sym r.means) r.reads) in
    let w = new_taken (sights u) 64 k.directives any_name t.at n.at l h (room_is _ _ (omega (arith, c.if-len-ge-MOST_DIRECTIVES.false, c.len.ensures))) in
    let a = c.in_ok-arguments.ensures.told in
    let x = subst (λ N. ReadsArguments N k.arguments n.at (got q.at a.value)) (same_sights n u (r.onward.0 ∙ m.onward.0)) a.reads in
    let same = a.onward.0 ∙ r.onward.0 ∙ m.onward.0 in
    let p = c.is_repeatable.new.tokens in
    let b = c.in_ok-repeatable.ensures in
    let y = subst (λ N. ReadsManner N q.at (got p.at b.value)) (same_sights q u same) b.reads in
    let z = c.locations.new.tokens in
    let d = c.in_ok-locations.ensures.told in
    let old = c.args.schema.now in
    let f = subst (λ v. FieldsAdded (table_of v old.tree.nodes) (table_of v c.arguments.new.nodes) old.arguments.items c.arguments.new.table.items c.in_ok-arguments.arguments a.value) (r.onward.0 ∙ m.onward.0 ∙ sym c.requires.text) a.means in
    record {
      value = a_directive l a.value b.value d.value;
      reads = directive_got (sights u) k u.at t.at m.value m.reads n.at l w q.at a.value x p.at b.value y z.at d.value (subst (λ N. ReadsAllLocations N p.at (got z.at d.value)) (same_sights p u (b.onward.0 ∙ same)) d.reads);
      means = directive_added old _ l a.value b.value d.value c.in_ok-arguments.arguments _ f (sym old.arguments.ok.0) (record { name = refl; place = refl; arguments = refl; locations = d.means; repeatable = b.means }) c.in_ok-push.ensures.items refl refl refl;
      onward = (d.onward.0 ∙ b.onward.0 ∙ same, omega (arith, m.onward.1, r.onward.1, a.onward.1, b.onward.1, d.onward.1));
    }
