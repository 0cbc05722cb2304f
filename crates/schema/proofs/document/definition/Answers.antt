use Rattle.std.proofs.Common.{◌∙◌, sym, refl, subst, vec_len, arith}
use Rattle.text.proofs.Handed.{handed_on}
use Rattle.text.specs.declared.fault.Fault.TheVariants.{NoSpace}
use Rattle.reader.specs.Reading.{got, fails}
use Rattle.reader.proofs.Faults.{blames_map}
use Rattle.schema.specs.Holds.{label_of}
use Rattle.schema.specs.Outcomes.{Takes, any_name}
use Rattle.schema.specs.SchemaReading.{ReadsContents, ReadsTypeDefinition}
use Rattle.schema.specs.SchemaTold.{counts, sort_of}
use Rattle.schema.specs.Told.{sights}
use Rattle.schema.proofs.Defining.{type_added}
use Rattle.schema.proofs.Entering.{new_fails, new_taken, new_full, room_is, no_room, same_sights}
use Rattle.schema.proofs.document.definition.Goals as goal

pub returns-in_err-name-clause-told : goal.returns-in_err-name-clause-told
returns-in_err-name-clause-told c =
    let u = c.args.tokens.now in
    let old = c.args.schema.now in
    rw (handed_on c.from_residual.ensures.1)
    (blames_map (λ g. Takes (sights u) any_name u.at (fails g)) (λ g. ReadsTypeDefinition (sights u) (counts old) (sort_of c.args.kind) u.at (fails g))
    (λ g h. (fails g, new_fails (sights u) 256 (vec_len old.types) any_name u.at g h, refl))
    _ c.in_err-name.ensures.told)

pub returns-then-len-ge-MOST_TYPES-clause-told : goal.returns-then-len-ge-MOST_TYPES-clause-told
returns-then-len-ge-MOST_TYPES-clause-told c =
    let u = c.args.tokens.now in
    let old = c.args.schema.now in
    let n = c.name.new.self in
    let r = c.in_ok-name.ensures.told in
    let h = subst (λ l. Takes (sights u) any_name u.at (got n.at l)) (sym r.means) r.reads in
    (fails (NoSpace c.in_ok-name.field-0.place), new_full (sights u) 256 (vec_len old.types) any_name u.at n.at (label_of c.in_ok-name.field-0) h (no_room _ _ (omega (arith, c.if-len-ge-MOST_TYPES.true, c.len.ensures))), refl)

pub returns-in_err-inside-clause-told : goal.returns-in_err-inside-clause-told
returns-in_err-inside-clause-told c =
    let u = c.args.tokens.now in
    let old = c.args.schema.now in
    let n = c.name.new.self in
    let r = c.in_ok-name.ensures.told in
    let l = label_of c.in_ok-name.field-0 in
    let h = subst (λ l. Takes (sights u) any_name u.at (got n.at l)) (sym r.means) r.reads in
    let t = new_taken (sights u) 256 (vec_len old.types) any_name u.at n.at l h (room_is _ _ (omega (arith, c.if-len-ge-MOST_TYPES.false, c.len.ensures))) in
    rw (handed_on c.from_residual-in_err-inside.ensures.1)
    (blames_map (λ g. ReadsContents (sights n) (counts old) l (sort_of c.args.kind) n.at (fails g)) (λ g. ReadsTypeDefinition (sights u) (counts old) (sort_of c.args.kind) u.at (fails g))
    (λ g h. (got n.at l, t, subst (λ N. ReadsContents N (counts old) l (sort_of c.args.kind) n.at (fails g)) (same_sights n u r.onward.0) h))
    _ (c.in_err-inside.ensures.told l))

pub returns-clause-told : goal.returns-clause-told
returns-clause-told c =
    let u = c.args.tokens.now in
    let old = c.args.schema.now in
    let n = c.name.new.self in
    let m = c.contents.new.tokens in
    let r = c.in_ok-name.ensures.told in
    let l = label_of c.in_ok-name.field-0 in
    let h = subst (λ l. Takes (sights u) any_name u.at (got n.at l)) (sym r.means) r.reads in
    let t = new_taken (sights u) 256 (vec_len old.types) any_name u.at n.at l h (room_is _ _ (omega (arith, c.if-len-ge-MOST_TYPES.false, c.len.ensures))) in
    let d = c.in_ok-inside.ensures.told l in
    record {
      value = d.value;
      reads = (got n.at l, t, subst (λ N. ReadsContents N (counts old) l (sort_of c.args.kind) n.at (got m.at d.value)) (same_sights n u r.onward.0) d.reads);
      means = type_added old c.contents.new.schema _ l c.args.kind c.in_ok-inside.inside d.value _ d.means refl c.in_ok-push.ensures.items refl refl refl refl refl;
      onward = (d.onward.0 ∙ r.onward.0, omega (arith, d.onward.1, r.onward.1));
    }
