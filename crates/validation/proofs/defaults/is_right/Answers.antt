use Rattle.std.proofs.Common.{◌≡◌, ◌∙◌, false, [], ap, sym, subst, map}
use Rattle.model.specs.Values.{place_of}
use Rattle.model.specs.Checking.{check}
use Rattle.model.proofs.ChFree.{silence_holds_no_variable}
use Rattle.source.specs.Table.{tree_table}
use Rattle.schema.specs.declared.operation.Variable.{Variable}
use Rattle.schema.specs.Documents.{schema_of}
use Rattle.validation.specs.Diagnosed.{Noted}
use Rattle.validation.specs.Literals.{type_of}
use Rattle.validation.proofs.Rightness.{knows_none, silent, uncounted}
use Rattle.validation.proofs.defaults.is_right.Goals as goal

pub returns : goal.returns
returns g c D x h b s u =
    let k = c.new-check.result in
    let e = c.new-check.ensures.variables in
    let rows : k.variables.rows.now ≡ [] = rw e c.new-variables.ensures.rows in
    let records : k.variables.names.now.records.now ≡ [] = rw e (rw c.new-variables.ensures.names c.new-names.ensures) in
    let knows = knows_none D c.args.schema.now k.schema.now _ (tree_table k.variables.tree.now) k.variables.rows.now h c.new-check.ensures.schema rows (ap (map (λ (v : Variable). v.name.now)) (records ∙ sym rows)) in
    let n : Noted c.new-found.result c.check.new.found (check (schema_of D) [] false c.place.result x (type_of c.args.ty)) =
    c.check.ensures D [] x knows b (subst (λ q. g.S.Source.stands q c.args.at x) (sym c.new-check.ensures.source) s) in
    let m : Noted c.new-found.result c.check.new.found (check (schema_of D) [] false (place_of x) x (type_of c.args.ty)) =
    subst (λ p. Noted c.new-found.result c.check.new.found (check (schema_of D) [] false p x (type_of c.args.ty))) (c.place.ensures x s) n in (
      (λ q. let z = silent c.new-found.result c.check.new.found _ c.new-found.ensures.total m q in (silence_holds_no_variable (schema_of D) false (place_of x) x (type_of c.args.ty) u z, z)),
      (λ r. uncounted c.new-found.result c.check.new.found _ c.new-found.ensures.total m r.1),
    )
