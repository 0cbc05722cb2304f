use Rattle.std.proofs.Common.{◌∙◌, refl, subst, arith, vec_items}
use Rattle.text.proofs.Handed.{handed_on}
use Rattle.reader.proofs.Faults.{blames_map}
use Rattle.reader.specs.Reading.{got, fails}
use Rattle.source.specs.Table.{table_of, Keeps}
use Rattle.schema.specs.HoldsOperation.{ArgumentHeld}
use Rattle.schema.specs.OperationReading.{ReadsAfterAt, ReadsUseArguments}
use Rattle.schema.specs.Outcomes.{Takes, any_name}
use Rattle.schema.specs.SchemaTold.{Appended}
use Rattle.schema.specs.Told.{sights}
use Rattle.schema.proofs.Seeing.{read_in}
use Rattle.schema.proofs.operation.directive_use.Goals as goal

pub returns-in_err-name : goal.returns-in_err-name
returns-in_err-name c =
    let t = c.args.tokens.now in
    rw (handed_on c.from_residual.ensures.1)
    (blames_map (λ g. Takes (sights t) any_name t.at (fails g)) (λ g. ReadsAfterAt (sights t) c.args.place t.at (fails g)) (λ f x. (fails f, x, refl)) _ c.in_err-name.ensures.told)

pub returns-in_err-arguments : goal.returns-in_err-arguments
returns-in_err-arguments c =
    let t = c.args.tokens.now in
    let u = c.name.new.self in
    let n = c.in_ok-name.ensures.told in
    rw (handed_on c.from_residual-in_err-arguments.ensures.1)
    (blames_map (λ g. ReadsUseArguments (sights u) u.at (fails g)) (λ g. ReadsAfterAt (sights t) c.args.place t.at (fails g))
    (λ f x. (got u.at n.value, n.reads, (fails f, read_in ReadsUseArguments t u u.at (fails f) n.onward.0 x, refl)))
    _ c.in_err-arguments.ensures)

pub returns : goal.returns
returns c =
    let t = c.args.tokens.now in
    let u = c.name.new.self in
    let v = c.use_arguments.new.tokens in
    let n = c.in_ok-name.ensures.told in
    let d = c.in_ok-arguments.ensures in
    record {
      value = record { name = n.value.name; place = c.args.place; arguments = d.value };
      reads = (got u.at n.value, n.reads, (got v.at d.value, read_in ReadsUseArguments t u u.at _ n.onward.0 d.reads, refl));
      means = record {
        row = λ i. record { label = record { name = (n.means i).name; place = c.args.place }; arguments = d.means.inside i };
        arguments = subst (λ text. Appended (ArgumentHeld (table_of text c.use_arguments.new.nodes)) (vec_items c.args.arguments.now) (vec_items c.use_arguments.new.arguments) d.value) n.onward.0 d.means.arguments;
        keeps = subst (λ text. Keeps 0 (table_of text c.args.nodes.now) (table_of text c.use_arguments.new.nodes)) n.onward.0 d.means.keeps;
      };
      onward = (d.onward.0 ∙ n.onward.0, omega (arith, d.onward.1, n.onward.1));
    }
