use Rattle.std.proofs.Common.{◌∙◌, [], sym, refl, subst, vec_len, arith}
use Rattle.text.specs.TokenGrammar.{open_paren, close_paren}
use Rattle.reader.specs.Reading.{got, fails, is_mark}
use Rattle.source.specs.Table.{table_of}
use Rattle.source.proofs.Keeping.{keeps_all}
use Rattle.schema.specs.Outcomes.{Gives}
use Rattle.schema.specs.SchemaReading.{ReadsArguments, ReadsFieldList}
use Rattle.schema.specs.SchemaTold.{FieldsAdded}
use Rattle.schema.specs.Told.{TokenIfAny, sights}
use Rattle.schema.proofs.Defining.{told_on}
use Rattle.schema.proofs.Entering.{same_sights, onward_on, span_is}
use Rattle.schema.proofs.Rowing.{appended_none}
use Rattle.schema.proofs.Seeing.{after_eaten, after_left}
use Rattle.schema.proofs.document.arguments.Goals as goal

pub returns-in-Some-clause-told : goal.returns-in-Some-clause-told
returns-in-Some-clause-told c =
    let u = c.args.tokens.now in
    let t = c.eat.new.self in
    let n = c.fields.new.tokens in
    let k = vec_len c.args.table.now in
    let e = c.in_ok-eat.ensures.told tt in
    let p = subst (λ o. TokenIfAny (sights u) (is_mark open_paren) u.at (got t.at o)) (sym e.means ∙ c.in-Some.is) e.reads in
    told_on 0 0 (λ N. ReadsFieldList N (is_mark close_paren) 256 k) (λ N. ReadsArguments N k) (FieldsAdded (table_of t.text.now c.args.nodes.now) (table_of t.text.now c.fields.new.nodes) c.args.table.now.items c.fields.new.table.items) (FieldsAdded (table_of u.text.now c.args.nodes.now) (table_of u.text.now c.fields.new.nodes) c.args.table.now.items c.fields.new.table.items) t u n c.fields.result
    (λ y r. record {
      value = r.value;
      reads = after_eaten (sights u) (is_mark open_paren) (λ s. ReadsFieldList (sights u) (is_mark close_paren) 256 k) (Gives []) (got n.at r.value) u.at t.at c.in-Some.field-0 p (subst (λ N. ReadsFieldList N (is_mark close_paren) 256 k t.at (got n.at r.value)) (same_sights t u e.onward.0) r.reads);
      means = subst (λ x. FieldsAdded (table_of x c.args.nodes.now) (table_of x c.fields.new.nodes) c.args.table.now.items c.fields.new.table.items y r.value) e.onward.0 r.means;
      onward = onward_on 0 0 u t n e.onward r.onward;
    })
    (λ g h. after_eaten (sights u) (is_mark open_paren) (λ s. ReadsFieldList (sights u) (is_mark close_paren) 256 k) (Gives []) (fails g) u.at t.at c.in-Some.field-0 p (subst (λ N. ReadsFieldList N (is_mark close_paren) 256 k t.at (fails g)) (same_sights t u e.onward.0) h))
    c.fields.ensures.told

pub returns-in-None-clause-told : goal.returns-in-None-clause-told
returns-in-None-clause-told c =
    let u = c.args.tokens.now in
    let t = c.eat.new.self in
    let k = vec_len c.args.table.now in
    let e = c.in_ok-eat.ensures.told tt in
    let p = subst (λ o. TokenIfAny (sights u) (is_mark open_paren) u.at (got t.at o)) (sym e.means ∙ c.in-None.is) e.reads in
    record {
      value = [];
      reads = after_left (sights u) (is_mark open_paren) (λ s. ReadsFieldList (sights u) (is_mark close_paren) 256 k) (Gives []) (got t.at []) u.at t.at p refl;
      means = record { fields = appended_none _ _; inside = span_is _ _ _ 0 (c.len-from.ensures ∙ c.args.table.now.ok.0) (omega (arith, c.len-from.ensures, c.args.table.now.ok.0)); keeps = keeps_all _ };
      onward = e.onward;
    }
