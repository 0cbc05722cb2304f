use Rattle.std.proofs.Common.{ℕ, ◌∙◌, ◌∷◌, [], length, sym, refl, ap, subst, vec_len, vec_items, append-nil}
use Rattle.text.proofs.Handed.{handed_on}
use Rattle.text.specs.TokenGrammar.{open_brace, close_brace}
use Rattle.reader.specs.Tokens.{Sight}
use Rattle.reader.specs.Reading.{got, fails, is_mark}
use Rattle.reader.proofs.Faults.{blames_map}
use Rattle.source.specs.Table.{table_of, tree_table}
use Rattle.source.proofs.Keeping.{keeps_all}
use Rattle.schema.specs.Documents.{an_enum, an_input}
use Rattle.schema.specs.Holds.{FieldHeld}
use Rattle.schema.specs.Outcomes.{Takes, the_mark}
use Rattle.schema.specs.Rows.{span}
use Rattle.schema.specs.SchemaReading.{ReadsContents, ReadsValueList, ReadsFieldList}
use Rattle.schema.specs.SchemaTold.{ContentsAdded, ValuesAdded, FieldsAdded, counts, sort_of, unknown}
use Rattle.schema.specs.Told.{sights}
use Rattle.schema.proofs.Defining.{told_on, enum_unopened, enum_fails, enum_got, input_unopened, input_fails, input_got, bare_read}
use Rattle.schema.proofs.Entering.{same_sights, onward_on}
use Rattle.schema.proofs.Rowing.{appended_none}
use Rattle.schema.proofs.document.contents.Goals as goal

pub returns-in_err-expect-in-Enum-clause-told : goal.returns-in_err-expect-in-Enum-clause-told
returns-in_err-expect-in-Enum-clause-told c l =
    let u = c.args.tokens.now in
    rw (handed_on c.from_residual.ensures.1)
    (blames_map (λ g. Takes (sights u) (the_mark open_brace) u.at (fails g)) (λ g. ReadsContents (sights u) (counts c.args.schema.now) l (sort_of c.args.kind) u.at (fails g))
    (λ g h. subst (λ k. ReadsContents (sights u) (counts c.args.schema.now) l (sort_of k) u.at (fails g)) (sym c.in-Enum.is) (enum_unopened (sights u) (counts c.args.schema.now) l u.at g h))
    _ (c.in_err-expect-in-Enum.ensures.told tt))

pub returns-in_err-expect-in-Input-clause-told : goal.returns-in_err-expect-in-Input-clause-told
returns-in_err-expect-in-Input-clause-told c l =
    let u = c.args.tokens.now in
    rw (handed_on c.from_residual-in_err-expect-in-Input.ensures.1)
    (blames_map (λ g. Takes (sights u) (the_mark open_brace) u.at (fails g)) (λ g. ReadsContents (sights u) (counts c.args.schema.now) l (sort_of c.args.kind) u.at (fails g))
    (λ g h. subst (λ k. ReadsContents (sights u) (counts c.args.schema.now) l (sort_of k) u.at (fails g)) (sym c.in-Input.is) (input_unopened (sights u) (counts c.args.schema.now) l u.at g h))
    _ (c.in_err-expect-in-Input.ensures.told tt))

pub returns-in_ok-expect-in-Enum-clause-told : goal.returns-in_ok-expect-in-Enum-clause-told
returns-in_ok-expect-in-Enum-clause-told c l =
    let u = c.args.tokens.now in
    let t = c.expect.new.self in
    let n = c.enum_values.new.tokens in
    let old = c.args.schema.now in
    let e = c.in_ok-expect-in-Enum.ensures.told tt in
    let read = λ (N : ℕ → Sight → Type 0). ReadsContents N (counts old) l (sort_of c.args.kind) in
    told_on 0 0 (λ N. ReadsValueList N (vec_len old.values)) read (ValuesAdded old.values.items c.enum_values.new.values.items) (ContentsAdded old _ l c.args.kind) t u n c.enum_values.result
    (λ y r. record {
      value = an_enum l r.value;
      reads = subst (λ k. ReadsContents (sights u) (counts old) l (sort_of k) u.at (got n.at (an_enum l r.value))) (sym c.in-Enum.is)
          (enum_got (sights u) (counts old) l u.at t.at e.value n.at r.value e.reads (subst (λ N. ReadsValueList N (vec_len old.values) t.at (got n.at r.value)) (same_sights t u e.onward.0) r.reads));
      means = record {
        row = λ i. record { label = l; kind = sym c.in-Enum.is i; inside = (ap (λ k. span k (length r.value)) old.values.ok.0 ∙ sym r.means.inside) i } ∷ [];
        types = refl;
        values = r.means.values;
        fields = appended_none (FieldHeld unknown (tree_table old.tree)) (vec_items old.fields);
        directives = refl;
        arguments = refl;
        no_directive = refl;
        no_arguments = refl;
        keeps = keeps_all (tree_table old.tree);
      };
      onward = onward_on 0 0 u t n e.onward r.onward;
    })
    (λ g h. subst (λ k. ReadsContents (sights u) (counts old) l (sort_of k) u.at (fails g)) (sym c.in-Enum.is) (enum_fails (sights u) (counts old) l u.at t.at e.value g e.reads (subst (λ N. ReadsValueList N (vec_len old.values) t.at (fails g)) (same_sights t u e.onward.0) h)))
    c.enum_values.ensures.told

pub returns-in_ok-expect-in-Input-clause-told : goal.returns-in_ok-expect-in-Input-clause-told
returns-in_ok-expect-in-Input-clause-told c l =
    let u = c.args.tokens.now in
    let t = c.expect-in-Input.new.self in
    let n = c.fields.new.tokens in
    let old = c.args.schema.now in
    let e = c.in_ok-expect-in-Input.ensures.told tt in
    let same = e.onward.0 ∙ sym c.requires.text in
    let read = λ (N : ℕ → Sight → Type 0). ReadsContents N (counts old) l (sort_of c.args.kind) in
    told_on 0 0 (λ N. ReadsFieldList N (is_mark close_brace) 1024 (vec_len old.fields)) read (FieldsAdded (table_of t.text.now old.tree.nodes) (table_of t.text.now c.fields.new.nodes) old.fields.items c.fields.new.table.items) (ContentsAdded old _ l c.args.kind) t u n c.fields.result
    (λ y r. let a = subst (λ x. FieldsAdded (table_of x old.tree.nodes) (table_of x c.fields.new.nodes) old.fields.items c.fields.new.table.items y r.value) same r.means in
    record {
      value = an_input l r.value;
      reads = subst (λ k. ReadsContents (sights u) (counts old) l (sort_of k) u.at (got n.at (an_input l r.value))) (sym c.in-Input.is)
          (input_got (sights u) (counts old) l u.at t.at e.value n.at r.value e.reads (subst (λ N. ReadsFieldList N (is_mark close_brace) 1024 (vec_len old.fields) t.at (got n.at r.value)) (same_sights t u e.onward.0) r.reads));
      means = record {
        row = λ i. record { label = l; kind = sym c.in-Input.is i; inside = (ap (λ k. span k (length r.value)) old.fields.ok.0 ∙ sym r.means.inside) i } ∷ [];
        types = refl;
        values = sym (append-nil _);
        fields = a.fields;
        directives = refl;
        arguments = refl;
        no_directive = refl;
        no_arguments = refl;
        keeps = a.keeps;
      };
      onward = onward_on 0 0 u t n e.onward r.onward;
    })
    (λ g h. subst (λ k. ReadsContents (sights u) (counts old) l (sort_of k) u.at (fails g)) (sym c.in-Input.is) (input_fails (sights u) (counts old) l u.at t.at e.value g e.reads (subst (λ N. ReadsFieldList N (is_mark close_brace) 1024 (vec_len old.fields) t.at (fails g)) (same_sights t u e.onward.0) h)))
    c.fields.ensures.told

pub returns-in-Scalar-clause-told : goal.returns-in-Scalar-clause-told
returns-in-Scalar-clause-told c l = bare_read c.args.tokens.now c.args.schema.now l c.args.kind c.in-Scalar.is
