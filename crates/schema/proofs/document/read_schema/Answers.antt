use Rattle.std.proofs.Common.{◌∙◌, ◌∷◌, [], ◌++◌, true, length, sym, refl, ap, subst, Some, arith}
use Rattle.text.proofs.Handed.{handed_on}
use Rattle.text.specs.declared.language.Language.TheVariants.{Graphql}
use Rattle.reader.specs.Tokens.{Sights}
use Rattle.reader.specs.Reading.{got, fails}
use Rattle.reader.specs.Told.{Blames}
use Rattle.reader.proofs.Faults.{blames_map}
use Rattle.schema.specs.Holds.{label_of}
use Rattle.schema.specs.Outcomes.{Takes, any_name}
use Rattle.schema.specs.SchemaGrammar.{ends}
use Rattle.schema.specs.SchemaReading.{nothing, counted, ReadsDefinition, ReadsTypeDefinition, ReadsDirective, ReadsSchema, schema_long, schema_read, k_type, k_directive}
use Rattle.schema.specs.SchemaTold.{Open, counts, sort_of}
use Rattle.schema.specs.Told.{sights}
use Rattle.schema.proofs.Listing.{sofar_start, sofar_fails, sofar_done, sofar_as}
use Rattle.schema.proofs.Whole.{word_some, word_none, counts_more, held_more, long_text, short_text, err_is, ok_not, key_begun, key_fails, key_ended, held_none, define_fails, define_step, define_refused}
use Rattle.schema.proofs.document.read_schema.Goals as goal

pub returns-in_err-tokens-clause-told : goal.returns-in_err-tokens-clause-told
returns-in_err-tokens-clause-told c =
    let text = c.args.text.now in
    let long = long_text (length text) (λ h. c.in_err-tokens.ensures.whole h) in
    rw (handed_on c.from_residual.ensures.1)
    (subst (λ f. Blames f (λ g. ReadsSchema text (fails g))) (sym (err_is (c.in_err-tokens.ensures.long long))) (schema_long long))

pub loop-schema-init : goal.loop-schema-init
loop-schema-init c =
    let text = c.args.text.now in
    let short = short_text (length text) (λ h. ok_not (c.in_ok-tokens.ensures.long h)) in
    let w = c.in_ok-tokens.ensures.whole short in (
      [],
      sofar_as (Sights Graphql text) ends counted (ReadsDefinition (Sights Graphql text)) (sofar_start (Sights Graphql text) ends counted (ReadsDefinition (Sights Graphql text)) true nothing 0) refl
          (λ j. record { types = sym c.new-2.ensures.len j; values = sym c.new-3.ensures.len j; inputs = sym c.new-4.ensures.len j; directives = sym c.new-5.ensures.len j; arguments = sym c.new-6.ensures.len j })
          (sym w.1),
      held_none _ c.new-2.ensures.items c.new-3.ensures.items c.new-4.ensures.items c.new-5.ensures.items c.new-6.ensures.items,
      w.0,
      refl,
      short,
      (omega (arith, c.new-2.ensures.len), omega (arith, c.new-3.ensures.len), omega (arith, c.new-4.ensures.len), omega (arith, c.new-5.ensures.len), omega (arith, c.new-6.ensures.len)),
    )

pub returns-in_err-name-clause-told : goal.returns-in_err-name-clause-told
returns-in_err-name-clause-told c =
    let text = c.args.text.now in
    let t = c.loop-schema.tokens in
    let i = c.loop-schema.invariant in
    rw (handed_on c.from_residual-in_err-name.ensures.1)
    (blames_map (λ g. Open ends true t × Takes (sights t) any_name t.at (fails g)) (λ g. ReadsSchema text (fails g))
    (λ g h. let k = key_fails text t g i.3 h in
    schema_read i.5 (sofar_fails (Sights Graphql text) ends counted (ReadsDefinition (Sights Graphql text)) i.1 k.0 g k.1 k.2 (fails g, k.3, refl)))
    _ c.in_err-name.ensures)

pub definition-requires-clause-few : goal.definition-requires-clause-few
definition-requires-clause-few c = c.loop-schema.invariant.6

pub definition-requires-clause-text : goal.definition-requires-clause-text
definition-requires-clause-text c =
    let text = c.args.text.now in
    let t = c.loop-schema.tokens in
    let n = c.item_name.new.tokens in
    let i = c.loop-schema.invariant in
    let key = key_begun text t n c.in-Some.field-0 _ i.3 c.in-Some.is c.in_ok-name.ensures in
    i.4 ∙ sym (key.1.0 ∙ i.3)

pub loop-schema-preserved-in-Continue-branch-4 : goal.loop-schema-preserved-in-Continue-branch-4
loop-schema-preserved-in-Continue-branch-4 c =
    let text = c.args.text.now in
    let t = c.loop-schema.tokens in
    let n = c.item_name.new.tokens in
    let i = c.loop-schema.invariant in
    let key = key_begun text t n c.in-Some.field-0 _ i.3 c.in-Some.is c.in_ok-name.ensures in
    let old = c.loop-schema.schema in
    let l = label_of c.in-Some.field-0 in
    let w = word_some _ _ _ (c.in-Some-Type.is ∙ ap Some c.in-Some-Type.field-0-is) c.begun_by.ensures in
    let m = c.definition.new.tokens in
    let new = c.definition.new.schema in
    let d = c.in_ok-definition-in-Some-Type.ensures.told in
    let r = subst (λ x. ReadsTypeDefinition (Sights Graphql x) (counts old) (sort_of c.in-Some-Type.kind) n.at (got m.at d.value)) (key.1.0 ∙ i.3) d.reads in (
      i.0 ++ d.value ∷ [],
      define_step (Sights Graphql text) t.at n.at l (k_type (sort_of c.in-Some-Type.kind)) key.0 w (counts old) i.0 i.1 m.at d.value (counts new) r (counts_more old new d.value d.means),
      held_more old new i.0 d.value i.2 d.means,
      d.onward.0 ∙ key.1.0 ∙ i.3,
      c.in_ok-definition-in-Some-Type.ensures.text ∙ i.4,
      i.5,
      c.in_ok-definition-in-Some-Type.ensures.few,
    )

pub returns-in_err-definition-in-Some-Type-clause-told : goal.returns-in_err-definition-in-Some-Type-clause-told
returns-in_err-definition-in-Some-Type-clause-told c =
    let text = c.args.text.now in
    let t = c.loop-schema.tokens in
    let n = c.item_name.new.tokens in
    let i = c.loop-schema.invariant in
    let key = key_begun text t n c.in-Some.field-0 _ i.3 c.in-Some.is c.in_ok-name.ensures in
    let old = c.loop-schema.schema in
    let l = label_of c.in-Some.field-0 in
    let w = word_some _ _ _ (c.in-Some-Type.is ∙ ap Some c.in-Some-Type.field-0-is) c.begun_by.ensures in
    rw (handed_on c.from_residual-in_err-definition-in-Some-Type.ensures.1)
    (blames_map (λ g. ReadsTypeDefinition (sights n) (counts old) (sort_of c.in-Some-Type.kind) n.at (fails g)) (λ g. ReadsSchema text (fails g))
    (λ g e. schema_read i.5 (define_fails (Sights Graphql text) t.at n.at l (k_type (sort_of c.in-Some-Type.kind)) key.0 w (counts old) i.0 i.1 g (subst (λ x. ReadsTypeDefinition (Sights Graphql x) (counts old) (sort_of c.in-Some-Type.kind) n.at (fails g)) (key.1.0 ∙ i.3) e)))
    _ c.in_err-definition-in-Some-Type.ensures.told)

pub directive-requires-clause-few : goal.directive-requires-clause-few
directive-requires-clause-few c = c.loop-schema.invariant.6

pub directive-requires-clause-text : goal.directive-requires-clause-text
directive-requires-clause-text c =
    let text = c.args.text.now in
    let t = c.loop-schema.tokens in
    let n = c.item_name.new.tokens in
    let i = c.loop-schema.invariant in
    let key = key_begun text t n c.in-Some.field-0 _ i.3 c.in-Some.is c.in_ok-name.ensures in
    i.4 ∙ sym (key.1.0 ∙ i.3)

pub loop-schema-preserved : goal.loop-schema-preserved
loop-schema-preserved c =
    let text = c.args.text.now in
    let t = c.loop-schema.tokens in
    let n = c.item_name.new.tokens in
    let i = c.loop-schema.invariant in
    let key = key_begun text t n c.in-Some.field-0 _ i.3 c.in-Some.is c.in_ok-name.ensures in
    let old = c.loop-schema.schema in
    let l = label_of c.in-Some.field-0 in
    let w = word_some _ _ _ (c.in-Some-Directive.is ∙ ap Some c.in-Some-Directive.field-0-is) c.begun_by.ensures in
    let m = c.directive.new.tokens in
    let new = c.directive.new.schema in
    let d = c.in_ok-directive-in-Some-Directive.ensures.told in
    let r = subst (λ x. ReadsDirective (Sights Graphql x) (counts old) n.at (got m.at d.value)) (key.1.0 ∙ i.3) d.reads in (
      i.0 ++ d.value ∷ [],
      define_step (Sights Graphql text) t.at n.at l k_directive key.0 w (counts old) i.0 i.1 m.at d.value (counts new) r (counts_more old new d.value d.means),
      held_more old new i.0 d.value i.2 d.means,
      d.onward.0 ∙ key.1.0 ∙ i.3,
      c.in_ok-directive-in-Some-Directive.ensures.text ∙ i.4,
      i.5,
      c.in_ok-directive-in-Some-Directive.ensures.few,
    )

pub returns-in_err-directive-in-Some-Directive-clause-told : goal.returns-in_err-directive-in-Some-Directive-clause-told
returns-in_err-directive-in-Some-Directive-clause-told c =
    let text = c.args.text.now in
    let t = c.loop-schema.tokens in
    let n = c.item_name.new.tokens in
    let i = c.loop-schema.invariant in
    let key = key_begun text t n c.in-Some.field-0 _ i.3 c.in-Some.is c.in_ok-name.ensures in
    let old = c.loop-schema.schema in
    let l = label_of c.in-Some.field-0 in
    let w = word_some _ _ _ (c.in-Some-Directive.is ∙ ap Some c.in-Some-Directive.field-0-is) c.begun_by.ensures in
    rw (handed_on c.from_residual-in_err-directive-in-Some-Directive.ensures.1)
    (blames_map (λ g. ReadsDirective (sights n) (counts old) n.at (fails g)) (λ g. ReadsSchema text (fails g))
    (λ g e. schema_read i.5 (define_fails (Sights Graphql text) t.at n.at l k_directive key.0 w (counts old) i.0 i.1 g (subst (λ x. ReadsDirective (Sights Graphql x) (counts old) n.at (fails g)) (key.1.0 ∙ i.3) e)))
    _ c.in_err-directive-in-Some-Directive.ensures.told)

pub returns-in-None-clause-told : goal.returns-in-None-clause-told
returns-in-None-clause-told c =
    let text = c.args.text.now in
    let t = c.loop-schema.tokens in
    let n = c.item_name.new.tokens in
    let i = c.loop-schema.invariant in
    let key = key_begun text t n c.in-Some.field-0 _ i.3 c.in-Some.is c.in_ok-name.ensures in
    schema_read i.5 (define_refused (Sights Graphql text) t.at n.at (label_of c.in-Some.field-0) key.0 _ i.0 i.1 (word_none _ _ c.in-None.is c.begun_by.ensures))

pub returns-clause-told : goal.returns-clause-told
returns-clause-told c =
    let text = c.args.text.now in
    let t = c.loop-schema.tokens in
    let n = c.item_name.new.tokens in
    let i = c.loop-schema.invariant in
    let e = key_ended text t n _ i.3 c.in_default.is c.in_ok-name.ensures in
    (n.at, i.0, schema_read i.5 (sofar_done (Sights Graphql text) ends counted (ReadsDefinition (Sights Graphql text)) i.1 e.0 n.at e.1 e.2 e.3), c.resolve.ensures.holds i.0 i.2)

pub returns-clause-few : goal.returns-clause-few
returns-clause-few c = c.resolve.ensures.few c.loop-schema.invariant.6

pub returns-clause-text : goal.returns-clause-text
returns-clause-text c = c.resolve.ensures.text ∙ c.loop-schema.invariant.4
