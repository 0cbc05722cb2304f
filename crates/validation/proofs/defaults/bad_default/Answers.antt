use Rattle.std.proofs.Common.{inl, inr, List, sym, subst}
use Rattle.source.specs.Table.{tree_table}
use Rattle.schema.specs.declared.definition.Field.{Field}
use Rattle.schema.specs.Holds.{Each, FieldHeld}
use Rattle.schema.specs.Rows.{base_in}
use Rattle.schema.specs.SchemaReading.{inputs_in, arguments_in}
use Rattle.validation.specs.Making.{WrongDefault}
use Rattle.validation.specs.Repeats.{OneOf}
use Rattle.validation.proofs.Least.{first_found}
use Rattle.validation.proofs.Rightness.{all_inputs}
use Rattle.validation.proofs.defaults.bad_default.Goals as goal

pub returns : goal.returns
returns c D h u =
    let Held = FieldHeld (base_in D) (tree_table c.args.schema.now.tree) in
    let fields = subst (λ (fs : List Field). Each Held fs (inputs_in D)) (sym c.deref.ensures.value) h.fields in
    let arguments = subst (λ (fs : List Field). Each Held fs (arguments_in D)) (sym c.deref-2.ensures.value) h.arguments in
    all_inputs D c.lesser.result
    (first_found (OneOf (WrongDefault D) (inputs_in D)) (OneOf (WrongDefault D) (arguments_in D)) c.bad_among.result c.bad_among-2.result c.lesser.result c.lesser.ensures
    (c.bad_among.ensures D (inputs_in D) h fields (λ d a. u d (inl a)))
    (c.bad_among-2.ensures D (arguments_in D) h arguments (λ d a. u d (inr a))))
