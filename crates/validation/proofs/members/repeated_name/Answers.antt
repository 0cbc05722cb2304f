use Rattle.std.proofs.Common.{◌⊎◌, ℕ, List, vec_items, subst}
use Rattle.source.specs.Table.{tree_table}
use Rattle.schema.specs.declared.definition.Field.{Field}
use Rattle.validation.specs.Making.{FirstFault, NameTwiceAt}
use Rattle.validation.specs.Repeats.{OneOf, DefaultTwice}
use Rattle.validation.proofs.Least.{first_found}
use Rattle.validation.proofs.MembersTwice.{first_again}
use Rattle.validation.proofs.members.repeated_name.Goals as goal

pub returns-clause-first : goal.returns-clause-first
returns-clause-first c D h =
    let s = c.args.schema.now in
    let P : Field → ℕ → Type 0 = λ f. DefaultTwice (tree_table s.tree) f.default in
    let Fields : ℕ → Type 0 = OneOf P (vec_items s.fields) in
    let Arguments : ℕ → Type 0 = OneOf P (vec_items s.arguments) in
    let fields : FirstFault Fields c.in_ok-fields.fields = subst (λ (fs : List Field). FirstFault (OneOf P fs) c.in_ok-fields.fields) c.deref.ensures.value c.in_ok-fields.ensures.first in
    let arguments : FirstFault Arguments c.in_ok-arguments.arguments = subst (λ (fs : List Field). FirstFault (OneOf P fs) c.in_ok-arguments.arguments) c.deref-2.ensures.value c.in_ok-arguments.ensures.first in
    first_again s D h c.lesser.result
    (first_found (NameTwiceAt D) (λ p. Fields p ⊎ Arguments p) c.name_twice.result c.lesser-members.result c.lesser.result c.lesser.ensures (c.name_twice.ensures D h)
    (first_found Fields Arguments c.in_ok-fields.fields c.in_ok-arguments.arguments c.lesser-members.result c.lesser-members.ensures fields arguments))
