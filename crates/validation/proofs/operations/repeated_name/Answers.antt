use Rattle.std.proofs.Common.{◌⊎◌, ℕ, List, Some, map, vec_items, subst}
use Rattle.source.specs.Table.{tree_table}
use Rattle.schema.specs.declared.operation.Variable.{Variable}
use Rattle.schema.specs.declared.operation.Argument.{Argument}
use Rattle.validation.specs.Making.{FirstFault, Twice}
use Rattle.validation.specs.Places.{labelled}
use Rattle.validation.specs.Repeats.{OneOf, DefaultTwice}
use Rattle.validation.proofs.Least.{first_found}
use Rattle.validation.proofs.OperationFaults.{first_again}
use Rattle.validation.proofs.operations.repeated_name.Goals as goal

pub returns-clause-first : goal.returns-clause-first
returns-clause-first c S D h =
    let o = c.args.operation.now in
    let P : Variable → ℕ → Type 0 = λ v. DefaultTwice (tree_table o.tree) v.default in
    let Q : Argument → ℕ → Type 0 = λ a. DefaultTwice (tree_table o.tree) (Some a.value) in
    let Names : List Variable → ℕ → Type 0 = λ vs. Twice (map (λ (v : Variable). labelled v.name.now v.name_place) vs) in
    let defaults : FirstFault (OneOf P (vec_items o.variables)) c.in_ok-defaults.defaults = subst (λ (vs : List Variable). FirstFault (OneOf P vs) c.in_ok-defaults.defaults) c.deref.ensures.value c.in_ok-defaults.ensures.first in
    let values : FirstFault (OneOf Q (vec_items o.arguments)) c.in_ok-values.values = subst (λ (xs : List Argument). FirstFault (OneOf Q xs) c.in_ok-values.values) c.deref-2.ensures.value c.in_ok-values.ensures.first in
    let names : FirstFault (Names (vec_items o.variables)) c.twice.result = subst (λ (vs : List Variable). FirstFault (Names vs) c.twice.result) c.deref-3.ensures.value c.twice.ensures in
    first_again S o D h c.lesser.result
    (first_found (Names (vec_items o.variables)) (λ p. OneOf P (vec_items o.variables) p ⊎ OneOf Q (vec_items o.arguments) p) c.twice.result c.lesser-literals.result c.lesser.result c.lesser.ensures names
    (first_found (OneOf P (vec_items o.variables)) (OneOf Q (vec_items o.arguments)) c.in_ok-defaults.defaults c.in_ok-values.values c.lesser-literals.result c.lesser-literals.ensures defaults values))
