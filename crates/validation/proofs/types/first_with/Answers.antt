use Rattle.std.proofs.Common.{◌⊎◌, sym, subst, ℕ, vec_items, List}
use Rattle.schema.specs.declared.definition.Field.{Field}
use Rattle.validation.specs.Making.{FirstFault}
use Rattle.validation.specs.Places.{StandsFor}
use Rattle.validation.proofs.Least.{first_lesser}
use Rattle.validation.proofs.types.first_with.Goals as goal

pub returns : goal.returns
returns c =
    let s = c.args.schema.now in
    let P : List Field → ℕ → Type 0 = StandsFor c.args.base in
    let fields : FirstFault (P (vec_items s.fields)) c.first_among.result = subst (λ (fs : List Field). FirstFault (P fs) c.first_among.result) c.deref.ensures.value c.first_among.ensures in
    let arguments : FirstFault (P (vec_items s.arguments)) c.first_among-2.result = subst (λ (fs : List Field). FirstFault (P fs) c.first_among-2.result) c.deref-2.ensures.value c.first_among-2.ensures in
    subst (FirstFault (λ p. P (vec_items s.fields) p ⊎ P (vec_items s.arguments) p)) (sym c.lesser.ensures) (first_lesser (P (vec_items s.fields)) (P (vec_items s.arguments)) c.first_among.result c.first_among-2.result fields arguments)
