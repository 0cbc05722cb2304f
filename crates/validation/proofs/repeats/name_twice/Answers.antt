use Rattle.std.proofs.Common.{◌⊎◌, ℕ, map, List, vec_items, subst}
use Rattle.schema.specs.declared.definition.TypeDef.{TypeDef}
use Rattle.schema.specs.declared.definition.Directive.{Directive}
use Rattle.validation.specs.Making.{FirstFault, Twice}
use Rattle.validation.specs.Repeats.{OneOf, BuiltIn, TwiceInside, TwiceArgued, type_name, directive_name}
use Rattle.validation.proofs.Least.{first_found}
use Rattle.validation.proofs.Repeating.{first_told}
use Rattle.validation.proofs.repeats.name_twice.Goals as goal

pub returns : goal.returns
returns c D h =
    let s = c.args.schema.now in
    let Built : ℕ → Type 0 = OneOf BuiltIn (vec_items s.types) in
    let Types : ℕ → Type 0 = Twice (map type_name (vec_items s.types)) in
    let Directives : ℕ → Type 0 = Twice (map directive_name (vec_items s.directives)) in
    let Inside : ℕ → Type 0 = OneOf (TwiceInside s) (vec_items s.types) in
    let Argued : ℕ → Type 0 = OneOf (TwiceArgued s) (vec_items s.directives) in
    let built : FirstFault Built c.built_in.result = subst (λ (ts : List TypeDef). FirstFault (OneOf BuiltIn ts) c.built_in.result) c.deref.ensures.value c.built_in.ensures in
    let types : FirstFault Types c.twice.result = subst (λ (ts : List TypeDef). FirstFault (Twice (map type_name ts)) c.twice.result) c.deref-2.ensures.value c.twice.ensures in
    let directives : FirstFault Directives c.twice-directives.result = subst (λ (ds : List Directive). FirstFault (Twice (map directive_name ds)) c.twice-directives.result) c.deref-3.ensures.value c.twice-directives.ensures in
    first_told s D h c.lesser-2.result
    (first_found (λ p. (Built p ⊎ Types p) ⊎ Directives p) (λ p. Inside p ⊎ Argued p) c.lesser.result c.lesser-inside.result c.lesser-2.result c.lesser-2.ensures
    (first_found (λ p. Built p ⊎ Types p) Directives c.lesser-types.result c.twice-directives.result c.lesser.result c.lesser.ensures
    (first_found Built Types c.built_in.result c.twice.result c.lesser-types.result c.lesser-types.ensures built types)
    directives)
    (first_found Inside Argued c.in_types.result c.in_directives.result c.lesser-inside.result c.lesser-inside.ensures c.in_types.ensures c.in_directives.ensures))
