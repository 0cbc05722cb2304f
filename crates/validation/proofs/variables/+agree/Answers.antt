use Rattle.std.proofs.Common.{not, ◌&&◌, sym, ap, ◌∙◌}
use Rattle.std.proofs.lemmas.Bool.{ltb-true}
use Rattle.model.specs.Checking.{compatible, as_nullable}
use Rattle.validation.specs.Literals.{type_of}
use Rattle.validation.proofs.Usages.{null_apart, items_agree, names_agree, none_above, same_bytes}
use Rattle.validation.proofs.variables.+agree.Goals as goal

-- the items of two lists, by the functions on types
pub returns-then-not-only_nullable : goal.returns-then-not-only_nullable
returns-then-not-only_nullable t c =
    let a = c.args.ty in
    let b = c.args.location in
    let v = type_of c.item-ty.result in
    let l = type_of c.item-location.result in
    c.agree.ensures
    ∙ (ap (λ x. not x && compatible v (as_nullable l)) (sym c.if-not-only_nullable.true ∙ c.only_nullable.ensures) ∙ sym (null_apart v l))
    ∙ (rw (c.item-ty.ensures.shape, c.item-ty.ensures.name, c.item-location.ensures.shape, c.item-location.ensures.name)
    (sym (items_agree a.shape.non_null b.shape.non_null a.name.now b.name.now a.shape.levels b.shape.levels (ltb-true 0 a.shape.levels (sym c.in-true-true.ensures)) (ltb-true 0 b.shape.levels (sym c.in-true-true.ensures')))))

pub returns-else-not-only_nullable : goal.returns-else-not-only_nullable
returns-else-not-only_nullable t c =
    let a = c.args.ty in
    let b = c.args.location in
    let v = type_of c.item-ty.result in
    let l = type_of c.item-location.result in
    ap not c.if-not-only_nullable.false
    ∙ (ap (λ x. not x && compatible v (as_nullable l)) (sym c.if-not-only_nullable.false ∙ c.only_nullable.ensures) ∙ sym (null_apart v l))
    ∙ (rw (c.item-ty.ensures.shape, c.item-ty.ensures.name, c.item-location.ensures.shape, c.item-location.ensures.name)
    (sym (items_agree a.shape.non_null b.shape.non_null a.name.now b.name.now a.shape.levels b.shape.levels (ltb-true 0 a.shape.levels (sym c.in-true-true.ensures)) (ltb-true 0 b.shape.levels (sym c.in-true-true.ensures')))))

pub returns-in-false-false : goal.returns-in-false-false
returns-in-false-false t c =
    let a = c.args.ty in
    let b = c.args.location in
    c.eq.ensures ∙ same_bytes a.name.now b.name.now
    ∙ sym (names_agree a.shape.non_null b.shape.non_null a.name.now b.name.now a.shape.levels b.shape.levels (none_above _ c.in-false-false.ensures) (none_above _ c.in-false-false.ensures'))
