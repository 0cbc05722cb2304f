use Rattle.model.specs.Values.{nullable}
use Rattle.std.proofs.Common.{not}
use Rattle.validation.specs.Literals.{type_of}
use Rattle.validation.proofs.Usages.{says_null, only_then, only_else}
use Rattle.validation.proofs.variables.only_nullable.Goals as goal

pub returns-then-is_non_null : goal.returns-then-is_non_null
returns-then-is_non_null c =
    let a = c.args.ty in
    let b = c.args.location in
    only_then (not (nullable (type_of b))) (nullable (type_of a)) c.is_non_null.result c.is_non_null-then-is_non_null.result
    (says_null b.shape.non_null b.name.now b.shape.levels _ c.is_non_null.ensures)
    c.if-is_non_null.true
    (says_null a.shape.non_null a.name.now a.shape.levels _ c.is_non_null-then-is_non_null.ensures)

pub returns-else-is_non_null : goal.returns-else-is_non_null
returns-else-is_non_null c =
    let a = c.args.ty in
    let b = c.args.location in
    only_else (not (nullable (type_of b))) (nullable (type_of a)) c.is_non_null.result
    (says_null b.shape.non_null b.name.now b.shape.levels _ c.is_non_null.ensures)
    c.if-is_non_null.false
