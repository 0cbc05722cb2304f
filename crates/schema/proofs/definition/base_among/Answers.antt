use Rattle.std.proofs.Common.{◌∙◌, map, sym}
use Rattle.schema.specs.Holds.{type_row_of}
use Rattle.schema.proofs.Basing.{found_first, missing_all}
use Rattle.schema.proofs.definition.base_among.Goals as goal

pub returns-in-Some : goal.returns-in-Some
returns-in-Some c = sym (c.in-Some.ensures (map type_row_of c.args.types.now))

pub returns-in-Some-find : goal.returns-in-Some-find
returns-in-Some-find c =
    c.base.ensures ∙ sym (found_first c.args.types.now c.new.result.records.now c.in-Some-find.index c.args.name.now _ c.new.ensures c.in-Some-find.ensures.first) ∙ sym (c.in_default.ensures (map type_row_of c.args.types.now))

pub returns-in-None : goal.returns-in-None
returns-in-None c =
    sym (missing_all c.args.types.now c.new.result.records.now c.args.name.now c.new.ensures c.in-None.ensures.first) ∙ sym (c.in_default.ensures (map type_row_of c.args.types.now))
