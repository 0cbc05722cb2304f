use Rattle.std.proofs.Common.{refl, arith}
use Rattle.stored.proofs.FrLaws.{frame_in, overlong}
use Rattle.stored.proofs.header.Record.at.Goals as goal

pub returns : goal.returns
returns c =
    let g = c.in_ok-get.ensures.lookup.0 in
    let bytes = c.args.bytes.now in
    frame_in bytes c.in_ok-get.field-0.now c.args.at c.args.to c.min-to.result c.from_le_bytes-size.result _
    (record { is = g.2; long = g.3; within = g.1 }) (omega arith) c.in-0.len_at_least
    (record { s0 = (c.type_inv.bytes c.args.at).fits; s1 = (c.type_inv.bytes _).fits; s2 = (c.type_inv.bytes _).fits; s3 = (c.type_inv.bytes _).fits })
    c.from_le_bytes-size.ensures (grind arith) (grind arith) refl refl refl

pub returns-then-size-rest : goal.returns-then-size-rest
returns-then-size-rest c =
    let g = c.in_ok-get.ensures.lookup.0 in
    overlong c.args.bytes.now c.in_ok-get.field-0.now c.args.at c.args.to c.min-to.result c.from_le_bytes-size.result
    (record { is = g.2; long = g.3; within = g.1 }) c.min-to.ensures c.in-0.len_at_least c.from_le_bytes-size.ensures (grind arith)
