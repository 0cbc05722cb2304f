use Rattle.std.proofs.Common.{◌+◌, ◌-◌, refl, ◌∙◌, arith}
use Rattle.record.proofs.Bytes.{take-patched}
use Rattle.record.proofs.working.Working.finish.Goals as goal

pub returns-clause-items : goal.returns-clause-items
returns-clause-items c =
    let v = c.args.self.now in
    let at = c.args.start in
    let four = c.copy_from_slice.ensures.after ∙ c.to_le_bytes.ensures in
    take-patched v.used at (at + 4 - at) (v.used - (at + 6)) v.bytes.now c.copy_from_slice.new.self (omega arith) four refl (omega arith) (omega arith)
