use Rattle.std.proofs.Common.{rules}
use Rattle.text.proofs.NormCuts.{run_first}
use Rattle.text.proofs.decimal.run.Goals as goal

pub returns : goal.returns
returns c =
    let r = c.run_len.ensures in
    rw (c.split_at.ensures.front, c.split_at.ensures.back) (run_first c.args.text.now c.run_len.result r.within (λ k h. let x = r.all k h in search rules) (λ h d. let x = r.stops h in search rules))
