use Rattle.std.proofs.Common.{◌+◌, arith, rules}
use Rattle.text.specs.declared.language.Language.TheVariants.{Json}
use Rattle.text.proofs.LexBase.{along, run_from}
use Rattle.text.proofs.LexSkip.{SkipSofar, skip_start, skip_more, skip_done}
use Rattle.text.proofs.LexJson.{space_step, space_stops}
use Rattle.text.proofs.json.skip.Goals as goal

pub returns : goal.returns
returns c =
    let r = run_from _ c.args.text.now c.min-from.result c.run_len.result (omega (arith, c.min-from.ensures)) c.run_len.ensures in
    skip_done
    (along (SkipSofar Json c.args.text.now c.args.at) c.min-from.result (c.min-from.result + c.run_len.result) r.forward (skip_start Json c.args.text.now c.args.at c.min-from.result c.min-from.ensures)
    (λ k p q s. skip_more (k + 1) s (space_step c.args.text.now k (omega (arith, r.within)) (let h = r.all k p q in search rules))))
    (space_stops c.args.text.now (c.min-from.result + c.run_len.result) (λ h w. let n = r.stops h in search rules))
