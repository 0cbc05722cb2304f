use Rattle.std.proofs.Common.{◌+◌, arith, rules}
use Rattle.text.proofs.LexBase.{along, run_from}
use Rattle.text.proofs.LexGraphql.{NameSofar, name_start, name_more, name_done}
use Rattle.text.proofs.graphql.name_end.Goals as goal

pub returns : goal.returns
returns c =
    let r = run_from _ c.args.text.now (c.args.start + 1) c.run_len.result (omega arith) c.run_len.ensures in
    name_done
    (along (NameSofar c.args.text.now c.args.start) (c.args.start + 1) (c.args.start + 1 + c.run_len.result) r.forward (name_start c.args.text.now c.args.start c.requires)
    (λ k p q s. name_more s (omega (arith, r.within)) (let h = r.all k p q in search rules)))
    (λ h w. let n = r.stops h in search rules)
