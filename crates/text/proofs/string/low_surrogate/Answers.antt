use Rattle.std.proofs.Common.{[], ◌∷◌, Some, arith}
use Rattle.std.proofs.lemmas.Bool.Decides.{Decides-eqb, nat_tests}
use Rattle.std.proofs.lemmas.Slice.Eq.{strip_prefix_is}
use Rattle.text.proofs.StrHexes.{low_kept}
use Rattle.text.proofs.string.low_surrogate.Goals as goal

pub returns : goal.returns
returns c =
    let e = strip_prefix_is Decides-eqb c.args.text.now (92 ∷ 117 ∷ []) (Some c.in_ok-digits.digits) c.in_ok-digits.ensures.cases in
    let n = c.new.ensures in
    rw c.then_some.ensures (low_kept c.args.text.now e c.in_ok-low.low c.contains.result (rw (c.contains.ensures.value, n.start, n.exhausted, n.end) (grind (arith, nat_tests))) c.in_ok-low.ensures.1)
