use Rattle.std.proofs.Common.{[], ◌∷◌, None, Some, refl}
use Rattle.std.proofs.lemmas.Bool.Decides.{Decides-eqb}
use Rattle.std.proofs.lemmas.Slice.Eq.{strip_prefix_is}
use Rattle.text.proofs.NormCuts.{split_point, split_none}
use Rattle.text.proofs.decimal.split.Goals.{in-Some, in-None}
use Rattle.text.proofs.decimal.split.Goals as goal

pub returns : goal.returns
returns c = elim c.match-strip_prefix.branch [
  | in-Some w ↦
      rw w.t-13-is (split_point c.args.text.now c.run.result.0 c.run.result.1 c.run.ensures w.run-in-Some.result.0 w.run-in-Some.result.1 w.in-Some.fraction.now (strip_prefix_is Decides-eqb c.run.result.1.now (46 ∷ []) (Some w.in-Some.fraction) w.in-Some.ensures.cases) w.run-in-Some.ensures)
  | in-None w ↦ rw w.t-13-is (split_none c.args.text.now c.run.result.0 c.run.result.1 c.run.ensures _ _ refl refl (strip_prefix_is Decides-eqb c.run.result.1.now (46 ∷ []) None w.in-None.ensures.cases))
]
