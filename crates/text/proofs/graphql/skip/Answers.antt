use Rattle.text.specs.declared.language.Language.TheVariants.{Graphql}
use Rattle.text.proofs.LexSkip.{skip_start, skip_more, skip_done}
use Rattle.text.proofs.graphql.skip.Goals as goal

pub loop-end-init : goal.loop-end-init
loop-end-init c = skip_start Graphql c.args.text.now c.args.at c.min-next.result c.min-next.ensures

pub loop-end-preserved : goal.loop-end-preserved
loop-end-preserved c = skip_more c.in-Some.end c.loop-end.invariant c.in-Some.ensures

pub returns : goal.returns
returns c = skip_done c.loop-end.invariant c.in_default.ensures
