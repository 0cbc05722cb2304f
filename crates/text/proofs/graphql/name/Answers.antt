use Rattle.std.proofs.Common.{refl, arith}
use Rattle.text.proofs.LexTold.{stands_placed}
use Rattle.text.proofs.LexGraphql.{name_here, long_name}
use Rattle.text.proofs.graphql.name.Goals as goal

pub returns-then-end-start-gt-LONGEST_NAME : goal.returns-then-end-start-gt-LONGEST_NAME
returns-then-end-start-gt-LONGEST_NAME c = record {
  found = (refl, long_name c.args.text.now c.args.start c.name_end-end.result c.requires.1 c.name_end-end.ensures c.if-end-start-gt-LONGEST_NAME.true);
  placed = tt;
}

pub returns : goal.returns
returns c = record {
  found = (refl, name_here c.args.text.now c.args.start c.name_end-end.result c.requires.1 c.name_end-end.ensures (omega arith));
  placed = stands_placed _ _ _ _ c.name_end-end.ensures.forward c.name_end-end.ensures.within;
}
