use Rattle.std.proofs.Common.{◌≡◌, ◌-◌, length, refl, ap, ◌∙◌, arith}
use Rattle.source.specs.declared.nodes.Content.TheVariants.{Whole}
use Rattle.model.specs.Values.{scalar, whole}
use Rattle.names.specs.declared.part.Part.TheVariants.{Text}
use Rattle.text.specs.Cuts.{part}
use Rattle.reader.specs.Grammar.{l_whole}
use Rattle.reader.proofs.Leaves.{bare_node, whole_part}
use Rattle.reader.proofs.begin.whole_content.Goals as goal

pub returns : goal.returns
returns c text pool start h l e name =
    let r = c.whole.result.now in
    let f : c.saturating_sub-start.result ≡ c.args.end - length r = omega arith in
    let i = whole_part text c.args.spelled.now r start c.args.end h l e c.whole.ensures.pinned in
    record {
      tree = scalar start (whole r);
      leaf = l_whole c.whole.ensures.pinned;
      node = bare_node text pool (Whole (Text c.saturating_sub-start.result c.args.end)) start (scalar start (whole r)) refl refl refl refl refl (omega arith, l) (ap (λ k. part text k c.args.end) f ∙ i) name;
    }
