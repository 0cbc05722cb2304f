use Rattle.std.proofs.Common.{true, false, sym, refl, ◌∙◌, true≢false}
use Rattle.std.proofs.lemmas.Slice.Eq.{slice_eq-Decides}
use Rattle.source.specs.declared.nodes.Content.TheVariants.{Null, Boolean, Enum}
use Rattle.names.specs.declared.part.Part.TheVariants.{Text}
use Rattle.model.specs.Values.{null, scalar, boolean, symbol}
use Rattle.reader.specs.Grammar.{l_null, l_true, l_false, l_symbol}
use Rattle.reader.proofs.Leaves.{bare_node}
use Rattle.reader.proofs.begin.word_content.Goals as goal
use Rattle.std.proofs.lemmas.Bool.Decides.{Decides-eqb}

pub returns-then-eq : goal.returns-then-eq
returns-then-eq c text pool h l e name = record {
  tree = null c.args.start;
  leaf = l_null ((slice_eq-Decides Decides-eqb _ c.as_slice.result.now c.eq.result c.eq.ensures).0 c.if-eq.true ∙ c.as_slice.ensures);
  node = bare_node text pool Null c.args.start (null c.args.start) refl refl refl refl refl tt refl name;
}

pub returns-then-eq-2 : goal.returns-then-eq-2
returns-then-eq-2 c text pool h l e name = record {
  tree = scalar c.args.start (boolean true);
  leaf = l_true ((slice_eq-Decides Decides-eqb _ c.as_slice-else-eq.result.now c.eq-else-eq.result c.eq-else-eq.ensures).0 c.if-eq-2.true ∙ c.as_slice-else-eq.ensures);
  node = bare_node text pool (Boolean true) c.args.start (scalar c.args.start (boolean true)) refl refl refl refl refl tt refl name;
}

pub returns-then-eq-3 : goal.returns-then-eq-3
returns-then-eq-3 c text pool h l e name = record {
  tree = scalar c.args.start (boolean false);
  leaf = l_false ((slice_eq-Decides Decides-eqb _ c.as_slice-else-eq-2.result.now c.eq-else-eq-2.result c.eq-else-eq-2.ensures).0 c.if-eq-3.true ∙ c.as_slice-else-eq-2.ensures);
  node = bare_node text pool (Boolean false) c.args.start (scalar c.args.start (boolean false)) refl refl refl refl refl tt refl name;
}

pub returns-else-eq-3 : goal.returns-else-eq-3
returns-else-eq-3 c text pool h l e name =
    record {
      tree = scalar c.args.start (symbol c.args.word.now);
      leaf = l_symbol
          (λ z. true≢false (sym ((slice_eq-Decides Decides-eqb _ c.as_slice.result.now c.eq.result c.eq.ensures).1 (z ∙ sym c.as_slice.ensures)) ∙ c.if-eq.false))
          (λ z. true≢false (sym ((slice_eq-Decides Decides-eqb _ c.as_slice-else-eq.result.now c.eq-else-eq.result c.eq-else-eq.ensures).1 (z ∙ sym c.as_slice-else-eq.ensures)) ∙ c.if-eq-2.false))
          (λ z. true≢false (sym ((slice_eq-Decides Decides-eqb _ c.as_slice-else-eq-2.result.now c.eq-else-eq-2.result c.eq-else-eq-2.ensures).1 (z ∙ sym c.as_slice-else-eq-2.ensures)) ∙ c.if-eq-3.false));
      node = bare_node text pool (Enum (Text c.args.start c.args.end)) c.args.start (scalar c.args.start (symbol c.args.word.now)) refl refl refl refl refl (h, l) (sym e) name;
    }
