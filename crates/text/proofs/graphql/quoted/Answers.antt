use Rattle.std.proofs.Common.{[], ◌∷◌, ◌+◌, drop}
use Rattle.text.specs.declared.language.Language.TheVariants.{Graphql}
use Rattle.text.proofs.LexBase.{begins, begins_not}
use Rattle.text.proofs.LexTold.{none_here, quoted_told}
use Rattle.text.proofs.LexGraphql.{string_here, no_string, no_block}
use Rattle.text.proofs.graphql.quoted.Goals as goal

pub returns-then-starts_with : goal.returns-then-starts_with
returns-then-starts_with c =
    none_here Graphql c.args.text.now c.args.start
    (no_block c.args.text.now c.args.start (drop (c.args.start + 3) c.args.text.now) (begins c.args.text.now (34 ∷ 34 ∷ 34 ∷ []) c.args.start c.starts_with.ensures.value c.if-starts_with.true))

pub returns : goal.returns
returns c =
    quoted_told Graphql c.args.text.now c.args.start
    (λ j p s. string_here c.args.text.now c.args.start j p c.requires.0 c.requires.1 (begins_not c.args.text.now (34 ∷ 34 ∷ 34 ∷ []) c.args.start c.starts_with.ensures.value c.if-starts_with.false) s)
    (no_string c.args.text.now c.args.start c.requires.0 c.requires.1) c.quoted.result c.quoted.ensures
