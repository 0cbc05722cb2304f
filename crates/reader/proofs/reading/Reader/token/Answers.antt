use Rattle.std.proofs.Common.{sym, ◌∙◌, subst}
use Rattle.text.specs.declared.language.Language.{Language}
use Rattle.text.specs.declared.language.Language.TheVariants.{Json, Graphql}
use Rattle.reader.specs.Told.{LookTold}
use Rattle.reader.proofs.Leaves.{look_of}
use Rattle.reader.proofs.reading.Reader.token.Goals as goal

pub returns-in-Json : goal.returns-in-Json
returns-in-Json g c =
    subst (λ (l : Language). LookTold l c.args.self.text.now c.args.at c.token.result) (sym c.in-Json.is ∙ c.LANGUAGE.ensures)
    (look_of Json c.args.self.text.now c.args.at c.token.result c.token.ensures.found c.token.ensures.placed)

pub returns-in-Graphql : goal.returns-in-Graphql
returns-in-Graphql g c =
    subst (λ (l : Language). LookTold l c.args.self.text.now c.args.at c.token-in-Graphql.result) (sym c.in-Graphql.is ∙ c.LANGUAGE.ensures)
    (look_of Graphql c.args.self.text.now c.args.at c.token-in-Graphql.result c.token-in-Graphql.ensures.found c.token-in-Graphql.ensures.placed)
