use Rattle.std.proofs.Common.{◌≡◌, true, false, sym, refl, ◌∙◌, subst, arith, rules}
use Rattle.text.proofs.Handed.{handed_on}
use Rattle.text.specs.declared.language.Language.{Language}
use Rattle.text.specs.contracts.token.TokenPartialEq.TheImpl as token_eq
use Rattle.text.specs.declared.token.Token.TheVariants.{Comma}
use Rattle.text.specs.TokenGrammar.{comma}
use Rattle.reader.specs.Tokens.{sees, blind}
use Rattle.reader.specs.Reading.{turn, again, halts}
use Rattle.text.specs.declared.fault.Fault.TheVariants.{BadText}
use Rattle.reader.proofs.TokenKinds.{marked, unmarked, mark_some, turn_closes, turn_goes, turn_comma, turn_bad, turn_blind}
use Rattle.reader.proofs.reading.Reader.step.Goals as goal

pub returns-in_err-lexeme : goal.returns-in_err-lexeme
returns-in_err-lexeme g c m h =
    rw (handed_on c.from_residual.ensures.1) (blind c.in_err-lexeme.field-0.0, c.in_err-lexeme.ensures, turn_blind g.W.Written.LANGUAGE m c.args.at _)

pub returns-then-eq : goal.returns-then-eq
returns-then-eq g c m h =
    let k = c.in_ok-lexeme.ensures in
    let l = c.in_ok-lexeme.lexeme in
    let e = sym c.eq.ensures ∙ c.if-eq.true in (
      sees l.start l.end k.lexed.token,
      k.seen,
      (turn_closes g.W.Written.LANGUAGE m c.args.at l.start l.end k.lexed.token (marked k.lexed c.args.closing m h e), omega (arith, k.onward c.requires, mark_some k.lexed c.args.closing m h e), k.lexed.within),
    )

pub returns-in-Graphql : goal.returns-in-Graphql
returns-in-Graphql g c m h =
    let k = c.in_ok-lexeme.ensures in
    let l = c.in_ok-lexeme.lexeme in
    let x = k.lexed.token in
    let y = unmarked k.lexed c.args.closing m h (sym c.eq.ensures ∙ c.if-eq.false) in (
      sees l.start l.end x,
      k.seen,
      (
        subst (λ (y : Language). turn y m c.args.at (sees l.start l.end x) ≡ again c.args.at) (sym c.in-Graphql.is ∙ c.LANGUAGE.ensures) (turn_goes m c.args.at l.start l.end x y),
        omega arith,
        c.requires,
      ),
    )

pub returns-in-Json : goal.returns-in-Json
returns-in-Json g c m h =
    let k = c.in_ok-lexeme.ensures in
    let l = c.in_ok-lexeme.lexeme in
    let x = k.lexed.token in
    let y = unmarked k.lexed c.args.closing m h (sym c.eq.ensures ∙ c.if-eq.false) in
    let z : token_eq.ghosts.eq l.token Comma ≡ true = search rules in (
      sees l.start l.end x,
      k.seen,
      (
        subst (λ (y : Language). turn y m c.args.at (sees l.start l.end x) ≡ again l.end) (sym c.in-Json.is ∙ c.LANGUAGE.ensures) (turn_comma m c.args.at l.start l.end x y (marked k.lexed Comma comma refl z)),
        omega (arith, k.onward c.requires, k.lexed.ordered),
        k.lexed.within,
      ),
    )

pub returns-in-Json-2 : goal.returns-in-Json-2
returns-in-Json-2 g c m h =
    let k = c.in_ok-lexeme.ensures in
    let l = c.in_ok-lexeme.lexeme in
    let x = k.lexed.token in
    let y = unmarked k.lexed c.args.closing m h (sym c.eq.ensures ∙ c.if-eq.false) in
    let z : token_eq.ghosts.eq l.token Comma ≡ false = search rules in (
      sees l.start l.end x,
      k.seen,
      subst (λ (y : Language). turn y m c.args.at (sees l.start l.end x) ≡ halts (BadText l.start)) (sym c.in-Json-2.is ∙ c.LANGUAGE.ensures) (turn_bad m c.args.at l.start l.end x y (unmarked k.lexed Comma comma refl z)),
    )
