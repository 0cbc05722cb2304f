use Rattle.std.proofs.Common.{◌+◌, ◌≡◌, length, ap, sym, subst, refl, arith}
use Rattle.text.specs.declared.language.Language.TheVariants.{Json}
use Rattle.text.specs.declared.token.Lexeme.{Lexeme}
use Rattle.text.specs.Cuts.{part}
use Rattle.text.specs.TokenFound.{TokenAt, v_name}
use Rattle.text.proofs.Handed.{handed_on}
use Rattle.text.proofs.LexBase.{begins_fits}
use Rattle.text.proofs.LexTold.{found_here, none_here}
use Rattle.text.proofs.LexJson.{literal_here, no_literal, literal_some}
use Rattle.text.proofs.json.literal.Goals as goal

pub returns-in_err-name : goal.returns-in_err-name
returns-in_err-name c =
    let t = c.in_err-name.ensures in
    rw (handed_on c.from_residual.ensures.1, t.0) (none_here Json c.args.text.now c.args.start (no_literal c.args.text.now c.args.start c.args.word.now c.requires.within c.requires.word c.requires.first t.1))

pub returns : goal.returns
returns c =
    let t = c.in_ok-name.ensures in
    let e : c.in_ok-name.name.end ≡ c.args.start + length c.args.word.now = ap (λ (l : Lexeme). l.end) t.0 in
    let long = begins_fits c.args.text.now c.args.word.now c.args.start (literal_some c.requires.word) t.1 in
    let here = literal_here c.args.text.now c.args.start c.args.word.now c.requires.within c.requires.word c.requires.first t.1 long in
    found_here Json c.args.text.now c.args.start _ refl (subst (λ j. TokenAt Json c.args.text.now c.args.start j (v_name (part c.args.text.now c.args.start j))) (sym e) here) (omega (arith, literal_some c.requires.word))
