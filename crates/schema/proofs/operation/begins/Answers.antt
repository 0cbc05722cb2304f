use Rattle.std.proofs.Common.{◌≡◌, ◌∙◌, ◌&&◌, Bool, true, false, sym, refl, ap, subst, Ok, arith}
use Rattle.std.proofs.lemmas.Bool.{not-true, not-false}
use Rattle.text.proofs.Handed.{handed_on}
use Rattle.text.specs.TokenFound.{view_of}
use Rattle.reader.specs.Tokens.{blind, sees}
use Rattle.reader.specs.Reading.{fails}
use Rattle.reader.proofs.Faults.{blames_all}
use Rattle.schema.specs.Outcomes.{Takes}
use Rattle.schema.specs.SchemaTold.{Open}
use Rattle.schema.specs.Told.{sights, is_token, the_token}
use Rattle.schema.proofs.Taking.{looked, token_same, token_other, expected, missed}
use Rattle.schema.proofs.operation.begins.Goals.{else-may_close-via-then-may_close+else-eq, else-may_close-via-else-may_close}
use Rattle.schema.proofs.operation.begins.Goals as goal

pub returns-in_err-token : goal.returns-in_err-token
returns-in_err-token c =
    let s = c.in_err-token.ensures.told in
    rw (handed_on c.from_residual.ensures.1)
    (blames_all (λ g. Open (is_token (view_of c.args.close)) c.args.may_close c.args.tokens.now × Takes (sights c.args.tokens.now) (the_token (view_of c.args.first)) c.args.tokens.now.at (fails g)) _ ((blind c.in_err-token.field-0.0, s, refl), (blind c.in_err-token.field-0.0, s, refl)))

both : (a b : Bool) → a ≡ false → a && b ≡ false
both a b h = ap (λ x. x && b) h

joined : (a b d : Bool) → a ≡ true → b ≡ d → a && b ≡ d
joined a b d h g = ap (λ x. x && b) h ∙ g

pub returns-then-ne : goal.returns-then-ne
returns-then-ne c =
    let l = c.in_ok-token.field-0 in
    let k = looked c.args.tokens.now (Ok l) c.in_ok-token.ensures.told c.in_ok-token.ensures.placed in
    let n : c.args.may_close && is_token (view_of c.args.close) k.lexed.token ≡ false = elim c.else-may_close.branch [ else-may_close-via-then-may_close+else-eq w ↦ joined _ _ false w.if-may_close.true (token_other k.lexed c.args.close c.requires.1 (sym w.eq.ensures ∙ w.if-eq.false)) | else-may_close-via-else-may_close w ↦ both _ _ w.if-may_close.false ] in
    ((sees l.start l.end k.lexed.token, k.seen, n), missed c.args.tokens.now c.args.tokens.now l k c.args.first c.requires.0 (not-true _ (sym c.ne.ensures ∙ c.if-ne.true)))

pub returns : goal.returns
returns c =
    let l = c.in_ok-token.field-0 in
    let k = looked c.args.tokens.now (Ok l) c.in_ok-token.ensures.told c.in_ok-token.ensures.placed in
    let n : c.args.may_close && is_token (view_of c.args.close) k.lexed.token ≡ false = elim c.else-may_close.branch [ else-may_close-via-then-may_close+else-eq w ↦ joined _ _ false w.if-may_close.true (token_other k.lexed c.args.close c.requires.1 (sym w.eq.ensures ∙ w.if-eq.false)) | else-may_close-via-else-may_close w ↦ both _ _ w.if-may_close.false ] in
    ((sees l.start l.end k.lexed.token, k.seen, n), expected c.args.tokens.now c.next.new.self l k c.args.first c.requires.0 (not-false _ (sym c.ne.ensures ∙ c.if-ne.false)) (omega arith) c.in_ok-token.ensures.text c.in_ok-token.ensures.at)

pub returns-then-eq : goal.returns-then-eq
returns-then-eq c =
    let l = c.in_ok-token.field-0 in
    let k = looked c.args.tokens.now (Ok l) c.in_ok-token.ensures.told c.in_ok-token.ensures.placed in
    record {
      start = l.start;
      token = k.lexed.token;
      seen = subst (λ e. sights c.args.tokens.now c.args.tokens.now.at (sees l.start e k.lexed.token)) (sym c.in_ok-token.ensures.at) k.seen;
      closes = joined _ _ true c.if-may_close.true (token_same k.lexed c.args.close c.requires.1 (sym c.eq.ensures ∙ c.if-eq.true));
      onward = (c.in_ok-token.ensures.text, omega (arith, k.onward (omega arith), k.lexed.ordered, c.in_ok-token.ensures.at));
    }
