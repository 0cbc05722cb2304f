use Rattle.std.proofs.Common.{◌≡◌, ◌∙◌, ◌&&◌, Bool, true, false, sym, refl, ap, subst, Ok, arith}
use Rattle.text.proofs.Handed.{handed_on}
use Rattle.text.specs.TokenFound.{view_of}
use Rattle.reader.specs.Tokens.{blind, sees}
use Rattle.reader.specs.Reading.{fails}
use Rattle.reader.proofs.Faults.{blames_all}
use Rattle.schema.specs.Outcomes.{Takes, any_name}
use Rattle.schema.specs.SchemaTold.{Open}
use Rattle.schema.specs.Told.{sights, is_token}
use Rattle.schema.proofs.Taking.{looked, token_same, token_other, named_token, no_name_token}
use Rattle.schema.proofs.document.item_name.Goals.{else-may_close-via-then-may_close+else-eq, else-may_close-via-else-may_close}
use Rattle.schema.proofs.document.item_name.Goals as goal

pub returns-in_err-token : goal.returns-in_err-token
returns-in_err-token c =
    let s = c.in_err-token.ensures.told in
    rw (handed_on c.from_residual.ensures.1)
    (blames_all (λ g. Open (is_token (view_of c.args.close)) c.args.may_close c.args.tokens.now × Takes (sights c.args.tokens.now) any_name c.args.tokens.now.at (fails g)) _ ((blind c.in_err-token.field-0.0, s, refl), (blind c.in_err-token.field-0.0, s, refl)))

both : (a b : Bool) → a ≡ false → a && b ≡ false
both a b h = ap (λ x. x && b) h

second : (a b : Bool) → a ≡ true → b ≡ false → a && b ≡ false
second a b h g = ap (λ x. x && b) h ∙ g

third : (a b : Bool) → a ≡ true → b ≡ true → a && b ≡ true
third a b h g = ap (λ x. x && b) h ∙ g

pub returns-in_default : goal.returns-in_default
returns-in_default c =
    let l = c.in_ok-token.field-0 in
    let k = looked c.args.tokens.now (Ok l) c.in_ok-token.ensures.told c.in_ok-token.ensures.placed in
    let n : c.args.may_close && is_token (view_of c.args.close) k.lexed.token ≡ false = elim c.else-may_close.branch [ else-may_close-via-then-may_close+else-eq w ↦ second _ _ w.if-may_close.true (token_other k.lexed c.args.close c.requires (sym w.eq.ensures ∙ w.if-eq.false)) | else-may_close-via-else-may_close w ↦ both _ _ w.if-may_close.false ] in
    ((sees l.start l.end k.lexed.token, k.seen, n), no_name_token c.args.tokens.now l k c.in_default.not-Name)

pub returns : goal.returns
returns c =
    let l = c.in_ok-token.field-0 in
    let k = looked c.args.tokens.now (Ok l) c.in_ok-token.ensures.told c.in_ok-token.ensures.placed in
    let n : c.args.may_close && is_token (view_of c.args.close) k.lexed.token ≡ false = elim c.else-may_close.branch [ else-may_close-via-then-may_close+else-eq w ↦ second _ _ w.if-may_close.true (token_other k.lexed c.args.close c.requires (sym w.eq.ensures ∙ w.if-eq.false)) | else-may_close-via-else-may_close w ↦ both _ _ w.if-may_close.false ] in
    ((sees l.start l.end k.lexed.token, k.seen, n), named_token c.args.tokens.now c.next.new.self l k _ _ c.in-Name.is refl (omega arith) c.in_ok-token.ensures.text c.in_ok-token.ensures.at)

pub returns-then-eq : goal.returns-then-eq
returns-then-eq c =
    let l = c.in_ok-token.field-0 in
    let k = looked c.args.tokens.now (Ok l) c.in_ok-token.ensures.told c.in_ok-token.ensures.placed in
    record {
      start = l.start;
      token = k.lexed.token;
      seen = subst (λ e. sights c.args.tokens.now c.args.tokens.now.at (sees l.start e k.lexed.token)) (sym c.in_ok-token.ensures.at) k.seen;
      closes = third _ _ c.if-may_close.true (token_same k.lexed c.args.close c.requires (sym c.eq.ensures ∙ c.if-eq.true));
      onward = (c.in_ok-token.ensures.text, omega (arith, k.onward (omega arith), k.lexed.ordered, c.in_ok-token.ensures.at));
    }
