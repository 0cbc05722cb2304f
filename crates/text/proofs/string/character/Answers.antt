use Rattle.std.proofs.Common.{◌+◌, ◌∙◌, sym, subst, arith}
use Rattle.std.proofs.lemmas.List.{drop_all}
use Rattle.text.specs.StringGrammar.{Utf8Char}
use Rattle.text.specs.StringDecode.{Exactly}
use Rattle.text.proofs.StrUtf8.{no_utf8, utf8_one}
use Rattle.text.proofs.string.character.Goals as goal

pub returns-in_err-byte : goal.returns-in_err-byte
returns-in_err-byte c = rw c.from_residual.ensures (λ y r u. no_utf8 (subst (λ l. Utf8Char l y r) (drop_all c.args.at c.args.text.now (omega (arith, c.in_err-byte.ensures.lookup.3))) u))

pub returns-in-0-to-127 : goal.returns-in-0-to-127
returns-in-0-to-127 c =
    let b = c.in_ok-byte.ensures.lookup.3 in
    subst (λ n. Exactly Utf8Char c.args.text.now c.args.at n (c.args.at + 1)) (sym (c.from.ensures ∙ b.1 0)) (utf8_one c.args.text.now c.args.at b.0 (omega (arith, b.1 0)))
