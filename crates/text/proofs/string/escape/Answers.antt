use Rattle.std.proofs.Common.{◌+◌, None, Some, sym, subst, ◌∙◌, ⊎_elim, arith, rules}
use Rattle.text.specs.StringDecode.{Exactly}
use Rattle.text.specs.StringGrammar.{Code, Escape, quote, backslash, slash, backspace, form_feed, line_feed, carriage_return, tab}
use Rattle.std.proofs.lemmas.List.{take_rest}
use Rattle.text.proofs.StrHexes.{exactly_at}
use Rattle.text.proofs.StrChars.{escape_end, escape_short, escape_u, escape_other}
use Rattle.text.proofs.string.escape.Goals as goal

pub returns-in_err-letter : goal.returns-in_err-letter
returns-in_err-letter c = rw c.from_residual.ensures (escape_end c.args.text.now c.args.at c.in_err-letter.ensures.lookup.3)

pub returns-in-34 : goal.returns-in-34
returns-in-34 c =
    let b = c.in_ok-letter.ensures.lookup.3 in
    let e = sym (b.1 0) in
    subst (λ n. Exactly Escape c.args.text.now c.args.at n (c.args.at + 1)) (sym c.from.ensures)
    (⊎_elim (λ h. subst (λ n. Exactly Escape c.args.text.now c.args.at n (c.args.at + 1)) (sym h) (escape_short c.args.text.now c.args.at b.0 (e ∙ h) quote))
    (⊎_elim (λ h. subst (λ n. Exactly Escape c.args.text.now c.args.at n (c.args.at + 1)) (sym h) (escape_short c.args.text.now c.args.at b.0 (e ∙ h) slash))
    (λ h. subst (λ n. Exactly Escape c.args.text.now c.args.at n (c.args.at + 1)) (sym h) (escape_short c.args.text.now c.args.at b.0 (e ∙ h) backslash))) c.in-34.is)

pub returns-in-98 : goal.returns-in-98
returns-in-98 c = let b = c.in_ok-letter.ensures.lookup.3 in escape_short c.args.text.now c.args.at b.0 (sym (b.1 0) ∙ c.in-98.is) backspace

pub returns-in-102 : goal.returns-in-102
returns-in-102 c = let b = c.in_ok-letter.ensures.lookup.3 in escape_short c.args.text.now c.args.at b.0 (sym (b.1 0) ∙ c.in-102.is) form_feed

pub returns-in-110 : goal.returns-in-110
returns-in-110 c = let b = c.in_ok-letter.ensures.lookup.3 in escape_short c.args.text.now c.args.at b.0 (sym (b.1 0) ∙ c.in-110.is) line_feed

pub returns-in-114 : goal.returns-in-114
returns-in-114 c = let b = c.in_ok-letter.ensures.lookup.3 in escape_short c.args.text.now c.args.at b.0 (sym (b.1 0) ∙ c.in-114.is) carriage_return

pub returns-in-116 : goal.returns-in-116
returns-in-116 c = let b = c.in_ok-letter.ensures.lookup.3 in escape_short c.args.text.now c.args.at b.0 (sym (b.1 0) ∙ c.in-116.is) tab

pub returns-in_err-c-in-117 : goal.returns-in_err-c-in-117
returns-in_err-c-in-117 c =
    let b = c.in_ok-letter.ensures.lookup.3 in
    let n = c.in_err-c-in-117.ensures in
    rw c.from_residual-in_err-c-in-117.ensures (escape_u c.args.text.now c.args.at b.0 (sym (b.1 0) ∙ c.in-117.is) None (λ y r x. n y r (subst (λ l. Code l y r) (sym (take_rest c.args.text.now (c.args.at + 1))) x)))

pub returns-in_ok-c-in-117 : goal.returns-in_ok-c-in-117
returns-in_ok-c-in-117 c =
    let b = c.in_ok-letter.ensures.lookup.3 in
    escape_u c.args.text.now c.args.at b.0 (sym (b.1 0) ∙ c.in-117.is) (Some (c.in_ok-c-in-117.c, c.args.at + 1 + c.in_ok-c-in-117.size)) (exactly_at Code c.args.text.now (c.args.at + 1) (take_rest c.args.text.now (c.args.at + 1)) c.in_ok-c-in-117.ensures)

pub returns-in_default : goal.returns-in_default
returns-in_default c =
    let b = c.in_ok-letter.ensures.lookup.3 in
    escape_other c.args.text.now c.args.at b.0 _ (sym (b.1 0)) (search rules) (search rules) (search rules) (omega arith) (omega arith) (omega arith) (omega arith) (omega arith) (omega arith)
