use Rattle.std.proofs.Common.{rules, ◌∙◌, sym}
use Rattle.std.proofs.lemmas.List.{take_rest}
use Rattle.text.proofs.StrUtf8.{no_decoded, decoded_here}
use Rattle.text.proofs.string.decoded.Goals as goal

pub returns-in_err-c : goal.returns-in_err-c
returns-in_err-c c = rw c.from_residual.ensures (no_decoded c.args.text.now c.args.at _ (take_rest c.args.text.now c.args.at) (sym c.decode-c.ensures.char ∙ c.in_err-c.was))

pub overflow_add-result : goal.overflow_add-result
overflow_add-result c =
    let h = (decoded_here c.args.text.now c.args.at _ (take_rest c.args.text.now c.args.at) c.in_ok-c.field-0 (sym c.decode-c.ensures.char ∙ c.in_ok-c.was)).within in
    rw c.decode-c.ensures.size (search rules)

pub returns : goal.returns
returns c = rw c.decode-c.ensures.size (decoded_here c.args.text.now c.args.at _ (take_rest c.args.text.now c.args.at) c.in_ok-c.field-0 (sym c.decode-c.ensures.char ∙ c.in_ok-c.was))
