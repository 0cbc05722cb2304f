use Rattle.std.proofs.Common.{ℕ, refl, sym, ◌∙◌, subst, arith}
use Rattle.text.specs.TokenGrammar.{Structural, NumberFirst, true_name, false_name, null_name}
use Rattle.text.specs.declared.language.Language.TheVariants.{Json}
use Rattle.text.proofs.LexTold.{found_here, end_here as text_end, none_here, numeral_told, quoted_told}
use Rattle.text.proofs.LexJson.{end_here, mark_here, string_here, no_string, number_here, no_number, no_token}
use Rattle.text.proofs.json.token_at.Goals as goal

pub returns-in_default : goal.returns-in_default
returns-in_default c = rw c.end_at.ensures (text_end Json c.args.text.now c.args.start c.requires (end_here c.args.text.now c.args.start c.in_default.ensures.lookup.3 c.requires))

pub returns-in-Some-structural : goal.returns-in-Some-structural
returns-in-Some-structural c =
    let e = c.in-Some-structural.ensures in
    let b = c.in-Some.ensures.lookup.3 in
    let s = subst (λ (k : ℕ). Structural k e.0) (b.1 0) e.1 in
    rw c.mark.ensures (found_here Json c.args.text.now c.args.start _ refl (mark_here c.args.text.now c.args.start e.0 _ b.0 s e.2) (omega arith))

pub returns-then-begins_number : goal.returns-then-begins_number
returns-then-begins_number c =
    let b = c.in-Some.ensures.lookup.3 in
    let f = subst NumberFirst (b.1 0) c.if-begins_number.ensures in
    numeral_told Json c.args.text.now c.args.start (number_here c.args.text.now c.args.start) (no_number c.args.text.now c.args.start b.0 f) c.numeral.result c.numeral.ensures

pub literal-requires-clause-word : goal.literal-requires-clause-word
literal-requires-clause-word c = true_name

pub literal-requires-in-102-clause-word : goal.literal-requires-in-102-clause-word
literal-requires-in-102-clause-word c = false_name

pub literal-requires-in-110-clause-word : goal.literal-requires-in-110-clause-word
literal-requires-in-110-clause-word c = null_name

pub returns-in-34 : goal.returns-in-34
returns-in-34 c =
    let b = c.in-Some.ensures.lookup.3 in
    let q = sym (b.1 0) ∙ c.in-34.is in
    quoted_told Json c.args.text.now c.args.start (λ j p s. string_here c.args.text.now c.args.start j p b.0 q s) (no_string c.args.text.now c.args.start b.0 q) c.quoted.result c.quoted.ensures

pub returns-in_default-byte : goal.returns-in_default-byte
returns-in_default-byte c =
    let b = c.in-Some.ensures.lookup.3 in
    let e = b.1 0 in
    none_here Json c.args.text.now c.args.start (no_token c.args.text.now c.args.start b.0 (λ m s. c.in_default-structural.ensures m (subst (λ (k : ℕ). Structural k m) (sym e) s)) (omega arith) (λ f. c.if-begins_number.ensures (subst NumberFirst (sym e) f)) (omega arith) (omega arith) (omega arith))
