use Rattle.std.proofs.Common.{◌≤◌, sym, subst, inl, inr, ⊎_elim, arith}
use Rattle.std.proofs.lemmas.List.{take_rest}
use Rattle.text.specs.StringDecode.{Exactly}
use Rattle.text.specs.StringGrammar.{Code, Low}
use Rattle.text.proofs.StrCodes.{code_lone, code_low, code_no_low, code_pair}
use Rattle.text.proofs.StrHexes.{exactly_at}
use Rattle.text.proofs.string.unicode.Goals as goal

pub returns-in-Some : goal.returns-in-Some
returns-in-Some c =
    let k = c.in-Some.ensures in
    subst (λ n. Exactly Code c.args.text.now 0 n 4) (sym k.value.1) (code_lone c.in_ok-high.ensures.1 (⊎_elim (λ a. inl a) (λ b. inr (omega arith)) k.cases))

pub returns-then-high-ge-FIRST_LOW : goal.returns-then-high-ge-FIRST_LOW
returns-then-high-ge-FIRST_LOW c =
    let top : c.in_ok-high.high ≤ 57343 = ⊎_elim (λ a. omega arith) (λ b. omega (arith, c.in_ok-high.ensures)) c.in_default.ensures.cases in
    code_low c.in_ok-high.ensures.1 (omega arith) top

pub returns-in_err-low : goal.returns-in_err-low
returns-in_err-low c =
    let least : 55296 ≤ c.in_ok-high.high = ⊎_elim (λ a. omega arith) (λ b. omega arith) c.in_default.ensures.cases in
    rw c.from_residual-in_err-low.ensures (code_no_low c.in_ok-high.ensures.1 least (omega arith) (λ y r l. c.in_err-low.ensures y r (subst (λ k. Low k y r) (sym (take_rest c.args.text.now 4)) l)))

pub returns : goal.returns
returns c =
    let least : 55296 ≤ c.in_ok-high.high = ⊎_elim (λ a. omega arith) (λ b. omega arith) c.in_default.ensures.cases in
    subst (λ n. Exactly Code c.args.text.now 0 n 10) (sym c.in_ok-c.ensures.value.1)
    (code_pair c.in_ok-high.ensures.1 (least, omega arith) (exactly_at Low c.args.text.now 4 (take_rest c.args.text.now 4) c.in_ok-low.ensures.0))
