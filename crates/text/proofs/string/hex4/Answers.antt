use Rattle.std.proofs.Common.{arith}
use Rattle.text.proofs.StrHexes.{digit_fails, digits_stand}
use Rattle.text.proofs.string.hex4.Goals as goal

pub returns-in_err-a-2 : goal.returns-in_err-a-2
returns-in_err-a-2 c = rw c.from_residual-in_err-a-2.ensures (digit_fails c.in_ok-a.ensures.cases (λ p q s t. omega (arith, c.in_err-a-2.ensures)))

pub returns-in_err-b : goal.returns-in_err-b
returns-in_err-b c = rw c.from_residual-in_err-b.ensures (digit_fails c.in_ok-a.ensures.cases (λ p q s t. omega (arith, c.in_err-b.ensures)))

pub returns-in_err-c : goal.returns-in_err-c
returns-in_err-c c = rw c.from_residual-in_err-c.ensures (digit_fails c.in_ok-a.ensures.cases (λ p q s t. omega (arith, c.in_err-c.ensures)))

pub returns-in_err-d : goal.returns-in_err-d
returns-in_err-d c = rw c.from_residual-in_err-d.ensures (digit_fails c.in_ok-a.ensures.cases (λ p q s t. omega (arith, c.in_err-d.ensures)))

pub returns : goal.returns
returns c =
    let a = c.in_ok-a-2.ensures in
    let b = c.in_ok-b.ensures in
    let d = c.in_ok-c.ensures in
    let e = c.in_ok-d.ensures in (
      omega (arith, a.1, b.1, d.1, e.1),
      digits_stand c.in_ok-a.ensures.cases _ _ _ _ a.0 b.0 d.0 e.0 a.1 b.1 d.1 e.1,
    )
