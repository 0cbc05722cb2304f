use Rattle.std.proofs.Common.{◌+◌, ◌-◌, ◌≡◌, get_or, arith}
use Rattle.std.proofs.lemmas.Str.{digit_value_digit}
use Rattle.std.proofs.lemmas.Str.Parse.{digit_from_value}
use Rattle.text.proofs.NormValues.{front_le, after_more}
use Rattle.text.proofs.decimal.size.Goals.{In_ok-value}
use Rattle.text.proofs.decimal.size.Goals as goal

-- a digit is worth what it is above 48
worth : (c : In_ok-value) → c.in_ok-value.field-0 ≡ get_or c.args.digits.now c.loop-b.b-index 0 - 48
worth c =
    let v = c.in_ok-value.ensures.value in
    omega (arith, v.1, c.from.ensures, digit_value_digit c.from.result (digit_from_value c.from.result v.0))

pub returns-then-value-ge-LONG_EXPONENT : goal.returns-then-value-ge-LONG_EXPONENT
returns-then-value-ge-LONG_EXPONENT c e =
    omega (arith, worth (goal.at.returns-then-value-ge-LONG_EXPONENT c).In_ok-value, c.loop-b.invariant.1, after_more 0 c.args.digits.now c.loop-b.b-index c.loop-b-test.true, front_le c.args.digits.now (c.loop-b.b-index + 1))

pub loop-b-preserved : goal.loop-b-preserved
loop-b-preserved c = (omega arith, omega (arith, worth (goal.at.loop-b-preserved c).In_ok-value, c.loop-b.invariant.1, after_more 0 c.args.digits.now c.loop-b.b-index c.loop-b-test.true))
