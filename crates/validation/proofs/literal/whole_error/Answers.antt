use Rattle.std.proofs.Common.{◌≡◌, ◌*◌, pos, nat_lt, sym, subst, arith}
use Rattle.text.specs.NumberWorth.{value}
use Rattle.model.specs.Values.{float_d, whole}
use Rattle.model.specs.Numbers.{float_bound, digits_in}
use Rattle.model.specs.Checking.{kept_unless, float_coercion_error}
use Rattle.schema.specs.Ranges.{Numeral}
use Rattle.validation.specs.Literals.{Means, ErrorTold}
use Rattle.validation.proofs.Errors.{told_of, whole_numeral}
use Rattle.validation.proofs.literal.whole_error.Goals as goal

pub returns-in-Float : goal.returns-in-Float
returns-in-Float c d m w =
    let t = c.args.text.now in
    let e = subst (λ b. Means b d) c.in-Float.is m in
    let v = value (digits_in t) in
    let o : v * 1 ≡ v = omega arith in
    let n = subst (Numeral (pos 0)) (sym c.magnitude.ensures) (whole_numeral t w) in
    told_of d float_d (whole t) c.float_error.result e
    (subst (λ k. ErrorTold (kept_unless (nat_lt k float_bound) float_coercion_error) c.float_error.result) o (rw c.magnitude.ensures at (c.float_error.ensures n)))
