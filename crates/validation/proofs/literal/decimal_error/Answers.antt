use Rattle.std.proofs.Common.{subst, w32}
use Rattle.std.proofs.lemmas.Int.{to_z-of_z}
use Rattle.model.specs.Values.{float_d, decimal}
use Rattle.validation.specs.Literals.{Means}
use Rattle.validation.proofs.Errors.{told_of, decimal_numeral}
use Rattle.validation.proofs.literal.decimal_error.Goals as goal

pub returns-in-Float : goal.returns-in-Float
returns-in-Float c d n m f =
    told_of d float_d (decimal (record { negative = n; exponent = c.args.exponent; digits = c.args.digits.now })) c.float_error.result (subst (λ b. Means b d) c.in-Float.is m)
    ((rw (to_z-of_z w32 c.args.exponent c.ranges.exponent) at c.float_error.ensures) (decimal_numeral n c.args.exponent c.args.digits.now f))
