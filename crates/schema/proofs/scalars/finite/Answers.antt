use Rattle.std.proofs.Common.{refl, ap, ◌∙◌, length, w32}
use Rattle.std.proofs.lemmas.Int.{to_z-of_z}
use Rattle.schema.specs.Ranges.{places_of}
use Rattle.schema.specs.declared.scalars.TheConstants.{FLOAT_BOUND}
use Rattle.schema.proofs.RangeLaws.{finite_at, finite_off, numeral_by}
use Rattle.schema.proofs.scalars.finite.Goals as goal

pub returns-then-places : goal.returns-then-places
returns-then-places c h =
    let e = c.places-places.ensures ∙ ap (λ x. places_of x (length c.args.digits.now)) (to_z-of_z w32 c.args.exponent c.ranges.exponent) in
    c.precedes.ensures ∙ finite_at FLOAT_BOUND.now refl (numeral_by _ _ refl) refl refl c.args.exponent c.args.digits.now c.places-places.result h e c.if-places.true

pub returns : goal.returns
returns c h =
    let e = c.places-places.ensures ∙ ap (λ x. places_of x (length c.args.digits.now)) (to_z-of_z w32 c.args.exponent c.ranges.exponent) in
    finite_off FLOAT_BOUND.now refl (numeral_by _ _ refl) refl refl c.args.exponent c.args.digits.now c.places-places.result h e c.if-places.false
