use Rattle.std.proofs.Common.{◌∙◌, refl, subst, arith}
use Rattle.text.proofs.Handed.{handed_on}
use Rattle.text.specs.TokenGrammar.{colon}
use Rattle.reader.proofs.Faults.{blames_map}
use Rattle.reader.specs.Reading.{got, fails}
use Rattle.schema.specs.Declarations.{ReadsDeclared, ReadsDefault}
use Rattle.schema.specs.Holds.{DefaultHeld}
use Rattle.source.specs.Table.{table_of}
use Rattle.schema.specs.Outcomes.{Takes, the_mark}
use Rattle.schema.specs.Told.{sights}
use Rattle.schema.specs.Types.{ReadsType}
use Rattle.schema.proofs.Seeing.{read_in}
use Rattle.schema.proofs.declaration.declared.Goals as goal

pub returns-in_err-expect-clause-told : goal.returns-in_err-expect-clause-told
returns-in_err-expect-clause-told c l =
    let t = c.args.tokens.now in
    rw (handed_on c.from_residual.ensures.1)
    (blames_map (λ g. Takes (sights t) (the_mark colon) t.at (fails g)) (λ g. ReadsDeclared (sights t) l t.at (fails g)) (λ f h. (fails f, h, refl)) _ (c.in_err-expect.ensures.told tt))

pub returns-in_err-ty-clause-told : goal.returns-in_err-ty-clause-told
returns-in_err-ty-clause-told c l =
    let t = c.args.tokens.now in
    let u = c.expect.new.self in
    let x = c.in_ok-expect.ensures.told tt in
    rw (handed_on c.from_residual-in_err-ty.ensures.1)
    (blames_map (λ g. ReadsType (sights u) 8 u.at (fails g)) (λ g. ReadsDeclared (sights t) l t.at (fails g))
    (λ f h. (got u.at x.value, x.reads, (fails f, read_in (λ N. ReadsType N 8) t u u.at (fails f) x.onward.0 h, refl)))
    _ c.in_err-ty.ensures.told)

pub returns-in_err-default-clause-told : goal.returns-in_err-default-clause-told
returns-in_err-default-clause-told c l =
    let t = c.args.tokens.now in
    let u = c.expect.new.self in
    let v = c.read_type.new.tokens in
    let x = c.in_ok-expect.ensures.told tt in
    let y = c.in_ok-ty.ensures.told in
    rw (handed_on c.from_residual-in_err-default.ensures.1)
    (blames_map (λ g. ReadsDefault (sights v) v.at (fails g)) (λ g. ReadsDeclared (sights t) l t.at (fails g))
    (λ f h. (got u.at x.value, x.reads, (got v.at y.value, read_in (λ N. ReadsType N 8) t u u.at _ x.onward.0 y.reads, (fails f, read_in ReadsDefault t v v.at (fails f) (y.onward.0 ∙ x.onward.0) h, refl))))
    _ c.in_err-default.ensures.told)

pub returns-clause-told : goal.returns-clause-told
returns-clause-told c l =
    let t = c.args.tokens.now in
    let u = c.expect.new.self in
    let v = c.read_type.new.tokens in
    let w = c.default_value.new.tokens in
    let x = c.in_ok-expect.ensures.told tt in
    let y = c.in_ok-ty.ensures.told in
    let z = c.in_ok-default.ensures.told in
    record {
      value = record { label = l; typed = y.value; dflt = z.value };
      reads = (
        got u.at x.value,
        x.reads,
        (got v.at y.value, read_in (λ N. ReadsType N 8) t u u.at _ x.onward.0 y.reads, (got w.at z.value, read_in ReadsDefault t v v.at _ (y.onward.0 ∙ x.onward.0) z.reads, refl)),
      );
      means = record { label = refl; typed = y.means; default = subst (λ text. DefaultHeld (table_of text c.default_value.new.nodes) c.in_ok-default.default z.value) (y.onward.0 ∙ x.onward.0) z.means };
      onward = (z.onward.0 ∙ y.onward.0 ∙ x.onward.0, omega (arith, z.onward.1, y.onward.1, x.onward.1));
    }
