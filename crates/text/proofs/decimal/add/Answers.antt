use Rattle.std.proofs.Common.{◌<◌, ◌≤◌, length, vec_items, vec_capacity, ap, ◌∙◌, arith}
use Rattle.std.proofs.lemmas.List.{take_all}
use Rattle.text.proofs.NormValues.{pushed, skipped, filled_all, something_past, nothing_past}
use Rattle.text.proofs.decimal.add.Goals.{then-b-ne48, then-b-ne48-via-then-b-ne48, then-b-ne48-via-else-b-ne48+then-len-base, else-b-ne48+else-len-base}
use Rattle.text.proofs.decimal.add.Goals as goal

pub loop-b-preserved : goal.loop-b-preserved
loop-b-preserved c =
    let before = vec_items c.args.out.now in
    let ds = vec_items c.loop-b.out in
    let all = pushed c.args.base before ds (vec_items c.if-b-ne48.out) c.args.digits.now c.loop-b.b-index c.requires.above c.loop-b.invariant.0 c.loop-b-test.true in
    elim c.if-b-ne48.branch [
      | then-b-ne48 w ↦ (
        all (ap vec_items w.out-is ∙ w.push_reserved.ensures.items)
            (elim w.then-b-ne48.branch [
              | then-b-ne48-via-then-b-ne48 x ↦ λ e. x.if-b-ne48.true
              | then-b-ne48-via-else-b-ne48+then-len-base x ↦ λ e.
                  let more : c.args.base < length ds = omega (arith, x.if-len-base.true, x.len.ensures, c.loop-b.out.ok.0) in
                  absurd (something_past c.args.base ds more e)
            ]),
        ap vec_capacity w.out-is ∙ w.push_reserved.ensures.capacity ∙ c.loop-b.invariant.1,
      )
      | else-b-ne48+else-len-base w ↦
          let none : length ds ≤ c.args.base = omega (arith, w.if-len-base.false, w.len.ensures, c.loop-b.out.ok.0) in (
            skipped c.args.base before ds (vec_items c.if-b-ne48.out) c.args.digits.now c.loop-b.b-index c.loop-b.invariant.0 c.loop-b-test.true
                (ap vec_items w.out-is) w.if-b-ne48.false (nothing_past c.args.base ds none),
            ap vec_capacity w.out-is ∙ c.loop-b.invariant.1,
          )
    ]

pub returns-clause-grown : goal.returns-clause-grown
returns-clause-grown c = filled_all c.args.base (vec_items c.args.out.now) (vec_items c.loop-b.out) c.args.digits.now c.loop-b.b-index c.loop-b.invariant.0 (omega arith) (take_all c.loop-b.b-index c.args.digits.now c.loop-b-test.false)
