use Rattle.std.proofs.Common.{◌≡◌, vec_items, subst, arith}
use Rattle.text.proofs.Handed.{handed_on}
use Rattle.text.specs.declared.fault.Fault.TheVariants.{BadText}
use Rattle.text.specs.StringDecode.{Told}
use Rattle.text.specs.StringGrammar.{Char}
use Rattle.text.proofs.StrRuns.{add_start, add_more, add_all, add_bad, so_far}
use Rattle.text.proofs.string.add.Goals as goal

pub loop-at-init : goal.loop-at-init
loop-at-init c = add_start c.args.language c.args.raw.now (vec_items c.args.out.now)

pub returns-in_err-c : goal.returns-in_err-c
returns-in_err-c c =
    let n = subst (Told (Char c.args.language) c.args.raw.now c.loop-at.at) c.in_err-c.ensures.ok_part c.next.ensures in
    let f : c.in_err-c.field-0.0 ≡ BadText c.loop-at.at = grind (arith, c.in_err-c.ensures.value, c.in_err-c.ensures.ok_part) in
    rw (handed_on c.from_residual.ensures.1, f) (add_bad c.loop-at.invariant c.loop-at-test.true n, so_far c.loop-at.invariant)

pub loop-at-preserved : goal.loop-at-preserved
loop-at-preserved c =
    let x = subst (Told (Char c.args.language) c.args.raw.now c.loop-at.at) c.in_ok-c.ensures.ok_part c.next.ensures in
    add_more c.loop-at.invariant x c.in_ok-put.ensures

pub returns : goal.returns
returns c = add_all c.loop-at.invariant c.loop-at-test.false
