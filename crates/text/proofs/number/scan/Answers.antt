use Rattle.std.proofs.Common.{◌≡◌, ℕ, ◌+◌, length, sym, refl, ap, ◌∙◌, subst, inl, arith}
use Rattle.text.specs.declared.number.State.TheVariants.{Start}
use Rattle.text.specs.NumberMoves.{next, Finished}
use Rattle.text.specs.Cuts.{part}
use Rattle.text.proofs.ScanRuns.{byte_there, all_gone, begin, onward, endless, settled, Reached}
use Rattle.text.proofs.number.scan.Goals as goal

pub loop-taken-init : goal.loop-taken-init
loop-taken-init c =
    let none : c.args.at ≡ c.args.at + 0 = omega arith in
    subst (λ n. Reached c.args.text.now c.args.at n Start) none (begin c.args.text.now c.args.at)

pub returns-in_default : goal.returns-in_default
returns-in_default c =
    let b = byte_there c.args.text.now c.args.at c.min.result c.loop-taken.taken c.min.ensures c.loop-taken-test.true in
    settled c.loop-taken.state (record { reached = c.loop-taken.invariant; stop = λ h. ap (next c.loop-taken.state) (sym b.1) ∙ sym c.in_default.ensures }) c.finish.result c.finish.ensures

pub returns-then-taken-ge-LONGEST_NUMBER : goal.returns-then-taken-ge-LONGEST_NUMBER
returns-then-taken-ge-LONGEST_NUMBER c =
    let b = byte_there c.args.text.now c.args.at c.min.result c.loop-taken.taken c.min.ensures c.loop-taken-test.true in
    (refl, inl (endless c.loop-taken.invariant c.in-Some.next b.0 (ap (next c.loop-taken.state) (sym b.1) ∙ sym c.in-Some.ensures) (omega (arith, c.if-taken-ge-LONGEST_NUMBER.true))))

pub loop-taken-preserved : goal.loop-taken-preserved
loop-taken-preserved c =
    let b = byte_there c.args.text.now c.args.at c.min.result c.loop-taken.taken c.min.ensures c.loop-taken-test.true in
    let one : c.args.at + c.loop-taken.taken + 1 ≡ c.args.at + (c.loop-taken.taken + 1) = omega arith in
    subst (λ n. Reached c.args.text.now c.args.at n c.in-Some.next) one (onward c.loop-taken.invariant c.in-Some.next b.0 (ap (next c.loop-taken.state) (sym b.1) ∙ sym c.in-Some.ensures) (omega (arith, c.if-taken-ge-LONGEST_NUMBER.false)))

pub returns : goal.returns
returns c =
    let end : length (part c.args.text.now c.min.result (length c.args.text.now)) ≡ c.loop-taken.taken = omega (arith, c.loop-taken-test.false, c.loop-taken.auto.taken-end) in
    settled c.loop-taken.state (record { reached = c.loop-taken.invariant; stop = λ h. absurd (all_gone c.args.text.now c.args.at c.min.result c.min.ensures (omega (arith, end, h))) }) c.finish-2.result
    (subst (λ (n : ℕ). Finished c.loop-taken.state c.args.at (c.args.at + n) c.finish-2.result) end c.finish-2.ensures)
