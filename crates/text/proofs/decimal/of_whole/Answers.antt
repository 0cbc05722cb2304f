use Rattle.std.proofs.Common.{◌≡◌, ◌-◌, ◌<◌, [], length, replicate, pos, sym, append-nil, arith, w32, to_z, rules}
use Rattle.std.proofs.lemmas.Int.{ints}
use Rattle.text.proofs.NormCuts.{minus_shorter}
use Rattle.text.proofs.NormLaws.{of_whole_told, of_whole_zero, of_whole_some}
use Rattle.text.proofs.decimal.of_whole.Goals as goal

pub returns-then-is_empty : goal.returns-then-is_empty
returns-then-is_empty c =
    let none : length c.trimmed-kept.result.now ≡ 0 = search rules in
    of_whole_told c.args.text.now c.sign-negative.result.1.now c.sign-negative.result.1.now [] c.sign-negative.result.0 _ c.sign-negative.ensures (sym (append-nil _)) c.if-text-gt-LONGEST_NUMBER.false
    (of_whole_zero c.args.text.now c.sign-negative.result.0 c.sign-negative.result.1.now c.trimmed-kept.result.now c.sign-negative.ensures c.trimmed-kept.ensures none)

pub returns : goal.returns
returns c =
    let some : 0 < length c.trimmed-kept.result.now = search rules in
    let less = minus_shorter c.args.text.now c.sign-negative.result.1.now c.sign-negative.result.0 c.sign-negative.ensures in
    let zeros = length c.sign-negative.result.1.now - length c.trimmed-kept.result.now in
    let size : to_z w32 zeros ≡ pos zeros = omega (arith, ints, c.if-text-gt-LONGEST_NUMBER.false) in
    of_whole_told c.args.text.now c.sign-negative.result.1.now c.trimmed-kept.result.now (replicate zeros 48) c.sign-negative.result.0 _ c.sign-negative.ensures c.trimmed-kept.ensures.zeros c.if-text-gt-LONGEST_NUMBER.false
    (of_whole_some c.args.text.now c.sign-negative.result.0 c.sign-negative.result.1.now c.trimmed-kept.result.now _ c.sign-negative.ensures c.trimmed-kept.ensures some size)
