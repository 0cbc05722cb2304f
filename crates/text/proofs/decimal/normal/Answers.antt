use Rattle.std.proofs.Common.{◌≡◌, ℕ, ◌-◌, ◌<◌, Bool, List, length, drop, ℤ, nat_abs, vec_items, sym, ap, ◌∙◌, subst, arith, w32, SFits, to_z, of_z, rules}
use Rattle.std.proofs.lemmas.Int.{to_z-of_z}
use Rattle.std.proofs.lemmas.List.{take_rest}
use Rattle.text.proofs.Handed.{handed_on}
use Rattle.text.specs.NumberWorth.{after, Power, Writes}
use Rattle.text.specs.NormalForm.{Powered, Within, Grown, Trimmed}
use Rattle.text.proofs.NormSettle.{Aligned, aligned, amount_is, worth_is, Settled, settled, unadded, added_zero, added_some}
use Rattle.text.proofs.decimal.normal.Goals.{After-split-parts, In_ok-power, After-truncate}
use Rattle.text.proofs.decimal.normal.Goals as goal

align : (c : After-split-parts) (n : Bool) (a : ℕ) (s : ℤ) (w : Writes c.args.text.now n a s) → Aligned c.sign-negative.result.0 c.split-parts.result n w.i w.ds w.e
align c = aligned c.args.text.now c.sign-negative.result.0 c.sign-negative.result.1.now c.split-parts.result c.sign-negative.ensures c.split-parts.ensures

-- the exponent that is written
power_is : (c : In_ok-power) (n : Bool) (a : ℕ) (s : ℤ) (w : Writes c.args.text.now n a s) → Aligned c.sign-negative.result.0 c.split-parts.result n w.i w.ds w.e → (nat_abs c.in_ok-power.power < 1000000) × (c.in_ok-power.power ≡ w.p)
power_is c n a s w x =
    let t = subst (Powered c.split-parts.result.power.now) c.in_ok-power.ensures.ok_part c.power.ensures in
    (t.0, t.1 w.p (subst (λ (k : List ℕ). Power k w.p) (sym x.power) w.power))

within : (c : In_ok-power) (l : (n : Bool) (a : ℕ) (s : ℤ) (w : Writes c.args.text.now n a s) → Aligned c.sign-negative.result.0 c.split-parts.result n w.i w.ds w.e) → Within c.args.text.now
within c l = record {
  short = omega (arith, c.if-text-gt-LONGEST_NUMBER.false);
  small = λ n a s w. let t = power_is c n a s w (l n a s w) in subst (λ (k : ℤ). nat_abs k < 1000000) t.1 t.0;
}

place : (c : After-truncate) → Settled (vec_items c.args.out.now) (vec_items c.truncate.new.self) c.len-base.result (length c.trimmed-kept.result.now) (c.len.result - c.len-base.result - length c.trimmed-kept.result.now) (after (after 0 c.split-parts.result.whole.now) c.split-parts.result.places.now)
place c =
    settled (vec_items c.args.out.now) (vec_items c.add.new.out) (vec_items c.add-2.new.out) (vec_items c.truncate.new.self) _ _ c.trimmed-kept.result.now c.len-base.result _
    (c.len-base.ensures ∙ c.args.out.now.ok.0)
    (subst (λ (l : List ℕ). Grown c.len-base.result l (vec_items c.add.new.out) c.split-parts.result.whole.now) c.in_ok-reserve.ensures.items c.add.ensures.grown)
    c.add-2.ensures.grown
    c.split-parts.ensures.wholes
    c.split-parts.ensures.fracs
    (subst (λ (l : List ℕ). Trimmed (drop c.len-base.result l) c.trimmed-kept.result.now) c.as_slice.ensures.value (subst (λ (l : List ℕ). Trimmed l c.trimmed-kept.result.now) (take_rest c.as_slice.result.now c.len-base.result) c.trimmed-kept.ensures))
    c.truncate.ensures.items
    (ap (λ (k : ℕ). k - c.len-base.result - length c.trimmed-kept.result.now) (c.len.ensures ∙ c.add-2.new.out.ok.0))

pub returns-in_err-push : goal.returns-in_err-push
returns-in_err-push c =
    let at = goal.at.returns-in_err-push c in
    let start = unadded (vec_items c.args.out.now) (vec_items c.truncate.new.self) c.len-base.result (length c.trimmed-kept.result.now) _ _ (place at.After-truncate) c.if-kept-eq0.true in
    rw (handed_on c.from_residual-in_err-push.ensures.1) (record {
      kept = c.in_err-push.ensures.items ∙ start;
      full = omega (arith, c.in_err-push.ensures.full, c.truncate.new.self.ok.0, ap length start, c.truncate.ensures.capacity, c.add-2.ensures.room, c.add.ensures.room, c.in_ok-reserve.ensures.capacity);
      within = within at.In_ok-power (align at.After-split-parts);
    })

pub returns-then-kept-eq0 : goal.returns-then-kept-eq0
returns-then-kept-eq0 c =
    let at = goal.at.returns-then-kept-eq0 c in
    added_zero c.args.text.now (vec_items c.args.out.now) (vec_items c.push.new.self) (vec_items c.truncate.new.self) c.len-base.result (length c.trimmed-kept.result.now) _ _
    (place at.After-truncate) c.if-kept-eq0.true c.in_ok-push.ensures.items
    (within at.In_ok-power (align at.After-split-parts))
    (λ n a s w. amount_is w (align at.After-split-parts n a s w))

pub returns : goal.returns
returns c =
    let at = goal.at.returns c in
    let fit : SFits w32 c.exponent.result = search rules in
    let fit-power : SFits w32 c.in_ok-power.power = search rules in
    let x = to_z-of_z w32 c.exponent.result fit in
    let q = to_z-of_z w32 c.in_ok-power.power fit-power in
    let settle = place at.After-truncate in
    added_some c.args.text.now (vec_items c.args.out.now) (vec_items c.truncate.new.self) c.len-base.result (length c.trimmed-kept.result.now) _ _ c.sign-negative.result.0 _
    settle (omega (arith, c.if-kept-eq0.false))
    (within at.In_ok-power (align at.After-split-parts))
    (λ n a s w.
    let l = align at.After-split-parts n a s w in (
      l.minus,
      amount_is w l,
      worth_is a _ (c.len.result - c.len-base.result - length c.trimmed-kept.result.now) (length c.split-parts.result.places.now) (length w.ds) s w.p (to_z w32 (of_z w32 c.in_ok-power.power)) (to_z w32 (of_z w32 c.exponent.result)) (drop c.len-base.result (vec_items c.truncate.new.self))
          (amount_is w l) settle.left.worth w.scales
          (q ∙ (power_is at.In_ok-power n a s w l).1)
          (ap length l.places)
          (x ∙ c.exponent.ensures),
    ))
