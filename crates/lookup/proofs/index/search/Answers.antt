use Rattle.std.proofs.Common.{◌≡◌, ◌%◌, ◌+◌, ◌^◌, ap, ◌∙◌, Some, sym}
use Rattle.lookup.specs.Slots.{at_slot, slot_at}
use Rattle.lookup.proofs.Probing.{has_named, has_other, passed_more}
use Rattle.lookup.proofs.index.search.Goals as goal

pub returns-in-Some : goal.returns-in-Some
returns-in-Some g c =
    let names = g.L.Lookup.names c.args.inner.now in (
      c.loop-step.step,
      c.loop-step-test.true,
      c.loop-step.invariant,
      ap (λ h. at_slot c.args.slots.now ((h + c.loop-step.step) % 2 ^ 64 % g.row.SLOTS)) (sym c.hash_of-hash.ensures) ∙ c.in-Some.is,
      has_named g.row.SLOTS names c.in-Some.number c.args.name.now (c.has.ensures.0 c.if-has.true),
    )

pub loop-step-preserved : goal.loop-step-preserved
loop-step-preserved g c =
    let names = g.L.Lookup.names c.args.inner.now in
    let is : at_slot c.args.slots.now (slot_at g.row.SLOTS c.args.name.now c.loop-step.step) ≡ Some c.in-Some.number =
    ap (λ h. at_slot c.args.slots.now ((h + c.loop-step.step) % 2 ^ 64 % g.row.SLOTS)) (sym c.hash_of-hash.ensures) ∙ c.in-Some.is in
    passed_more g.row.SLOTS names c.args.slots.now c.args.name.now c.loop-step.step c.in-Some.number c.loop-step.invariant is
    (has_other g.row.SLOTS names c.in-Some.number c.args.name.now c.has.result c.has.ensures.1 c.if-has.false (c.requires _ c.in-Some.number is).0)
