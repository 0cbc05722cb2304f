use Rattle.std.proofs.Common.{◌+◌, sym, subst, refl, List, ℕ, Option}
use Rattle.lookup.proofs.Probing.{Upto, upto_none, upto_vacant, upto_met}
use Rattle.lookup.proofs.index.numbered.Goals as goal
use Rattle.lookup.proofs.index.numbered.Goals.{in-Vacant, in_default-search}

pub loop-number-init : goal.loop-number-init
loop-number-init g c = upto_none g.row.SLOTS (g.L.Lookup.names c.args.inner.now) _ refl

pub loop-number-preserved : goal.loop-number-preserved
loop-number-preserved g c =
    let names = g.L.Lookup.names c.args.inner.now in
    let next : List (Option ℕ) → Type 0 = λ slots. Upto g.row.SLOTS names slots (c.loop-number.number + 1) in
    elim c.match-search.branch [
      | in-Vacant w ↦ subst next (sym w.slots-is) (upto_vacant g.row.SLOTS names c.loop-number.slots c.loop-number.number w.in-Vacant.slot c.in-Some.name.now c.loop-number.invariant (sym c.in-Some.ensures) (w.in-Vacant.ensures))
      | in_default-search w ↦ subst next (sym w.slots-is) (upto_met g.row.SLOTS names c.loop-number.slots c.loop-number.number c.in-Some.name.now c.search.result c.loop-number.invariant (sym c.in-Some.ensures) c.search.ensures w.in_default-search.not-Vacant)
    ]
