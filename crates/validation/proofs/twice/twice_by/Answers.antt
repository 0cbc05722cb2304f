use Rattle.std.proofs.Common.{◌+◌, ℕ, map, take, Option, true≢false, sym, ◌∙◌, subst}
use Rattle.validation.specs.Making.{FirstFault, Twice}
use Rattle.validation.specs.Places.{labelled}
use Rattle.validation.proofs.Twices.{record_more, record_same}
use Rattle.validation.proofs.twice.twice_by.Goals as goal
use Rattle.validation.proofs.twice.twice_by.Goals.{then-not-is_at, else-not-is_at}

pub loop-number-preserved : goal.loop-number-preserved
loop-number-preserved g c =
    let called = g.R.Named.called in
    let at = g.R.Placed.at in
    let rs = c.args.records.now in
    let i = c.loop-number.number in
    let x = c.index-records-number.result in
    let names = g.L.Lookup.names c.args.names.now in
    let next : Option ℕ → Type 0 = FirstFault (Twice (take (i + 1) (map (λ r. labelled (called r) (at r)) rs))) in
    elim c.if-not-is_at.branch [
      | then-not-is_at w ↦ subst next (sym (w.first-is ∙ w.lesser-first.ensures))
          (record_more called at rs i x c.loop-number-test.true c.index-records-number.is names c.requires c.name.result.now c.name.ensures c.find.result c.find.ensures.first
          c.loop-number.first w.place.result w.place.ensures c.loop-number.invariant (λ e. true≢false (sym (c.is_at.ensures.1 e) ∙ w.if-not-is_at.true)))
      | else-not-is_at w ↦ subst next (sym w.first-is)
          (record_same called at rs i x c.loop-number-test.true c.index-records-number.is names c.requires c.name.result.now c.name.ensures c.find.result c.find.ensures.first
          c.loop-number.first c.loop-number.invariant (c.is_at.ensures.0 w.if-not-is_at.false))
    ]
