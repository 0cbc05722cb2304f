use Rattle.std.proofs.Common.{◌≡◌, ◌+◌, ◌-◌, ◌∙◌, false, [], ◌∷◌, sym, refl, subst, arith, length-set}
use Rattle.text.proofs.Handed.{handed_on}
use Rattle.text.specs.declared.language.Language.TheVariants.{Graphql}
use Rattle.text.specs.TokenGrammar.{close_bracket}
use Rattle.reader.proofs.Faults.{blames_map}
use Rattle.reader.proofs.RdSights.{one_sight}
use Rattle.reader.specs.Reading.{fails}
use Rattle.schema.specs.Outcomes.{Takes, any_name, the_mark}
use Rattle.schema.specs.Told.{sights}
use Rattle.schema.specs.Types.{ReadsType}
use Rattle.schema.specs.TypeTold.{ReadsBang}
use Rattle.schema.proofs.Seeing.{read_in, itself}
use Rattle.schema.proofs.TypeSteps.{Outer, kept, inner_fails, no_name, outer_start, name_bang_fails, level_closes, level_fails, level_bang_fails}
use Rattle.schema.proofs.types.read_type.Goals as goal

pub returns-in_err-name-clause-told : goal.returns-in_err-name-clause-told
returns-in_err-name-clause-told c =
    let t = c.args.tokens.now in
    let u = c.opening.new.tokens in
    let k = c.in_ok-levels.levels in
    let o = c.in_ok-levels.ensures in
    rw (handed_on c.from_residual-in_err-name.ensures.1)
    (blames_map (λ g. Takes (sights u) any_name u.at (fails g)) (λ g. ReadsType (sights t) 8 t.at (fails g))
    (λ f h. inner_fails (sights t) t.at k u.at f o.inner (no_name (sights t) (one_sight Graphql t.text.now) (8 - k) u.at o.sight f o.seen o.other (read_in (λ N. Takes N any_name) t u u.at (fails f) o.onward.0 h)))
    _ c.in_err-name.ensures.told)

pub returns-in_err-non_null-clause-told : goal.returns-in_err-non_null-clause-told
returns-in_err-non_null-clause-told c =
    let t = c.args.tokens.now in
    let u = c.opening.new.tokens in
    let v = c.name.new.self in
    let k = c.in_ok-levels.levels in
    let o = c.in_ok-levels.ensures in
    let n = c.in_ok-name.ensures.told in
    rw (handed_on c.from_residual-in_err-non_null.ensures.1)
    (blames_map (λ g. ReadsBang (sights v) v.at (fails g)) (λ g. ReadsType (sights t) 8 t.at (fails g))
    (λ f h. name_bang_fails (sights t) t.at k v.at n.value f u.at o.inner (read_in (λ N. Takes N any_name) t u u.at _ o.onward.0 n.reads) (read_in ReadsBang t v v.at (fails f) (n.onward.0 ∙ o.onward.0) h))
    _ c.in_err-non_null.ensures)

pub loop-level-init : goal.loop-level-init
loop-level-init c =
    let t = c.args.tokens.now in
    let u = c.opening.new.tokens in
    let v = c.name.new.self in
    let w = c.non_null_mark.new.tokens in
    let k = c.in_ok-levels.levels in
    let o = c.in_ok-levels.ensures in
    let n = c.in_ok-name.ensures.told in
    let m = c.in_ok-non_null.ensures in
    let b = c.in_ok-non_null.field-0 in
    let bs = false ∷ false ∷ false ∷ false ∷ false ∷ false ∷ false ∷ false ∷ [] in
    let e : k ≡ k - 0 = omega arith in
    let name = read_in (λ N. Takes N any_name) t u u.at _ o.onward.0 n.reads in
    let bang = read_in ReadsBang t v v.at _ (n.onward.0 ∙ o.onward.0) (itself 0 ReadsBang v w b b m refl) in (
      refl,
      o.few,
      omega arith,
      (m.onward.0 ∙ n.onward.0 ∙ o.onward.0, omega (arith, m.onward.1, n.onward.1, o.onward.1)),
      subst (λ d. Outer (sights t) t.at d w.at (kept (b ∷ bs) c.in_ok-name.field-0.name.now c.in_ok-name.field-0.place 0)) e
          (subst (λ l. Outer (sights t) t.at k w.at (kept (b ∷ bs) l.name l.place 0)) (sym n.means) (outer_start (sights t) t.at k v.at w.at n.value b bs u.at o.inner name bang)),
    )

pub returns-in_err-expect-clause-told : goal.returns-in_err-expect-clause-told
returns-in_err-expect-clause-told c =
    let t = c.args.tokens.now in
    let u = c.loop-level.tokens in
    let i = c.loop-level.invariant in
    rw (handed_on c.from_residual-in_err-expect.ensures.1)
    (blames_map (λ g. Takes (sights u) (the_mark close_bracket) u.at (fails g)) (λ g. ReadsType (sights t) 8 t.at (fails g))
    (λ f h. level_fails (sights t) t.at c.in_ok-levels.levels c.loop-level.level u.at _ f c.loop-level-test.true i.4 (read_in (λ N. Takes N (the_mark close_bracket)) t u u.at (fails f) i.3.0 h))
    _ (c.in_err-expect.ensures.told tt))

pub returns-in_err-non_null-2-clause-told : goal.returns-in_err-non_null-2-clause-told
returns-in_err-non_null-2-clause-told c =
    let t = c.args.tokens.now in
    let u = c.loop-level.tokens in
    let v = c.expect.new.self in
    let i = c.loop-level.invariant in
    let x = c.in_ok-expect.ensures.told tt in
    rw (handed_on c.from_residual-in_err-non_null-2.ensures.1)
    (blames_map (λ g. ReadsBang (sights v) v.at (fails g)) (λ g. ReadsType (sights t) 8 t.at (fails g))
    (λ f h. level_bang_fails (sights t) t.at c.in_ok-levels.levels c.loop-level.level u.at v.at x.value _ f c.loop-level-test.true i.4 (read_in (λ N. Takes N (the_mark close_bracket)) t u u.at _ i.3.0 x.reads) (read_in ReadsBang t v v.at (fails f) (x.onward.0 ∙ i.3.0) h))
    _ c.in_err-non_null-2.ensures)

pub loop-level-preserved : goal.loop-level-preserved
loop-level-preserved c =
    let t = c.args.tokens.now in
    let u = c.loop-level.tokens in
    let v = c.expect.new.self in
    let w = c.non_null_mark-in-loop-level.new.tokens in
    let i = c.loop-level.invariant in
    let x = c.in_ok-expect.ensures.told tt in
    let m = c.in_ok-non_null-2.ensures in
    let b = c.in_ok-non_null-2.field-0 in (
      length-set c.loop-level.non_null (c.loop-level.level + 1) b ∙ i.0,
      i.1,
      omega (arith, c.loop-level-test.true),
      (m.onward.0 ∙ x.onward.0 ∙ i.3.0, omega (arith, m.onward.1, x.onward.1, i.3.1)),
      level_closes (sights t) t.at c.in_ok-levels.levels c.loop-level.level u.at v.at w.at x.value c.loop-level.non_null _ _ b c.loop-level-test.true (omega (arith, i.0, i.1, c.loop-level-test.true)) i.4
          (read_in (λ N. Takes N (the_mark close_bracket)) t u u.at _ i.3.0 x.reads) (read_in ReadsBang t v v.at _ (x.onward.0 ∙ i.3.0) (itself 0 ReadsBang v w b b m refl)),
    )
