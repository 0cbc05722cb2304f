use Rattle.std.proofs.Common.{◌∙◌, arith}
use Rattle.text.proofs.Handed.{handed_on}
use Rattle.text.specs.TokenGrammar.{open_bracket, a_mark}
use Rattle.reader.proofs.Faults.{blames_map}
use Rattle.reader.specs.Tokens.{sees, blind}
use Rattle.reader.specs.Reading.{fails, is_mark}
use Rattle.schema.specs.Told.{sights, TokenIfAny}
use Rattle.schema.specs.Types.{ReadsType, t_blind}
use Rattle.schema.proofs.Seeing.{seen_in, itself, eaten_seen, eating_fails}
use Rattle.schema.proofs.TypeSteps.{inner_step, inner_deep, inner_fails}
use Rattle.schema.proofs.types.opening.Goals as goal
use Rattle.schema.proofs.types.opening.Goals.{In-Some}

pub returns-in_err-place : goal.returns-in_err-place
returns-in_err-place c =
    let i = c.loop-place.invariant in
    let t = c.args.tokens.now in
    rw (handed_on c.from_residual.ensures.1)
    (blames_map
    (λ g. TokenIfAny (sights c.loop-place.tokens) (is_mark open_bracket) c.loop-place.tokens.at (fails g))
    (λ g. ReadsType (sights t) 8 t.at (fails g))
    (λ f h. inner_fails (sights t) t.at c.loop-place.levels c.loop-place.tokens.at f i.2 (t_blind (seen_in t c.loop-place.tokens c.loop-place.tokens.at (blind f) i.1.0 (eating_fails (sights c.loop-place.tokens) open_bracket c.loop-place.tokens.at f h))))
    _ (c.in_err-place.ensures.told tt))

-- the `[` that is seen
opened : (c : In-Some) → sights c.args.tokens.now c.loop-place.tokens.at (sees c.in-Some.place c.eat.new.self.at (a_mark open_bracket))
opened c =
    let u = c.loop-place.tokens in
    let r = c.in_ok-place.ensures.told tt in
    seen_in c.args.tokens.now u u.at (sees c.in-Some.place c.eat.new.self.at (a_mark open_bracket)) c.loop-place.invariant.1.0
    (eaten_seen (sights u) open_bracket u.at c.eat.new.self.at c.in-Some.place (itself 0 (λ N. TokenIfAny N (is_mark open_bracket)) u c.eat.new.self _ _ r c.in-Some.is))

pub returns-then-levels-ge-MOST_LEVELS : goal.returns-then-levels-ge-MOST_LEVELS
returns-then-levels-ge-MOST_LEVELS c =
    let t = c.args.tokens.now in
    inner_deep (sights t) t.at c.loop-place.levels c.loop-place.tokens.at c.in-Some.place c.eat.new.self.at c.loop-place.invariant.2 c.if-levels-ge-MOST_LEVELS.true (opened (goal.at.returns-then-levels-ge-MOST_LEVELS c).In-Some)

pub loop-place-preserved : goal.loop-place-preserved
loop-place-preserved c =
    let i = c.loop-place.invariant in
    let t = c.args.tokens.now in
    let r = c.in_ok-place.ensures.told tt in (
      omega arith,
      (r.onward.0 ∙ i.1.0, omega (arith, r.onward.1, i.1.1)),
      inner_step (sights t) t.at c.loop-place.levels c.loop-place.tokens.at c.in-Some.place c.eat.new.self.at i.2 c.if-levels-ge-MOST_LEVELS.false (opened (goal.at.loop-place-preserved c).In-Some),
    )
