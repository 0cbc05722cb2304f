use Rattle.std.proofs.Common.{◌∙◌, ◌∷◌, [], ◌++◌, sym, subst, Some, None, arith}
use Rattle.text.proofs.Handed.{handed_on}
use Rattle.text.specs.TokenGrammar.{pipe}
use Rattle.reader.specs.Reading.{got, fails, is_mark}
use Rattle.reader.proofs.Faults.{blames_map}
use Rattle.schema.specs.Holds.{label_of}
use Rattle.schema.specs.LocationTold.{location_of}
use Rattle.schema.specs.Outcomes.{Takes, any_name}
use Rattle.schema.specs.SchemaReading.{ReadsLocations, ReadsAllLocations}
use Rattle.schema.specs.Told.{TokenIfAny, sights}
use Rattle.schema.proofs.Entering.{takes_in, onward_on, same_sights}
use Rattle.schema.proofs.Eating.{location_fails, location_taken, location_refused, locations_start, locations_fail, locations_step, locations_end, locations_unseen, none_of, some_of}
use Rattle.schema.proofs.Placing.{no_flags, named_some, named_none}
use Rattle.schema.proofs.Seeing.{after_fault}
use Rattle.schema.proofs.document.locations.Goals as goal

pub loop-name-init : goal.loop-name-init
loop-name-init c =
    let u = c.args.tokens.now in
    let e = c.in_ok-eat.ensures.told tt in
    ([], locations_start (sights u) u.at c.eat.new.self.at e.value e.reads, record { flags = no_flags }, e.onward)

pub returns-in_err-eat-clause-told : goal.returns-in_err-eat-clause-told
returns-in_err-eat-clause-told c =
    let u = c.args.tokens.now in
    rw (handed_on c.from_residual.ensures.1)
    (blames_map (λ g. TokenIfAny (sights u) (is_mark pipe) u.at (fails g)) (λ g. ReadsAllLocations (sights u) u.at (fails g))
    (λ g h. after_fault (sights u) (is_mark pipe) (λ s. ReadsLocations (sights u)) (ReadsLocations (sights u)) g u.at h)
    _ (c.in_err-eat.ensures.told tt))

pub returns-in_err-name-clause-told : goal.returns-in_err-name-clause-told
returns-in_err-name-clause-told c =
    let t = c.loop-name.tokens in
    let u = c.args.tokens.now in
    let i = c.loop-name.invariant in
    rw (handed_on c.from_residual-in_err-name.ensures.1)
    (blames_map (λ g. Takes (sights t) any_name t.at (fails g)) (λ g. ReadsAllLocations (sights u) u.at (fails g))
    (λ g h. locations_fail (sights u) i.1 g (location_fails (sights u) t.at g (takes_in t u any_name t.at (fails g) i.3.0 h)))
    _ c.in_err-name.ensures.told)

pub returns-in_default-clause-told : goal.returns-in_default-clause-told
returns-in_default-clause-told c =
    let t = c.loop-name.tokens in
    let u = c.args.tokens.now in
    let n = c.name.new.self in
    let i = c.loop-name.invariant in
    let r = c.in_ok-name.ensures.told in
    let h = takes_in t u any_name t.at _ i.3.0 (subst (λ l. Takes (sights t) any_name t.at (got n.at l)) (sym r.means) r.reads) in
    locations_fail (sights u) i.1 _ (location_refused (sights u) t.at n.at (label_of c.in_ok-name.field-0) h (named_none _ _ c.in_default.is c.named.ensures))

pub returns-in_err-eat-2-clause-told : goal.returns-in_err-eat-2-clause-told
returns-in_err-eat-2-clause-told c =
    let t = c.loop-name.tokens in
    let u = c.args.tokens.now in
    let n = c.name.new.self in
    let i = c.loop-name.invariant in
    let r = c.in_ok-name.ensures.told in
    let h = takes_in t u any_name t.at _ i.3.0 (subst (λ l. Takes (sights t) any_name t.at (got n.at l)) (sym r.means) r.reads) in
    let k = location_taken (sights u) t.at n.at (label_of c.in_ok-name.field-0) (location_of c.in-Some.location) h (named_some _ _ _ c.in-Some.is c.named.ensures) in
    rw (handed_on c.from_residual-in_err-eat-2.ensures.1)
    (blames_map (λ g. TokenIfAny (sights n) (is_mark pipe) n.at (fails g)) (λ g. ReadsAllLocations (sights u) u.at (fails g))
    (λ g e. locations_unseen (sights u) i.1 n.at _ k g (subst (λ N. TokenIfAny N (is_mark pipe) n.at (fails g)) (same_sights n u (r.onward.0 ∙ i.3.0)) e))
    _ (c.in_err-eat-2.ensures.told tt))

pub returns-then-is_none-clause-told : goal.returns-then-is_none-clause-told
returns-then-is_none-clause-told c =
    let t = c.loop-name.tokens in
    let u = c.args.tokens.now in
    let n = c.name.new.self in
    let i = c.loop-name.invariant in
    let r = c.in_ok-name.ensures.told in
    let h = takes_in t u any_name t.at _ i.3.0 (subst (λ l. Takes (sights t) any_name t.at (got n.at l)) (sym r.means) r.reads) in
    let k = location_taken (sights u) t.at n.at (label_of c.in_ok-name.field-0) (location_of c.in-Some.location) h (named_some _ _ _ c.in-Some.is c.named.ensures) in
    let e = c.in_ok-eat-2.ensures.told tt in
    record {
      value = i.0 ++ location_of c.in-Some.location ∷ [];
      reads = locations_end (sights u) i.1 n.at _ k c.eat-in-loop-name.new.self.at (subst (λ N. TokenIfAny N (is_mark pipe) n.at (got c.eat-in-loop-name.new.self.at None)) (same_sights n u (r.onward.0 ∙ i.3.0)) (subst (λ o. TokenIfAny (sights n) (is_mark pipe) n.at (got c.eat-in-loop-name.new.self.at o)) (sym e.means ∙ none_of _ (c.if-is_none.ensures)) e.reads));
      means = c.with-locations.ensures i.0 i.2;
      onward = (e.onward.0 ∙ r.onward.0 ∙ i.3.0, omega (arith, i.3.1, r.onward.1, e.onward.1));
    }

pub loop-name-preserved : goal.loop-name-preserved
loop-name-preserved c =
    let t = c.loop-name.tokens in
    let u = c.args.tokens.now in
    let n = c.name.new.self in
    let m = c.eat-in-loop-name.new.self in
    let i = c.loop-name.invariant in
    let r = c.in_ok-name.ensures.told in
    let h = takes_in t u any_name t.at _ i.3.0 (subst (λ l. Takes (sights t) any_name t.at (got n.at l)) (sym r.means) r.reads) in
    let k = location_taken (sights u) t.at n.at (label_of c.in_ok-name.field-0) (location_of c.in-Some.location) h (named_some _ _ _ c.in-Some.is c.named.ensures) in
    let e = c.in_ok-eat-2.ensures.told tt in
    let s = some_of _ c.if-is_none.ensures in (
      i.0 ++ location_of c.in-Some.location ∷ [],
      locations_step (sights u) i.1 n.at _ k m.at s.0 (subst (λ N. TokenIfAny N (is_mark pipe) n.at (got m.at (Some s.0))) (same_sights n u (r.onward.0 ∙ i.3.0)) (subst (λ o. TokenIfAny (sights n) (is_mark pipe) n.at (got m.at o)) (sym e.means ∙ s.1) e.reads)),
      c.with-locations.ensures i.0 i.2,
      onward_on 0 0 u n m (onward_on 0 1 u t n i.3 r.onward) e.onward,
    )
