use Rattle.std.proofs.Common.{◌∙◌, codes, is_some, ap, subst}
use Rattle.text.proofs.Handed.{handed_on}
use Rattle.reader.specs.Reading.{got, fails}
use Rattle.reader.proofs.Faults.{blames_map}
use Rattle.schema.specs.Outcomes.{Takes}
use Rattle.schema.specs.SchemaReading.{ReadsManner, the_word}
use Rattle.schema.specs.Told.{sights}
use Rattle.schema.proofs.Defining.{manner_fails, manner_got}
use Rattle.schema.proofs.Entering.{same_sights, onward_on}
use Rattle.schema.proofs.document.is_repeatable.Goals as goal

pub returns-in_err-expect : goal.returns-in_err-expect
returns-in_err-expect c =
    let u = c.args.tokens.now in
    let t = c.eat.new.self in
    let e = c.in_ok-eat.ensures.told tt in
    rw (handed_on c.from_residual-in_err-expect.ensures.1)
    (blames_map (λ g. Takes (sights t) (the_word (codes "on")) t.at (fails g)) (λ g. ReadsManner (sights u) u.at (fails g))
    (λ g h. manner_fails (sights u) u.at t.at e.value g e.reads (subst (λ N. Takes N (the_word (codes "on")) t.at (fails g)) (same_sights t u e.onward.0) h))
    _ (c.in_err-expect.ensures.told tt))

pub returns : goal.returns
returns c =
    let u = c.args.tokens.now in
    let t = c.eat.new.self in
    let n = c.expect.new.self in
    let e = c.in_ok-eat.ensures.told tt in
    let h = c.in_ok-expect.ensures.told tt in
    record {
      value = is_some e.value;
      reads = manner_got (sights u) u.at t.at e.value n.at h.value e.reads (subst (λ N. Takes N (the_word (codes "on")) t.at (got n.at h.value)) (same_sights t u e.onward.0) h.reads);
      means = c.is_some-repeatable.ensures ∙ ap is_some e.means;
      onward = onward_on 0 0 u t n e.onward h.onward;
    }
