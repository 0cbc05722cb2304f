use Rattle.std.proofs.Common.{refl, sym, ◌∙◌, vec_items, subst}
use Rattle.stored.specs.Frames.{RecordTold}
use Rattle.stored.specs.Outcomes.{m_unnamed, m_repeated}
use Rattle.stored.proofs.FrLaws.{ends, within}
use Rattle.text.proofs.Handed.{handed_on}
use Rattle.stored.proofs.RdSteps.{found, ok_or_none, other_kind, not_formed, name_at, has_it, added_it}
use Rattle.stored.proofs.reading.Reader.member_name.Goals as goal
use Rattle.stored.proofs.reading.Reader.member_name.Goals.{then-not-is_name-via-then-not-is_name, then-not-is_name-via-else-not-is_name+then-not-name_form}

pub returns-in_err-record : goal.returns-in_err-record
returns-in_err-record c =
    let e = c.in_err-record.ensures in
    let none = subst (RecordTold c.args.self.now.bytes.now c.args.at c.args.to) e.ok_part c.at.ensures in
    rw (handed_on c.from_residual.ensures.1, ok_or_none e.value e.ok_part) (λ d h. m_unnamed h (λ n a. none 8 n a.framed))

pub returns-then-not-is_name : goal.returns-then-not-is_name
returns-then-not-is_name c d h =
    let f = found c.in_ok-record.ensures.ok_part c.at.ensures in
    m_unnamed h
    (elim c.then-not-is_name.branch [
      | then-not-is_name-via-then-not-is_name w ↦ other_kind f c.is_name.ensures w.if-not-is_name.true
      | then-not-is_name-via-else-not-is_name+then-not-name_form w ↦ not_formed f w.name_form.ensures w.if-not-name_form.true
    ])

pub returns-then-not-added : goal.returns-then-not-added
returns-then-not-added c d h =
    let f = found c.in_ok-record.ensures.ok_part c.at.ensures in
    m_repeated h (name_at f (c.is_name.ensures.0 c.if-not-is_name.false) c.name_form.ensures c.if-not-name_form.false)
    (has_it f c.end-end.ensures (vec_items c.args.self.now.names.links) (vec_items c.add.new.self.links) c.in_ok-added.added c.if-not-added.true c.in_ok-added.ensures c.requires.sound)

pub returns : goal.returns
returns c =
    let f = found c.in_ok-record.ensures.ok_part c.at.ensures in
    record {
      name = _;
      stands = name_at f (c.is_name.ensures.0 c.if-not-is_name.false) c.name_form.ensures c.if-not-name_form.false;
      ends = sym (c.end-end.ensures ∙ ends f);
      within = rw c.end-end.ensures (within f);
      added = added_it f c.end-end.ensures (vec_items c.args.self.now.names.links) (vec_items c.add.new.self.links) c.in_ok-added.added c.if-not-added.false c.in_ok-added.ensures c.requires.below c.requires.sound;
      same = refl;
    }
