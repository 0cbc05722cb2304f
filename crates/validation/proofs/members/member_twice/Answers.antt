use Rattle.validation.proofs.MembersTwice.{none_told, some_told, one_fault, no_fault}
use Rattle.std.proofs.Common.{ap, ◌∙◌, Err}
use Rattle.validation.proofs.members.member_twice.Goals as goal

pub returns-in_default-clause-first : goal.returns-in_default-clause-first
returns-in_default-clause-first c =
    none_told c.args.text.now c.args.at c.args.nodes.now c.distinct_at.new.nodes c.distinct_at.result c.distinct_at.ensures.told (λ p e. no_fault _ _ _ c.in_default.is e) (λ e. no_fault _ _ _ c.in_default.is e)

pub returns-in-RepeatedName-clause-first : goal.returns-in-RepeatedName-clause-first
returns-in-RepeatedName-clause-first c =
    some_told c.args.text.now c.args.at c.args.nodes.now c.distinct_at.new.nodes c.distinct_at.result c.distinct_at.ensures.told c.distinct_at.ensures.past c.in-RepeatedName.place (c.in-Err.is ∙ ap Err c.in-RepeatedName.is)

pub returns-in_default-fault : goal.returns-in_default-fault
returns-in_default-fault c =
    record {
      first = none_told c.args.text.now c.args.at c.args.nodes.now c.distinct_at.new.nodes c.distinct_at.result c.distinct_at.ensures.told
          (λ p e. c.in_default-fault.not-RepeatedName p (one_fault _ _ _ c.in-Err.is e))
          (λ e. c.in_default-fault.not-NoMemory (one_fault _ _ _ c.in-Err.is e));
      memory = tt;
    }
