use Rattle.std.proofs.Common.{refl, subst}
use Rattle.text.proofs.Handed.{handed_on}
use Rattle.validation.specs.Making.{FirstFault, CycleAt}
use Rattle.validation.specs.Made.{repeated_name, unknown_type, not_input, bad_default, default_cycle, made}
use Rattle.validation.proofs.Making.{refused, wanting, read_as, first_in, apart, passed}
use Rattle.validation.proofs.Sourcing.{sourced}
use Rattle.validation.proofs.make_schema.Goals as goal

pub returns-in_err-schema-clause-told : goal.returns-in_err-schema-clause-told
returns-in_err-schema-clause-told c = rw (handed_on c.from_residual.ensures.1) (refused c.args.text.now _ c.in_err-schema.ensures.told)

pub returns-in_err-at-clause-told : goal.returns-in_err-at-clause-told
returns-in_err-at-clause-told c = wanting c.args.text.now _ _ (handed_on c.from_residual-in_err-at.ensures.1) c.in_err-at.ensures.memory

pub returns-in-Some-clause-told : goal.returns-in-Some-clause-told
returns-in-Some-clause-told c =
    let w = c.in_ok-schema.ensures.told in
    repeated_name w.2 (first_in c.args.text.now _ w.1 _ _ c.in_ok-schema.ensures.text c.in-Some.is (c.in_ok-at.ensures.first w.0 w.1 (read_as c.in_ok-schema.ensures.text w.2) w.3))

pub returns-in-Some-unknown_type-clause-told : goal.returns-in-Some-unknown_type-clause-told
returns-in-Some-unknown_type-clause-told c =
    let w = c.in_ok-schema.ensures.told in
    let names = first_in c.args.text.now _ w.1 _ _ c.in_ok-schema.ensures.text c.in_default.is (c.in_ok-at.ensures.first w.0 w.1 (read_as c.in_ok-schema.ensures.text w.2) w.3) in
    unknown_type w.2 names (c.in-Some-unknown_type.ensures w.1 w.3)

pub returns-in-Some-not_input-clause-told : goal.returns-in-Some-not_input-clause-told
returns-in-Some-not_input-clause-told c =
    let w = c.in_ok-schema.ensures.told in
    let names = first_in c.args.text.now _ w.1 _ _ c.in_ok-schema.ensures.text c.in_default.is (c.in_ok-at.ensures.first w.0 w.1 (read_as c.in_ok-schema.ensures.text w.2) w.3) in
    not_input w.2 names (c.in_default-unknown_type.ensures w.1 w.3) (c.in-Some-not_input.ensures w.1 w.3)

pub returns-in-Some-bad_default-clause-told : goal.returns-in-Some-bad_default-clause-told
returns-in-Some-bad_default-clause-told c =
    let w = c.in_ok-schema.ensures.told in
    let names = first_in c.args.text.now _ w.1 _ _ c.in_ok-schema.ensures.text c.in_default.is (c.in_ok-at.ensures.first w.0 w.1 (read_as c.in_ok-schema.ensures.text w.2) w.3) in
    let typed = passed w.2 names (c.in_default-unknown_type.ensures w.1 w.3) (c.in_default-not_input.ensures w.1 w.3) in
    bad_default typed (c.in-Some-bad_default.ensures w.1 w.3 (sourced c.args.text.now w.2 names))

pub returns-in_err-at-2-clause-told : goal.returns-in_err-at-2-clause-told
returns-in_err-at-2-clause-told c = wanting c.args.text.now _ _ (handed_on c.from_residual-in_err-at-2.ensures.1) refl

pub returns-in-Some-2-clause-told : goal.returns-in-Some-2-clause-told
returns-in-Some-2-clause-told c =
    let w = c.in_ok-schema.ensures.told in
    let names = first_in c.args.text.now _ w.1 _ _ c.in_ok-schema.ensures.text c.in_default.is (c.in_ok-at.ensures.first w.0 w.1 (read_as c.in_ok-schema.ensures.text w.2) w.3) in
    let typed = passed w.2 names (c.in_default-unknown_type.ensures w.1 w.3) (c.in_default-not_input.ensures w.1 w.3) in
    let cycle = c.in_ok-at-2.ensures w.1 w.3 (apart names) (sourced c.args.text.now w.2 names) in
    default_cycle typed (c.in_default-bad_default.ensures w.1 w.3 (sourced c.args.text.now w.2 names)) (subst (FirstFault (CycleAt w.1)) c.in-Some-2.is cycle)

pub returns-clause-told : goal.returns-clause-told
returns-clause-told c =
    let w = c.in_ok-schema.ensures.told in
    let names = first_in c.args.text.now _ w.1 _ _ c.in_ok-schema.ensures.text c.in_default.is (c.in_ok-at.ensures.first w.0 w.1 (read_as c.in_ok-schema.ensures.text w.2) w.3) in
    let typed = passed w.2 names (c.in_default-unknown_type.ensures w.1 w.3) (c.in_default-not_input.ensures w.1 w.3) in
    let cycle = c.in_ok-at-2.ensures w.1 w.3 (apart names) (sourced c.args.text.now w.2 names) in
    made typed (c.in_default-bad_default.ensures w.1 w.3 (sourced c.args.text.now w.2 names)) (subst (FirstFault (CycleAt w.1)) c.in_default-2.is cycle) w.3
