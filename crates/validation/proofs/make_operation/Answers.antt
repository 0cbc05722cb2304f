use Rattle.std.proofs.Common.{Some, None}
use Rattle.text.proofs.Handed.{handed_on}
use Rattle.validation.specs.OperationMade.{repeated_name, unknown_type, not_input, bad_default, made}
use Rattle.validation.proofs.OperationMaking.{operation_refused, operation_wanting, operation_read_as, again_in}
use Rattle.validation.proofs.OperationSourcing.{operation_sourced}
use Rattle.validation.proofs.make_operation.Goals as goal

pub returns-in_err-operation-clause-told : goal.returns-in_err-operation-clause-told
returns-in_err-operation-clause-told c S h = rw (handed_on c.from_residual.ensures.1) (operation_refused S c.args.text.now _ (c.in_err-operation.ensures.told S h))

pub returns-in_err-at-clause-told : goal.returns-in_err-at-clause-told
returns-in_err-at-clause-told c S h = operation_wanting S c.args.text.now _ _ (handed_on c.from_residual-in_err-at.ensures.1) c.in_err-at.ensures.memory

pub returns-in-Some-clause-told : goal.returns-in-Some-clause-told
returns-in-Some-clause-told c S h =
    let t = c.in_ok-operation.ensures.told S h in
    repeated_name t.2 (again_in c.args.text.now _ t.1 _ (Some c.in-Some.at) c.in_ok-operation.ensures.text c.in-Some.is (c.in_ok-at.ensures.first S t.0 t.1 (operation_read_as c.in_ok-operation.ensures.text t.2) t.3))

pub returns-in-Some-unknown_type-clause-told : goal.returns-in-Some-unknown_type-clause-told
returns-in-Some-unknown_type-clause-told c S h =
    let t = c.in_ok-operation.ensures.told S h in
    unknown_type t.2
    (again_in c.args.text.now _ t.1 _ None c.in_ok-operation.ensures.text c.in_default.is (c.in_ok-at.ensures.first S t.0 t.1 (operation_read_as c.in_ok-operation.ensures.text t.2) t.3))
    (c.in-Some-unknown_type.ensures S t.1 t.3)

pub returns-in-Some-not_input-clause-told : goal.returns-in-Some-not_input-clause-told
returns-in-Some-not_input-clause-told c S h =
    let t = c.in_ok-operation.ensures.told S h in
    not_input t.2
    (again_in c.args.text.now _ t.1 _ None c.in_ok-operation.ensures.text c.in_default.is (c.in_ok-at.ensures.first S t.0 t.1 (operation_read_as c.in_ok-operation.ensures.text t.2) t.3))
    (c.in_default-unknown_type.ensures S t.1 t.3)
    (c.in-Some-not_input.ensures S t.1 t.3)

pub returns-in-Some-bad_variable_default-clause-told : goal.returns-in-Some-bad_variable_default-clause-told
returns-in-Some-bad_variable_default-clause-told c S h =
    let t = c.in_ok-operation.ensures.told S h in
    let names = again_in c.args.text.now _ t.1 _ None c.in_ok-operation.ensures.text c.in_default.is (c.in_ok-at.ensures.first S t.0 t.1 (operation_read_as c.in_ok-operation.ensures.text t.2) t.3) in
    bad_default {D = t.1}
    (record { end = t.0; reads = t.2; names = names; known = c.in_default-unknown_type.ensures S t.1 t.3; input = c.in_default-not_input.ensures S t.1 t.3 })
    (c.in-Some-bad_variable_default.ensures S t.1 h t.3 (operation_sourced c.args.text.now t.2 names))

pub returns-clause-told : goal.returns-clause-told
returns-clause-told c S h =
    let t = c.in_ok-operation.ensures.told S h in
    let names = again_in c.args.text.now _ t.1 _ None c.in_ok-operation.ensures.text c.in_default.is (c.in_ok-at.ensures.first S t.0 t.1 (operation_read_as c.in_ok-operation.ensures.text t.2) t.3) in
    made {D = t.1}
    (record { end = t.0; reads = t.2; names = names; known = c.in_default-unknown_type.ensures S t.1 t.3; input = c.in_default-not_input.ensures S t.1 t.3 })
    (c.in_default-bad_variable_default.ensures S t.1 h t.3 (operation_sourced c.args.text.now t.2 names))
    t.3
