use Rattle.std.proofs.Common.{refl, ◌∙◌, arith}
use Rattle.stored.specs.Outcomes.{fails, Reads, r_deep}
use Rattle.text.proofs.Handed.{handed_on}
use Rattle.stored.proofs.RdSteps.{blamed, sensible, as_content, leaf_read, list_read, object_read, list_blamed, object_blamed, onward, items_step, items_blamed, items_ended, members_step, members_blamed, members_ended}
use Rattle.stored.proofs.reading.Reader.+items_members_value.Goals as goal

pub items-returns-in_err-next : goal.items-returns-in_err-next
items-returns-in_err-next t c =
    let i = c.loop-next.invariant in
    rw (handed_on c.from_residual.ensures.1) (items_blamed i.0 c.loop-next-test.true _ (rw i.1.bytes at c.in_err-next.ensures))

pub items-loop-next-preserved : goal.items-loop-next-preserved
items-loop-next-preserved t c =
    let i = c.loop-next.invariant in
    let v = c.in_ok-next.ensures in
    (items_step i.0 c.loop-next-test.true (rw i.1.bytes at v.0), onward i.1 v.1)

pub items-returns : goal.items-returns
items-returns t c =
    let i = c.loop-next.invariant in
    (items_ended i.0 c.loop-next-test.false, i.1)

pub members-returns-in_err-next : goal.members-returns-in_err-next
members-returns-in_err-next t c =
    let i = c.loop-next.invariant in
    let n = c.in_ok-onward.ensures in
    let v = rw n.same at c.in_err-next.ensures in
    rw (handed_on c.from_residual-in_err-next.ensures.1, ← i.1) (members_blamed i.0 c.loop-next-test.true n _ v)

pub members-loop-next-preserved : goal.members-loop-next-preserved
members-loop-next-preserved t c =
    let i = c.loop-next.invariant in
    let n = c.in_ok-onward.ensures in
    let v = c.in_ok-next.ensures in
    let u = rw n.same at v.0 in
    rw (v.1.bytes, n.same) (members_step i.0 c.loop-next-test.true n u v.1.names, i.1)

pub members-returns : goal.members-returns
members-returns t c =
    let i = c.loop-next.invariant in
    (rw (← i.1) (members_ended i.0 c.loop-next-test.false), record { bytes = i.1; names = c.close.ensures ∙ i.0.below })

pub value-returns-in_err-record : goal.value-returns-in_err-record
value-returns-in_err-record t c =
    rw (handed_on c.from_residual.ensures.1) (blamed c.in_err-record.field-0.0 (λ g. Reads c.args.self.now.bytes.now c.args.levels c.args.at c.args.to (fails g)) (c.in_err-record.ensures c.args.levels))

pub value-returns-then-levels-eq0 : goal.value-returns-then-levels-eq0
value-returns-then-levels-eq0 t c =
    let f = c.in_ok-record.ensures in
    r_deep f.0.framed (sensible _ _ c.in_ok-record.content f.1) c.if-levels-eq0.true

pub value-returns-in_err-items-in-List : goal.value-returns-in_err-items-in-List
value-returns-in_err-items-in-List t c =
    let f = as_content c.in-List.is c.in_ok-record.ensures in
    rw (handed_on c.from_residual-in_err-items-in-List.ensures.1) (list_blamed f (omega arith) _ (rw c.end-end.ensures at c.in_err-items-in-List.ensures))

pub value-returns-in_err-members-in-Object : goal.value-returns-in_err-members-in-Object
value-returns-in_err-members-in-Object t c =
    let f = as_content c.in-Object.is c.in_ok-record.ensures in
    rw (handed_on c.from_residual-in_err-members-in-Object.ensures.1) (object_blamed f (omega arith) _ (rw c.end-end.ensures at c.in_err-members-in-Object.ensures))

pub value-returns-in-Leaf : goal.value-returns-in-Leaf
value-returns-in-Leaf t c = (rw c.end-end.ensures (leaf_read (as_content c.in-Leaf.is c.in_ok-record.ensures) (omega arith)), record { bytes = refl; names = refl })

pub value-returns-in_ok-items-in-List : goal.value-returns-in_ok-items-in-List
value-returns-in_ok-items-in-List t c =
    let x = c.in_ok-items-in-List.ensures in
    (rw c.end-end.ensures (list_read (as_content c.in-List.is c.in_ok-record.ensures) (omega arith) (rw c.end-end.ensures at x.0)), x.1)

pub value-returns-in_ok-members-in-Object : goal.value-returns-in_ok-members-in-Object
value-returns-in_ok-members-in-Object t c =
    let x = c.in_ok-members-in-Object.ensures in
    (rw c.end-end.ensures (object_read (as_content c.in-Object.is c.in_ok-record.ensures) (omega arith) (rw c.end-end.ensures at x.0)), x.1)
