-- Where what stands at a cursor ends, by the headers that were read there.
use Rattle.std.proofs.Common.{◌≡◌, ℕ, ◌+◌, ◌-◌, ◌≤◌, List, length, ◌≢◌, refl, sym, ap, ◌∙◌, arith}
use Rattle.std.proofs.lemmas.Bool.Decides.{nat_tests}
use Rattle.source.specs.declared.raw.Span.{Span}
use Rattle.source.specs.Spans.{Taken}
use Rattle.stored.specs.declared.header.Record.{Record}
use Rattle.stored.specs.Frames.{end_of, RecordAt, Valued, an_item, a_member}
use Rattle.stored.specs.Past.{kind_at, end_at, past_at}
use Rattle.stored.proofs.FrLaws.{heads, size_is, ends, within, ends_inside}

-- a header says where its record ends
pub end_is : {bytes : List ℕ} {i to : ℕ} {h : Record} → RecordAt bytes i to h → end_at bytes i ≡ end_of h
unfolding end_at
end_is a = omega (arith, size_is a.framed, ends a)

pub kind_is : {bytes : List ℕ} {i to : ℕ} {h : Record} → RecordAt bytes i to h → kind_at bytes i ≡ h.kind
kind_is a = (heads a.framed).b4

-- a record that stands in the bytes starts before their end
starts_below : {bytes : List ℕ} {i to : ℕ} {h : Record} → RecordAt bytes i to h → i ≢ length bytes
starts_below a = λ e. omega (arith, a.starts, ends_inside a)

pub past_root : (bytes : List ℕ) (at : ℕ) → at ≡ length bytes → past_at bytes at ≡ at + 1 + length bytes
unfolding past_at
past_root bytes at e = grind (arith, nat_tests)

pub past_item : {bytes : List ℕ} {at to : ℕ} {h : Record} → RecordAt bytes at to h → h.kind ≢ 8 → past_at bytes at ≡ end_of h
unfolding past_at
past_item a k =
    let n = starts_below a in
    let e = end_is a in
    let q = kind_is a in
    grind (arith, nat_tests)

pub past_member : {bytes : List ℕ} {at to up : ℕ} {h j : Record} → RecordAt bytes at to h → h.kind ≡ 8 → RecordAt bytes (end_of h) up j → past_at bytes at ≡ end_of j
unfolding past_at
past_member {bytes} {at} {h = h} {j} a k b =
    let n = starts_below a in
    let e = end_is a in
    let q = kind_is a in
    let f = ap (end_at bytes) e ∙ end_is b in
    grind (arith, nat_tests)

-- THE REST OF A SPAN

pub taken_valued : {bytes : List ℕ} {i : ℕ} {h : Record} (span : Span) → Valued bytes span.from span.to i h → Taken (past_at bytes span.from) span span.from (record { from = end_of h; to = span.to })
taken_valued span (an_item a k) =
    let p = past_item a k in
    record { first = refl; onward = omega (arith, a.starts); from = sym p; to = refl; inside = omega (arith, within a) }
taken_valued span (a_member a k b) =
    let p = past_member a k b in
    record { first = refl; onward = omega (arith, a.starts, b.starts); from = sym p; to = refl; inside = omega (arith, within b) }

-- WHAT LIES IN A RECORD

pub narrow_root : (bytes : List ℕ) (at : ℕ) → at ≡ length bytes → length bytes - 0 ≤ past_at bytes at - at - 1
narrow_root bytes at e = omega (arith, past_root bytes at e)

pub narrow_item : {bytes : List ℕ} {at to : ℕ} {h : Record} → RecordAt bytes at to h → h.kind ≢ 8 → length h.body.now ≤ past_at bytes at - at - 1
narrow_item a k = omega (arith, past_item a k, a.starts)

pub narrow_member : {bytes : List ℕ} {at to up : ℕ} {h j : Record} → RecordAt bytes at to h → h.kind ≡ 8 → RecordAt bytes (end_of h) up j → length j.body.now ≤ past_at bytes at - at - 1
narrow_member a k b = omega (arith, past_member a k b, a.starts, b.starts)
