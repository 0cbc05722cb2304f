-- Records that stand in bytes.
use Rattle.std.proofs.Common.{◌≡◌, ℕ, ◌+◌, ◌-◌, ◌*◌, ◌/◌, ◌%◌, ◌^◌, ◌<◌, ◌≤◌, List, ◌∷◌, ◌++◌, length, min, get_or, take, drop, sym, ap, ◌∙◌, arith}
use native.Mathlib.Nat.{div-div-eq-div-mul}
use Rattle.std.proofs.lemmas.List.{get_or-drop, get_or-take, drop_more}
use Rattle.text.specs.Cuts.{part}
use Rattle.text.proofs.LexBase.{cut, length_part}
use Rattle.model.specs.Records.{framed}
use Rattle.stored.specs.declared.header.Record.{Record}
use Rattle.stored.specs.Frames.{past, Framed, Unframed, end_of, RecordAt, Valued, a_member}
use Rattle.stored.specs.Past.{size_at}
use Rattle.stored.specs.OneFrame.{inside}

-- the bytes of a header
pub record Heads (bytes : List ℕ) (i n k : ℕ) : Type 0 where
  pub b0 : get_or bytes i 0 ≡ n % 256
  pub b1 : get_or bytes (i + 1) 0 ≡ n / 256 % 256
  pub b2 : get_or bytes (i + 2) 0 ≡ n / 65536 % 256
  pub b3 : get_or bytes (i + 3) 0 ≡ n / 16777216 % 256
  pub b4 : get_or bytes (i + 4) 0 ≡ k
  pub b5 : get_or bytes (i + 5) 0 ≡ 0

pub heads : {bytes : List ℕ} {i to k : ℕ} {b : List ℕ} → Framed bytes i to k b → Heads bytes i (length b) k
heads {bytes} {i} f = record {
  b0 = let z : i + 0 ≡ i = omega arith in rw (sym z) (sym (get_or-drop i bytes 0 0) ∙ ap (λ l. get_or l 0 0) f.there);
  b1 = sym (get_or-drop i bytes 1 0) ∙ ap (λ l. get_or l 1 0) f.there;
  b2 = sym (get_or-drop i bytes 2 0) ∙ ap (λ l. get_or l 2 0) f.there;
  b3 = sym (get_or-drop i bytes 3 0) ∙ ap (λ l. get_or l 3 0) f.there;
  b4 = sym (get_or-drop i bytes 4 0) ∙ ap (λ l. get_or l 4 0) f.there;
  b5 = sym (get_or-drop i bytes 5 0) ∙ ap (λ l. get_or l 5 0) f.there;
}

pub digits : (n : ℕ) → n < 2 ^ 32 → n % 256 + n / 256 % 256 * 256 + n / 65536 % 256 * 65536 + n / 16777216 % 256 * 16777216 ≡ n
digits n h =
    let a : n / 256 / 256 ≡ n / 65536 = div-div-eq-div-mul n 256 256 in
    let b : n / 65536 / 256 ≡ n / 16777216 = div-div-eq-div-mul n 65536 256 in
    let p : n ≡ n / 256 * 256 + n % 256 = omega arith in
    let q : n / 256 ≡ n / 65536 * 256 + n / 256 % 256 = omega arith in
    let r : n / 65536 ≡ n / 16777216 * 256 + n / 65536 % 256 = omega arith in
    let s : n / 16777216 % 256 ≡ n / 16777216 = omega arith in
    omega arith

pub size_is : {bytes : List ℕ} {i to k : ℕ} {b : List ℕ} → Framed bytes i to k b → size_at bytes i ≡ length b
size_is {bytes} {i} {b = b} f = let h = heads f in let d = digits (length b) f.small in omega arith

-- each of the first four bytes of a header fits
pub record Small (bytes : List ℕ) (i : ℕ) : Type 0 where
  pub s0 : get_or bytes i 0 < 256
  pub s1 : get_or bytes (i + 1) 0 < 256
  pub s2 : get_or bytes (i + 2) 0 < 256
  pub s3 : get_or bytes (i + 3) 0 < 256

six : (bytes : List ℕ) (i : ℕ) → i + 6 ≤ length bytes → drop i bytes ≡ get_or bytes i 0 ∷ get_or bytes (i + 1) 0 ∷ get_or bytes (i + 2) 0 ∷ get_or bytes (i + 3) 0 ∷ get_or bytes (i + 4) 0 ∷ get_or bytes (i + 5) 0 ∷ drop (i + 6) bytes
six bytes i h =
    let a = drop_more bytes i 0 (omega arith) in
    let b = drop_more bytes (i + 1) 0 (omega arith) in
    let c = drop_more bytes (i + 2) 0 (omega arith) in
    let d = drop_more bytes (i + 3) 0 (omega arith) in
    let e = drop_more bytes (i + 4) 0 (omega arith) in
    let f = drop_more bytes (i + 5) 0 (omega arith) in
    let p : i + 1 + 1 ≡ i + 2 = omega arith in
    let q : i + 2 + 1 ≡ i + 3 = omega arith in
    let r : i + 3 + 1 ≡ i + 4 = omega arith in
    let s : i + 4 + 1 ≡ i + 5 = omega arith in
    let t : i + 5 + 1 ≡ i + 6 = omega arith in
    cc

-- four bytes as the digits of the number that they write
pub bytes_of : (a b c d n : ℕ) → a < 256 → b < 256 → c < 256 → d < 256 → n ≡ a + b * 256 + c * 65536 + d * 16777216
    → (a ≡ n % 256) × (b ≡ n / 256 % 256) × (c ≡ n / 65536 % 256) × (d ≡ n / 16777216 % 256)
bytes_of a b c d n p q r s e =
    let one : n / 256 ≡ b + c * 256 + d * 65536 = omega arith in
    let two : n / 65536 ≡ c + d * 256 = omega arith in
    let three : n / 16777216 ≡ d = omega arith in
    (omega arith, omega arith, omega arith, omega arith)

joined : (bytes : List ℕ) (i e z : ℕ) (b : List ℕ) → Small bytes i → z ≡ 0 → length b ≡ size_at bytes i → drop (i + 6) bytes ≡ b ++ drop e bytes
    → get_or bytes i 0 ∷ get_or bytes (i + 1) 0 ∷ get_or bytes (i + 2) 0 ∷ get_or bytes (i + 3) 0 ∷ get_or bytes (i + 4) 0 ∷ z ∷ drop (i + 6) bytes ≡ framed (get_or bytes (i + 4) 0) b ++ drop e bytes
joined bytes i e z b s w l d =
    let p = bytes_of (get_or bytes i 0) (get_or bytes (i + 1) 0) (get_or bytes (i + 2) 0) (get_or bytes (i + 3) 0) (length b) s.s0 s.s1 s.s2 s.s3 l in
    let p0 = p.0 in
    let p1 = p.1 in
    let p2 = p.2 in
    let p3 = p.3 in
    cc

-- a header that fits is that of a record
pub frame_is : (bytes : List ℕ) (i to size : ℕ) (h : Record) → i + 6 ≤ length bytes → Small bytes i → size ≡ size_at bytes i → h.kind ≡ get_or bytes (i + 4) 0 → h.from ≡ i + 6 → h.body.now ≡ part bytes (i + 6) (i + 6 + size) → i + 6 + size ≤ to → i + 6 + size ≤ length bytes → get_or bytes (i + 5) 0 ≡ 0 → RecordAt bytes i to h
frame_is bytes i to size h room small is kind at body fits within zero =
    let b = h.body.now in
    let e = i + 6 + size in
    let l : length b ≡ size = ap length body ∙ length_part bytes (i + 6) e within ∙ omega arith in
    let inner : drop (i + 6) bytes ≡ b ++ drop e bytes = rw body (cut bytes (i + 6) e (omega arith)) in
    let whole : drop i bytes ≡ framed h.kind b ++ drop e bytes =
    rw kind (six bytes i room ∙ joined bytes i e (get_or bytes (i + 5) 0) b small zero (l ∙ is) inner) in
    record { framed = record { rest = drop e bytes; there = whole; small = omega arith; within = omega arith }; starts = at }

-- where a record that was found ends
pub ends : {bytes : List ℕ} {i to : ℕ} {h : Record} → RecordAt bytes i to h → end_of h ≡ past i h.body.now
ends a = omega (arith, a.starts)

pub within : {bytes : List ℕ} {i to : ℕ} {h : Record} → RecordAt bytes i to h → end_of h ≤ to
within a = omega (arith, a.starts, a.framed.within)

pub ends_inside : {bytes : List ℕ} {i to : ℕ} {h : Record} → RecordAt bytes i to h → end_of h ≤ length bytes
ends_inside a = omega (arith, a.starts, inside a.framed)

-- what was cut from the bytes, at i
pub record Cut (bytes : List ℕ) (i top : ℕ) (xs : List ℕ) : Type 0 where
  pub is : xs ≡ take (top - i) (drop i bytes)
  pub long : length xs + i ≡ top
  pub within : top ≤ length bytes

cut_byte : {bytes xs : List ℕ} {i top : ℕ} (k : ℕ) → Cut bytes i top xs → k < length xs → get_or xs k 0 ≡ get_or bytes (i + k) 0
cut_byte {bytes} {i = i} {top} k c h = ap (λ l. get_or l k 0) c.is ∙ get_or-take (top - i) (drop i bytes) k 0 (let l = c.long in omega arith) ∙ get_or-drop i bytes k 0

-- the size in a header that was cut from the bytes
cut_size : {bytes xs : List ℕ} {i top : ℕ} (size : ℕ) → Cut bytes i top xs → 6 ≤ length xs → size ≡ get_or xs 0 0 + get_or xs 1 0 * 256 + get_or xs 2 0 * 65536 + get_or xs 3 0 * 16777216 → size ≡ size_at bytes i
cut_size {bytes} {i = i} size c six_long is =
    let b0 = cut_byte 0 c (omega arith) ∙ ap (λ k. get_or bytes k 0) (let e : i + 0 ≡ i = omega arith in e) in
    let b1 = cut_byte 1 c (omega arith) in
    let b2 = cut_byte 2 c (omega arith) in
    let b3 = cut_byte 3 c (omega arith) in
    omega arith

-- no record stands where the size says more bytes than there are
pub overlong : (bytes xs : List ℕ) (i to top size : ℕ) → Cut bytes i top xs → top ≡ min to (length bytes) → 6 ≤ length xs → size ≡ get_or xs 0 0 + get_or xs 1 0 * 256 + get_or xs 2 0 * 65536 + get_or xs 3 0 * 16777216 → length xs - 6 < size → Unframed bytes i to
overlong bytes xs i to top size c least six_long is more k b f =
    let s = cut_size size c six_long is in
    let l = c.long in
    let z = size_is f in
    let w = f.within in
    let n = inside f in
    omega arith

-- a header that was cut from the bytes
pub frame_in : (bytes xs : List ℕ) (i to top size : ℕ) (h : Record) → Cut bytes i top xs → top ≤ to → 6 ≤ length xs → Small bytes i → size ≡ get_or xs 0 0 + get_or xs 1 0 * 256 + get_or xs 2 0 * 65536 + get_or xs 3 0 * 16777216 → get_or xs 5 0 ≡ 0 → size ≤ length xs - 6 → h.kind ≡ get_or xs 4 0 → h.from ≡ i + 6 → h.body.now ≡ part bytes (i + 6) (i + 6 + size) → RecordAt bytes i to h
frame_in bytes xs i to top size h c up six_long small is zero fits kind at body =
    let l = c.long in
    let w = c.within in
    let s = cut_size size c six_long is in
    let b4 = cut_byte 4 c (omega arith) in
    let b5 = cut_byte 5 c (omega arith) in
    frame_is bytes i to size h (omega arith) small s (kind ∙ b4) at body (omega arith) (omega arith) (omega arith)

-- the record of a member's value, where its name's ends
pub member_at : {bytes : List ℕ} {i to e : ℕ} {g h : Record} → RecordAt bytes i to g → g.kind ≡ 8 → e ≡ end_of g → RecordAt bytes e to h → Valued bytes i to e h
member_at a k q b = rw q (a_member a k (rw q at b))
