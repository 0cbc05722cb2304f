-- One record stands at a place, and ends within the bytes.
use Rattle.std.specs.Prelude.{◌≡◌, ℕ, ◌/◌, ◌%◌, ◌^◌, ◌<◌, ◌≤◌, List, ◌++◌, length}
use Rattle.std.proofs.Common.{sym, ap, ap₂, ◌∙◌, take, arith, length-append, length-drop}
use Rattle.std.proofs.Math.Seq.{take-append_seam}
use Rattle.model.specs.Records.{framed}
use Rattle.stored.specs.Frames.{past, Framed}

le32-same : (m n : ℕ) → m < 2 ^ 32 → n < 2 ^ 32 → m % 256 ≡ n % 256 → m / 256 % 256 ≡ n / 256 % 256 → m / 65536 % 256 ≡ n / 65536 % 256 → m / 16777216 % 256 ≡ n / 16777216 % 256 → m ≡ n
le32-same m n a b p q r s = omega arith

-- one record stands at a place
pub one_framed : {bytes : List ℕ} {i to up k l : ℕ} {b c : List ℕ} → Framed bytes i to k b → Framed bytes i up l c → (k ≡ l) × (b ≡ c)
one_framed {k = k} {l} {b} {c} f g =
    let e : framed k b ++ f.rest ≡ framed l c ++ g.rest = sym f.there ∙ g.there in
    let p : length b % 256 ≡ length c % 256 = cc in
    let q : length b / 256 % 256 ≡ length c / 256 % 256 = cc in
    let r : length b / 65536 % 256 ≡ length c / 65536 % 256 = cc in
    let s : length b / 16777216 % 256 ≡ length c / 16777216 % 256 = cc in
    let n = le32-same (length b) (length c) f.small g.small p q r s in
    let t : b ++ f.rest ≡ c ++ g.rest = cc in
    let same : k ≡ l = cc in
    (same, sym (take-append_seam b f.rest) ∙ ap₂ (λ (m : ℕ) (xs : List ℕ). take m xs) n t ∙ take-append_seam c g.rest)

-- a record ends within the bytes
pub inside : {bytes : List ℕ} {i to k : ℕ} {b : List ℕ} → Framed bytes i to k b → past i b ≤ length bytes
inside {bytes} {i} {b = b} f =
    let l = ap length f.there in
    let m = length-append b f.rest in
    let n = length-drop i bytes in
    omega arith
