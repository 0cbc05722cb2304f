-- Bytes written in place.
use Rattle.std.proofs.Common.{◌≡◌, ℕ, ◌+◌, ◌-◌, ◌≤◌, List, ◌++◌, length, take, drop, sym, ap, ◌∙◌, arith, length-append, length-drop, length-take}
use borrow.Rule.Slice.PartMut.{put_mid}
use Rattle.std.proofs.lemmas.List.{drop-drop, take_at, append_assoc, take-append-drop, take-append-le, drop-append-le, length-take-le}
use Rattle.record.specs.Records.{le32, patched}

pub length-patched : (p : ℕ) (bs : List ℕ) → p + 4 ≤ length bs → length (patched p bs) ≡ length bs
length-patched p bs h = simp (length-append, length-take, length-drop) (omega arith)

pub put_mid_front : (p k n : ℕ) (a b ys : List ℕ) → k ≡ 4 → ys ≡ le32 n → n ≡ length a - (p + 6) → p + 4 ≤ length a → put_mid p k (a ++ b) ys ≡ patched p a ++ b
put_mid_front p k n a b ys four le size h =
    let front : take p (a ++ b) ≡ take p a = take-append-le p a b (omega arith) in
    let back : drop k (drop p (a ++ b)) ≡ drop (p + 4) a ++ b = drop-drop k p (a ++ b) ∙ ap (λ j. drop (p + j) (a ++ b)) four ∙ drop-append-le (p + 4) a b h in
    let ends : ys ≡ le32 (length a - (p + 6)) = le ∙ ap le32 size in
    rw (front, back, ends) (simp append_assoc)

-- four bytes at p, in bytes of which the first u count
pub take-patched : (u p k n : ℕ) (xs ys : List ℕ) → k ≡ 4 → ys ≡ le32 n → n ≡ u - (p + 6) → p + 4 ≤ u → u ≤ length xs → take u (put_mid p k xs ys) ≡ patched p (take u xs)
take-patched u p k n xs ys four le size h within =
    let long : length (take u xs) ≡ u = length-take-le u xs within in
    ap (λ zs. take u (put_mid p k zs ys)) (sym (take-append-drop u xs))
    ∙ ap (take u) (put_mid_front p k n (take u xs) (drop u xs) ys four le (omega arith) (omega arith))
    ∙ take_at (patched p (take u xs)) (drop u xs) u (length-patched p (take u xs) (omega arith) ∙ long)
