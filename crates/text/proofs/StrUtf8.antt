-- One character of UTF-8.
use Rattle.std.proofs.Common.{refl, ◌≡◌, ℕ, ◌+◌, ◌-◌, ◌<◌, ◌≤◌, List, [], ◌∷◌, ◌++◌, length, get_or, drop, Some, None, sym, ap, ◌∙◌, add-one, arith, drop-cons, length-drop, drop-drop}
use lib.Utf8.{encode, low_scalar}
use Rattle.std.proofs.lemmas.Bool.Decides.{nat_tests}
use Rattle.std.proofs.lemmas.Str.{encode_same}
use Rattle.bstr.specs.Utf8.{Decoded, decoded}
use Rattle.bstr.proofs.lemmas.EncodeLemmas.{decoded-encode}
use Rattle.bstr.proofs.lemmas.PieceLemmas.{piece-bounds}
use Rattle.bstr.proofs.lemmas.SoundLemmas.{SpellsChar-decoded}
use Rattle.text.specs.StringGrammar.{Utf8Char, utf8}
use Rattle.text.specs.StringDecode.{Exactly, Nothing}

pub drop_more : (text : List ℕ) (i j : ℕ) → i < length text → i + 1 ≡ j → drop i text ≡ get_or text i 0 ∷ drop j text
drop_more text i j h e = drop-cons text i 0 h ∙ ap (λ k. get_or text i 0 ∷ drop k text) (sym (add-one i) ∙ e)

pub utf8_same : {xs r t : List ℕ} {c d : ℕ} → Utf8Char xs c r → Utf8Char xs d t → (c ≡ d) × (r ≡ t)
utf8_same {r = r} {t} {c} {d} (utf8 p e) (utf8 q f) = encode_same c d r t (sym e ∙ f)

encode_one : (c : ℕ) → c < 128 → encode c ≡ c ∷ []
unfolding encode
encode_one c h = grind (arith, nat_tests)

pub utf8_one : (text : List ℕ) (at : ℕ) → at < length text → get_or text at 0 < 128 → Exactly Utf8Char text at (get_or text at 0) (at + 1)
utf8_one text at l h =
    let x = get_or text at 0 in
    let u : Utf8Char (drop at text) x (drop (at + 1) text)
    = utf8 (low_scalar x (omega arith)) (drop_more text at (at + 1) l refl ∙ ap (λ p. p ++ drop (at + 1) text) (sym (encode_one x h))) in
    record {
      forward = omega arith;
      within = omega arith;
      reads = u;
      only = λ y r z. utf8_same u z;
    }

-- a character decodes
utf8_decoded : {xs r : List ℕ} {c : ℕ} → Utf8Char xs c r → (decoded xs).char ≡ Some c
utf8_decoded {r = r} {c} (utf8 s e) = ap (λ l. (decoded l).char) e ∙ ap (λ (d : Decoded). d.char) (decoded-encode c r s)

pub no_utf8 : {r : List ℕ} {c : ℕ} → Utf8Char [] c r → ⊥
no_utf8 u = let e = utf8_decoded u in cc

bounds : (xs : List ℕ) (c : ℕ) → (decoded xs).char ≡ Some c → (0 < (decoded xs).size) × ((decoded xs).size ≤ length xs)
bounds [] c e = cc
bounds (x ∷ xs) c e = let p = piece-bounds (x ∷ xs) (omega arith) in (omega arith, omega arith)

module _ (text : List ℕ) (at : ℕ) (rest : List ℕ) (is : rest ≡ drop at text) where
  pub no_decoded : (decoded rest).char ≡ None → Nothing Utf8Char text at
  no_decoded n c r u = let e = ap (λ l. (decoded l).char) is ∙ utf8_decoded u in cc

  pub decoded_here : (c : ℕ) → (decoded rest).char ≡ Some c → Exactly Utf8Char text at c (at + (decoded rest).size)
  decoded_here c e =
      let n = (decoded rest).size in
      let b = bounds rest c e in
      let l : length rest ≡ length text - at = ap length is ∙ length-drop at text in
      let s = SpellsChar-decoded rest c e in
      let u : Utf8Char (drop at text) c (drop (at + n) text) = utf8 s.scalar (sym is ∙ s.bytes ∙ ap (λ l. encode c ++ drop n l) is ∙ ap (λ l. encode c ++ l) (drop-drop n at text)) in
      record {
        forward = omega arith;
        within = omega arith;
        reads = u;
        only = λ y r x. utf8_same u x;
      }
