-- The character of an escape \u.
use Rattle.std.proofs.Common.{◌≡◌, ℕ, ◌+◌, ◌-◌, ◌*◌, ◌<◌, ◌≤◌, ◌⊎◌, List, drop, sym, ap, ◌∙◌, subst, inl, inr, ⊎_elim, arith}
use Rattle.std.specs.Int.{IsInRange}
use Rattle.text.specs.StringGrammar.{Hex4, Low, Code, lone, pair}
use Rattle.text.specs.StringDecode.{Exactly, Nothing}
use Rattle.text.proofs.StrHexes.{hex_same, low_same}

abbrev pub joined : ℕ → ℕ → ℕ
joined u v = 65536 + (u - 55296) * 1024 + (v - 56320)

-- a character whose first four digits are u, where ys follows them
pub data Seen (u : ℕ) (ys : List ℕ) (c : ℕ) (r : List ℕ) : Type 0 where
  seen_lone : (u < 55296) ⊎ (57343 < u) → u ≡ c → ys ≡ r → Seen u ys c r
  seen_pair : {v : ℕ} → IsInRange 55296 56319 u → Low ys v r → joined u v ≡ c → Seen u ys c r

seen : {xs ys r : List ℕ} {u c : ℕ} → Hex4 xs u ys → Code xs c r → Seen u ys c r
seen {u = u} h (lone {u = c} g o) = let e = hex_same h g in seen_lone (⊎_elim (λ l. inl (omega arith)) (λ l. inr (omega arith)) o) e.0 e.1
seen {u = u} h (pair {r = r} {v = v} g i l) = let e = hex_same h g in seen_pair (omega arith, omega arith) (subst (λ k. Low k v r) (sym e.1) l) (ap (λ n. joined n v) e.0)

digits : {xs r : List ℕ} {c : ℕ} → Code xs c r → (u : ℕ) × (ys : List ℕ) × Hex4 xs u ys
digits (lone {r = r} {u} h o) = (u, r, h)
digits (pair {ys = ys} {u = u} h i l) = (u, ys, h)

same : {u c d : ℕ} {ys r t : List ℕ} → Seen u ys c r → Seen u ys d t → (c ≡ d) × (r ≡ t)
same (seen_lone o e f) (seen_lone p g h) = (sym e ∙ g, sym f ∙ h)
same (seen_lone o e f) (seen_pair i l g) = absurd (⊎_elim (λ k. omega arith) (λ k. omega arith) o)
same (seen_pair i l g) (seen_lone o e f) = absurd (⊎_elim (λ k. omega arith) (λ k. omega arith) o)
same {u} (seen_pair i l g) (seen_pair j m h) = let e = low_same l m in (sym g ∙ ap (joined u) e.0 ∙ h, e.1)

pub code_same : {xs r t : List ℕ} {c d : ℕ} → Code xs c r → Code xs d t → (c ≡ d) × (r ≡ t)
code_same c d = let h = (digits c).2 in same (seen h c) (seen h d)

module _ {text : List ℕ} {at u : ℕ} (x : Exactly Hex4 text at u (at + 4)) where
  pub code_lone : (u < 55296) ⊎ (57343 < u) → Exactly Code text at u (at + 4)
  code_lone o = record {
    forward = x.forward;
    within = x.within;
    reads = lone x.reads o;
    only = λ y r c. code_same (lone x.reads o) c;
  }

  pub code_low : 56320 ≤ u → u ≤ 57343 → Nothing Code text at
  code_low a b y r c = elim (seen x.reads c) [ seen_lone o e f ↦ ⊎_elim (λ l. omega arith) (λ l. omega arith) o | seen_pair i l e ↦ omega arith ]

  pub code_no_low : 55296 ≤ u → u ≤ 57343 → Nothing Low text (at + 4) → Nothing Code text at
  code_no_low a b n y r c = elim (seen x.reads c) [ seen_lone o e f ↦ ⊎_elim (λ l. omega arith) (λ l. omega arith) o | seen_pair {v} i l e ↦ n v r l ]

  pub code_pair : {v : ℕ} → IsInRange 55296 56319 u → Exactly Low text (at + 4) v (at + 4 + 6) → Exactly Code text at (joined u v) (at + 10)
  code_pair {v} i l =
      let e : at + 4 + 6 ≡ at + 10 = omega arith in
      let c : Code (drop at text) (joined u v) (drop (at + 10) text) = pair x.reads i (subst (λ n. Low (drop (at + 4) text) v (drop n text)) e l.reads) in
      record {
        forward = omega arith;
        within = omega (arith, l.within);
        reads = c;
        only = λ y r d. code_same c d;
      }
