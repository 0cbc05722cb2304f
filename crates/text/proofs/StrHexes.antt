-- Four hexadecimal digits, and a low surrogate.
use Rattle.std.proofs.Common.{◌≡◌, ℕ, ◌+◌, ◌*◌, ◌<◌, Bool, true, false, List, ◌∷◌, length, get_or, drop, sym, refl, ap, ◌∙◌, subst, arith, length-drop}
use Rattle.std.specs.Array.{IsFirstChunk}
use Rattle.std.specs.Char.{digit_value}
use Rattle.std.specs.Bool.{then_some}
use Rattle.std.specs.Int.{IsInRange, is_in_range}
use Rattle.text.specs.StringGrammar.{Hex4, hex4, Low, low}
use Rattle.text.specs.StringDecode.{Exactly, Nothing, LowTold}
use Rattle.text.proofs.StrUtf8.{drop_more}
use Rattle.std.proofs.lemmas.Bool.Decides.{nat_tests}
use Rattle.std.proofs.lemmas.List.{drop-drop}

pub hex_same : {xs r t : List ℕ} {u v : ℕ} → Hex4 xs u r → Hex4 xs v t → (u ≡ v) × (r ≡ t)
hex_same (hex4 a b c d) (hex4 e f g h) = (refl, refl)

digits : {a b c d u : ℕ} {t r : List ℕ} → Hex4 (a ∷ b ∷ c ∷ d ∷ t) u r → (digit_value a < 16) × (digit_value b < 16) × (digit_value c < 16) × (digit_value d < 16)
digits (hex4 p q s t) = (p, q, s, t)

-- where ys are the four bytes at the front of xs
module _ {xs ys : List ℕ} (f : IsFirstChunk xs ys 4) where
  four : xs ≡ get_or ys 0 0 ∷ get_or ys 1 0 ∷ get_or ys 2 0 ∷ get_or ys 3 0 ∷ drop 4 xs
  four =
      let a = f.each in
      let b = a.5 in
      let c = b.5 in
      let d = c.5 in
      let p : get_or ys 0 0 ≡ get_or xs 0 0 = a.3.1 0 ∙ a.4 ∙ sym (a.2.1 0) in
      let q : get_or ys 1 0 ≡ get_or xs 1 0 = b.3.1 0 ∙ b.4 ∙ sym (b.2.1 0) in
      let s : get_or ys 2 0 ≡ get_or xs 2 0 = c.3.1 0 ∙ c.4 ∙ sym (c.2.1 0) in
      let t : get_or ys 3 0 ≡ get_or xs 3 0 = d.3.1 0 ∙ d.4 ∙ sym (d.2.1 0) in
      rw (p, q, s, t)
      (drop_more xs 0 1 (omega (arith, f.enough)) refl
      ∙ ap (λ l. get_or xs 0 0 ∷ l)
      (drop_more xs 1 2 (omega (arith, f.enough)) refl
      ∙ ap (λ l. get_or xs 1 0 ∷ l)
      (drop_more xs 2 3 (omega (arith, f.enough)) refl
      ∙ ap (λ l. get_or xs 2 0 ∷ l) (drop_more xs 3 4 (omega (arith, f.enough)) refl))))

  pub digit_fails : (digit_value (get_or ys 0 0) < 16 → digit_value (get_or ys 1 0) < 16 → digit_value (get_or ys 2 0) < 16 → digit_value (get_or ys 3 0) < 16 → ⊥) → Nothing Hex4 xs 0
  digit_fails n y r x = let d = digits (subst (λ l. Hex4 l y r) four x) in n d.0 d.1 d.2 d.3

  pub digits_stand : (a b c d : ℕ)
      → a ≡ digit_value (get_or ys 0 0) → b ≡ digit_value (get_or ys 1 0) → c ≡ digit_value (get_or ys 2 0) → d ≡ digit_value (get_or ys 3 0)
      → a < 16 → b < 16 → c < 16 → d < 16 → Exactly Hex4 xs 0 (((a * 16 + b) * 16 + c) * 16 + d) 4
  digits_stand a b c d ea eb ec ed la lb lc ld =
      let v : ((digit_value (get_or ys 0 0) * 16 + digit_value (get_or ys 1 0)) * 16 + digit_value (get_or ys 2 0)) * 16 + digit_value (get_or ys 3 0) ≡ ((a * 16 + b) * 16 + c) * 16 + d = omega arith in
      let x : Hex4 xs (((a * 16 + b) * 16 + c) * 16 + d) (drop 4 xs)
      = subst (λ l. Hex4 l (((a * 16 + b) * 16 + c) * 16 + d) (drop 4 xs)) (sym four)
      (subst (λ u. Hex4 (get_or ys 0 0 ∷ get_or ys 1 0 ∷ get_or ys 2 0 ∷ get_or ys 3 0 ∷ drop 4 xs) u (drop 4 xs)) v (hex4 (omega arith) (omega arith) (omega arith) (omega arith))) in
      record {
        forward = omega arith;
        within = f.enough;
        reads = x;
        only = λ y r w. hex_same x w;
      }

-- what stands at the front of a part stands in the text
pub exactly_at : {X : Type 0} (R : List ℕ → X → List ℕ → Type 0) {xs : List ℕ} {x : X} {n : ℕ} (text : List ℕ) (at : ℕ) → xs ≡ drop at text → Exactly R xs 0 x n → Exactly R text at x (at + n)
exactly_at R {xs} {x} {n} text at e t =
    let rest = ap (drop n) e ∙ drop-drop n at text in
    record {
      forward = omega (arith, t.forward);
      within = omega (arith, t.forward, t.within, ap length e, length-drop at text);
      reads = subst (λ l. R (drop at text) x l) rest (subst (λ l. R l x (drop n xs)) e t.reads);
      only = λ y r w. let s = t.only y r (subst (λ l. R l y r) (sym e) w) in (s.0, sym rest ∙ s.1);
    }

-- a low surrogate
pub low_same : {xs r t : List ℕ} {u v : ℕ} → Low xs u r → Low xs v t → (u ≡ v) × (r ≡ t)
low_same (low h i) (low g j) = hex_same h g

pub low_in : {xs r : List ℕ} {u : ℕ} → Low xs u r → IsInRange 56320 57343 u
low_in (low h i) = i

pub shape : {xs r : List ℕ} {u : ℕ} → Low xs u r → (ys : List ℕ) × (xs ≡ 92 ∷ 117 ∷ ys) × Hex4 ys u r
shape (low {xs} h i) = (xs, refl, h)

-- where `\u` stands at the front, and xs after it
module _ (text : List ℕ) {xs : List ℕ} (e : text ≡ 92 ∷ 117 ∷ xs) where
  pub by_low : {u : ℕ} {r : List ℕ} → Low text u r → Hex4 xs u r × IsInRange 56320 57343 u
  by_low {u} {r} l =
      let i = shape l in
      let f = sym e ∙ i.1 in
      let d : i.0 ≡ xs = cc in
      (subst (λ k. Hex4 k u r) d i.2, low_in l)

  low_stands : {u : ℕ} → Exactly Hex4 xs 0 u 4 → IsInRange 56320 57343 u → Exactly Low text 0 u 6
  low_stands {u} x i =
      let rest : xs ≡ drop 2 text = sym (ap (drop 2) e) in
      let end : drop 4 xs ≡ drop 6 text = ap (drop 4) rest ∙ drop-drop 4 2 text in
      let s : Low text u (drop 6 text) = subst (λ l. Low l u (drop 6 text)) (sym e) (low (subst (λ l. Hex4 xs u l) end x.reads) i) in
      record {
        forward = omega arith;
        within = omega (arith, x.within, ap length e);
        reads = s;
        only = λ y r z. low_same s z;
      }

  -- four digits, kept where they are those of a low surrogate
  pub low_kept : (u : ℕ) (b : Bool) → b ≡ is_in_range 56320 57343 u → Exactly Hex4 xs 0 u 4 → LowTold text (then_some b u)
  low_kept u true e x = let i : IsInRange 56320 57343 u = (grind (arith, nat_tests), grind (arith, nat_tests)) in (low_stands x i, i)
  low_kept u false e x = λ y r l. let p = by_low l in let s = x.only y r p.0 in grind (arith, nat_tests)
