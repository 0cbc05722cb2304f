-- The bytes of a text from a place on.
use Rattle.std.proofs.Common.{◌≡◌, ◌==◌, Bool, true, false, take, ℕ, zero, suc, ◌+◌, ◌-◌, ◌<◌, ◌≤◌, List, [], ◌∷◌, ◌++◌, length, get_or, drop, sym, ap, ◌∙◌, subst, arith, length-append, length-drop}
use Rattle.std.proofs.lemmas.List.{get_or-drop, drop_all, drop_more, take-append-drop, drop-drop, length-take-le, take_rest}
use Rattle.std.proofs.lemmas.Bool.Decides.{Decides-eqb}
use Rattle.std.proofs.lemmas.Slice.Eq.{starts_is}
use Rattle.std.specs.List.{starts_with}
use Rattle.text.specs.TokenGrammar.{NotAhead}
use Rattle.text.specs.Cuts.{part, Front}

pub there : (text : List ℕ) (i : ℕ) → i < length text → drop i text ≡ get_or text i 0 ∷ drop (i + 1) text
there text i h = drop_more text i 0 h

pub gone : (text : List ℕ) (i : ℕ) → length text ≤ i → drop i text ≡ []
gone text i h = drop_all i text h

-- a byte that stands there, and what follows it
pub first : (text : List ℕ) (i b : ℕ) (t : List ℕ) → drop i text ≡ b ∷ t → (i < length text) × (get_or text i 0 ≡ b) × (drop (i + 1) text ≡ t)
first text i b t e =
    let l : i < length text = omega (arith, ap length e, length-drop i text) in
    let f : get_or text i 0 ∷ drop (i + 1) text ≡ b ∷ t = sym (there text i l) ∙ e in
    (l, (cc), (cc))

pub cut : (text : List ℕ) (i j : ℕ) → i ≤ j → drop i text ≡ part text i j ++ drop j text
cut text i j h =
    let k : i + (j - i) ≡ j = omega arith in
    sym (take-append-drop (j - i) (drop i text)) ∙ ap (λ l. part text i j ++ l) (drop-drop (j - i) i text ∙ ap (λ n. drop n text) k)

pub length_part : (text : List ℕ) (i j : ℕ) → j ≤ length text → length (part text i j) ≡ j - i
length_part text i j h = length-take-le (j - i) (drop i text) (omega (arith, length-drop i text))

pub not_ahead : (P : ℕ → Type 0) (text : List ℕ) (i : ℕ) → (i < length text → P (get_or text i 0) → ⊥) → NotAhead P (drop i text)
not_ahead P text i n b t e p = let f = first text i b t e in n f.0 (subst P (sym f.1) p)

pub same_place : (text : List ℕ) (i j : ℕ) → i ≤ length text → j ≤ length text → drop i text ≡ drop j text → i ≡ j
same_place text i j h k e = omega (arith, ap length e, length-drop i text, length-drop j text)

-- what follows the front of a list that has another front
pub front : {b : ℕ} {t : List ℕ} (xs ys : List ℕ) → 0 < length xs → xs ++ ys ≡ b ∷ t → (u : List ℕ) × (xs ≡ b ∷ u)
front [] ys h e = absurd (omega arith)
front {b} {t} (x ∷ xs) ys h e = let f : x ∷ (xs ++ ys) ≡ b ∷ t = e in let g : x ≡ b = cc in (xs, ap (λ n. n ∷ xs) g)

upward : (P : ℕ → Type 0) (i n : ℕ) → P i → ((k : ℕ) → i ≤ k → k < i + n → P k → P (k + 1)) → P (i + n)
upward P i zero p step = let e : i ≡ i + 0 = omega arith in subst P e p
upward P i (suc n) p step =
    let e : (i + n) + 1 ≡ i + suc n = omega arith in
    subst P e (step (i + n) (omega arith) (omega arith) (upward P i n p (λ k a b. step k a (omega arith))))

-- what holds at i and is handed on from each place to the next holds at j
pub along : (P : ℕ → Type 0) (i j : ℕ) → i ≤ j → P i → ((k : ℕ) → i ≤ k → k < j → P k → P (k + 1)) → P j
along P i j h p step =
    let e : i + (j - i) ≡ j = omega arith in
    subst P e (upward P i (j - i) p (λ k a b. step k a (omega arith)))

pub torn : {b : Bool} → b ≡ true → b ≡ false → ⊥
torn t f = let z : ◌≡◌ {A = ℕ} 0 1 = cc in omega arith

-- the test is true of each byte from i on, before j, and false of the byte at j, if there is one
pub record RunTo (Tests : ℕ → Bool → Type 0) (text : List ℕ) (i j : ℕ) : Type 0 where
  pub forward : i ≤ j
  pub within : j ≤ length text
  pub all : (k : ℕ) → i ≤ k → k < j → Tests (get_or text k 0) true
  pub stops : j < length text → Tests (get_or text j 0) false

pub run_from : (Tests : ℕ → Bool → Type 0) (text : List ℕ) (i n : ℕ) → i ≤ length text → Front Tests (part text i (length text)) n → RunTo Tests text i (i + n)
run_from Tests text i n h r =
    let size = length_part text i (length text) (omega arith) in
    let at : (k : ℕ) → get_or (part text i (length text)) k 0 ≡ get_or text (i + k) 0 = λ k. ap (λ l. get_or l k 0) (take_rest text i) ∙ get_or-drop i text k 0 in
    record {
      forward = omega arith;
      within = omega (arith, r.within);
      all = λ k p q. let there : i + (k - i) ≡ k = omega arith in subst (λ b. Tests b true) (at (k - i) ∙ ap (λ m. get_or text m 0) there) (r.all (k - i) (omega arith));
      stops = λ l. subst (λ b. Tests b false) (at n) (r.stops (omega arith));
    }

-- what `starts_with` says of the text from a place on
module _ (text word : List ℕ) (i : ℕ) {r : Bool} (m : r ≡ starts_with ◌==◌ (take (length text - i) (drop i text)) word) where
  told : (r ≡ true → take (length text - i) (drop i text) ≡ word ++ drop (length word) (take (length text - i) (drop i text))) × ((rest : List ℕ) → take (length text - i) (drop i text) ≡ word ++ rest → r ≡ true)
  told = starts_is Decides-eqb (take (length text - i) (drop i text)) word r m

  pub begins : r ≡ true → drop i text ≡ word ++ drop (i + length word) text
  begins t = subst (λ l. l ≡ word ++ drop (length word) l) (take_rest text i) (told.0 t) ∙ ap (λ l. word ++ l) (drop-drop (length word) i text)

  pub begins_not : r ≡ false → (rest : List ℕ) → drop i text ≡ word ++ rest → ⊥
  begins_not f rest e = torn (told.1 rest (take_rest text i ∙ e)) f

pub begins_fits : (text word : List ℕ) (i : ℕ) → 0 < length word → drop i text ≡ word ++ drop (i + length word) text → i + length word ≤ length text
begins_fits text word i h e = omega (arith, ap length e, length-append word (drop (i + length word) text), length-drop i text)
