-- Bits of words
use Rattle.std.proofs.Common.{◌≡◌, ℕ, ◌*◌, ◌/◌, ◌%◌, ◌^◌, ◌<◌, ◌≤◌, ◌||◌, ◌==◌, Bool, true, false, List, length, get_or, set, bit_or, max, w64, sym, refl, ap, ◌∙◌, ⊎_elim, arith, tests}
use Rattle.std.specs.Int.{bit_at}
use Rattle.std.proofs.lemmas.Bool.{cases_eq, cases_lt, both_ways}
use Rattle.std.proofs.lemmas.List.{get_or-set_same, get_or-set_other, get_or_past}
use Rattle.std.proofs.lemmas.Nat.Bits.{bit_at_set_same, bit_at_set_other, bit_at_or, bit_at-lt}
use Rattle.relation.specs.Bits.{bit}

one_of : (m : ℕ) → ℕ → ℕ
one_of m k = bit_or m (1 * 2 ^ k % 2 ^ 64)

same_word : (ws : List ℕ) (n v j : ℕ) → n / 64 < length ws → j / 64 ≡ n / 64 → bit (set ws (n / 64) v) j ≡ (bit_at v (j % 64) == 1)
same_word ws n v j h e = ap (λ x. bit_at x (j % 64) == 1) (ap (λ k. get_or (set ws (n / 64) v) k 0) e ∙ get_or-set_same ws (n / 64) v 0 h)

other_word : (ws : List ℕ) (n v j : ℕ) → (j / 64 ≡ n / 64 → ⊥) → bit (set ws (n / 64) v) j ≡ bit ws j
other_word ws n v j e = ap (λ x. bit_at x (j % 64) == 1) (get_or-set_other ws (n / 64) (j / 64) v 0 e)

same_number : (j n : ℕ) → j / 64 ≡ n / 64 → j % 64 ≡ n % 64 → j ≡ n
same_number j n e f = omega arith

not_equal : (j n : ℕ) → (j ≡ n → ⊥) → (j == n) ≡ false
not_equal j n h = grind (arith, tests, h)

or_none : (a b : Bool) → a ≡ false → b ≡ (a || b)
or_none true b e = absurd (both_ways true e refl)
or_none false b e = refl

pub insert_bit : (ws : List ℕ) (n : ℕ) → n / 64 < length ws → (j : ℕ) → bit (set ws (n / 64) (bit_or (get_or ws (n / 64) 0) (1 * 2 ^ (n % 64) % 2 ^ 64))) j ≡ (j == n || bit ws j)
insert_bit ws n h j = ⊎_elim same_one other_one (cases_eq (j / 64) (n / 64))
  where
    new : ℕ
    new = bit_or (get_or ws (n / 64) 0) (1 * 2 ^ (n % 64) % 2 ^ 64)

    at_itself : j / 64 ≡ n / 64 → j % 64 ≡ n % 64 → bit (set ws (n / 64) new) j ≡ (j == n || bit ws j)
    at_itself e f =
        let k : j ≡ n = same_number j n e f in
        let b = same_word ws n new j h e in
        let s = bit_at_set_same w64 (get_or ws (n / 64) 0) (n % 64) (omega arith) in
        grind (arith, tests, k, b, s, f)

    beside : j / 64 ≡ n / 64 → (j % 64 ≡ n % 64 → ⊥) → bit (set ws (n / 64) new) j ≡ (j == n || bit ws j)
    beside e f =
        let b = same_word ws n new j h e in
        let s = bit_at_set_other w64 (get_or ws (n / 64) 0) (n % 64) (omega arith) (j % 64) f in
        b ∙ ap (λ x. x == 1) s ∙ ap (λ k. bit_at (get_or ws k 0) (j % 64) == 1) (sym e) ∙ or_none (j == n) (bit ws j) (not_equal j n (λ k. f (ap (λ x. x % 64) k)))

    same_one : j / 64 ≡ n / 64 → bit (set ws (n / 64) new) j ≡ (j == n || bit ws j)
    same_one e = ⊎_elim (at_itself e) (beside e) (cases_eq (j % 64) (n % 64))

    other_one : (j / 64 ≡ n / 64 → ⊥) → bit (set ws (n / 64) new) j ≡ (j == n || bit ws j)
    other_one e = other_word ws n new j e ∙ or_none (j == n) (bit ws j) (not_equal j n (λ k. e (ap (λ x. x / 64) k)))

-- one bit of two words together
or_bit : (a b : ℕ) → a < 2 → b < 2 → (max a b == 1) ≡ (a == 1 || b == 1)
or_bit a b h k = grind (arith, tests, h, k)

pub joined_bit : (a b i : ℕ) → (bit_at (bit_or a b) i == 1) ≡ (bit_at a i == 1 || bit_at b i == 1)
joined_bit a b i = ap (λ x. x == 1) (bit_at_or a b i) ∙ or_bit (bit_at a i) (bit_at b i) (bit_at-lt a i) (bit_at-lt b i)

-- the first i words are joined, and the others are as they were
abbrev pub Joined : List ℕ → List ℕ → ℕ → List ℕ → Type 0
Joined old other i new = (length new ≡ length old) × ((k : ℕ) → k < i → get_or new k 0 ≡ bit_or (get_or old k 0) (get_or other k 0)) × ((k : ℕ) → i ≤ k → get_or new k 0 ≡ get_or old k 0)

pub all_joined : (i : ℕ) (old other new : List ℕ) → Joined old other i new → length old ≤ i → length other ≤ i → (j : ℕ) → bit new j ≡ (bit old j || bit other j)
all_joined i old other new h a b j = ap (λ w. bit_at w (j % 64) == 1) (⊎_elim within past (cases_lt (j / 64) i)) ∙ joined_bit (get_or old (j / 64) 0) (get_or other (j / 64) 0) (j % 64)
  where
    within : j / 64 < i → get_or new (j / 64) 0 ≡ bit_or (get_or old (j / 64) 0) (get_or other (j / 64) 0)
    within l = h.1 (j / 64) l

    past : i ≤ j / 64 → get_or new (j / 64) 0 ≡ bit_or (get_or old (j / 64) 0) (get_or other (j / 64) 0)
    past l = rw (h.2 (j / 64) l, get_or_past old (j / 64) 0 (omega arith), get_or_past other (j / 64) 0 (omega arith)) refl
