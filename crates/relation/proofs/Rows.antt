-- Rows of bits, and what a pass over them adds
use Rattle.std.proofs.Common.{◌≡◌, ℕ, suc, ◌+◌, ◌%◌, ◌<◌, ◌≤◌, ◌↔◌, ◌||◌, ◌&&◌, ◌==◌, Bool, true, false, List, [], length, sym, refl, ap, ◌∙◌, subst, ⊎_elim, arith}
use Rattle.std.proofs.lemmas.Bool.{both_ways, cases_Bool, cases_lt}
use Rattle.std.proofs.lemmas.List.{get_or_past}
use Rattle.std.proofs.lemmas.Nat.Bits.{bit_at-zero}
use Rattle.model.specs.Paths.{Steps, Row}
use Rattle.model.proofs.CyRows.{row_first, row_joined, row_kept, row_last}
use Rattle.relation.specs.declared.row.Row.{Row as Bits}
use Rattle.relation.specs.Bits.{bit}
use Rattle.relation.specs.Relating.{leads}

-- what a pass adds to the rows below a number
abbrev pub Passed : List Bits → ℕ → ℕ → List Bits → Type 0
Passed old through number new =
    ((i j : ℕ) → i < number → leads new i j ≡ (leads old i j || (leads old i through && leads old through j)))
    × ((i j : ℕ) → number ≤ i → leads new i j ≡ leads old i j)

-- a number without a row leads to none
pub leads_past : (rows : List Bits) (i j : ℕ) → length rows ≤ i → leads rows i j ≡ false
leads_past rows i j h = ap (λ (b : Bits). bit b.words j) (get_or_past rows i (record { words = [] }) h) ∙ ap (λ x. x == 1) (bit_at-zero (j % 64))

neither : (a b c : Bool) → a ≡ false → b ≡ false → a ≡ (a || (b && c))
neither false false c p q = refl
neither true b c p q = absurd (both_ways true p refl)
neither false true c p q = absurd (both_ways true q refl)

pub all_passed : (old : List Bits) (through number : ℕ) (new : List Bits) → Passed old through number new → length old ≤ number → (i j : ℕ) → leads new i j ≡ (leads old i j || (leads old i through && leads old through j))
all_passed old through number new p h i j = ⊎_elim (λ l. p.0 i j l) past (cases_lt i number)
  where
    past : number ≤ i → leads new i j ≡ (leads old i j || (leads old i through && leads old through j))
    past l = p.1 i j l ∙ neither (leads old i j) (leads old i through) (leads old through j) (leads_past old i j (omega arith)) (leads_past old i through (omega arith))

-- the steps of a relation
abbrev pub Led : List Bits → ℕ → ℕ → Type 0
Led rows i j = leads rows i j ≡ true

pub rows_first : (rows : List Bits) (i : ℕ) → Row (Led rows) 0 i (leads rows i)
rows_first rows i = row_first (Led rows) i (leads rows i) (λ j. (λ b. b, λ e. e))

row_same : (E : ℕ → ℕ → Type 0) (k i : ℕ) (bits new : ℕ → Bool) → ((j : ℕ) → new j ≡ bits j) → Row E k i bits → Row E k i new
row_same E k i bits new s r j = (λ b. (r j).0 (sym (s j) ∙ b), λ p. s j ∙ (r j).1 p)

joined : (a b c : Bool) → b ≡ true → (a || (b && c)) ≡ (a || c)
joined a true c e = refl
joined a false c e = absurd (both_ways false refl e)

kept : (a b c : Bool) → b ≡ false → (a || (b && c)) ≡ a
kept true b c e = refl
kept false true c e = absurd (both_ways true e refl)
kept false false c e = refl

pub rows_pass : (E : ℕ → ℕ → Type 0) (k : ℕ) (old new : List Bits) → ((i : ℕ) → Row E k i (leads old i)) → ((i j : ℕ) → leads new i j ≡ (leads old i j || (leads old i k && leads old k j))) → (i : ℕ) → Row E (k + 1) i (leads new i)
rows_pass E k old new r p i = subst (λ m. Row E m i (leads new i)) (omega arith) (⊎_elim with without (cases_Bool (leads old i k)))
  where
    with : leads old i k ≡ true → Row E (suc k) i (leads new i)
    with e = row_joined E k i (leads old i) (leads old k) (leads new i) (r i) (r k) e (λ j. p i j ∙ joined (leads old i j) (leads old i k) (leads old k j) e)

    without : leads old i k ≡ false → Row E (suc k) i (leads new i)
    without e = row_same E (suc k) i (leads old i) (leads new i) (λ j. p i j ∙ kept (leads old i j) (leads old i k) (leads old k j) e) (row_kept E k i (leads old i) (r i) e)

led_below : (rows : List Bits) (i j : ℕ) → Led rows i j → i < length rows
led_below rows i j e = ⊎_elim (λ l. l) (λ g. absurd (both_ways (leads rows i j) (leads_past rows i j g) e)) (cases_lt i (length rows))

pub rows_last : (old : List Bits) (n : ℕ) (new : List Bits) → length old ≤ n → ((i : ℕ) → Row (Led old) n i (leads new i)) → (i j : ℕ) → leads new i j ≡ true ↔ Steps (Led old) i j
rows_last old n new h r i j = row_last (Led old) n i (leads new i) (λ a b e. let l = led_below old a b e in omega arith) (r i) j
