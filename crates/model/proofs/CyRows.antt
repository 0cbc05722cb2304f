-- Warshall's closure in place, row by row: in step k a row that has k takes over row k, which itself stays
use Rattle.std.proofs.Common.{◌≡◌, ℕ, suc, ◌<◌, ◌⊎◌, ◌↔◌, Bool, true, false, ◌||◌, inl, inr, sym, refl, ◌∙◌, ⊎_elim, arith}
use Rattle.std.proofs.lemmas.Bool.{both_ways}
use Rattle.model.specs.Paths.{Steps, direct, Row}
use Rattle.model.proofs.CyPaths.{through_zero, through_more, through_split, through_pivot, row_stays, through_steps, steps_through}

or_left : (a b : Bool) → a ≡ true → (a || b) ≡ true
or_left true b e = refl
or_left false b e = absurd (both_ways false refl e)

or_right : (a b : Bool) → b ≡ true → (a || b) ≡ true
or_right true b e = refl
or_right false b e = e

or_either : (a b : Bool) → (a || b) ≡ true → (a ≡ true) ⊎ (b ≡ true)
or_either true b e = inl refl
or_either false b e = inr e

-- before the first step a row is the relation's
pub row_first : (E : ℕ → ℕ → Type 0) (i : ℕ) (bits : ℕ → Bool) → ((j : ℕ) → bits j ≡ true ↔ E i j) → Row E 0 i bits
row_first E i bits h j = (λ b. direct ((h j).0 b), λ p. (h j).1 (through_zero p))

-- a row that has k takes over row k
pub row_joined : (E : ℕ → ℕ → Type 0) (k i : ℕ) (bits pivot new : ℕ → Bool) → Row E k i bits → Row E k k pivot → bits k ≡ true → ((j : ℕ) → new j ≡ (bits j || pivot j)) → Row E (suc k) i new
row_joined E k i bits pivot new r p e n j = (
  λ b. ⊎_elim (λ c. through_more (suc k) (omega arith) ((r j).0 c)) (λ c. through_pivot k ((r k).0 e) ((p j).0 c)) (or_either (bits j) (pivot j) (sym (n j) ∙ b)),
  λ q. n j ∙ ⊎_elim (λ c. or_left (bits j) (pivot j) ((r j).1 c)) (λ c. or_right (bits j) (pivot j) ((p j).1 c.1)) (through_split k q),
)

-- another stays
pub row_kept : (E : ℕ → ℕ → Type 0) (k i : ℕ) (bits : ℕ → Bool) → Row E k i bits → bits k ≡ false → Row E (suc k) i bits
row_kept E k i bits r e j = (
  λ b. through_more (suc k) (omega arith) ((r j).0 b),
  λ q. ⊎_elim (λ c. (r j).1 c) (λ c. absurd (both_ways (bits k) e ((r k).1 c.0))) (through_split k q),
)

-- so does row k, whether or not it has k: before its turn and after it, it is the same
pub row_pivot : (E : ℕ → ℕ → Type 0) (k : ℕ) (bits : ℕ → Bool) → Row E k k bits → Row E (suc k) k bits
row_pivot E k bits r j = (λ b. through_more (suc k) (omega arith) ((r j).0 b), λ q. (r j).1 (row_stays k q))

pub row_before : (E : ℕ → ℕ → Type 0) (k : ℕ) (bits : ℕ → Bool) → Row E (suc k) k bits → Row E k k bits
row_before E k bits r j = (λ b. row_stays k ((r j).0 b), λ q. (r j).1 (through_more (suc k) (omega arith) q))

-- after as many steps as there are numbers, a row says where one or more steps lead
pub row_last : (E : ℕ → ℕ → Type 0) (n i : ℕ) (bits : ℕ → Bool) → ((a b : ℕ) → E a b → a < n) → Row E n i bits → (j : ℕ) → bits j ≡ true ↔ Steps E i j
row_last E n i bits below r j = (λ b. through_steps ((r j).0 b), λ s. (r j).1 (steps_through n below s))
