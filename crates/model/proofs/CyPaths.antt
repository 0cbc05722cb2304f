-- Paths, and Warshall's sets: what each step adds
use Rattle.std.proofs.Common.{◌≡◌, ℕ, suc, ◌<◌, ◌≤◌, ◌⊎◌, ◌↔◌, inl, inr, subst, ⊎_elim, arith}
use Rattle.std.proofs.lemmas.Bool.{cases_lt}
use Rattle.model.specs.Paths.{Steps, step, on, Through, direct, via}

pub steps_then : {A : Type 0} {E : A → A → Type 0} {a b c : A} → Steps E a b → Steps E b c → Steps E a c
steps_then (step e) q = on e q
steps_then (on e p) q = on e (steps_then p q)

pub through_steps : {E : ℕ → ℕ → Type 0} {k i j : ℕ} → Through E k i j → Steps E i j
through_steps (direct e) = step e
through_steps (via e h p) = on e (through_steps p)

-- where every step begins below n, the inner points are below n
pub steps_through : {E : ℕ → ℕ → Type 0} {i j : ℕ} (n : ℕ) → ((a b : ℕ) → E a b → a < n) → Steps E i j → Through E n i j
steps_through n below (step e) = direct e
steps_through {E} n below (on e p) = via e (begins n below p) (steps_through n below p)
  where
    begins : {E : ℕ → ℕ → Type 0} {i j : ℕ} (n : ℕ) → ((a b : ℕ) → E a b → a < n) → Steps E i j → i < n
    begins n below (step e) = below _ _ e
    begins n below (on e p) = below _ _ e

pub through_zero : {E : ℕ → ℕ → Type 0} {i j : ℕ} → Through E 0 i j → E i j
through_zero (direct e) = e
through_zero (via e h p) = absurd (omega arith)

pub through_join : {E : ℕ → ℕ → Type 0} {k i m j : ℕ} → Through E k i m → m < k → Through E k m j → Through E k i j
through_join (direct e) l q = via e l q
through_join (via e h p) l q = via e h (through_join p l q)

pub through_more : {E : ℕ → ℕ → Type 0} {k i j : ℕ} (l : ℕ) → k ≤ l → Through E k i j → Through E l i j
through_more l h (direct e) = direct e
through_more l h (via e b p) = via e (omega arith) (through_more l h p)

-- k is the one number below its successor that is not below k
last_or : (m k : ℕ) → m < suc k → (m < k) ⊎ (m ≡ k)
last_or m k h = ⊎_elim (λ l. inl l) (λ g. inr (omega arith)) (cases_lt m k)

split-via : {E : ℕ → ℕ → Type 0} (k i m j : ℕ) → E i m → (m < k) ⊎ (m ≡ k) → Through E k m j ⊎ (Through E k m k × Through E k k j) → Through E k i j ⊎ (Through E k i k × Through E k k j)
split-via k i m j e (inl b) (inl p) = inl (via e b p)
split-via k i m j e (inl b) (inr p) = inr (via e b p.0, p.1)
split-via {E} k i m j e (inr s) (inl p) = inr (direct (subst (λ x. E i x) s e), subst (λ x. Through E k x j) s p)
split-via {E} k i m j e (inr s) (inr p) = inr (direct (subst (λ x. E i x) s e), p.1)

pub through_split : {E : ℕ → ℕ → Type 0} (k : ℕ) {i j : ℕ} → Through E (suc k) i j → Through E k i j ⊎ (Through E k i k × Through E k k j)
through_split k (direct e) = inl (direct e)
through_split k (via {i = i} {m = m} {j = j} e h p) = split-via k i m j e (last_or m k h) (through_split k p)

pub through_pivot : {E : ℕ → ℕ → Type 0} (k : ℕ) {i j : ℕ} → Through E k i k → Through E k k j → Through E (suc k) i j
through_pivot k p q = through_join (through_more (suc k) (omega arith) p) (omega arith) (through_more (suc k) (omega arith) q)

-- step k leaves row k and column k as they are
pub row_stays : {E : ℕ → ℕ → Type 0} (k : ℕ) {j : ℕ} → Through E (suc k) k j → Through E k k j
row_stays k p = elim (through_split k p) [ inl q ↦ q | inr q ↦ q.1 ]

pub column_stays : {E : ℕ → ℕ → Type 0} (k : ℕ) {i : ℕ} → Through E (suc k) i k → Through E k i k
column_stays k p = elim (through_split k p) [ inl q ↦ q | inr q ↦ q.0 ]

pub through_step : {E : ℕ → ℕ → Type 0} (k i j : ℕ) → Through E (suc k) i j ↔ Through E k i j ⊎ (Through E k i k × Through E k k j)
through_step k i j = (through_split k, λ s. elim s [ inl p ↦ through_more (suc k) (omega arith) p | inr p ↦ through_pivot k p.0 p.1 ])

-- relations that are the same have the same steps
pub steps_same : {A : Type 0} {E F : A → A → Type 0} {a b : A} → ((x y : A) → E x y → F x y) → Steps E a b → Steps F a b
steps_same h (step e) = step (h _ _ e)
steps_same h (on e p) = on (h _ _ e) (steps_same h p)
