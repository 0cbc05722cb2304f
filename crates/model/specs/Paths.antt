-- Paths along a relation, and those whose inner points are the first k numbers (Warshall's sets).
use Rattle.std.specs.Prelude.{◌≡◌, ℕ, ◌<◌, ◌↔◌, Bool, true}

-- one or more steps
pub data Steps {A : Type 0} (E : A → A → Type 0) : A → A → Type 0 where
  step : {a b : A} → E a b → Steps E a b
  on : {a b c : A} → E a b → Steps E b c → Steps E a c

-- a path between numbers whose inner points are all below k
pub data Through (E : ℕ → ℕ → Type 0) (k : ℕ) : ℕ → ℕ → Type 0 where
  direct : {i j : ℕ} → E i j → Through E k i j
  via : {i m j : ℕ} → E i m → m < k → Through E k m j → Through E k i j

-- row i of Warshall's sets: its bits say where paths from i lead whose inner points are below k
abbrev pub Row : (ℕ → ℕ → Type 0) → (k i : ℕ) → (ℕ → Bool) → Type 0
Row E k i bits = (j : ℕ) → bits j ≡ true ↔ Through E k i j
