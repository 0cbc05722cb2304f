-- The first record that passes a test of its name is the first with the name.
use Rattle.std.proofs.Common.{◌≡◌, ℕ, ◌<◌, ◌≤◌, List, [], ◌∷◌, map, length, get_or, Some, None, Option, Bool, true, false, true≢false, cond, nat_lt, sym, ◌∙◌, arith}
use Rattle.std.proofs.lemmas.Bool.Decides.{nat_tests}
use Rattle.std.proofs.lemmas.List.{get_or-map, length-map}
use Rattle.std.proofs.lemmas.List.Quantifiers.{position-Some}
use Rattle.std.proofs.lemmas.List.Sums.{fails_before_first}
use Rattle.std.proofs.lemmas.Slice.Eq.{bytes_eq-Decides}
use Rattle.std.specs.List.{position, position_or_len}
use Rattle.std.specs.Str.{bytes_eq}
use Rattle.lookup.specs.First.{First, Distinct, Only}

past : (i n : ℕ) → None ≡ cond (nat_lt i n) (Some i) None → n ≤ i
past i n e = grind (arith, nat_tests)

module _ {R : Type 0} (called : R → List ℕ) (name : List ℕ) where
  abbrev Same : R → Bool
  Same r = bytes_eq (called r) name

  named : (rs : List R) (i : ℕ) (d : R) → i < length rs → Same (get_or rs i d) ≡ true → get_or (map called rs) i [] ≡ name
  named rs i d h e = get_or-map called rs i d [] h ∙ (bytes_eq-Decides _ _).0 e

  other : (rs : List R) (i : ℕ) (d : R) → i < length rs → Same (get_or rs i d) ≡ false → get_or (map called rs) i [] ≡ name → ⊥
  other rs i d h e n = true≢false (sym ((bytes_eq-Decides _ _).1 (sym (get_or-map called rs i d [] h) ∙ n)) ∙ e)

  found : (rs : List R) (d : R) (r : Option ℕ) → r ≡ position Same rs → First (map called rs) name r
  found rs d None e =
      let all : length rs ≤ position_or_len Same rs = past _ _ e in
      λ k h. other rs k d (omega (arith, length-map rs called)) (fails_before_first Same rs k d (omega (arith, length-map rs called)))
  found rs d (Some i) e =
      let s = position-Some Same rs i d (sym e) in
      (omega (arith, s.0, length-map rs called), named rs i d s.0 s.1, λ k h. other rs k d (omega (arith, s.0)) (s.2 k h))

  pub first_at : (rs : List R) (r : Option ℕ) → r ≡ position Same rs → First (map called rs) name r
  first_at [] None e = λ k h. absurd (omega arith)
  first_at [] (Some i) e = cc
  first_at (x ∷ xs) r e = found (x ∷ xs) x r e

-- where no name stands twice, the first is the only one
pub only_first : (names : List (List ℕ)) (name : List ℕ) (r : Option ℕ) → First names name r → Distinct names → Only names name r
only_first names name None f once = f
only_first names name (Some i) f once = (f.0, f.1, λ k h e. once k i h f.0 (e ∙ sym f.1))
