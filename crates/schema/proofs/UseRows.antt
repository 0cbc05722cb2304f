-- The arguments of each use are those that its text gives it.
use Rattle.std.proofs.Common.{◌≡◌, ℕ, ◌+◌, ◌-◌, ◌≤◌, ◌&&◌, Bool, true, false, cond, List, [], ◌∷◌, ◌++◌, map, length, take, drop, nat_le, sym, refl, ap, ◌∙◌, subst, append_assoc, arith}
use Rattle.std.proofs.lemmas.Bool.{cond-true}
use Rattle.std.proofs.lemmas.Bool.Decides.{nat_tests}
use Rattle.std.proofs.lemmas.List.{length-append}
use Rattle.model.specs.Values.{Argument, Use}
use Rattle.source.specs.Table.{Table}
use Rattle.schema.specs.declared.operation.Argument.{Argument as ArgumentIn}
use Rattle.schema.specs.declared.operation.Use.{Use as UseIn}
use Rattle.schema.specs.Holds.{Each}
use Rattle.schema.specs.HoldsOperation.{ArgumentHeld, UseRow, UseHeld, use_row, use_rows_from, use_row_of, arguments_in}
use Rattle.schema.specs.Rows.{span, argument_span}
use Rattle.schema.specs.Spans.{rows_in}
use Rattle.schema.proofs.Rowing.{each_length}

drop_front : {A : Type 0} (xs ys : List A) → drop (length xs) (xs ++ ys) ≡ ys
drop_front [] ys = refl
drop_front (x ∷ xs) ys = drop_front xs ys

take_front : {A : Type 0} (xs ys : List A) → take (length xs) (xs ++ ys) ≡ xs
take_front [] ys = refl
take_front (x ∷ xs) ys = ap (λ zs. x ∷ zs) (take_front xs ys)

in_bounds : (a n k : ℕ) → a + n ≤ k → nat_le a (a + n) && nat_le (a + n) k ≡ true
in_bounds a n k h = grind (arith, nat_tests)

middle : {A : Type 0} (xs ys zs : List A) → rows_in (xs ++ (ys ++ zs)) (span (length xs) (length ys)) ≡ ys
middle xs ys zs =
    let n : length xs + length ys ≤ length (xs ++ (ys ++ zs)) = omega (arith, length-append xs (ys ++ zs), length-append ys zs) in
    let d : (length xs + length ys) - length xs ≡ length ys = omega arith in
    cond-true (nat_le (length xs) (length xs + length ys) && nat_le (length xs + length ys) (length (xs ++ (ys ++ zs)))) (take ((length xs + length ys) - length xs) (drop (length xs) (xs ++ (ys ++ zs)))) [] (in_bounds (length xs) (length ys) (length (xs ++ (ys ++ zs))) n)
    ∙ ap (λ k. take k (drop (length xs) (xs ++ (ys ++ zs)))) d
    ∙ ap (take (length ys)) (drop_front xs (ys ++ zs))
    ∙ take_front ys zs

-- rows that stand for two lists, one after the other
record Split {A B : Type 0} (R : A → B → Type 0) (xs : List A) (ys zs : List B) : Type 0 where
  first : List A
  second : List A
  joined : xs ≡ first ++ second
  heads : Each R first ys
  tails : Each R second zs

split : {A B : Type 0} (R : A → B → Type 0) (xs : List A) (ys zs : List B) → Each R xs (ys ++ zs) → Split R xs ys zs
split R xs [] zs e = record { first = []; second = xs; joined = refl; heads = tt; tails = e }
split R [] (y ∷ ys) zs e = absurd e
split R (x ∷ xs) (y ∷ ys) zs e =
    let s = split R xs ys zs e.1 in
    record { first = x ∷ s.first; second = s.second; joined = ap (λ l. x ∷ l) s.joined; heads = (e.0, s.heads); tails = s.tails }

either_way : {A : Type 0} (c : Bool) (xs : List A) → cond c xs xs ≡ xs
either_way true xs = refl
either_way false xs = refl

no_rows : {A : Type 0} (xs : List A) → rows_in xs (span 0 0) ≡ []
no_rows xs = either_way (nat_le 0 0 && nat_le 0 (length xs)) []

argument_rows : (T : Table) (pre mid post : List ArgumentIn) (xs : List Argument) → Each (ArgumentHeld T) mid xs → Each (ArgumentHeld T) (rows_in (pre ++ (mid ++ post)) (argument_span (length pre) (length xs))) xs
argument_rows T pre mid post [] e = subst (λ rs. Each (ArgumentHeld T) rs []) (sym (no_rows (pre ++ (mid ++ post)))) tt
argument_rows T pre mid post (x ∷ xs) e =
    let l = each_length (ArgumentHeld T) mid (x ∷ xs) e in
    subst (λ rs. Each (ArgumentHeld T) rs (x ∷ xs)) (sym (ap (λ n. rows_in (pre ++ (mid ++ post)) (span (length pre) n)) (sym l) ∙ middle pre mid post)) e

pub uses_held : (T : Table) (all pre : List ArgumentIn) (us : List UseIn) (xs : List Use) (mid : List ArgumentIn) → all ≡ pre ++ mid → map use_row_of us ≡ use_rows_from (length pre) xs → Each (ArgumentHeld T) mid (arguments_in xs) → Each (UseHeld T all) us xs
uses_held T all pre [] [] mid a e h = tt
uses_held T all pre [] (x ∷ xs) mid a e h = cc
uses_held T all pre (u ∷ us) [] mid a e h = cc
uses_held T all pre (u ∷ us) (x ∷ xs) mid a e h =
    let s = split (ArgumentHeld T) mid x.arguments (arguments_in xs) h in
    let r : use_row_of u ≡ use_row (length pre) x = cc in
    let t : map use_row_of us ≡ use_rows_from (length pre + length x.arguments) xs = cc in
    let b = a ∙ ap (λ m. pre ++ m) s.joined in
    let n : length pre + length x.arguments ≡ length (pre ++ s.first) = omega (arith, length-append pre s.first, each_length (ArgumentHeld T) s.first x.arguments s.heads) in
    let g = subst (λ l. Each (ArgumentHeld T) (rows_in l (argument_span (length pre) (length x.arguments))) x.arguments) (sym b) (argument_rows T pre s.first s.second x.arguments s.heads) in (
      record { name = ap (λ (q : UseRow). q.label.name) r; place = ap (λ (q : UseRow). q.label.place) r; arguments = subst (λ sp. Each (ArgumentHeld T) (rows_in all sp) x.arguments) (sym (ap (λ (q : UseRow). q.arguments) r)) g },
      uses_held T all (pre ++ s.first) us xs s.second (b ∙ sym (append_assoc pre s.first s.second)) (t ∙ ap (λ k. use_rows_from k xs) n) s.tails,
    )
