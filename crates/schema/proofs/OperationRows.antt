-- The rows of the uses of an operation, and the whole reading put together.
use Rattle.std.proofs.Common.{◌≡◌, ℕ, ◌+◌, ◌≤◌, ◌<◌, List, [], ◌∷◌, ◌++◌, map, length, Ok, Err, Result, sym, refl, ap, ap₂, ◌∙◌, subst, ⊎_elim, append_assoc, append-nil, arith}
use Rattle.std.proofs.lemmas.Bool.{cases_lt}
use Rattle.std.proofs.lemmas.List.{length-append, map-append}
use Rattle.model.specs.Values.{Use}
use Rattle.text.specs.declared.fault.Fault.{Fault}
use Rattle.text.specs.declared.language.Language.TheVariants.{Graphql}
use Rattle.reader.specs.Tokens.{Sight, Sights}
use Rattle.reader.specs.Reading.{Out, got, fails}
use Rattle.schema.specs.declared.operation.Use.{Use as UseIn}
use Rattle.schema.specs.declared.tokens.Tokens.{Tokens}
use Rattle.schema.specs.Documents.{Kind, VariableDefinition, OperationDocument}
use Rattle.schema.specs.HoldsOperation.{use_row, use_rows_from, use_row_of, arguments_in}
use Rattle.schema.specs.OperationReading.{a_kind, ReadsName, ReadsVariables, ReadsUses, ReadsOperationFrom, ReadsOperation, operation_read}
use Rattle.schema.specs.Outcomes.{Takes}
use Rattle.schema.specs.Told.{sights}

pub arguments_more : (xs : List Use) (x : Use) → arguments_in (xs ++ x ∷ []) ≡ arguments_in xs ++ x.arguments
arguments_more [] x = append-nil x.arguments
arguments_more (y ∷ ys) x = ap (λ zs. y.arguments ++ zs) (arguments_more ys x) ∙ sym (append_assoc y.arguments (arguments_in ys) x.arguments)

use_rows_more : (a : ℕ) (xs : List Use) (x : Use) → use_rows_from a (xs ++ x ∷ []) ≡ use_rows_from a xs ++ use_row (a + length (arguments_in xs)) x ∷ []
use_rows_more a [] x = ap (λ n. use_row n x ∷ []) (omega arith)
use_rows_more a (y ∷ ys) x =
    let e : (a + length y.arguments) + length (arguments_in ys) ≡ a + length (y.arguments ++ arguments_in ys) = omega (arith, length-append y.arguments (arguments_in ys)) in
    ap (λ rs. use_row a y ∷ rs) (use_rows_more (a + length y.arguments) ys x ∙ ap (λ n. use_rows_from (a + length y.arguments) ys ++ use_row n x ∷ []) e)

-- the rows with one more use
pub rows_more : (us : List UseIn) (u : UseIn) (xs : List Use) (x : Use) (n : ℕ) → map use_row_of us ≡ use_rows_from 0 xs → use_row_of u ≡ use_row n x → n ≡ length (arguments_in xs) → map use_row_of (us ++ u ∷ []) ≡ use_rows_from 0 (xs ++ x ∷ [])
rows_more us u xs x n e r l =
    let k : n ≡ 0 + length (arguments_in xs) = omega (arith, l) in
    map-append use_row_of us (u ∷ [])
    ∙ ap₂ (λ a b. a ++ b ∷ []) e (r ∙ ap (λ m. use_row m x) k)
    ∙ sym (use_rows_more 0 xs x)

module _ (N : ℕ → Sight → Type 0) (i : ℕ) where
  pub kind_fails : (f : Fault) → Takes N a_kind i (fails f) → ReadsOperationFrom N i (fails f)
  kind_fails f h = (fails f, h, refl)

  module _ (j : ℕ) (k : Kind) (a : Takes N a_kind i (got j k)) where
    pub name_fails : (f : Fault) → ReadsName N j (fails f) → ReadsOperationFrom N i (fails f)
    name_fails f h = (got j k, a, (fails f, h, refl))

    module _ (m : ℕ) (b : ReadsName N j (got m tt)) where
      pub variables_fail : (f : Fault) → ReadsVariables N m (fails f) → ReadsOperationFrom N i (fails f)
      variables_fail f h = (got j k, a, (got m tt, b, (fails f, h, refl)))

      module _ (n : ℕ) (vs : List VariableDefinition) (d : ReadsVariables N m (got n vs)) where
        pub uses_fail : (f : Fault) → ReadsUses N n (fails f) → ReadsOperationFrom N i (fails f)
        uses_fail f h = (got j k, a, (got m tt, b, (got n vs, d, (fails f, h, refl))))

        pub all_read : (e : ℕ) (us : List Use) → ReadsUses N n (got e us) → ReadsOperationFrom N i (got e (record { kind = k; variables = vs; uses = us }))
        all_read e us h = (got j k, a, (got m tt, b, (got n vs, d, (got e us, h, refl))))

-- a text that is not too long
pub not_long : {X : Type 0} (n : ℕ) (x : X) (f : Fault) → (65535 < n → Ok x ≡ Err f) → n ≤ 65535
not_long n x f h = ⊎_elim (λ l. let e = h l in absurd (cc)) (λ l. l) (cases_lt 65535 n)

-- the reading of the whole, from the tokens that it began with
pub whole : (text : List ℕ) (t : Tokens) (o : Out OperationDocument) → length text ≤ 65535 → t.text.now ≡ text → t.at ≡ 0 → ReadsOperationFrom (sights t) t.at o → ReadsOperation text o
whole text t o l e a r = operation_read l (subst (λ (i : ℕ). ReadsOperationFrom (Sights Graphql text) i o) a (subst (λ (s : List ℕ). ReadsOperationFrom (Sights Graphql s) t.at o) e r))

-- or that is
pub too_long : {X : Type 0} (n : ℕ) (f g : Fault) → (65535 < n → ◌≡◌ {A = Result X Fault} (Err f) (Err g)) → (n ≤ 65535 → ⊥) → (65535 < n) × (f ≡ g)
too_long n f g h short = let l : 65535 < n = ⊎_elim (λ l. l) (λ l. absurd (short l)) (cases_lt 65535 n) in let e = h l in (l, cc)
