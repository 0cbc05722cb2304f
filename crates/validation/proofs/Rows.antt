-- Rows that are found by their names.
use Rattle.std.proofs.Common.{◌≡◌, ℕ, zero, suc, ◌<◌, true, List, [], ◌∷◌, Some, None, Option, length, map, get_or, IfSome, IsSome, refl, sym, ◌∙◌, subst, ⊎_elim, arith}
use Rattle.std.specs.Borrow.{Bor}
use Rattle.std.proofs.Math.Option.{none, some}
use Rattle.std.proofs.lemmas.Bool.{cases_Bool, cond-true, cond-false}
use Rattle.model.specs.Values.{Name, Variable, same}
use Rattle.model.specs.Calls.{variable_of}
use Rattle.model.proofs.CoNames.{same_refl, same_true}
use Rattle.source.specs.Table.{Table}
use Rattle.schema.specs.declared.operation.Variable.{Variable as VariableRow}
use Rattle.schema.specs.Holds.{Each}
use Rattle.validation.specs.Literals.{VariableHeld, RowFound}

abbrev names_of : List VariableRow → List Name
names_of rows = map (λ r. r.name.now) rows

-- no row has the name: no variable is declared so
pub none_declared : (T : Table) (rows : List VariableRow) (vs : List Variable) (n : Name) → Each (VariableHeld T) rows vs → ((k : ℕ) → k < length (names_of rows) → get_or (names_of rows) k [] ≡ n → ⊥) → variable_of vs n ≡ none
none_declared T [] [] n h a = refl
none_declared T [] (v ∷ vs) n h a = absurd h
none_declared T (r ∷ rows) [] n h a = absurd h
none_declared T (r ∷ rows) (v ∷ vs) n h a = ⊎_elim
    (λ e. absurd (a 0 (omega arith) (h.0.name ∙ same_true v.field.name n e)))
    (λ e. cond-false (same v.field.name n) (some v) (variable_of vs n) e ∙ none_declared T rows vs n h.1 (λ k l. a (suc k) (omega (arith, l))))
    (cases_Bool (same v.field.name n))

-- what is read of the rows at an index
pub record ReadAt (rows : List VariableRow) (i : ℕ) (o : Option (Bor VariableRow)) : Type 0 where
  pub some : i < length rows → IsSome o
  pub is : IfSome o (λ x. x.now ≡ get_or rows i x.now)

not_some : IsSome {T = Bor VariableRow} None → ⊥
not_some e = cc

at_later : {r : VariableRow} {rows : List VariableRow} {i : ℕ} {o : Option (Bor VariableRow)} → ReadAt (r ∷ rows) (suc i) o → ReadAt rows i o
at_later {r} {rows} {i} {o} g = record { some = λ h. g.some (omega (arith, h)); is = g.is }

-- the first row that has the name is that of the variable
pub row_declared : (T : Table) (rows : List VariableRow) (vs : List Variable) (n : Name) (i : ℕ) → Each (VariableHeld T) rows vs
    → i < length (names_of rows) → get_or (names_of rows) i [] ≡ n → ((k : ℕ) → k < i → get_or (names_of rows) k [] ≡ n → ⊥)
    → (o : Option (Bor VariableRow)) → ReadAt rows i o → RowFound T (variable_of vs n) o
row_declared T [] vs n i h l e a o g = absurd (omega (arith, l))
row_declared T (r ∷ rows) [] n i h l e a o g = absurd h
row_declared T (r ∷ rows) (v ∷ vs) n zero h l e a None g = absurd (not_some (g.some (omega arith)))
row_declared T (r ∷ rows) (v ∷ vs) n zero h l e a (Some x) g =
    subst (λ m. RowFound T m (Some x)) (sym (cond-true (same v.field.name n) (some v) (variable_of vs n) (subst (λ k. same v.field.name k ≡ true) (sym h.0.name ∙ e) (same_refl v.field.name)))) (subst (λ q. VariableHeld T q v) (sym g.is) h.0)
row_declared T (r ∷ rows) (v ∷ vs) n (suc i) h l e a o g = ⊎_elim
    (λ s. absurd (a 0 (omega arith) (h.0.name ∙ same_true v.field.name n s)))
    (λ s. subst (λ m. RowFound T m o) (sym (cond-false (same v.field.name n) (some v) (variable_of vs n) s))
    (row_declared T rows vs n i h.1 (omega (arith, l)) e (λ k q. a (suc k) (omega (arith, q))) o (at_later g)))
    (cases_Bool (same v.field.name n))
