-- The input object type that a base names: its row, its fields and their numbers
use Rattle.std.proofs.Common.{◌≡◌, ℕ, zero, suc, ◌+◌, Bool, true, false, cond, List, [], ◌∷◌, ◌++◌, length, codes, refl, ap, ◌∙◌, subst, arith}
use Rattle.std.proofs.lemmas.Bool.{cond-true, cond-false}
use mathlib.Core.Option.{Option, none, some}
use Rattle.model.specs.Values.{Name, same, Field, Def, int_d, float_d, string_d, boolean_d, id_d, enum_d, input_d, custom_d, output_d, declared, find}
use Rattle.model.specs.Cycles.{InputField, owned, of_types, nth}
use Rattle.model.proofs.CoNames.{same_true}
use Rattle.schema.specs.declared.definition.TypeKind.TheVariants.{Input as InputKind}
use Rattle.schema.specs.declared.types.Base.{Base}
use Rattle.schema.specs.declared.types.Base.TheVariants.{Int, Float, String, Boolean, Id, Custom, Enum, Input, Output, Unknown}
use Rattle.schema.specs.Documents.{Label, Declared, Definition, a_scalar, an_enum, an_input, an_output, a_directive, Document, field_of, fields_in, types_in, schema_of}
use Rattle.schema.specs.Rows.{TypeRow, span, type_rows_from, type_rows, base_among, base_in}
use Rattle.schema.specs.SchemaReading.{inputs_of, inputs_in}

-- which row a base names, if it names an input object type
abbrev input_row : Base → ℕ
input_row Int = 0
input_row Float = 0
input_row String = 0
input_row Boolean = 0
input_row Id = 0
input_row (Custom i) = 0
input_row (Enum i) = 0
input_row (Input i) = suc i
input_row Output = 0
input_row Unknown = 0

no_input : (B : Base) (i : ℕ) → input_row B ≡ 0 → B ≡ Input i → ⊥
no_input B i z e = let o : input_row B ≡ suc i = ap input_row e in omega arith

nth_left : {A : Type 0} (xs ys : List A) (k : ℕ) (x : A) → nth xs k ≡ some x → nth (xs ++ ys) k ≡ some x
nth_left [] ys k x e = let z : ◌≡◌ {A = ℕ} 0 1 = cc in absurd (omega arith)
nth_left (y ∷ xs) ys zero x e = e
nth_left (y ∷ xs) ys (suc k) x e = nth_left xs ys k x e

nth_right : {A : Type 0} (xs ys : List A) (m k : ℕ) → m ≡ length xs + k → nth (xs ++ ys) m ≡ nth ys k
nth_right [] ys m k e = ap (nth ys) (omega arith)
nth_right (y ∷ xs) ys zero k e = absurd (omega arith)
nth_right (y ∷ xs) ys (suc m) k e = nth_right xs ys m k (omega arith)

nth_owned : (n : Name) (ds : List Declared) (k : ℕ) (d : Declared) → nth ds k ≡ some d → nth (owned n (fields_in ds)) k ≡ some (record { owner = n; field = field_of d })
nth_owned n [] k d e = let z : ◌≡◌ {A = ℕ} 0 1 = cc in absurd (omega arith)
nth_owned n (x ∷ ds) zero d e = ap (λ (o : Option Declared). elim o as (λ p. Option InputField) [ none ↦ none | some y ↦ some (record { owner = n; field = field_of y }) ]) e
nth_owned n (x ∷ ds) (suc k) d e = nth_owned n ds k d e

pub length-owned : (n : Name) (ds : List Declared) → length (owned n (fields_in ds)) ≡ length ds
length-owned n [] = refl
length-owned n (d ∷ ds) = ap suc (length-owned n ds)

-- an input object type in row m, its fields after those before it
pub record InputType (D : Document) (rows : List TypeRow) (f m : ℕ) (n : Name) : Type 0 where
  pub label : Label
  pub fields : List Declared
  pub after : ℕ
  pub called : label.name ≡ n
  pub row : nth rows m ≡ some (record { label = label; kind = InputKind; inside = span (f + after) (length fields) })
  pub found : declared (types_in D) n ≡ input_d (fields_in fields)
  pub declares : (k : ℕ) (d : Declared) → nth fields k ≡ some d → nth (inputs_in D) (after + k) ≡ some d
  pub numbers : (k : ℕ) (d : Declared) → nth fields k ≡ some d → nth (of_types (types_in D)) (after + k) ≡ some (record { owner = label.name; field = field_of d })

-- behind one more definition
behind : (x : Definition) (D : Document) (rows rest : List TypeRow) (f g m m' : ℕ) (n : Name) (mine : List InputField)
    → ((r : TypeRow) → nth rest m' ≡ some r → nth rows m ≡ some r) → g ≡ f + length (inputs_of x) → length mine ≡ length (inputs_of x)
    → of_types (types_in (x ∷ D)) ≡ mine ++ of_types (types_in D) → declared (types_in (x ∷ D)) n ≡ declared (types_in D) n → InputType D rest g m' n → InputType (x ∷ D) rows f m n
behind x D rows rest f g m m' n mine up e l parts same_def t =
    record {
      label = t.label;
      fields = t.fields;
      after = length (inputs_of x) + t.after;
      called = t.called;
      row = up _ t.row ∙ ap (λ k. some (record { label = t.label; kind = InputKind; inside = span k (length t.fields) })) place;
      found = same_def ∙ t.found;
      declares = λ k d q. nth_right (inputs_of x) (inputs_in D) (length (inputs_of x) + t.after + k) (t.after + k) (omega arith) ∙ t.declares k d q;
      numbers = λ k d q. ap (λ xs. nth xs (length (inputs_of x) + t.after + k)) parts ∙ nth_right mine (of_types (types_in D)) (length (inputs_of x) + t.after + k) (t.after + k) (omega arith) ∙ t.numbers k d q;
    }
  where
    place : g + t.after ≡ f + (length (inputs_of x) + t.after)
    place = omega arith

-- the first of that name
ahead : (l : Label) (ds : List Declared) (D : Document) (rest : List TypeRow) (f : ℕ) (n : Name) → same l.name n ≡ true
    → InputType (an_input l ds ∷ D) (record { label = l; kind = InputKind; inside = span f (length ds) } ∷ rest) f 0 n
ahead l ds D rest f n e =
    record {
      label = l;
      fields = ds;
      after = 0;
      called = same_true l.name n e;
      row = ap (λ k. some (record { label = l; kind = InputKind; inside = span k (length ds) })) place;
      found = cond-true (same l.name n) (input_d (fields_in ds)) (declared (types_in D) n) e;
      declares = λ k d q. nth_left ds (inputs_in D) (0 + k) d (subst (λ m. nth ds m ≡ some d) (omega arith) q);
      numbers = λ k d q. nth_left (owned l.name (fields_in ds)) (of_types (types_in D)) (0 + k) _ (nth_owned l.name ds (0 + k) d (subst (λ m. nth ds m ≡ some d) (omega arith) q));
    }
  where
    place : f ≡ f + 0
    place = omega arith

-- some row after i
abbrev RowAfter : Document → List TypeRow → (f i k : ℕ) → Name → Type 0
RowAfter D rows f i k n = (m : ℕ) × (k ≡ i + m) × InputType D rows f m n

row_step : (b : Bool) (P Q : Base) (k : ℕ) (X : Type 0) → (b ≡ true → P ≡ Input k → X) → (b ≡ false → Q ≡ Input k → X) → cond b P Q ≡ Input k → X
row_step true P Q k X h g e = h refl e
row_step false P Q k X h g e = g refl e

input_rows : (D : Document) (v f i : ℕ) (n : Name) (k : ℕ) → base_among (type_rows_from v f D) i n ≡ Input k → RowAfter D (type_rows_from v f D) f i k n
input_rows [] v f i n k e = let z : ⊥ = cc in absurd z
input_rows (a_scalar l ∷ D) v f i n k e = row_step (same l.name n) (Custom i) _ k (RowAfter (a_scalar l ∷ D) (type_rows_from v f (a_scalar l ∷ D)) f i k n) (λ s q. let z : ⊥ = cc in absurd z)
    (λ s q. let r = input_rows D _ _ (suc i) n k q in (suc r.0, omega (arith, r.1), behind (a_scalar l) D _ _ f _ (suc r.0) r.0 n [] (λ t u. u) refl refl refl (cond-false (same l.name n) custom_d (declared (types_in D) n) s) r.2)) e
input_rows (an_enum l vs ∷ D) v f i n k e = row_step (same l.name n) (Enum i) _ k (RowAfter (an_enum l vs ∷ D) (type_rows_from v f (an_enum l vs ∷ D)) f i k n) (λ s q. let z : ⊥ = cc in absurd z)
    (λ s q. let r = input_rows D _ _ (suc i) n k q in (suc r.0, omega (arith, r.1), behind (an_enum l vs) D _ _ f _ (suc r.0) r.0 n [] (λ t u. u) refl refl refl (cond-false (same l.name n) _ (declared (types_in D) n) s) r.2)) e
input_rows (an_input l ds ∷ D) v f i n k e = row_step (same l.name n) (Input i) _ k (RowAfter (an_input l ds ∷ D) (type_rows_from v f (an_input l ds ∷ D)) f i k n)
    (λ s q. (0, omega (arith, same_row i k q), ahead l ds D _ f n s))
    (λ s q. let r = input_rows D _ _ (suc i) n k q in (suc r.0, omega (arith, r.1), behind (an_input l ds) D _ _ f _ (suc r.0) r.0 n (owned l.name (fields_in ds)) (λ t u. u) refl (length-owned l.name ds) refl (cond-false (same l.name n) _ (declared (types_in D) n) s) r.2)) e
  where
    same_row : (i k : ℕ) → Input i ≡ Input k → i ≡ k
    same_row i k q = let h : suc i ≡ suc k = ap input_row q in omega arith
input_rows (an_output l ∷ D) v f i n k e = row_step (same l.name n) Output _ k (RowAfter (an_output l ∷ D) (type_rows_from v f (an_output l ∷ D)) f i k n) (λ s q. let z : ⊥ = cc in absurd z)
    (λ s q. let r = input_rows D _ _ (suc i) n k q in (suc r.0, omega (arith, r.1), behind (an_output l) D _ _ f _ (suc r.0) r.0 n [] (λ t u. u) refl refl refl (cond-false (same l.name n) _ (declared (types_in D) n) s) r.2)) e
input_rows (a_directive l ds r ps ∷ D) v f i n k e =
    let q = input_rows D _ _ i n k e in (q.0, q.1, behind (a_directive l ds r ps) D _ _ f _ q.0 q.0 n [] (λ t u. u) refl refl refl refl q.2)

-- without the built-in names
not_built : (b : Bool) (P Q : Base) (X Y : Def) (k : ℕ) → (P ≡ Input k → ⊥) → cond b P Q ≡ Input k → (cond b X Y ≡ Y) × (Q ≡ Input k)
not_built true P Q X Y k h e = absurd (h e)
not_built false P Q X Y k h e = (refl, e)

pub input_type : (D : Document) (n : Name) (k : ℕ) → base_in D n ≡ Input k → InputType D (type_rows D) 0 k n × (find (schema_of D) n ≡ declared (types_in D) n)
input_type D n k e =
    let p = not_built (same (codes "Int") n) Int _ int_d _ k (no_input Int k refl) e in
    let q = not_built (same (codes "Float") n) Float _ float_d _ k (no_input Float k refl) p.1 in
    let r = not_built (same (codes "String") n) String _ string_d _ k (no_input String k refl) q.1 in
    let s = not_built (same (codes "Boolean") n) Boolean _ boolean_d _ k (no_input Boolean k refl) r.1 in
    let t = not_built (same (codes "ID") n) Id _ id_d (declared (types_in D) n) k (no_input Id k refl) s.1 in
    let u = input_rows D 0 0 0 n k t.1 in
    (subst (λ m. InputType D (type_rows D) 0 m n) (omega (arith, u.1)) u.2, p.0 ∙ q.0 ∙ r.0 ∙ s.0 ∙ t.0)

named_step : (b : Bool) (X Y : Def) (P Q : Base) (fs : List Field) → (X ≡ input_d fs → (k : ℕ) × (P ≡ Input k)) → (Y ≡ input_d fs → (k : ℕ) × (Q ≡ Input k)) → cond b X Y ≡ input_d fs → (k : ℕ) × (cond b P Q ≡ Input k)
named_step true X Y P Q fs h k e = h e
named_step false X Y P Q fs h k e = k e

built_step : (b : Bool) (X Y : Def) (P Q : Base) (fs : List Field) → (X ≡ input_d fs → ⊥) → (Y ≡ input_d fs → (k : ℕ) × (Q ≡ Input k)) → cond b X Y ≡ input_d fs → (k : ℕ) × (cond b P Q ≡ Input k)
built_step true X Y P Q fs h k e = absurd (h e)
built_step false X Y P Q fs h k e = k e

-- an input object type has a row
declared_named : (D : Document) (v f i : ℕ) (n : Name) (fs : List Field) → declared (types_in D) n ≡ input_d fs → (k : ℕ) × (base_among (type_rows_from v f D) i n ≡ Input k)
declared_named [] v f i n fs e = let z : ⊥ = cc in absurd z
declared_named (a_scalar l ∷ D) v f i n fs e = named_step (same l.name n) custom_d (declared (types_in D) n) (Custom i) _ fs (λ z. let y : ⊥ = cc in absurd y) (λ q. declared_named D _ _ (suc i) n fs q) e
declared_named (an_enum l vs ∷ D) v f i n fs e = named_step (same l.name n) (enum_d _) (declared (types_in D) n) (Enum i) _ fs (λ z. let y : ⊥ = cc in absurd y) (λ q. declared_named D _ _ (suc i) n fs q) e
declared_named (an_input l ds ∷ D) v f i n fs e = named_step (same l.name n) (input_d (fields_in ds)) (declared (types_in D) n) (Input i) _ fs (λ z. (i, refl)) (λ q. declared_named D _ _ (suc i) n fs q) e
declared_named (an_output l ∷ D) v f i n fs e = named_step (same l.name n) output_d (declared (types_in D) n) Output _ fs (λ z. let y : ⊥ = cc in absurd y) (λ q. declared_named D _ _ (suc i) n fs q) e
declared_named (a_directive l ds r ps ∷ D) v f i n fs e = declared_named D _ _ i n fs e

pub input_named : (D : Document) (n : Name) (fs : List Field) → find (schema_of D) n ≡ input_d fs → (k : ℕ) × (base_in D n ≡ Input k)
input_named D n fs e =
    built_step (same (codes "Int") n) int_d _ Int _ fs (λ z. cc)
    (built_step (same (codes "Float") n) float_d _ Float _ fs (λ z. cc)
    (built_step (same (codes "String") n) string_d _ String _ fs (λ z. cc)
    (built_step (same (codes "Boolean") n) boolean_d _ Boolean _ fs (λ z. cc)
    (built_step (same (codes "ID") n) id_d _ Id _ fs (λ z. cc) (λ q. declared_named D 0 0 0 n fs q))))) e
