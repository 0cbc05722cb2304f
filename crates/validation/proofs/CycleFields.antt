-- What the fields of an object lack, row by row
use Rattle.std.proofs.Common.{◌≡◌, ℕ, zero, suc, ◌+◌, ◌<◌, ◌≤◌, ◌⊎◌, Bool, true, false, List, [], ◌∷◌, length, get_or, ltb, vec_items, Some, None, Option as RustOption, is_some, cond, ◌||◌, ◌&&◌, ◌==◌, inl, inr, ⊎_elim, sym, refl, ap, ◌∙◌, subst, arith, tests}
use Rattle.std.proofs.lemmas.Bool.{cases_lt, both_ways}
use Rattle.std.proofs.lemmas.List.{length-append}
use mathlib.Core.Option.{Option, none, some}
use Rattle.model.specs.Values.{Name, Raw, Mems, Field}
use Rattle.model.specs.Coercion.{member}
use Rattle.model.specs.Cycles.{InputField, owned, of_types, input_fields, nth}
use Rattle.model.proofs.CyNumbers.{one_some, none_some, nth_below}
use Rattle.relation.specs.declared.row.Row.{Row}
use Rattle.relation.specs.Relating.{leads}
use Rattle.source.specs.Table.{tree_table}
use Rattle.source.specs.Standing.{Found}
use Rattle.schema.specs.declared.definition.Field.{Field as FieldIn}
use Rattle.schema.specs.declared.definition.Schema.{Schema}
use Rattle.schema.specs.Documents.{Typed, Declared, a_scalar, an_enum, an_input, an_output, a_directive, Document, field_of, fields_in, types_in, schema_of}
use Rattle.schema.specs.SchemaReading.{inputs_in}
use Rattle.schema.specs.Rows.{base_in}
use Rattle.schema.specs.Holds.{Each, FieldHeld, DefaultHeld, Holds, typed_of}
use Rattle.validation.proofs.CycleRows.{declares}
use Rattle.validation.proofs.CycleTypes.{length-owned}
use Rattle.validation.proofs.CycleValues.{adds_none, adds_as}
use Rattle.validation.specs.Making.{NamesApart}
use Rattle.validation.specs.Lacking.{LacksRow, FieldLacksRow, Adds, ValueTold}

-- one of the rows of a span does
abbrev pub FieldsLackRow : Document → Mems → (from to j : ℕ) → Type 0
FieldsLackRow D ms from to j = (r : ℕ) × (from ≤ r) × (r < to) × FieldLacksRow D ms r j

pub fields_more : (D : Document) (ms : Mems) (row from r : ℕ) (old mid new : List Row) → from ≤ r → Adds row (FieldsLackRow D ms from r) old mid → Adds row (FieldLacksRow D ms r) mid new → Adds row (FieldsLackRow D ms from (r + 1)) old new
fields_more D ms row from r old mid new h a b i j = (
  λ e. ⊎_elim (λ l. ⊎_elim (λ k. inl k) (λ p. inr (p.0, (p.1.0, p.1.1, omega (arith, p.1.2), p.1.3))) ((a i j).0 l)) (λ p. inr (p.0, (r, h, omega arith, p.1))) ((b i j).0 e),
  λ q. (b i j).1 (⊎_elim (λ l. inl ((a i j).1 (inl l))) (λ p. ⊎_elim (λ l. inl ((a i j).1 (inr (p.0, (p.1.0, p.1.1, l, p.1.3))))) (λ g. inr (p.0, subst (λ k. FieldLacksRow D ms k j) (omega (arith, g, p.1.2)) p.1.3)) (cases_lt p.1.0 r)) q),
)

-- a row of the table is that of a declared field
pub length_inputs : (D : Document) → length (input_fields (schema_of D)) ≡ length (inputs_in D)
length_inputs [] = refl
length_inputs (a_scalar l ∷ D) = length_inputs D
length_inputs (an_enum l vs ∷ D) = length_inputs D
length_inputs (an_input l ds ∷ D) =
    let a = length-append (owned l.name (fields_in ds)) (of_types (types_in D)) in
    let b = length-append ds (inputs_in D) in
    let o = length-owned l.name ds in
    let r = length_inputs D in
    omega (arith, a, b, o, r)
length_inputs (an_output l ∷ D) = length_inputs D
length_inputs (a_directive l ds r ps ∷ D) = length_inputs D

pub nth_within : {A : Type 0} (xs : List A) (i : ℕ) → i < length xs → (x : A) × (nth xs i ≡ some x)
nth_within [] i h = absurd (omega arith)
nth_within (x ∷ xs) zero h = (x, refl)
nth_within (x ∷ xs) (suc i) h = nth_within xs i (omega arith)

pub row_of : (D : Document) (r : ℕ) (F : InputField) → nth (input_fields (schema_of D)) r ≡ some F → (d : Declared) × (nth (inputs_in D) r ≡ some d) × (F.field ≡ field_of d)
row_of D r F e =
    let b = nth_below (input_fields (schema_of D)) r F e in
    let l = length_inputs D in
    let d = nth_within (inputs_in D) r (omega arith) in
    let k = declares D r d.0 d.1 in
    (d.0, d.1, ap (λ (G : InputField). G.field) (one_some e k.4))

-- the row of the table at a declared field
pub held_at : {A B : Type 0} (R : A → B → Type 0) (xs : List A) (ys : List B) → Each R xs ys → (i : ℕ) (y : B) (x : A) → nth ys i ≡ some y → get_or xs i x ≡ x → i < length xs → R x y
held_at R [] ys h i y x e g l = absurd (omega arith)
held_at R (z ∷ xs) [] h i y x e g l = absurd h
held_at R (z ∷ xs) (w ∷ ys) h zero y x e g l = subst (λ v. R v y) g (subst (λ v. R z v) (one_some refl e) h.0)
held_at R (z ∷ xs) (w ∷ ys) h (suc i) y x e g l = held_at R xs ys h.1 i y x e g (omega arith)

pub each_length : {A B : Type 0} (R : A → B → Type 0) (xs : List A) (ys : List B) → Each R xs ys → length xs ≡ length ys
each_length R [] [] h = refl
each_length R [] (y ∷ ys) h = absurd h
each_length R (x ∷ xs) [] h = absurd h
each_length R (x ∷ xs) (y ∷ ys) h = ap suc (each_length R xs ys h.1)

-- what a read at an index says of it
pub past : {A : Type 0} (i : ℕ) (xs ys : List A) → ys ≡ xs → ltb i (length ys) ≡ false → length xs ≤ i
past i xs ys e l = subst (λ zs. length zs ≤ i) e (grind (arith, tests, l))

pub met : {A : Type 0} (i : ℕ) (xs ys : List A) (x : A) → ys ≡ xs → ltb i (length ys) ≡ true → x ≡ get_or ys i x → (get_or xs i x ≡ x) × (i < length xs)
met i xs ys x e l g = (subst (λ zs. get_or zs i x ≡ x) e (sym g), subst (λ zs. i < length zs) e (grind (arith, tests, l)))

equal_true : (i k : ℕ) → i ≡ k → (i == k) ≡ true
equal_true i k e = grind (arith, tests, e)

true_equal : (i k : ℕ) → (i == k) ≡ true → i ≡ k
true_equal i k e = grind (arith, tests, e)

split_or : (a b c : Bool) → (a && b || c) ≡ true → ((a ≡ true) × (b ≡ true)) ⊎ (c ≡ true)
split_or true true c e = inl (refl, refl)
split_or true false c e = inr e
split_or false b c e = inr e

join_or : (a b c : Bool) → ((a ≡ true) × (b ≡ true)) ⊎ (c ≡ true) → (a && b || c) ≡ true
join_or true true c e = refl
join_or true false c (inl p) = absurd (both_ways false refl p.1)
join_or true false c (inr e) = e
join_or false b c (inl p) = absurd (both_ways false refl p.0)
join_or false b c (inr e) = e

or_parts : (i k j r : ℕ) (b : Bool) → (i == k && j == r || b) ≡ true → ((i ≡ k) × (j ≡ r)) ⊎ (b ≡ true)
or_parts i k j r b e = ⊎_elim (λ p. inl (true_equal i k p.0, true_equal j r p.1)) (λ l. inr l) (split_or (i == k) (j == r) b e)

or_whole : (i k j r : ℕ) (b : Bool) → ((i ≡ k) × (j ≡ r)) ⊎ (b ≡ true) → (i == k && j == r || b) ≡ true
or_whole i k j r b e = join_or (i == k) (j == r) b (⊎_elim (λ p. inl (equal_true i k p.0, equal_true j r p.1)) (λ l. inr l) e)

module _ (D : Document) (s : Schema) (h : Holds s D) (a : NamesApart D) (ms : Mems) (row r : ℕ) where
  -- past the table there is no field
  pub field_past : (rows : List Row) → length (vec_items s.fields) ≤ r → Adds row (FieldLacksRow D ms r) rows rows
  field_past rows p = adds_none row (FieldLacksRow D ms r) rows (λ j l.
      let b = nth_below (input_fields (schema_of D)) r l.0 l.1 in
      let n = length_inputs D in
      let m = each_length _ (vec_items s.fields) (inputs_in D) h.fields in
      omega arith)

  -- what there is of a field F in row r
  abbrev Case : InputField → ℕ → Type 0
  Case F j = ((j ≡ r) × (member ms F.field.name ≡ none) × (y : Raw) × (F.field.dflt ≡ some y)) ⊎ ((x : Raw) × (member ms F.field.name ≡ some x) × LacksRow D x F.field.ty j)

  module _ (f : FieldIn) (g : get_or (vec_items s.fields) r f ≡ f) (within : r < length (vec_items s.fields)) where
    abbrev pub There : Type 0
    There = (d : Declared) × FieldHeld (base_in D) (tree_table s.tree) f d × (F : InputField) × (nth (input_fields (schema_of D)) r ≡ some F) × (F.field ≡ field_of d) × (nth (inputs_in D) r ≡ some d)

    pub there : There
    there =
        let m = each_length (FieldHeld (base_in D) (tree_table s.tree)) (vec_items s.fields) (inputs_in D) h.fields in
        let d = nth_within (inputs_in D) r (omega arith) in
        let k = declares D r d.0 d.1 in
        (d.0, held_at (FieldHeld (base_in D) (tree_table s.tree)) (vec_items s.fields) (inputs_in D) h.fields r d.0 f d.1 g within, record { owner = k.0.name; field = field_of d.0 }, k.4, refl, d.1)

    -- the case is that of the field
    case_at : (t : There) (j : ℕ) → FieldLacksRow D ms r j → Case t.2 j
    case_at t j l = subst (λ (F : InputField). Case F j) (one_some l.1 t.3) l.2

    name_at : (t : There) → f.name.now ≡ t.2.field.name
    name_at t = t.1.name ∙ ap (λ (k : Field). k.name) (sym t.4)

    pub type_at : (t : There) → (typed_of f.ty).ty ≡ t.2.field.ty
    type_at t = ap (λ (k : Typed). k.ty) t.1.typed ∙ ap (λ (k : Field). k.ty) (sym t.4)

    -- its member is there
    pub field_given : (stands : ℕ → Raw → Type 0) (c : ℕ) (old new : List Row) → Found stands (member ms f.name.now) (Some c) → ValueTold stands row s c f.ty old new → Adds row (FieldLacksRow D ms r) old new
    field_given stands c old new found told = given (member ms f.name.now) refl found
      where
        given : (m : Option Raw) → member ms f.name.now ≡ m → Found stands m (Some c) → Adds row (FieldLacksRow D ms r) old new
        given none q k = absurd k
        given (some x) q k =
            let t = there in
            let q' : member ms t.2.field.name ≡ some x = subst (λ (n : Name). member ms n ≡ some x) (name_at t) q in
            adds_as row (LacksRow D x (typed_of f.ty).ty) (FieldLacksRow D ms r) old new
            (λ j l. (t.2, t.3, inr (x, q', subst (λ u. LacksRow D x u j) (type_at t) l)))
            (λ j l. ⊎_elim (λ p. absurd (none_some (sym p.1 ∙ q'))) (λ p. subst (λ u. LacksRow D x u j) (sym (type_at t)) (subst (λ v. LacksRow D v t.2.field.ty j) (one_some p.1 q') p.2)) (case_at t j l))
            (told D h a x k t.1.base)

    absent : (stands : ℕ → Raw → Type 0) → Found stands (member ms f.name.now) None → member ms f.name.now ≡ none
    absent stands found = go (member ms f.name.now) refl found
      where
        go : (m : Option Raw) → member ms f.name.now ≡ m → Found stands m None → member ms f.name.now ≡ none
        go none q k = q
        go (some x) q k = absurd k

    default_at : (b : Bool) → is_some f.default ≡ b → (d : Option Raw) → DefaultHeld (tree_table s.tree) f.default d → cond b ((y : Raw) × (d ≡ some y)) (d ≡ none)
    default_at b e d k = go f.default b e d k
      where
        go : (o : RustOption ℕ) (b : Bool) → is_some o ≡ b → (d : Option Raw) → DefaultHeld (tree_table s.tree) o d → cond b ((y : Raw) × (d ≡ some y)) (d ≡ none)
        go None true e d k = let z : ⊥ = cc in absurd z
        go None false e none k = refl
        go None false e (some y) k = absurd k
        go (Some c) true e none k = absurd k
        go (Some c) true e (some y) k = (y, refl)
        go (Some c) false e d k = let z : ⊥ = cc in absurd z

    -- it is not there, and has a default
    pub field_added : (stands : ℕ → Raw → Type 0) (old new : List Row) → Found stands (member ms f.name.now) None → is_some f.default ≡ true → ((i j : ℕ) → leads new i j ≡ (i == row && j == r || leads old i j)) → Adds row (FieldLacksRow D ms r) old new
    field_added stands old new found some_default added i j =
        let t = there in
        let q : member ms t.2.field.name ≡ none = subst (λ (n : Name). member ms n ≡ none) (name_at t) (absent stands found) in
        let y = default_at true some_default t.0.dflt t.1.default in (
          λ e. ⊎_elim (λ p. inr (p.0, (t.2, t.3, inl (p.1, q, y.0, ap (λ (k : Field). k.dflt) t.4 ∙ y.1)))) (λ l. inl l) (or_parts i row j r (leads old i j) (sym (added i j) ∙ e)),
          λ w. added i j ∙ or_whole i row j r (leads old i j) (⊎_elim (λ l. inr l) (λ p. ⊎_elim (λ c. inl (p.0, c.0)) (λ c. absurd (none_some (sym q ∙ c.1))) (case_at t j p.1)) w),
        )

    -- it is not there, and has none
    pub field_left : (stands : ℕ → Raw → Type 0) (rows : List Row) → Found stands (member ms f.name.now) None → is_some f.default ≡ false → Adds row (FieldLacksRow D ms r) rows rows
    field_left stands rows found no_default = adds_none row (FieldLacksRow D ms r) rows (λ j l.
        let t = there in
        let q : member ms t.2.field.name ≡ none = subst (λ (n : Name). member ms n ≡ none) (name_at t) (absent stands found) in
        let y = default_at false no_default t.0.dflt t.1.default in
        ⊎_elim (λ c. none_some (sym y ∙ ap (λ (k : Field). k.dflt) (sym t.4) ∙ c.3)) (λ c. none_some (sym q ∙ c.1)) (case_at t j l))
