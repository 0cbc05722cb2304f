-- The test of default cycles: its rows, and the first of them
use Rattle.std.proofs.Common.{◌≡◌, ℕ, zero, suc, ◌+◌, ◌<◌, ◌≤◌, ◌⊎◌, ◌↔◌, true, false, List, [], ◌∷◌, length, get_or, vec_items, Some, None, Option as RustOption, inl, inr, ⊎_elim, sym, refl, ap, ◌∙◌, subst, arith}
use Rattle.std.proofs.lemmas.Bool.{cases_lt, both_ways}
use mathlib.Core.Option.{Option, none, some}
use Rattle.model.specs.Values.{Raw, end, Ty, Field}
use Rattle.model.specs.Paths.{Steps}
use Rattle.model.specs.Cycles.{InputField, Among, first, later, Lacks, leads as a_lead, input_fields, nth, LeadsByNumber, by_number}
use Rattle.model.proofs.CyPaths.{steps_same}
use Rattle.model.proofs.CyNumbers.{one_some, none_some, nth_below}
use Rattle.relation.specs.declared.row.Row.{Row}
use Rattle.relation.specs.Relating.{leads}
use Rattle.source.specs.Table.{tree_table, Held}
use Rattle.schema.specs.declared.definition.Field.{Field as FieldRow}
use Rattle.schema.specs.declared.definition.Schema.{Schema}
use Rattle.schema.specs.Documents.{Declared, Document, schema_of}
use Rattle.schema.specs.SchemaReading.{inputs_in}
use Rattle.schema.specs.Holds.{DefaultHeld, Holds, typed_of}
use Rattle.validation.specs.Making.{FirstFault, CycleAt, NamesApart, Sourced}
use Rattle.validation.specs.Places.{lesser_of}
use Rattle.validation.specs.Lacking.{LacksRow, Adds, CyclesBefore}
use Rattle.validation.proofs.Least.{first_as, first_lesser, first_one}
use Rattle.validation.proofs.CycleRows.{cycle_by_row}
use Rattle.validation.proofs.CycleFields.{There, there, type_at, length_inputs, each_length}

-- THE FIRST

one_at : {A : Type 0} (xs : List A) (i : ℕ) (a b : A) → i < length xs → get_or xs i a ≡ get_or xs i b
one_at [] i a b h = absurd (omega arith)
one_at (x ∷ xs) zero a b h = refl
one_at (x ∷ xs) (suc i) a b h = one_at xs i a b (omega arith)

pub some_at : {A : Type 0} (xs : List A) (i : ℕ) → i < length xs → (x : A) × (get_or xs i x ≡ x)
some_at [] i h = absurd (omega arith)
some_at (x ∷ xs) zero h = (x, refl)
some_at (x ∷ xs) (suc i) h = some_at xs i (omega arith)

pub first_start : (rows : List Row) (fields : List FieldRow) → FirstFault (CyclesBefore rows fields 0) None
first_start rows fields q x = omega (arith, x.1)

module _ (rows : List Row) (fields : List FieldRow) (r : ℕ) (within : r < length fields) (f : FieldRow) (g : get_or fields r f ≡ f) where
  abbrev Before : ℕ → Type 0
  Before = CyclesBefore rows fields r

  abbrev Now : ℕ → Type 0
  Now = CyclesBefore rows fields (r + 1)

  kept : (p : ℕ) → Before p → Now p
  kept p x = (x.0, omega (arith, x.1), x.2, x.3, x.4, x.5)

  parts : (p : ℕ) → Now p → Before p ⊎ ((leads rows r r ≡ true) × (f.place ≡ p))
  parts p x = ⊎_elim (λ l. inl (x.0, l, x.2, x.3, x.4, x.5)) last (cases_lt x.0 r)
    where
      last : r ≤ x.0 → Before p ⊎ ((leads rows r r ≡ true) × (f.place ≡ p))
      last l =
          let e : x.0 ≡ r = omega (arith, x.1, l) in
          let h : get_or fields r x.3 ≡ x.3 = subst (λ i. get_or fields i x.3 ≡ x.3) e x.4 in
          let same : x.3 ≡ f = sym h ∙ one_at fields r x.3 f within ∙ g in
          inr (subst (λ i. leads rows i i ≡ true) e x.2, ap (λ (k : FieldRow). k.place) (sym same) ∙ x.5)

  pub first_more : (a : RustOption ℕ) → FirstFault Before a → leads rows r r ≡ true → FirstFault Now (lesser_of a (Some f.place))
  first_more a h l =
      first_as (λ p. Before p ⊎ (f.place ≡ p)) Now _
      (λ p x. ⊎_elim (kept p) (λ q. (r, omega arith, l, f, g, q)) x)
      (λ p x. ⊎_elim (λ y. inl y) (λ y. inr y.1) (parts p x))
      (first_lesser Before (λ p. f.place ≡ p) a (Some f.place) h (first_one f.place))

  pub first_kept : (a : RustOption ℕ) → FirstFault Before a → leads rows r r ≡ false → FirstFault Now a
  first_kept a h l = first_as Before Now a kept (λ p x. ⊎_elim (λ y. y) (λ y. absurd (both_ways (leads rows r r) l y.0)) (parts p x)) h

-- THE ROWS

abbrev pub Filled : Document → ℕ → List Row → Type 0
Filled D r rows = (i j : ℕ) → leads rows i j ≡ true ↔ (i < r) × LeadsByNumber (schema_of D) i j

pub filled_start : (D : Document) (rows : List Row) → ((i j : ℕ) → leads rows i j ≡ false) → Filled D 0 rows
filled_start D rows n i j = (λ e. absurd (both_ways (leads rows i j) (n i j) e), λ p. absurd (omega (arith, p.0)))

nth_among : {A : Type 0} (xs : List A) (i : ℕ) (x : A) → nth xs i ≡ some x → Among x xs
nth_among [] i x e = absurd (none_some e)
nth_among (y ∷ xs) zero x e = subst (λ z. Among z (y ∷ xs)) (one_some refl e) first
nth_among (y ∷ xs) (suc i) x e = later (nth_among xs i x e)

module _ (D : Document) (s : Schema) (h : Holds s D) (a : NamesApart D) (u : Sourced D) (r : ℕ) (f : FieldRow) (g : get_or (vec_items s.fields) r f ≡ f) (within : r < length (vec_items s.fields)) where
  abbrev pub Here : Type 0
  Here = There D s h a end r r f g within

  pub here : Here
  here = there D s h a end r r f g within

  -- its default stands at the cursor
  pub default_held : (c : ℕ) → f.default ≡ Some c → (x : Raw) × Held (tree_table s.tree) c x × (here.0.dflt ≡ some x)
  default_held c e = go here.0.dflt refl (subst (λ o. DefaultHeld (tree_table s.tree) o here.0.dflt) e here.1.default)
    where
      go : (o : Option Raw) → here.0.dflt ≡ o → DefaultHeld (tree_table s.tree) (Some c) o → (x : Raw) × Held (tree_table s.tree) c x × (here.0.dflt ≡ some x)
      go none q k = absurd k
      go (some x) q k = (x, record { stands = k; within = u here.0 (inl (nth_among (inputs_in D) r here.0 here.5)) x q }, q)

  pub filled_more : (c : ℕ) (e : f.default ≡ Some c) (old new : List Row) → Filled D r old → Adds r (LacksRow D (default_held c e).0 (typed_of f.ty).ty) old new → Filled D (r + 1) new
  filled_more c e old new w adds i j = (
    λ b. ⊎_elim (λ l. let q = (w i j).0 l in (omega (arith, q.0), q.1)) (λ p. (omega (arith, p.0), subst (λ k. LeadsByNumber (schema_of D) k j) (sym p.0) (to p.1))) ((adds i j).0 b),
    λ q. (adds i j).1 (⊎_elim (λ l. inl ((w i j).1 (l, q.1))) (λ l. let k : i ≡ r = omega (arith, q.0, l) in inr (k, from (subst (λ m. LeadsByNumber (schema_of D) m j) k q.1))) (cases_lt i r)),
  )
    where
      x : Raw
      x = (default_held c e).0

      has : here.2.field.dflt ≡ some x
      has = ap (λ (k : Field). k.dflt) here.4 ∙ (default_held c e).2

      ty : (typed_of f.ty).ty ≡ here.2.field.ty
      ty = type_at D s h a end r r f g within here

      to : LacksRow D x (typed_of f.ty).ty j → LeadsByNumber (schema_of D) r j
      to l = by_number here.3 l.1 (a_lead has (subst (λ (t : Ty). Lacks (schema_of D) x t l.0.owner l.0.field) ty l.2))

      from : LeadsByNumber (schema_of D) r j → LacksRow D x (typed_of f.ty).ty j
      from (by_number {F = F} {G = G} p q (a_lead {x = y} k l)) =
          let same = one_some p here.3 in
          let val : y ≡ x = one_some (subst (λ (K : InputField). K.field.dflt ≡ some y) same k) has in
          (G, q, subst (λ v. Lacks (schema_of D) v (typed_of f.ty).ty G.owner G.field) val (subst (λ (t : Ty). Lacks (schema_of D) y t G.owner G.field) (ap (λ (K : InputField). K.field.ty) same ∙ sym ty) l))

  pub filled_none : (rows : List Row) → f.default ≡ None → Filled D r rows → Filled D (r + 1) rows
  filled_none rows e w i j = (
    λ b. let q = (w i j).0 b in (omega (arith, q.0), q.1),
    λ q. ⊎_elim (λ l. (w i j).1 (l, q.1)) (λ l. let k : i ≡ r = omega (arith, q.0, l) in absurd (no (subst (λ m. LeadsByNumber (schema_of D) m j) k q.1))) (cases_lt i r),
  )
    where
      nothing : (o : Option Raw) → DefaultHeld (tree_table s.tree) None o → o ≡ none
      nothing none k = refl
      nothing (some x) k = absurd k

      no : LeadsByNumber (schema_of D) r j → ⊥
      no (by_number {F = F} p q (a_lead {x = y} k l)) =
          let same = one_some p here.3 in
          let d = nothing here.0.dflt (subst (λ o. DefaultHeld (tree_table s.tree) o here.0.dflt) e here.1.default) in
          none_some (sym d ∙ ap (λ (v : Field). v.dflt) (sym here.4) ∙ subst (λ (K : InputField). K.field.dflt ≡ some y) same k)

-- THE TEST

module _ (D : Document) (s : Schema) (h : Holds s D) (a : NamesApart D) (r : ℕ) (all : length (vec_items s.fields) ≤ r) (old new : List Row) (w : Filled D r old) (closed : (i j : ℕ) → leads new i j ≡ true ↔ Steps (λ x y. leads old x y ≡ true) i j) where
  rows_length : length (vec_items s.fields) ≡ length (inputs_in D)
  rows_length = each_length _ (vec_items s.fields) (inputs_in D) h.fields

  led : (i j : ℕ) → LeadsByNumber (schema_of D) i j → leads old i j ≡ true
  led i j (by_number {F = F} p q l) =
      let b = nth_below (input_fields (schema_of D)) i F p in
      let n = length_inputs D in
      let m = rows_length in
      (w i j).1 (omega arith, by_number p q l)

  abbrev Rows : ℕ → Type 0
  Rows = CyclesBefore new (vec_items s.fields) (length (vec_items s.fields))

  to_cycle : (p : ℕ) → Rows p → CycleAt D p
  to_cycle p x =
      let t = there D s h a end x.0 x.0 x.3 x.4 x.1 in
      (cycle_by_row D p).1 (x.0, t.0, t.5, steps_same (λ i j e. ((w i j).0 e).1) ((closed x.0 x.0).0 x.2), sym t.1.place ∙ x.5)

  from_cycle : (p : ℕ) → CycleAt D p → Rows p
  from_cycle p x =
      let c = (cycle_by_row D p).0 x in
      let b = nth_below (inputs_in D) c.0 c.1 c.2 in
      let m = rows_length in
      let l : c.0 < length (vec_items s.fields) = omega arith in
      let f = some_at (vec_items s.fields) c.0 l in
      let t = there D s h a end c.0 c.0 f.0 f.1 l in
      (c.0, l, (closed c.0 c.0).1 (steps_same led c.3), f.0, f.1, t.1.place ∙ ap (λ (d : Declared). d.label.place) (one_some t.5 c.2) ∙ c.4)

  pub first_of_all : (o : RustOption ℕ) → FirstFault Rows o → FirstFault (CycleAt D) o
  first_of_all o = first_as Rows (CycleAt D) o to_cycle from_cycle
