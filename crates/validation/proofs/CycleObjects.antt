-- What an object of an input type lacks, by the rows of the type's fields
use Rattle.std.proofs.Common.{◌≡◌, ℕ, zero, suc, ◌+◌, ◌-◌, ◌<◌, ◌≤◌, true, List, [], ◌∷◌, length, map, get_or, vec_items, inl, inr, ⊎_elim, sym, refl, ap, ◌∙◌, subst, arith}
use mathlib.Core.Option.{none, some}
use Rattle.model.specs.Values.{Name, Mems, object, named, Field, input_d, find}
use Rattle.model.specs.Coercion.{member}
use Rattle.model.specs.Cycles.{InputField, Among, first, later, input_fields, nth}
use Rattle.model.proofs.CyMeets.{object_lacks, field_lacks}
use Rattle.model.proofs.CyNumbers.{one_some, none_some, nth_below}
use Rattle.model.proofs.CyNever.{one_input}
use Rattle.model.proofs.CyOnce.{numbered_once}
use Rattle.relation.specs.declared.row.Row.{Row}
use Rattle.schema.specs.declared.definition.TypeDef.{TypeDef}
use Rattle.schema.specs.declared.definition.Schema.{Schema}
use Rattle.schema.specs.declared.types.Base.TheVariants.{Input}
use Rattle.schema.specs.Documents.{Declared, Document, field_of, fields_in, schema_of}
use Rattle.schema.specs.Rows.{TypeRow, type_rows, base_in}
use Rattle.schema.specs.Holds.{Holds, type_row_of}
use Rattle.validation.specs.Making.{NamesApart}
use Rattle.validation.specs.Lacking.{LacksRow, Adds}
use Rattle.validation.proofs.CycleTypes.{InputType, input_type}
use Rattle.validation.proofs.CycleValues.{adds_as}
use Rattle.validation.proofs.CycleFields.{FieldsLackRow, nth_within}

map_row : (xs : List TypeDef) (i : ℕ) (x : TypeDef) (r : TypeRow) → nth (map type_row_of xs) i ≡ some r → get_or xs i x ≡ x → i < length xs → type_row_of x ≡ r
map_row [] i x r e g l = absurd (omega arith)
map_row (y ∷ xs) zero x r e g l = ap type_row_of (sym g) ∙ one_some refl e
map_row (y ∷ xs) (suc i) x r e g l = map_row xs i x r e g (omega arith)

map_length : (xs : List TypeDef) → length (map type_row_of xs) ≡ length xs
map_length [] = refl
map_length (x ∷ xs) = ap suc (map_length xs)

-- a field among those that are declared
among_fields : (ds : List Declared) (f : Field) → Among f (fields_in ds) → (k : ℕ) × (d : Declared) × (nth ds k ≡ some d) × (f ≡ field_of d)
among_fields [] f a = elim a [ ]
among_fields (d ∷ ds) f first = (0, d, refl, refl)
among_fields (d ∷ ds) f (later a) = let r = among_fields ds f a in (suc r.0, r.1, r.2, r.3)

fields_among : (ds : List Declared) (k : ℕ) (d : Declared) → nth ds k ≡ some d → Among (field_of d) (fields_in ds)
fields_among [] k d e = absurd (none_some e)
fields_among (x ∷ ds) zero d e = subst (λ (y : Declared). Among (field_of y) (fields_in (x ∷ ds))) (one_some refl e) first
fields_among (x ∷ ds) (suc k) d e = later (fields_among ds k d e)

module _ (D : Document) (s : Schema) (h : Holds s D) where
  pub object_past : (n : Name) (index : ℕ) → base_in D n ≡ Input index → length (vec_items s.types) ≤ index → ⊥
  object_past n index e l =
      let t = (input_type D n index e).0 in
      let b = nth_below (type_rows D) index _ t.row in
      let m = ap (λ (rs : List TypeRow). length rs) (sym h.types) ∙ map_length (vec_items s.types) in
      omega arith

  module _ (a : NamesApart D) (p : ℕ) (ms : Mems) (n : Name) (row index : ℕ) (e : base_in D n ≡ Input index) (ty : TypeDef) (g : get_or (vec_items s.types) index ty ≡ ty) (within : index < length (vec_items s.types)) where
    abbrev Found : Type 0
    Found = InputType D (type_rows D) 0 index n

    inside_of : (t : Found) → (ty.inside.from ≡ 0 + t.after) × (ty.inside.to ≡ 0 + t.after + length t.fields)
    inside_of t =
        let r = map_row (vec_items s.types) index ty _ (ap (λ rs. nth rs index) h.types ∙ t.row) g within in
        (ap (λ (q : TypeRow). q.inside.from) r, ap (λ (q : TypeRow). q.inside.to) r)

    -- a row in the span is that of a field
    to_object : (t : Found) → find (schema_of D) n ≡ input_d (fields_in t.fields) → (to j : ℕ) → to ≡ ty.inside.to → FieldsLackRow D ms ty.inside.from to j → LacksRow D (object p ms) (named true n) j
    to_object t f to j q l =
        let i = inside_of t in
        let F = l.3.0 in
        let r = l.0 in
        let w : r - t.after < length t.fields = omega (arith, l.1, l.2, i.0, i.1, q) in
        let d = nth_within t.fields (r - t.after) w in
        let back : t.after + (r - t.after) ≡ r = omega (arith, l.1, i.0) in
        let number = subst (λ m. nth (input_fields (schema_of D)) m ≡ some (record { owner = t.label.name; field = field_of d.0 })) back (t.numbers (r - t.after) d.0 d.1) in
        let same_field = one_some number l.3.1 in
        let among : Among F.field (fields_in t.fields) = subst (λ (K : InputField). Among K.field (fields_in t.fields)) same_field (fields_among t.fields (r - t.after) d.0 d.1) in
        let owner : n ≡ F.owner = sym t.called ∙ ap (λ (K : InputField). K.owner) same_field in
        ⊎_elim
        (λ c. (F, subst (λ m. nth (input_fields (schema_of D)) m ≡ some F) (sym c.0) l.3.1, field_lacks (fields_in t.fields) f among (inl (c.1, c.2, c.3, owner, refl))))
        (λ c. (c.2.0, c.2.1, field_lacks (fields_in t.fields) f among (inr (c.0, c.1, c.2.2))))
        l.3.2

    from_object : (t : Found) → find (schema_of D) n ≡ input_d (fields_in t.fields) → (to j : ℕ) → to ≡ ty.inside.to → LacksRow D (object p ms) (named true n) j → FieldsLackRow D ms ty.inside.from to j
    from_object t f to j q l =
        let i = inside_of t in
        let G = l.0 in
        let o = object_lacks l.2 in
        let k = among_fields t.fields o.2 (subst (λ (fs : List Field). Among o.2 fs) (one_input o.1 f) o.3) in
        let number = t.numbers k.0 k.1 k.2 in
        let r = t.after + k.0 in
        let b = nth_below t.fields k.0 k.1 k.2 in
        let F : InputField = record { owner = t.label.name; field = field_of k.1 } in (
          r,
          omega (arith, i.0),
          omega (arith, i.1, q, b),
          (
            F,
            number,
            ⊎_elim
                (λ c. inl (numbered_once (schema_of D) a.0 a.1 j r G F l.1 number (sym c.3 ∙ sym t.called) (ap (λ (v : Field). v.name) (sym c.4 ∙ k.3)), subst (λ (v : Field). member ms v.name ≡ none) k.3 c.0, c.1, subst (λ (v : Field). v.dflt ≡ some c.1) k.3 c.2))
                (λ c. inr (c.0, subst (λ (v : Field). member ms v.name ≡ some c.0) k.3 c.1, subst (λ (v : Field). LacksRow D c.0 v.ty j) k.3 (G, l.1, c.2)))
                o.4,
          ),
        )

    pub object_told : (to : ℕ) (old new : List Row) → ty.inside.to ≤ to → (ty.inside.from ≤ ty.inside.to → to ≤ ty.inside.to) → Adds row (FieldsLackRow D ms ty.inside.from to) old new → Adds row (LacksRow D (object p ms) (named true n)) old new
    object_told to old new u v adds =
        let t = input_type D n index e in
        let f = t.1 ∙ t.0.found in
        let i = inside_of t.0 in
        let w = v (omega (arith, i.0, i.1)) in
        let q : to ≡ ty.inside.to = omega (arith, u, w) in
        adds_as row (FieldsLackRow D ms ty.inside.from to) (LacksRow D (object p ms) (named true n)) old new (λ j l. to_object t.0 f to j q l) (λ j l. from_object t.0 f to j q l) adds
