-- What types stand for, found once all are declared.
use Rattle.std.proofs.Common.{◌≡◌, ◌≢◌, ℕ, suc, ◌+◌, ◌<◌, ◌≤◌, ◌==◌, true, false, slice_set, take, drop, ◌++◌, ⊎_elim, List, [], ◌∷◌, length, map, get_or, sym, ap, ◌∙◌, subst, vec_items, arith}
use Rattle.std.proofs.Math.Seq.{take-append_seam}
use Rattle.std.proofs.lemmas.Bool.{cases_Bool}
use Rattle.std.proofs.lemmas.Bool.Decides.{nat_tests}
use Rattle.std.proofs.lemmas.List.{get_or-set_same, get_or-set_other, get_or_default}
use Rattle.model.specs.Values.{Name}
use Rattle.source.specs.Table.{Table, tree_table}
use Rattle.schema.specs.declared.definition.Field.{Field}
use Rattle.schema.specs.declared.definition.Schema.{Schema}
use Rattle.schema.specs.declared.definition.TypeDef.{TypeDef}
use Rattle.schema.specs.declared.types.Base.{Base}
use Rattle.schema.specs.Documents.{Declared, Document}
use Rattle.schema.specs.Holds.{Each, DirectiveHeld, label_of, DefaultHeld, FieldHeld, HeldBy, Holds, typed_of, type_row_of}
use Rattle.schema.specs.Rows.{base_by, base_in, directive_rows}
use Rattle.schema.specs.SchemaReading.{inputs_in, arguments_in}
use Rattle.schema.specs.SchemaTold.{unknown}

-- the same field, with what its type's name stands for
pub record Resolved (B : Name → Base) (new old : Field) : Type 0 where
  pub name : new.name.now ≡ old.name.now
  pub place : new.place ≡ old.place
  pub typed : typed_of new.ty ≡ typed_of old.ty
  pub base : new.ty.shape.base ≡ B new.ty.name.now
  pub default : new.default ≡ old.default

each_points : {A : Type 0} (Q : A → A → Type 0) (xs ys : List A) → length xs ≡ length ys → ((k : ℕ) (d : A) → k < length ys → Q (get_or xs k d) (get_or ys k d)) → Each Q xs ys
each_points Q [] [] n f = tt
each_points Q [] (y ∷ ys) n f = absurd (omega (arith, n))
each_points Q (x ∷ xs) [] n f = absurd (omega (arith, n))
each_points Q (x ∷ xs) (y ∷ ys) n f = (f 0 x (omega arith), each_points Q xs ys (omega (arith, n)) (λ k d h. f (suc k) d (omega arith)))

resolved_held : (B : Name → Base) (T : Table) (new old : Field) (x : Declared) → Resolved B new old → FieldHeld unknown T old x → FieldHeld B T new x
resolved_held B T new old x r h = record {
  name = r.name ∙ h.name;
  place = r.place ∙ h.place;
  typed = r.typed ∙ h.typed;
  base = r.base;
  default = subst (λ c. DefaultHeld T c x.dflt) (sym r.default) h.default;
}

each_resolved : (B : Name → Base) (T : Table) (new old : List Field) (xs : List Declared) → Each (Resolved B) new old → Each (FieldHeld unknown T) old xs → Each (FieldHeld B T) new xs
each_resolved B T [] [] [] r h = tt
each_resolved B T [] [] (x ∷ xs) r h = h
each_resolved B T [] (o ∷ os) xs r h = absurd r
each_resolved B T (n ∷ ns) [] xs r h = absurd r
each_resolved B T (n ∷ ns) (o ∷ os) [] r h = absurd h
each_resolved B T (n ∷ ns) (o ∷ os) (x ∷ xs) r h = (resolved_held B T n o x r.0 h.0, each_resolved B T ns os xs r.1 h.1)

pub all_resolved : (B : Name → Base) (T : Table) (new old : List Field) (xs : List Declared) → length new ≡ length old → ((k : ℕ) (d : Field) → k < length old → Resolved B (get_or new k d) (get_or old k d)) → Each (FieldHeld unknown T) old xs → Each (FieldHeld B T) new xs
all_resolved B T new old xs n f h = each_resolved B T new old xs (each_points (Resolved B) new old n f) h

-- what is written back to a Vec
pub written_back : {A : Type 0} (n : ℕ) (xs old : List A) → n ≡ length xs → xs ≡ take n (xs ++ drop (length xs) old)
written_back n xs old e = sym (ap (λ k. take k (xs ++ drop (length xs) old)) e ∙ take-append_seam xs (drop (length xs) old))

equal_nat : (i j : ℕ) → (i == j) ≡ true → i ≡ j
equal_nat i j h = grind (arith, nat_tests)

unequal_nat : (i j : ℕ) → (i == j) ≡ false → i ≢ j
unequal_nat i j h e = grind (arith, nat_tests)

below : (k i : ℕ) → k < i + 1 → k ≢ i → k < i
below k i h n = grind (arith, h, n)

-- one field more
module _ (B : Name → Base) (now old : List Field) (i : ℕ) (f e : Field) (long : i < length now) (r : Resolved B f (get_or now i e))
    (done : (k : ℕ) (d : Field) → k < i → Resolved B (get_or now k d) (get_or old k d)) (rest : (k : ℕ) (d : Field) → i ≤ k → get_or now k d ≡ get_or old k d) where
  this : (k : ℕ) (d : Field) → k ≡ i → Resolved B (get_or (slice_set now i f) k d) (get_or old k d)
  this k d q = subst (λ j. Resolved B (get_or (slice_set now i f) j d) (get_or old j d)) (sym q)
      (subst (λ x. Resolved B x (get_or old i d)) (sym (get_or-set_same now i f d long)) (subst (Resolved B f) (get_or_default now i e d long ∙ rest i d (omega arith)) r))

  pub turned_done : (k : ℕ) (d : Field) → k < i + 1 → Resolved B (get_or (slice_set now i f) k d) (get_or old k d)
  turned_done k d h = ⊎_elim
      (λ q. this k d (equal_nat k i q))
      (λ q. let n : k ≢ i = unequal_nat k i q in subst (λ x. Resolved B x (get_or old k d)) (sym (get_or-set_other now i k f d n)) (done k d (omega (arith, below k i h n))))
      (cases_Bool (k == i))

  pub turned_rest : (k : ℕ) (d : Field) → i + 1 ≤ k → get_or (slice_set now i f) k d ≡ get_or old k d
  turned_rest k d h = get_or-set_other now i k f d (λ q. omega (arith, q, h)) ∙ rest k d (omega (arith, h))

-- a document's tables, once all is resolved
pub schema_resolved : (old new : Schema) (D : Document) (ts us : List TypeDef) → ts ≡ vec_items old.types → us ≡ vec_items old.types → new.types ≡ old.types → new.values ≡ old.values → new.directives ≡ old.directives → tree_table new.tree ≡ tree_table old.tree
    → ((T : Table) (ds : List Declared) → Each (FieldHeld unknown T) (vec_items old.fields) ds → Each (FieldHeld (base_by (map type_row_of ts)) T) (vec_items new.fields) ds)
    → ((T : Table) (ds : List Declared) → Each (FieldHeld unknown T) (vec_items old.arguments) ds → Each (FieldHeld (base_by (map type_row_of us)) T) (vec_items new.arguments) ds)
    → HeldBy unknown old D → Holds new D
schema_resolved old new D ts us x y p v r t f a h = record {
  types = ap (λ z. map type_row_of (vec_items z)) p ∙ h.types;
  values = ap (λ z. map label_of (vec_items z)) v ∙ h.values;
  fields = subst (λ T. Each (FieldHeld (base_in D) T) (vec_items new.fields) (inputs_in D)) (sym t)
      (subst (λ rows. Each (FieldHeld (base_by rows) (tree_table old.tree)) (vec_items new.fields) (inputs_in D)) (ap (map type_row_of) x ∙ h.types) (f (tree_table old.tree) (inputs_in D) h.fields));
  directives = subst (λ z. Each DirectiveHeld (vec_items z) (directive_rows D)) (sym r) h.directives;
  arguments = subst (λ T. Each (FieldHeld (base_in D) T) (vec_items new.arguments) (arguments_in D)) (sym t)
      (subst (λ rows. Each (FieldHeld (base_by rows) (tree_table old.tree)) (vec_items new.arguments) (arguments_in D)) (ap (map type_row_of) y ∙ h.types) (a (tree_table old.tree) (arguments_in D) h.arguments));
}
