-- Rows that stand for things, one by one.
use Rattle.std.proofs.Common.{◌≡◌, ℕ, suc, ◌+◌, List, [], ◌∷◌, ◌++◌, length, Some, None, Option, sym, refl, ap, ◌∙◌, subst, append_assoc, append-nil, arith}
use mathlib.Core.Option.{none, some}
use Rattle.std.proofs.lemmas.List.{length-append}
use Rattle.model.specs.Values.{Name, Raw}
use Rattle.source.specs.Table.{Table, Keeps}
use Rattle.source.proofs.Keeping.{stands_kept}
use Rattle.schema.specs.declared.definition.Field.{Field}
use Rattle.schema.specs.declared.types.Base.{Base}
use Rattle.schema.specs.declared.types.Base.TheVariants.{Unknown}
use Rattle.schema.specs.declared.declaration.Declaration.{Declaration}
use Rattle.schema.specs.DeclarationTold.{DeclaredBy}
use Rattle.schema.specs.Documents.{Label, Declared}
use Rattle.schema.specs.Holds.{Each, DefaultHeld, FieldHeld, typed_of}
use Rattle.schema.specs.SchemaTold.{Appended, unknown}

pub each_map : {A B : Type 0} (R S : A → B → Type 0) → ((x : A) (y : B) → R x y → S x y) → (xs : List A) (ys : List B) → Each R xs ys → Each S xs ys
each_map R S f [] [] e = tt
each_map R S f [] (y ∷ ys) e = e
each_map R S f (x ∷ xs) [] e = e
each_map R S f (x ∷ xs) (y ∷ ys) e = (f x y e.0, each_map R S f xs ys e.1)

pub each_append : {A B : Type 0} (R : A → B → Type 0) (xs : List A) (ys : List B) (us : List A) (vs : List B) → Each R xs ys → Each R us vs → Each R (xs ++ us) (ys ++ vs)
each_append R [] [] us vs e f = f
each_append R [] (y ∷ ys) us vs e f = absurd e
each_append R (x ∷ xs) [] us vs e f = absurd e
each_append R (x ∷ xs) (y ∷ ys) us vs e f = (e.0, each_append R xs ys us vs e.1 f)

pub each_length : {A B : Type 0} (R : A → B → Type 0) (xs : List A) (ys : List B) → Each R xs ys → length xs ≡ length ys
each_length R [] [] e = refl
each_length R [] (y ∷ ys) e = absurd e
each_length R (x ∷ xs) [] e = absurd e
each_length R (x ∷ xs) (y ∷ ys) e = ap suc (each_length R xs ys e.1)

pub appended_none : {A B : Type 0} (R : A → B → Type 0) (xs : List A) → Appended R xs xs []
appended_none R xs = record { rows = []; added = sym (append-nil xs); each = tt }

-- one row more
pub appended_one : {A B : Type 0} (R : A → B → Type 0) (old mid new : List A) (zs : List B) (x : A) (z : B) → Appended R old mid zs → new ≡ mid ++ x ∷ [] → R x z → Appended R old new (zs ++ z ∷ [])
appended_one R old mid new zs x z a e r = record {
  rows = a.rows ++ x ∷ [];
  added = e ∙ ap (λ l. l ++ x ∷ []) a.added ∙ append_assoc old a.rows (x ∷ []);
  each = each_append R a.rows zs (x ∷ []) (z ∷ []) a.each (r, tt);
}

pub appended_map : {A B : Type 0} (R S : A → B → Type 0) (old new : List A) (zs : List B) → ((x : A) (y : B) → R x y → S x y) → Appended R old new zs → Appended S old new zs
appended_map R S old new zs f a = record { rows = a.rows; added = a.added; each = each_map R S f a.rows zs a.each }

pub appended_length : {A B : Type 0} (R : A → B → Type 0) (old new : List A) (zs : List B) → Appended R old new zs → length new ≡ length old + length zs
appended_length R old new zs a = ap length a.added ∙ length-append old a.rows ∙ ap (λ n. length old + n) (each_length R a.rows zs a.each)

-- what stands in a table stands there when it grew
pub default_kept : (T U : Table) → Keeps 0 T U → (d : Option ℕ) (x : mathlib.Core.Option.Option Raw) → DefaultHeld T d x → DefaultHeld U d x
default_kept T U k None none h = tt
default_kept T U k None (some x) h = h
default_kept T U k (Some c) none h = h
default_kept T U k (Some c) (some x) h = stands_kept k c x (omega arith) h

pub field_kept : (B : Name → Base) (T U : Table) → Keeps 0 T U → (f : Field) (d : Declared) → FieldHeld B T f d → FieldHeld B U f d
field_kept B T U k f d h = record { name = h.name; place = h.place; typed = h.typed; base = h.base; default = default_kept T U k f.default d.dflt h.default }

-- the row of a field, by what was read of it
pub field_row : (T : Table) (f : Field) (l : Label) (d : Declaration) (x : Declared) → f.name.now ≡ l.name → f.place ≡ l.place → typed_of f.ty ≡ typed_of d.ty → f.ty.shape.base ≡ Unknown → f.default ≡ d.default → DeclaredBy l T d x → FieldHeld unknown T f x
field_row T f l d x n p t b e h = record {
  name = n ∙ ap (λ (k : Label). k.name) (sym h.label);
  place = p ∙ ap (λ (k : Label). k.place) (sym h.label);
  typed = t ∙ h.typed;
  base = b;
  default = subst (λ c. DefaultHeld T c x.dflt) (sym e) h.default;
}
