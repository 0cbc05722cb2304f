-- What a value lacks, by its kind and its type
use Rattle.std.proofs.Common.{◌≡◌, ℕ, zero, suc, ◌-◌, Bool, true, false, List, nat_lt, not, get_or, inl, inr, ⊎_elim, sym, refl, ap, ◌∙◌, subst, arith, tests}
use Rattle.model.specs.Values.{Name, boolean, whole, decimal, string, symbol, Raw, Raws, Mems, null, scalar, variable, list, object, nil, cons, Ty, named, list_of, Field}
use Rattle.model.specs.Cycles.{Lacks, l_items, l_first, l_later}
use Rattle.model.proofs.CyMeets.{null_lacks, scalar_lacks, variable_lacks, list_lacks, lacks_items, in_alone, in_cons, none_in_nil, object_lacks, field_lacks}
use Rattle.relation.specs.declared.row.Row.{Row}
use Rattle.source.specs.Heads.{kind_of}
use Rattle.source.specs.declared.raw.Kind.TheVariants.{List as ListKind, Object as ObjectKind}
use Rattle.schema.specs.declared.types.Base.{Base}
use Rattle.schema.specs.declared.types.Base.TheVariants.{Input}
use Rattle.schema.specs.declared.types.«Type».{«Type» as TypeIn}
use Rattle.schema.specs.declared.definition.Schema.{Schema}
use Rattle.schema.specs.Documents.{Document, schema_of}
use Rattle.schema.specs.Rows.{base_in}
use Rattle.schema.specs.Holds.{typed_of}
use Rattle.schema.specs.Types.{ty_from}
use Rattle.validation.proofs.CycleTypes.{input_named}
use Rattle.validation.specs.Lacking.{LacksRow, LacksRowIn, Adds, ValueTold, ItemsTold, ObjectTold}

-- nothing is added
pub adds_none : (row : ℕ) (P : ℕ → Type 0) (rows : List Row) → ((j : ℕ) → P j → ⊥) → Adds row P rows rows
adds_none row P rows h i j = (λ e. inl e, λ s. ⊎_elim (λ e. e) (λ p. absurd (h j p.1)) s)

-- the same is added
pub adds_as : (row : ℕ) (P Q : ℕ → Type 0) (old new : List Row) → ((j : ℕ) → P j → Q j) → ((j : ℕ) → Q j → P j) → Adds row P old new → Adds row Q old new
adds_as row P Q old new to from a i j = (λ e. ⊎_elim (λ l. inl l) (λ p. inr (p.0, to j p.1)) ((a i j).0 e), λ s. (a i j).1 (⊎_elim (λ l. inl l) (λ p. inr (p.0, from j p.1)) s))

kind_list : (x : Raw) → kind_of x ≡ ListKind → (p : ℕ) × (xs : Raws) × (x ≡ list p xs)
kind_list (null p) e = let z : ⊥ = cc in absurd z
kind_list (scalar p (boolean b)) e = let z : ⊥ = cc in absurd z
kind_list (scalar p (whole s)) e = let z : ⊥ = cc in absurd z
kind_list (scalar p (decimal d)) e = let z : ⊥ = cc in absurd z
kind_list (scalar p (string s)) e = let z : ⊥ = cc in absurd z
kind_list (scalar p (symbol s)) e = let z : ⊥ = cc in absurd z
kind_list (variable p n) e = let z : ⊥ = cc in absurd z
kind_list (list p xs) e = (p, xs, refl)
kind_list (object p ms) e = let z : ⊥ = cc in absurd z

kind_object : (x : Raw) → kind_of x ≡ ObjectKind → (p : ℕ) × (ms : Mems) × (x ≡ object p ms)
kind_object (null p) e = let z : ⊥ = cc in absurd z
kind_object (scalar p (boolean b)) e = let z : ⊥ = cc in absurd z
kind_object (scalar p (whole s)) e = let z : ⊥ = cc in absurd z
kind_object (scalar p (decimal d)) e = let z : ⊥ = cc in absurd z
kind_object (scalar p (string s)) e = let z : ⊥ = cc in absurd z
kind_object (scalar p (symbol s)) e = let z : ⊥ = cc in absurd z
kind_object (variable p n) e = let z : ⊥ = cc in absurd z
kind_object (list p xs) e = let z : ⊥ = cc in absurd z
kind_object (object p ms) e = (p, ms, refl)

leaf_lacks : (D : Document) (x : Raw) (t : Ty) (j : ℕ) → (kind_of x ≡ ListKind → ⊥) → (kind_of x ≡ ObjectKind → ⊥) → LacksRow D x t j → ⊥
leaf_lacks D (null p) t j n m l = null_lacks t l.2
leaf_lacks D (scalar p s) t j n m l = scalar_lacks t l.2
leaf_lacks D (variable p v) t j n m l = variable_lacks t l.2
leaf_lacks D (list p xs) t j n m l = n refl
leaf_lacks D (object p ms) t j n m l = m refl

-- the type of the items
item_type : (marks : List Bool) (w : Name) (k : ℕ) → nat_lt 0 k ≡ true → (q : Bool) × (ty_from marks w k ≡ list_of q (ty_from marks w (k - 1)))
item_type marks w zero e = let z : ⊥ = cc in absurd z
item_type marks w (suc k) e = let h : k ≡ suc k - 1 = omega arith in (not (get_or marks (suc k) false), ap (λ m. list_of (not (get_or marks (suc k) false)) (ty_from marks w m)) h)

named_type : (marks : List Bool) (w : Name) (k : ℕ) → nat_lt 0 k ≡ false → (q : Bool) × (ty_from marks w k ≡ named q w)
named_type marks w zero e = (not (get_or marks 0 false), refl)
named_type marks w (suc k) e = let z : ⊥ = grind (arith, tests, e) in absurd z

-- an object at a type is one at its name
object_up : (D : Document) {p : ℕ} {ms : Mems} {m : Name} {f : Field} (marks : List Bool) (n : Name) (k : ℕ) → Lacks (schema_of D) (object p ms) (named true n) m f → Lacks (schema_of D) (object p ms) (ty_from marks n k) m f
object_up D marks n zero l = let o = object_lacks l in field_lacks o.0 o.1 o.3 o.4
object_up D marks n (suc k) l = l_items (l_first (object_up D marks n k l))

object_down : (D : Document) {p : ℕ} {ms : Mems} {m : Name} {f : Field} (marks : List Bool) (n : Name) (k : ℕ) → Lacks (schema_of D) (object p ms) (ty_from marks n k) m f → Lacks (schema_of D) (object p ms) (named true n) m f
object_down D marks n zero l = let o = object_lacks l in field_lacks o.0 o.1 o.3 o.4
object_down D marks n (suc k) l = object_down D marks n k (in_alone (lacks_items l))

module _ (stands : ℕ → Raw → Type 0) (row : ℕ) (s : Schema) (at : ℕ) (ty : TypeIn Base) where
  abbrev Of : Document → Raw → List Row → List Row → Type 0
  Of D x old new = Adds row (LacksRow D x (typed_of ty).ty) old new

  pub value_items : (ti : TypeIn Base) (old new : List Row) → ((x : Raw) → stands at x → kind_of x ≡ ListKind) → nat_lt 0 ty.shape.levels ≡ true
      → ti.shape ≡ record ty.shape { levels = ty.shape.levels - 1 } → ti.name ≡ ty.name → ItemsTold stands row s at ti old new → ValueTold stands row s at ty old new
  value_items ti old new kinds deep es en told D h a x st b =
      let k = kind_list x (kinds x st) in
      let i = item_type ty.shape.non_null ty.name.now ty.shape.levels deep in
      let e : (typed_of ti).ty ≡ ty_from ty.shape.non_null ty.name.now (ty.shape.levels - 1) = ap (λ z. ty_from z.non_null ti.name.now z.levels) es ∙ ap (λ z. ty_from ty.shape.non_null z.now (ty.shape.levels - 1)) en in
      let core = told D h a k.0 k.1 (subst (λ v. stands at v) k.2 st) (ap (λ z. z.base) es ∙ b ∙ ap (λ z. base_in D z.now) (sym en)) in
      subst (λ v. Of D v old new) (sym k.2)
      (subst (λ t. Adds row (LacksRow D (list k.0 k.1) t) old new) (sym i.1)
      (adds_as row (LacksRowIn D k.1 (ty_from ty.shape.non_null ty.name.now (ty.shape.levels - 1))) (LacksRow D (list k.0 k.1) (list_of i.0 (ty_from ty.shape.non_null ty.name.now (ty.shape.levels - 1)))) old new
      (λ j l. (l.0, l.1, l_items l.2)) (λ j l. (l.0, l.1, lacks_items l.2)) (subst (λ t. Adds row (LacksRowIn D k.1 t) old new) e core)))

  pub value_list : (rows : List Row) → ((x : Raw) → stands at x → kind_of x ≡ ListKind) → nat_lt 0 ty.shape.levels ≡ false → ValueTold stands row s at ty rows rows
  value_list rows kinds flat D h a x st b =
      let k = kind_list x (kinds x st) in
      let i = named_type ty.shape.non_null ty.name.now ty.shape.levels flat in
      subst (λ v. Of D v rows rows) (sym k.2)
      (subst (λ t. Adds row (LacksRow D (list k.0 k.1) t) rows rows) (sym i.1) (adds_none row (LacksRow D (list k.0 k.1) (named i.0 ty.name.now)) rows (λ j l. list_lacks l.2)))

  pub value_object : (index : ℕ) (old new : List Row) → ((x : Raw) → stands at x → kind_of x ≡ ObjectKind) → ty.shape.base ≡ Input index → ObjectTold stands row s at index old new → ValueTold stands row s at ty old new
  value_object index old new kinds e told D h a x st b =
      let k = kind_object x (kinds x st) in
      subst (λ v. Of D v old new) (sym k.2)
      (adds_as row (LacksRow D (object k.0 k.1) (named true ty.name.now)) (LacksRow D (object k.0 k.1) (typed_of ty).ty) old new
      (λ j l. (l.0, l.1, object_up D ty.shape.non_null ty.name.now ty.shape.levels l.2)) (λ j l. (l.0, l.1, object_down D ty.shape.non_null ty.name.now ty.shape.levels l.2))
      (told D h a k.0 k.1 (subst (λ v. stands at v) k.2 st) ty.name.now (sym b ∙ e)))

  pub value_other : (rows : List Row) → ((x : Raw) → stands at x → (kind_of x ≡ ListKind → ⊥) × (kind_of x ≡ ObjectKind → ⊥)) → ValueTold stands row s at ty rows rows
  value_other rows kinds D h a x st b = adds_none row (LacksRow D x (typed_of ty).ty) rows (λ j l. leaf_lacks D x (typed_of ty).ty j (kinds x st).0 (kinds x st).1 l)

  pub value_no_input : (rows : List Row) → ((x : Raw) → stands at x → kind_of x ≡ ObjectKind) → ((i : ℕ) → ty.shape.base ≡ Input i → ⊥) → ValueTold stands row s at ty rows rows
  value_no_input rows kinds n D h a x st b =
      let k = kind_object x (kinds x st) in
      subst (λ v. Of D v rows rows) (sym k.2) (adds_none row (LacksRow D (object k.0 k.1) (typed_of ty).ty) rows (λ j l.
      let o = object_lacks (object_down D ty.shape.non_null ty.name.now ty.shape.levels l.2) in
      let i = input_named D ty.name.now o.0 o.1 in
      n i.0 (b ∙ i.1)))

-- the items one by one
pub items_more : (D : Document) (row : ℕ) (x : Raw) (ys : Raws) (t : Ty) (old mid new : List Row) → Adds row (LacksRow D x t) old mid → Adds row (LacksRowIn D ys t) mid new → Adds row (LacksRowIn D (cons x ys) t) old new
items_more D row x ys t old mid new a b i j = (
  λ e. ⊎_elim (λ l. ⊎_elim (λ k. inl k) (λ p. inr (p.0, (p.1.0, p.1.1, l_first p.1.2))) ((a i j).0 l)) (λ p. inr (p.0, (p.1.0, p.1.1, l_later p.1.2))) ((b i j).0 e),
  λ q. (b i j).1 (⊎_elim (λ l. inl ((a i j).1 (inl l))) (λ p. ⊎_elim (λ l. inl ((a i j).1 (inr (p.0, (p.1.0, p.1.1, l))))) (λ l. inr (p.0, (p.1.0, p.1.1, l))) (in_cons p.1.2)) q),
)

pub items_none : (D : Document) (row : ℕ) (t : Ty) (rows : List Row) → Adds row (LacksRowIn D nil t) rows rows
items_none D row t rows = adds_none row (LacksRowIn D nil t) rows (λ j l. none_in_nil l.2)
