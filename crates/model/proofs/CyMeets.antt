-- What is lacked, by the raw value and the type
use Rattle.std.proofs.Common.{◌≡◌, ℕ, Bool, ◌⊎◌, ◌↔◌, List, inl, inr, refl, subst}
use mathlib.Core.Option.{none, some}
use Rattle.model.specs.Values.{Name, Scalar, Raw, Raws, Mems, null, scalar, variable, list, object, nil, cons, Ty, named, list_of, Field, input_d, Schema, find}
use Rattle.model.specs.Coercion.{member}
use Rattle.model.specs.Taking.{items}
use Rattle.model.specs.Cycles.{Among, Lacks, LacksIn, l_here, l_member, l_items, l_first, l_later}

pub lacks_items : {S : Schema} {b : Bool} {v : Raw} {t : Ty} {n : Name} {f : Field} → Lacks S v (list_of b t) n f → LacksIn S (items v) t n f
lacks_items (l_items l) = l

pub none_in_nil : {S : Schema} {t : Ty} {n : Name} {f : Field} → LacksIn S nil t n f → ⊥
none_in_nil l = elim l [ ]

pub in_cons : {S : Schema} {x : Raw} {xs : Raws} {t : Ty} {n : Name} {f : Field} → LacksIn S (cons x xs) t n f → Lacks S x t n f ⊎ LacksIn S xs t n f
in_cons (l_first l) = inl l
in_cons (l_later l) = inr l

pub in_alone : {S : Schema} {x : Raw} {t : Ty} {n : Name} {f : Field} → LacksIn S (cons x nil) t n f → Lacks S x t n f
in_alone (l_first l) = l
in_alone (l_later l) = absurd (none_in_nil l)

pub null_lacks : {S : Schema} {at : ℕ} (t : Ty) {n : Name} {f : Field} → Lacks S (null at) t n f → ⊥
null_lacks (named b m) l = elim l [ ]
null_lacks (list_of b t) l = null_lacks t (in_alone (lacks_items l))

pub scalar_lacks : {S : Schema} {at : ℕ} {s : Scalar} (t : Ty) {n : Name} {f : Field} → Lacks S (scalar at s) t n f → ⊥
scalar_lacks (named b m) l = elim l [ ]
scalar_lacks (list_of b t) l = scalar_lacks t (in_alone (lacks_items l))

pub variable_lacks : {S : Schema} {at : ℕ} {v : Name} (t : Ty) {n : Name} {f : Field} → Lacks S (variable at v) t n f → ⊥
variable_lacks (named b m) l = elim l [ ]
variable_lacks (list_of b t) l = variable_lacks t (in_alone (lacks_items l))

-- a list lacks nothing at a named type
pub list_lacks : {S : Schema} {at : ℕ} {xs : Raws} {b : Bool} {m n : Name} {f : Field} → Lacks S (list at xs) (named b m) n f → ⊥
list_lacks l = elim l [ ]

pub list_lacks_in : {S : Schema} {at : ℕ} {xs : Raws} {b : Bool} {t : Ty} {n : Name} {f : Field} → Lacks S (list at xs) (list_of b t) n f ↔ LacksIn S xs t n f
list_lacks_in = (lacks_items, λ l. l_items l)

-- an object is met at the name of its type, under any list levels
pub object_lacks_in : {S : Schema} {at : ℕ} {ms : Mems} {b : Bool} {t : Ty} {n : Name} {f : Field} → Lacks S (object at ms) (list_of b t) n f ↔ Lacks S (object at ms) t n f
object_lacks_in = (λ l. in_alone (lacks_items l), λ l. l_items (l_first l))

-- by a field g of the object: its own default where there is no member, else what its member lacks
abbrev pub FieldLacks : Schema → Name → Mems → Field → Name → Field → Type 0
FieldLacks S n ms g m f =
    ((member ms g.name ≡ none) × (y : Raw) × (g.dflt ≡ some y) × (n ≡ m) × (g ≡ f))
    ⊎ ((x : Raw) × (member ms g.name ≡ some x) × Lacks S x g.ty m f)

abbrev pub ObjectLacks : Schema → Name → Mems → Name → Field → Type 0
ObjectLacks S n ms m f = (fs : List Field) × (find S n ≡ input_d fs) × (g : Field) × Among g fs × FieldLacks S n ms g m f

pub object_lacks : {S : Schema} {at : ℕ} {ms : Mems} {b : Bool} {n m : Name} {f : Field} → Lacks S (object at ms) (named b n) m f → ObjectLacks S n ms m f
object_lacks (l_here {fs = fs} {f = f} {y = y} e i m d) = (fs, e, f, i, inl (m, y, d, refl, refl))
object_lacks (l_member {fs = fs} {g = g} {x = x} e i m l) = (fs, e, g, i, inr (x, m, l))

pub field_lacks : {S : Schema} {at : ℕ} {ms : Mems} {b : Bool} {n m : Name} {g f : Field} (fs : List Field) → find S n ≡ input_d fs → Among g fs → FieldLacks S n ms g m f → Lacks S (object at ms) (named b n) m f
field_lacks {S} {at = at} {ms = ms} {b = b} {n = n} {m = m} {g = g} {f = f} fs e i (inl k) =
    subst (λ (o : Name). Lacks S (object at ms) (named b n) o f) k.3 (subst (λ (h : Field). Lacks S (object at ms) (named b n) n h) k.4 (l_here e i k.0 k.2))
field_lacks fs e i (inr k) = l_member e i k.1 k.2
