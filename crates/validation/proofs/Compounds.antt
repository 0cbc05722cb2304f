-- What is wrong with lists and objects, by what a name stands for.
use Rattle.std.proofs.Common.{◌≡◌, ℕ, zero, suc, ◌+◌, ◌<◌, ◌≤◌, List, [], ◌∷◌, map, length, get_or, drop, refl, ap, ◌∙◌, arith}
use Rattle.model.specs.Values.{Name, Mems, Field, field_names, Def}
use Rattle.model.specs.Checking.{Finding, found, unsupported_value_type, list_at_name, check_object}
use Rattle.schema.specs.declared.definition.Field.{Field as FieldRow}
use Rattle.schema.specs.declared.types.Base.{Base}
use Rattle.schema.specs.declared.types.Base.TheVariants.{Int, Float, String, Boolean, Id, Custom, Enum, Input, Output, Unknown}
use Rattle.schema.specs.Documents.{Declared, fields_in}
use Rattle.schema.specs.Holds.{Each, FieldHeld}
use Rattle.source.specs.Table.{Table}
use Rattle.validation.specs.Literals.{Means}

pub list_unsupported : (b : Base) (d : Def) (p : ℕ) (fs : List Finding) → Means b d → ((k : ℕ) → b ≡ Custom k → ⊥) → list_at_name p fs d ≡ found unsupported_value_type p
list_unsupported Int d p fs m a = ap (list_at_name p fs) m
list_unsupported Float d p fs m a = ap (list_at_name p fs) m
list_unsupported String d p fs m a = ap (list_at_name p fs) m
list_unsupported Boolean d p fs m a = ap (list_at_name p fs) m
list_unsupported Id d p fs m a = ap (list_at_name p fs) m
list_unsupported (Custom k) d p fs m a = absurd (a k refl)
list_unsupported (Enum k) d p fs m a = ap (list_at_name p fs) m.1
list_unsupported (Input k) d p fs m a = ap (list_at_name p fs) m.1
list_unsupported Output d p fs m a = ap (list_at_name p fs) m
list_unsupported Unknown d p fs m a = ap (list_at_name p fs) m

pub object_unsupported : (b : Base) (d : Def) (p : ℕ) (ms : Mems) (fs : List Finding) (g : Field → List Finding) → Means b d → ((k : ℕ) → b ≡ Custom k → ⊥) → ((k : ℕ) → b ≡ Input k → ⊥) → check_object p ms fs g d ≡ found unsupported_value_type p
object_unsupported Int d p ms fs g m a c = ap (check_object p ms fs g) m
object_unsupported Float d p ms fs g m a c = ap (check_object p ms fs g) m
object_unsupported String d p ms fs g m a c = ap (check_object p ms fs g) m
object_unsupported Boolean d p ms fs g m a c = ap (check_object p ms fs g) m
object_unsupported Id d p ms fs g m a c = ap (check_object p ms fs g) m
object_unsupported (Custom k) d p ms fs g m a c = absurd (a k refl)
object_unsupported (Enum k) d p ms fs g m a c = ap (check_object p ms fs g) m.1
object_unsupported (Input k) d p ms fs g m a c = absurd (c k refl)
object_unsupported Output d p ms fs g m a c = ap (check_object p ms fs g) m
object_unsupported Unknown d p ms fs g m a c = ap (check_object p ms fs g) m

-- fields by their rows
pub names_held : (B : Name → Base) (T : Table) (rows : List FieldRow) (ds : List Declared) → Each (FieldHeld B T) rows ds → map (λ (f : FieldRow). f.name.now) rows ≡ field_names (fields_in ds)
names_held B T [] [] h = refl
names_held B T [] (d ∷ ds) h = absurd h
names_held B T (r ∷ rows) [] h = absurd h
names_held B T (r ∷ rows) (d ∷ ds) h = ap (λ n. n ∷ map (λ (f : FieldRow). f.name.now) rows) h.0.name ∙ ap (λ ns. d.label.name ∷ ns) (names_held B T rows ds h.1)

pub each_at : {A B : Type 0} (R : A → B → Type 0) (xs : List A) (ys : List B) (i : ℕ) (e : A) → Each R xs ys → i < length xs → (y : B) × (drop i ys ≡ y ∷ drop (i + 1) ys) × R (get_or xs i e) y
each_at R [] ys i e h l = absurd (omega (arith, l))
each_at R (x ∷ xs) [] i e h l = absurd h
each_at R (x ∷ xs) (y ∷ ys) zero e h l = (y, refl, h.0)
each_at R (x ∷ xs) (y ∷ ys) (suc i) e h l =
    let r = each_at R xs ys i e h.1 (omega (arith, l)) in
    let k : suc i + 1 ≡ suc (i + 1) = omega arith in
    (r.0, rw k r.1, r.2)

pub each_over : {A B : Type 0} (R : A → B → Type 0) (xs : List A) (ys : List B) (i : ℕ) → Each R xs ys → length xs ≤ i → drop i ys ≡ []
each_over R [] [] zero h l = refl
each_over R [] [] (suc i) h l = refl
each_over R [] (y ∷ ys) i h l = absurd h
each_over R (x ∷ xs) [] i h l = absurd h
each_over R (x ∷ xs) (y ∷ ys) zero h l = absurd (omega (arith, l))
each_over R (x ∷ xs) (y ∷ ys) (suc i) h l = each_over R xs ys i h.1 (omega (arith, l))
