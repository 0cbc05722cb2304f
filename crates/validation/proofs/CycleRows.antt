-- The rows of input fields, and their numbers
use Rattle.std.proofs.Common.{◌≡◌, ℕ, zero, suc, ◌⊎◌, ◌↔◌, List, [], ◌∷◌, ◌++◌, inl, inr, refl, subst, ⊎_elim}
use mathlib.Core.Option.{some}
use Rattle.model.specs.Values.{Name}
use Rattle.model.specs.Paths.{Steps}
use Rattle.model.specs.Cycles.{InputField, Among, first, later, owned, of_types, input_fields, nth, LeadsByNumber}
use Rattle.model.proofs.CyNumbers.{one_some, none_some, cycle_numbered}
use Rattle.schema.specs.Documents.{Label, Declared, Definition, a_scalar, an_enum, an_input, an_output, a_directive, Document, field_of, fields_in, types_in, schema_of}
use Rattle.schema.specs.SchemaReading.{inputs_in}
use Rattle.validation.specs.Making.{CycleAt, cycle_at}

-- number i is that of a declared field, and of the same among the schema's input fields
abbrev Stands : Document → ℕ → Declared → Label → Type 0
Stands D i d l = (nth (inputs_in D) i ≡ some d) × (nth (input_fields (schema_of D)) i ≡ some (record { owner = l.name; field = field_of d }))

abbrev StandsIn : List Declared → List Declared → List InputField → ℕ → Declared → Label → Type 0
StandsIn ds rest more i d l = (nth (ds ++ rest) i ≡ some d) × (nth (owned l.name (fields_in ds) ++ more) i ≡ some (record { owner = l.name; field = field_of d }))

-- FROM A FIELD TO ITS NUMBER

number_in : (l : Label) {d : Declared} {ds : List Declared} (rest : List Declared) (more : List InputField) → Among d ds → (i : ℕ) × StandsIn ds rest more i d l
number_in l rest more first = (0, (refl, refl))
number_in l rest more (later a) = let n = number_in l rest more a in (suc n.0, n.1)

abbrev After : Name → List Declared → List Declared → List InputField → Declared → InputField → Type 0
After n ds rest more d G = (i : ℕ) × (nth (ds ++ rest) i ≡ some d) × (nth (owned n (fields_in ds) ++ more) i ≡ some G)

number_after : (n : Name) (ds rest : List Declared) (more : List InputField) (k : ℕ) (d : Declared) (G : InputField) → nth rest k ≡ some d → nth more k ≡ some G → After n ds rest more d G
number_after n [] rest more k d G p q = (k, p, q)
number_after n (x ∷ ds) rest more k d G p q = let a = number_after n ds rest more k d G p q in (suc a.0, a.1, a.2)

abbrev Numbered : Document → Declared → Label → Type 0
Numbered D d l = (i : ℕ) × Stands D i d l

one_more : (x : Definition) (D : Document) (d : Declared) (l : Label) → Numbered D d l → Numbered (x ∷ D) d l
one_more (a_scalar m) D d l n = n
one_more (an_enum m vs) D d l n = n
one_more (an_input m ds) D d l n = let a = number_after m.name ds (inputs_in D) (of_types (types_in D)) n.0 d _ n.1.0 n.1.1 in (a.0, (a.1, a.2))
one_more (an_output m) D d l n = n
one_more (a_directive m ds r ps) D d l n = n

number_of : {l : Label} {ds : List Declared} {d : Declared} {D : Document} → Among (an_input l ds) D → Among d ds → Numbered D d l
number_of {l} {D = D} (first {xs = E}) a = number_in l (inputs_in E) (of_types (types_in E)) a
number_of {l} {d = d} (later {y = x} {xs = E} i) a = one_more x E d l (number_of i a)

-- FROM A NUMBER TO ITS FIELD

-- the field of a number, and whose it is
abbrev Declares : Document → ℕ → Declared → Type 0
Declares D i d = (l : Label) × (ds : List Declared) × Among (an_input l ds) D × Among d ds × (nth (input_fields (schema_of D)) i ≡ some (record { owner = l.name; field = field_of d }))

abbrev Within : Label → List Declared → List InputField → ℕ → Declared → Type 0
Within l ds more i d = Among d ds × (nth (owned l.name (fields_in ds) ++ more) i ≡ some (record { owner = l.name; field = field_of d }))

abbrev Beyond : Label → List Declared → List Declared → List InputField → ℕ → Declared → Type 0
Beyond l ds rest more i d = (k : ℕ) × (nth rest k ≡ some d) × ((G : InputField) → nth more k ≡ some G → nth (owned l.name (fields_in ds) ++ more) i ≡ some G)

within_later : (l : Label) (x : Declared) (ds : List Declared) (more : List InputField) (i : ℕ) (d : Declared) → Within l ds more i d → Within l (x ∷ ds) more (suc i) d
within_later l x ds more i d w = (later w.0, w.1)

split_row : (l : Label) (ds rest : List Declared) (more : List InputField) (i : ℕ) (d : Declared) → nth (ds ++ rest) i ≡ some d → Within l ds more i d ⊎ Beyond l ds rest more i d
split_row l [] rest more i d e = inr (i, e, λ G q. q)
split_row l (x ∷ ds) rest more zero d e = inl (subst (λ (y : Declared). Within l (x ∷ ds) more 0 y) (one_some refl e) (first, refl))
split_row l (x ∷ ds) rest more (suc i) d e = ⊎_elim (λ w. inl (within_later l x ds more i d w)) (λ b. inr b) (split_row l ds rest more i d e)

declares_later : (x : Definition) (D : Document) (i j : ℕ) (d : Declared) → ((G : InputField) → nth (input_fields (schema_of D)) i ≡ some G → nth (input_fields (schema_of (x ∷ D))) j ≡ some G) → Declares D i d → Declares (x ∷ D) j d
declares_later x D i j d h k = (k.0, k.1, later k.2, k.3, h _ k.4)

pub declares : (D : Document) (i : ℕ) (d : Declared) → nth (inputs_in D) i ≡ some d → Declares D i d
declares [] i d e = absurd (none_some e)
declares (a_scalar m ∷ D) i d e = declares_later (a_scalar m) D i i d (λ G q. q) (declares D i d e)
declares (an_enum m vs ∷ D) i d e = declares_later (an_enum m vs) D i i d (λ G q. q) (declares D i d e)
declares (an_input m ds ∷ D) i d e =
    ⊎_elim (λ w. (m, ds, first, w.0, w.1)) (λ b. declares_later (an_input m ds) D b.0 i d b.2 (declares D b.0 d b.1))
    (split_row m ds (inputs_in D) (of_types (types_in D)) i d e)
declares (an_output m ∷ D) i d e = declares_later (an_output m) D i i d (λ G q. q) (declares D i d e)
declares (a_directive m ds r ps ∷ D) i d e = declares_later (a_directive m ds r ps) D i i d (λ G q. q) (declares D i d e)

abbrev pub ByRow : Document → ℕ → Type 0
ByRow D p = (i : ℕ) × (d : Declared) × (nth (inputs_in D) i ≡ some d) × Steps (LeadsByNumber (schema_of D)) i i × (d.label.place ≡ p)

to_row : {D : Document} {p : ℕ} → CycleAt D p → ByRow D p
to_row {D} (cycle_at {d = d} i a c e) =
    let n = number_of i a in
    (n.0, d, n.1.0, (cycle_numbered (schema_of D) n.0 _ n.1.1).0 c, e)

pub cycle_by_row : (D : Document) (p : ℕ) → CycleAt D p ↔ ByRow D p
cycle_by_row D p = (
  to_row,
  λ r. let k = declares D r.0 r.1 r.2 in cycle_at k.2 k.3 ((cycle_numbered (schema_of D) r.0 _ k.4).1 r.3) r.4,
)
