-- Where no name is declared twice, the types and the fields of each are told apart by their names.
use Rattle.std.proofs.Common.{◌≡◌, ℕ, ⊎_elim, Bool, true, false, cond, List, [], ◌∷◌, sym, ap, subst, refl, true≢false}
use Rattle.std.proofs.lemmas.Bool.{cases_Bool}
use Rattle.model.specs.Values.{Name, has, same, field_names}
use Rattle.model.specs.Back.{Distinct, OfTypes}
use Rattle.model.specs.Cycles.{Among, first, later}
use Rattle.model.specs.CycleLaws.{type_names}
use Rattle.model.proofs.CoNames.{same_true}
use Rattle.schema.specs.Documents.{Label, Declared, Definition, a_scalar, an_enum, an_input, an_output, a_directive, Document, fields_in, names_in, types_in}
use Rattle.validation.specs.Making.{Twice, twice_here, twice_later, labels_of, type_labels, inner_labels, NameTwiceAt, a_type_twice, inside_twice, NamesApart}

-- a name that is had is had by one of them
had_by : (ls : List Label) (n : Name) → has (names_in ls) n ≡ true → (m : Label) × Among m ls × (m.name ≡ n)
had_by [] n h = absurd (true≢false (sym h))
had_by (l ∷ ls) n h = by (same l.name n) refl h (had_by ls n) where
  by : (b : Bool) → same l.name n ≡ b → cond b true (has (names_in ls) n) ≡ true → (has (names_in ls) n ≡ true → (m : Label) × Among m ls × (m.name ≡ n)) → (m : Label) × Among m (l ∷ ls) × (m.name ≡ n)
  by true e k f = (l, first, same_true l.name n e)
  by false e k f = let r = f k in (r.0, later r.1, r.2)

pub untwice_distinct : (ls : List Label) → ((p : ℕ) → Twice ls p → ⊥) → Distinct (names_in ls)
untwice_distinct [] h = tt
untwice_distinct (l ∷ ls) h = (
  ⊎_elim (λ e. let r = had_by ls l.name e in absurd (h r.0.place (twice_here r.1 (sym r.2)))) (λ e. e) (cases_Bool (has (names_in ls) l.name)),
  untwice_distinct ls (λ p t. h p (twice_later t)),
)

fields_named : (ds : List Declared) → names_in (labels_of ds) ≡ field_names (fields_in ds)
fields_named [] = refl
fields_named (d ∷ ds) = ap (λ ns. d.label.name ∷ ns) (fields_named ds)

types_named : (D : Document) → names_in (type_labels D) ≡ type_names (types_in D)
types_named [] = refl
types_named (a_scalar l ∷ ds) = ap (λ ns. l.name ∷ ns) (types_named ds)
types_named (an_enum l vs ∷ ds) = ap (λ ns. l.name ∷ ns) (types_named ds)
types_named (an_input l fs ∷ ds) = ap (λ ns. l.name ∷ ns) (types_named ds)
types_named (an_output l ∷ ds) = ap (λ ns. l.name ∷ ns) (types_named ds)
types_named (a_directive l fs r ps ∷ ds) = types_named ds

proper : (D : Document) → ((d : Definition) → Among d D → (p : ℕ) → Twice (inner_labels d) p → ⊥) → OfTypes (λ fs. Distinct (field_names fs)) (types_in D)
proper [] h = tt
proper (a_scalar l ∷ ds) h = (tt, proper ds (λ d a. h d (later a)))
proper (an_enum l vs ∷ ds) h = (tt, proper ds (λ d a. h d (later a)))
proper (an_input l fs ∷ ds) h = (subst Distinct (fields_named fs) (untwice_distinct (labels_of fs) (h (an_input l fs) first)), proper ds (λ d a. h d (later a)))
proper (an_output l ∷ ds) h = (tt, proper ds (λ d a. h d (later a)))
proper (a_directive l fs r ps ∷ ds) h = proper ds (λ d a. h d (later a))

pub names_apart : (D : Document) → ((p : ℕ) → NameTwiceAt D p → ⊥) → NamesApart D
names_apart D h = (
  subst Distinct (types_named D) (untwice_distinct (type_labels D) (λ p t. h p (a_type_twice t))),
  proper D (λ d a p t. h p (inside_twice a t)),
)
