-- A field has one number where names are distinct
use Rattle.std.proofs.Common.{◌≡◌, ℕ, zero, suc, ◌+◌, ◌⊎◌, true, false, List, [], ◌∷◌, ◌++◌, length, inl, inr, sym, refl, ap, ◌∙◌, subst, arith}
use Rattle.std.proofs.lemmas.Bool.{both_ways}
use mathlib.Core.Option.{some}
use Rattle.model.specs.Values.{Name, Field, Def, int_d, float_d, string_d, boolean_d, id_d, enum_d, input_d, custom_d, output_d, TypeDef, has, field_names}
use Rattle.model.specs.Back.{Distinct, OfDef, OfTypes}
use Rattle.model.specs.Cycles.{InputField, owned, of_def, of_types, nth}
use Rattle.model.specs.CycleLaws.{type_names, NumberedOnce}
use Rattle.model.proofs.CoNames.{has_head, has_later}
use Rattle.model.proofs.CyNumbers.{one_some, none_some}

-- a place in a joined list is one in the first or one in the second
nth-append : {A : Type 0} (xs ys : List A) (i : ℕ) (x : A) → nth (xs ++ ys) i ≡ some x → (nth xs i ≡ some x) ⊎ ((k : ℕ) × (i ≡ length xs + k) × (nth ys k ≡ some x))
nth-append [] ys i x e = inr (i, omega arith, e)
nth-append (y ∷ xs) ys zero x e = inl e
nth-append (y ∷ xs) ys (suc i) x e = elim (nth-append xs ys i x e) [ inl p ↦ inl p | inr p ↦ inr (p.0, omega (arith, p.1), p.2) ]

not_has : {m n : Name} (ns : List Name) → has ns n ≡ false → has ns m ≡ true → n ≡ m → ⊥
not_has ns h k e = both_ways (has ns _) h (subst (λ (o : Name). has ns o ≡ true) (sym e) k)

owned-has : (n : Name) (fs : List Field) (i : ℕ) (F : InputField) → nth (owned n fs) i ≡ some F → has (field_names fs) F.field.name ≡ true
owned-has n [] i F e = absurd (none_some e)
owned-has n (f ∷ fs) zero F e = subst (λ (G : InputField). has (field_names (f ∷ fs)) G.field.name ≡ true) (one_some refl e) (has_head f.name (field_names fs))
owned-has n (f ∷ fs) (suc i) F e = has_later f.name F.field.name (field_names fs) (owned-has n fs i F e)

owned_once : (n : Name) (fs : List Field) → Distinct (field_names fs) → (i j : ℕ) (F G : InputField) → nth (owned n fs) i ≡ some F → nth (owned n fs) j ≡ some G → F.field.name ≡ G.field.name → i ≡ j
owned_once n [] d i j F G p q e = absurd (none_some p)
owned_once n (f ∷ fs) d zero zero F G p q e = refl
owned_once n (f ∷ fs) d zero (suc j) F G p q e = absurd (not_has (field_names fs) d.0 (owned-has n fs j G q) (ap (λ (H : InputField). H.field.name) (one_some refl p) ∙ e))
owned_once n (f ∷ fs) d (suc i) zero F G p q e = absurd (not_has (field_names fs) d.0 (owned-has n fs i F p) (ap (λ (H : InputField). H.field.name) (one_some refl q) ∙ sym e))
owned_once n (f ∷ fs) d (suc i) (suc j) F G p q e = ap suc (owned_once n fs d.1 i j F G p q e)

owned-owner : (n : Name) (fs : List Field) (i : ℕ) (F : InputField) → nth (owned n fs) i ≡ some F → n ≡ F.owner
owned-owner n [] i F e = absurd (none_some e)
owned-owner n (f ∷ fs) zero F e = ap (λ (H : InputField). H.owner) (one_some refl e)
owned-owner n (f ∷ fs) (suc i) F e = owned-owner n fs i F e

-- of the fields of a definition: whose they are, and that each has one number
def-owner : (n : Name) (D : Def) (i : ℕ) (F : InputField) → nth (of_def n D) i ≡ some F → n ≡ F.owner
def-owner n int_d i F e = absurd (none_some e)
def-owner n float_d i F e = absurd (none_some e)
def-owner n string_d i F e = absurd (none_some e)
def-owner n boolean_d i F e = absurd (none_some e)
def-owner n id_d i F e = absurd (none_some e)
def-owner n (enum_d ns) i F e = absurd (none_some e)
def-owner n (input_d fs) i F e = owned-owner n fs i F e
def-owner n custom_d i F e = absurd (none_some e)
def-owner n output_d i F e = absurd (none_some e)

def_once : (n : Name) (D : Def) → OfDef (λ fs. Distinct (field_names fs)) D → (i j : ℕ) (F G : InputField) → nth (of_def n D) i ≡ some F → nth (of_def n D) j ≡ some G → F.field.name ≡ G.field.name → i ≡ j
def_once n int_d d i j F G p q e = absurd (none_some p)
def_once n float_d d i j F G p q e = absurd (none_some p)
def_once n string_d d i j F G p q e = absurd (none_some p)
def_once n boolean_d d i j F G p q e = absurd (none_some p)
def_once n id_d d i j F G p q e = absurd (none_some p)
def_once n (enum_d ns) d i j F G p q e = absurd (none_some p)
def_once n (input_d fs) d i j F G p q e = owned_once n fs d i j F G p q e
def_once n custom_d d i j F G p q e = absurd (none_some p)
def_once n output_d d i j F G p q e = absurd (none_some p)

types-has : (ds : List TypeDef) (i : ℕ) (F : InputField) → nth (of_types ds) i ≡ some F → has (type_names ds) F.owner ≡ true
types-has [] i F e = absurd (none_some e)
types-has (d ∷ ds) i F e = elim (nth-append (of_def d.name d.def) (of_types ds) i F e) [
  | inl p ↦ subst (λ (n : Name). has (type_names (d ∷ ds)) n ≡ true) (def-owner d.name d.def i F p) (has_head d.name (type_names ds))
  | inr p ↦ has_later d.name F.owner (type_names ds) (types-has ds p.0 F p.2)
]

-- a number among the fields of t, or one among the later fields
abbrev Part : TypeDef → List TypeDef → ℕ → InputField → Type 0
Part t ds a H = (nth (of_def t.name t.def) a ≡ some H) ⊎ ((k : ℕ) × (a ≡ length (of_def t.name t.def) + k) × (nth (of_types ds) k ≡ some H))

parts_once : (t : TypeDef) (ds : List TypeDef) → Distinct (type_names (t ∷ ds)) → OfDef (λ fs. Distinct (field_names fs)) t.def → (i j : ℕ) (F G : InputField) → F.owner ≡ G.owner → F.field.name ≡ G.field.name
    → ((k l : ℕ) → nth (of_types ds) k ≡ some F → nth (of_types ds) l ≡ some G → k ≡ l) → Part t ds i F → Part t ds j G → i ≡ j
parts_once t ds d o i j F G e u h (inl a) (inl b) = def_once t.name t.def o i j F G a b u
parts_once t ds d o i j F G e u h (inl a) (inr b) = absurd (not_has (type_names ds) d.0 (types-has ds b.0 G b.2) (def-owner t.name t.def i F a ∙ e))
parts_once t ds d o i j F G e u h (inr a) (inl b) = absurd (not_has (type_names ds) d.0 (types-has ds a.0 F a.2) (def-owner t.name t.def j G b ∙ sym e))
parts_once t ds d o i j F G e u h (inr a) (inr b) = let k = h a.0 b.0 a.2 b.2 in omega (arith, k, a.1, b.1)

types_once : (ds : List TypeDef) → Distinct (type_names ds) → OfTypes (λ fs. Distinct (field_names fs)) ds → (i j : ℕ) (F G : InputField) → nth (of_types ds) i ≡ some F → nth (of_types ds) j ≡ some G → F.owner ≡ G.owner → F.field.name ≡ G.field.name → i ≡ j
types_once [] d o i j F G p q e u = absurd (none_some p)
types_once (t ∷ ds) d o i j F G p q e u =
    parts_once t ds d o.0 i j F G e u (λ k l a b. types_once ds d.1 o.1 k l F G a b e u)
    (nth-append (of_def t.name t.def) (of_types ds) i F p) (nth-append (of_def t.name t.def) (of_types ds) j G q)

pub numbered_once : NumberedOnce
numbered_once S d o i j F G p q e u = types_once S.types d o i j F G p q e u
