-- What the name of a type stands for, by the rows and by the definitions.
use Rattle.std.proofs.Common.{◌≡◌, ℕ, zero, suc, ◌+◌, ◌-◌, Bool, true, false, ◌&&◌, cond, List, [], ◌∷◌, ◌++◌, map, length, take, drop, codes, vec_items, nat_le, refl, sym, ap, ◌∙◌, append_assoc, length-append, arith}
use Rattle.std.proofs.lemmas.Bool.{le-leb}
use Rattle.std.proofs.lemmas.List.{take-map, drop-map, length-map}
use Rattle.std.proofs.Math.Seq.{drop-append_seam, take-append_seam}
use Rattle.model.specs.Values.{Name, same, Def, int_d, float_d, string_d, boolean_d, id_d, enum_d, input_d, custom_d, output_d, declared, find}
use Rattle.source.specs.declared.raw.Span.{Span}
use Rattle.source.specs.Table.{tree_table}
use Rattle.schema.specs.declared.definition.Schema.{Schema}
use Rattle.schema.specs.declared.definition.TypeDef.{TypeDef}
use Rattle.schema.specs.declared.definition.TypeKind.TheVariants.{Enum as EnumKind, Input as InputKind}
use Rattle.schema.specs.declared.tokens.Name.{Name as NameToken}
use Rattle.schema.specs.declared.types.Base.{Base}
use Rattle.schema.specs.declared.types.Base.TheVariants.{Int, Float, String, Boolean, Id, Custom, Enum, Input, Output, Unknown}
use Rattle.schema.specs.Documents.{Label, Declared, Document, a_scalar, an_enum, an_input, an_output, a_directive, names_in, fields_in, types_in, schema_of}
use Rattle.schema.specs.SchemaReading.{values_in, inputs_in}
use Rattle.schema.specs.Rows.{TypeRow, span, type_row, type_rows, type_rows_from, base_among, base_in}
use Rattle.schema.specs.Holds.{Each, FieldHeld, Holds, label_of, type_row_of}
use Rattle.schema.specs.Spans.{rows_in, inside_at}

abbrev inside_row : List TypeRow → ℕ → Span
inside_row [] k = record { from = 0; to = 0 }
inside_row (r ∷ rs) zero = r.inside
inside_row (r ∷ rs) (suc k) = inside_row rs k

-- a definition by the rows of all types, values and fields
abbrev Says : List TypeRow → List Label → List Declared → Base → Def → Type 0
Says R V I Int d = d ≡ int_d
Says R V I Float d = d ≡ float_d
Says R V I String d = d ≡ string_d
Says R V I Boolean d = d ≡ boolean_d
Says R V I Id d = d ≡ id_d
Says R V I (Custom k) d = d ≡ custom_d
Says R V I (Enum k) d = d ≡ enum_d (names_in (rows_in V (inside_row R k)))
Says R V I (Input k) d = d ≡ input_d (fields_in (rows_in I (inside_row R k)))
Says R V I Output d = d ≡ output_d
Says R V I Unknown d = d ≡ output_d

row_after : (R0 : List TypeRow) (r : TypeRow) (rs : List TypeRow) (i : ℕ) → i ≡ length R0 → inside_row (R0 ++ (r ∷ rs)) i ≡ r.inside
row_after [] r rs i e = ap (inside_row (r ∷ rs)) e
row_after (x ∷ R0) r rs zero e = absurd (omega (arith, e))
row_after (x ∷ R0) r rs (suc i) e = row_after R0 r rs i (omega (arith, e))

rows_after : {A : Type 0} (xs ys zs : List A) (v : ℕ) → v ≡ length xs → rows_in (xs ++ (ys ++ zs)) (span v (length ys)) ≡ ys
rows_after {A} xs ys zs v e =
    let a : nat_le v (v + length ys) ≡ true = le-leb v (v + length ys) (omega arith) in
    let b : nat_le (v + length ys) (length (xs ++ (ys ++ zs))) ≡ true = le-leb (v + length ys) (length (xs ++ (ys ++ zs))) (omega (arith, e, length-append xs (ys ++ zs), length-append ys zs)) in
    let k : v + length ys - v ≡ length ys = omega arith in
    rw (a, b, k, e, drop-append_seam xs (ys ++ zs)) (take-append_seam ys zs)

says_cond : (R : List TypeRow) (V : List Label) (I : List Declared) (b c : Base) (d e : Def) (q : Bool) → Says R V I b d → Says R V I c e → Says R V I (cond q b c) (cond q d e)
says_cond R V I b c d e true g h = g
says_cond R V I b c d e false g h = h

regroup : (R0 r R : List TypeRow) (V0 vs V : List Label) (I0 is I : List Declared) (b : Base) (d : Def) → Says ((R0 ++ r) ++ R) ((V0 ++ vs) ++ V) ((I0 ++ is) ++ I) b d → Says (R0 ++ (r ++ R)) (V0 ++ (vs ++ V)) (I0 ++ (is ++ I)) b d
regroup R0 r R V0 vs V I0 is I b d h = rw (← append_assoc R0 r R, ← append_assoc V0 vs V, ← append_assoc I0 is I) h

says_from : (R0 : List TypeRow) (V0 : List Label) (I0 : List Declared) (ds : Document) (i v f : ℕ) → i ≡ length R0 → v ≡ length V0 → f ≡ length I0 → (n : Name)
    → Says (R0 ++ type_rows_from v f ds) (V0 ++ values_in ds) (I0 ++ inputs_in ds) (base_among (type_rows_from v f ds) i n) (declared (types_in ds) n)
says_from R0 V0 I0 [] i v f a b c n = refl
says_from R0 V0 I0 (a_scalar l ∷ ds) i v f a b c n =
    let r = type_row v f (a_scalar l) in
    says_cond (R0 ++ (r ++ type_rows_from (v + 0) (f + 0) ds)) (V0 ++ values_in ds) (I0 ++ inputs_in ds) (Custom i) _ (custom_d) _ (same l.name n) refl
    (regroup R0 r _ V0 [] (values_in ds) I0 [] (inputs_in ds) _ _ (says_from (R0 ++ r) (V0 ++ []) (I0 ++ []) ds (suc i) (v + 0) (f + 0) (omega (arith, a, length-append R0 r)) (omega (arith, b, length-append {A = Label} V0 [])) (omega (arith, c, length-append {A = Declared} I0 [])) n))
says_from R0 V0 I0 (an_enum l vs ∷ ds) i v f a b c n =
    let r = type_row v f (an_enum l vs) in
    let R = type_rows_from (v + length vs) (f + 0) ds in
    says_cond (R0 ++ (r ++ R)) (V0 ++ (vs ++ values_in ds)) (I0 ++ inputs_in ds) (Enum i) _ (enum_d (names_in vs)) _ (same l.name n)
    (ap (λ rows. enum_d (names_in rows)) (sym (ap (rows_in (V0 ++ (vs ++ values_in ds))) (row_after R0 (record { label = l; kind = EnumKind; inside = span v (length vs) }) R i a) ∙ rows_after V0 vs (values_in ds) v b)))
    (regroup R0 r R V0 vs (values_in ds) I0 [] (inputs_in ds) _ _ (says_from (R0 ++ r) (V0 ++ vs) (I0 ++ []) ds (suc i) (v + length vs) (f + 0) (omega (arith, a, length-append R0 r)) (omega (arith, b, length-append V0 vs)) (omega (arith, c, length-append {A = Declared} I0 [])) n))
says_from R0 V0 I0 (an_input l fs ∷ ds) i v f a b c n =
    let r = type_row v f (an_input l fs) in
    let R = type_rows_from (v + 0) (f + length fs) ds in
    says_cond (R0 ++ (r ++ R)) (V0 ++ values_in ds) (I0 ++ (fs ++ inputs_in ds)) (Input i) _ (input_d (fields_in fs)) _ (same l.name n)
    (ap (λ rows. input_d (fields_in rows)) (sym (ap (rows_in (I0 ++ (fs ++ inputs_in ds))) (row_after R0 (record { label = l; kind = InputKind; inside = span f (length fs) }) R i a) ∙ rows_after I0 fs (inputs_in ds) f c)))
    (regroup R0 r R V0 [] (values_in ds) I0 fs (inputs_in ds) _ _ (says_from (R0 ++ r) (V0 ++ []) (I0 ++ fs) ds (suc i) (v + 0) (f + length fs) (omega (arith, a, length-append R0 r)) (omega (arith, b, length-append {A = Label} V0 [])) (omega (arith, c, length-append I0 fs)) n))
says_from R0 V0 I0 (an_output l ∷ ds) i v f a b c n =
    let r = type_row v f (an_output l) in
    says_cond (R0 ++ (r ++ type_rows_from (v + 0) (f + 0) ds)) (V0 ++ values_in ds) (I0 ++ inputs_in ds) (Output) _ (output_d) _ (same l.name n) refl
    (regroup R0 r _ V0 [] (values_in ds) I0 [] (inputs_in ds) _ _ (says_from (R0 ++ r) (V0 ++ []) (I0 ++ []) ds (suc i) (v + 0) (f + 0) (omega (arith, a, length-append R0 r)) (omega (arith, b, length-append {A = Label} V0 [])) (omega (arith, c, length-append {A = Declared} I0 [])) n))
says_from R0 V0 I0 (a_directive l fs r ps ∷ ds) i v f a b c n =
    regroup R0 [] _ V0 [] (values_in ds) I0 [] (inputs_in ds) _ _ (says_from (R0 ++ []) (V0 ++ []) (I0 ++ []) ds i (v + 0) (f + 0) (omega (arith, a, length-append {A = TypeRow} R0 [])) (omega (arith, b, length-append {A = Label} V0 [])) (omega (arith, c, length-append {A = Declared} I0 [])) n)

-- any name: built in or declared
says_built_in : (R : List TypeRow) (V : List Label) (I : List Declared) (b : Base) (d : Def) (p q r s t : Bool) → Says R V I b d
    → Says R V I (cond p Int (cond q Float (cond r String (cond s Boolean (cond t Id b))))) (cond p int_d (cond q float_d (cond r string_d (cond s boolean_d (cond t id_d d)))))
says_built_in R V I b d true q r s t h = refl
says_built_in R V I b d false true r s t h = refl
says_built_in R V I b d false false true s t h = refl
says_built_in R V I b d false false false true t h = refl
says_built_in R V I b d false false false false true h = refl
says_built_in R V I b d false false false false false h = h

pub says : (D : Document) (n : Name) → Says (type_rows D) (values_in D) (inputs_in D) (base_in D n) (find (schema_of D) n)
says D n =
    says_built_in (type_rows D) (values_in D) (inputs_in D) _ _ (same (codes "Int") n) (same (codes "Float") n) (same (codes "String") n) (same (codes "Boolean") n) (same (codes "ID") n)
    (says_from [] [] [] D 0 0 0 refl refl refl n)

-- THE SAME BY THE TABLES

-- a definition by the tables of a schema
abbrev pub DefIs : Schema → Document → Base → Def → Type 0
DefIs s D Int d = d ≡ int_d
DefIs s D Float d = d ≡ float_d
DefIs s D String d = d ≡ string_d
DefIs s D Boolean d = d ≡ boolean_d
DefIs s D Id d = d ≡ id_d
DefIs s D (Custom k) d = d ≡ custom_d
DefIs s D (Enum k) d = d ≡ enum_d (map (λ v. v.name.now) (rows_in (vec_items s.values) (inside_at (vec_items s.types) k)))
DefIs s D (Input k) d = (ds : List Declared) × (d ≡ input_d (fields_in ds)) × Each (FieldHeld (base_in D) (tree_table s.tree)) (rows_in (vec_items s.fields) (inside_at (vec_items s.types) k)) ds
DefIs s D Output d = d ≡ output_d
DefIs s D Unknown d = d ≡ output_d

inside_mapped : (ts : List TypeDef) (k : ℕ) → inside_row (map type_row_of ts) k ≡ inside_at ts k
inside_mapped [] k = refl
inside_mapped (t ∷ ts) zero = refl
inside_mapped (t ∷ ts) (suc k) = inside_mapped ts k

names_mapped : (vs : List NameToken) → names_in (map label_of vs) ≡ map (λ v. v.name.now) vs
names_mapped [] = refl
names_mapped (v ∷ vs) = ap (λ ns. v.name.now ∷ ns) (names_mapped vs)

map_cond : {A B : Type 0} (f : A → B) (b : Bool) (ys : List B) (xs : List A) → ys ≡ map f xs → cond b ys [] ≡ map f (cond b xs [])
map_cond f true ys xs e = e
map_cond f false ys xs e = refl

rows_mapped : {A B : Type 0} (f : A → B) (xs : List A) (s : Span) → rows_in (map f xs) s ≡ map f (rows_in xs s)
rows_mapped f xs s =
    ap (λ n. cond (nat_le s.from s.to && nat_le s.to n) (take (s.to - s.from) (drop s.from (map f xs))) []) (length-map xs f)
    ∙ map_cond f (nat_le s.from s.to && nat_le s.to (length xs)) _ _ (ap (take (s.to - s.from)) (drop-map f s.from xs) ∙ take-map f (s.to - s.from) (drop s.from xs))

each_length : {A B : Type 0} (R : A → B → Type 0) (xs : List A) (ys : List B) → Each R xs ys → length xs ≡ length ys
each_length R [] [] h = refl
each_length R [] (y ∷ ys) h = absurd h
each_length R (x ∷ xs) [] h = absurd h
each_length R (x ∷ xs) (y ∷ ys) h = ap suc (each_length R xs ys h.1)

each_drop : {A B : Type 0} (R : A → B → Type 0) (n : ℕ) (xs : List A) (ys : List B) → Each R xs ys → Each R (drop n xs) (drop n ys)
each_drop R zero xs ys h = h
each_drop R (suc n) [] [] h = tt
each_drop R (suc n) [] (y ∷ ys) h = absurd h
each_drop R (suc n) (x ∷ xs) [] h = absurd h
each_drop R (suc n) (x ∷ xs) (y ∷ ys) h = each_drop R n xs ys h.1

each_take : {A B : Type 0} (R : A → B → Type 0) (n : ℕ) (xs : List A) (ys : List B) → Each R xs ys → Each R (take n xs) (take n ys)
each_take R zero xs ys h = tt
each_take R (suc n) [] [] h = tt
each_take R (suc n) [] (y ∷ ys) h = absurd h
each_take R (suc n) (x ∷ xs) [] h = absurd h
each_take R (suc n) (x ∷ xs) (y ∷ ys) h = (h.0, each_take R n xs ys h.1)

each_cond : {A B : Type 0} (R : A → B → Type 0) (b : Bool) (xs : List A) (ys : List B) → Each R xs ys → Each R (cond b xs []) (cond b ys [])
each_cond R true xs ys h = h
each_cond R false xs ys h = tt

each_rows : {A B : Type 0} (R : A → B → Type 0) (xs : List A) (ys : List B) (s : Span) → Each R xs ys → Each R (rows_in xs s) (rows_in ys s)
each_rows R xs ys s h = rw (each_length R xs ys h) (each_cond R (nat_le s.from s.to && nat_le s.to (length ys)) _ _ (each_take R (s.to - s.from) _ _ (each_drop R s.from xs ys h)))

module _ (s : Schema) (D : Document) (h : Holds s D) where
  inside_is : (k : ℕ) → inside_row (type_rows D) k ≡ inside_at (vec_items s.types) k
  inside_is k = ap (λ rs. inside_row rs k) (sym h.types) ∙ inside_mapped (vec_items s.types) k

  by_tables : (b : Base) (d : Def) → Says (type_rows D) (values_in D) (inputs_in D) b d → DefIs s D b d
  by_tables Int d e = e
  by_tables Float d e = e
  by_tables String d e = e
  by_tables Boolean d e = e
  by_tables Id d e = e
  by_tables (Custom k) d e = e
  by_tables (Enum k) d e =
      e ∙ ap enum_d (ap names_in (ap (rows_in (values_in D)) (inside_is k) ∙ (ap (λ vs. rows_in vs (inside_at (vec_items s.types) k)) (sym h.values) ∙ rows_mapped label_of (vec_items s.values) (inside_at (vec_items s.types) k)))
      ∙ names_mapped (rows_in (vec_items s.values) (inside_at (vec_items s.types) k)))
  by_tables (Input k) d e =
      (rows_in (inputs_in D) (inside_at (vec_items s.types) k), e ∙ ap (λ i. input_d (fields_in (rows_in (inputs_in D) i))) (inside_is k), each_rows (FieldHeld (base_in D) (tree_table s.tree)) (vec_items s.fields) (inputs_in D) (inside_at (vec_items s.types) k) h.fields)
  by_tables Output d e = e
  by_tables Unknown d e = e

  -- what a type's name stands for, by the tables that hold the document
  pub def_is : (n : Name) → DefIs s D (base_in D n) (find (schema_of D) n)
  def_is n = by_tables (base_in D n) (find (schema_of D) n) (says D n)
