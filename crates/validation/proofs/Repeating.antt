-- Names that stand twice in the tables, told from the document.
use Rattle.std.proofs.Common.{◌≡◌, ℕ, suc, ◌+◌, ◌-◌, ◌≤◌, ◌⊎◌, inl, inr, ⊎_elim, Bool, true, false, cond, ◌&&◌, nat_le, List, [], ◌∷◌, ◌++◌, map, length, take, drop, Option, vec_items, length-append, append_assoc, sym, ◌∙◌, ap, subst, refl, arith}
use Rattle.std.proofs.lemmas.Bool.Decides.{nat_tests}
use Rattle.std.proofs.lemmas.List.{length-map, take-map, drop-map}
use Rattle.std.proofs.Math.Seq.{take-append_seam, drop-append_seam}
use Rattle.model.specs.Values.{Name, has}
use Rattle.model.specs.Cycles.{Among, first, later}
use Rattle.source.specs.declared.raw.Span.{Span}
use Rattle.source.specs.Table.{Table, tree_table}
use Rattle.schema.specs.declared.types.Base.{Base}
use Rattle.schema.specs.declared.definition.TypeDef.{TypeDef}
use Rattle.schema.specs.declared.definition.Field.{Field}
use Rattle.schema.specs.declared.definition.Directive.{Directive}
use Rattle.schema.specs.declared.definition.Schema.{Schema}
use Rattle.schema.specs.declared.definition.TypeKind.{TypeKind}
use Rattle.schema.specs.declared.definition.TypeKind.TheVariants.{Scalar, Enum, Input, Output}
use Rattle.schema.specs.Documents.{Label, Declared, Definition, a_scalar, an_enum, an_input, an_output, a_directive, Document}
use Rattle.schema.specs.SchemaReading.{values_in, inputs_in, arguments_in}
use Rattle.schema.specs.Rows.{span, TypeRow, DirectiveRow, type_rows_from, directive_rows_from, type_rows, directive_rows, base_in}
use Rattle.schema.specs.Spans.{rows_in}
use Rattle.schema.specs.Holds.{Each, Holds, FieldHeld, DirectiveHeld, type_row_of}
use Rattle.validation.specs.Making.{FirstFault, Twice, labels_of, type_labels, directive_labels, inner_labels, built_in_names, NameTwiceAt, a_built_in, a_type_twice, a_directive_twice, inside_twice}
use Rattle.validation.specs.Places.{labelled}
use Rattle.validation.specs.Repeats.{OneOf, one_of, BuiltIn, TwiceInside, TwiceArgued, type_name, value_name, field_name, directive_name, names_inside}
use Rattle.validation.proofs.Least.{first_as, among_right, among_split, among_none, among_one}
use Rattle.validation.proofs.BaseStands.{each_to, each_from}

-- LISTS

within_both : (a b c : ℕ) → a ≤ b → b ≤ c → nat_le a b && nat_le b c ≡ true
within_both a b c h k = grind (arith, nat_tests)

-- the rows that stand between others
rows_between : {A : Type 0} (pre xs post : List A) (n : ℕ) → n ≡ length pre → rows_in (pre ++ (xs ++ post)) (span n (length xs)) ≡ xs
rows_between pre xs post n e =
    let all = pre ++ (xs ++ post) in
    let cut : drop n all ≡ xs ++ post = ap (λ k. drop k all) e ∙ drop-append_seam pre (xs ++ post) in
    let size : n + length xs - n ≡ length xs = omega arith in
    ap (λ b. cond b (take (n + length xs - n) (drop n all)) []) (within_both n (n + length xs) (length all) (omega arith) (omega (arith, e, length-append pre (xs ++ post), length-append xs post)))
    ∙ ap (λ k. take k (drop n all)) size
    ∙ ap (take (length xs)) cut
    ∙ take-append_seam xs post

map_cond : {A B : Type 0} (f : A → B) (b : Bool) (xs : List A) → map f (cond b xs []) ≡ cond b (map f xs) []
map_cond f true xs = refl
map_cond f false xs = refl

rows_map : {A B : Type 0} (f : A → B) (xs : List A) (s : Span) → map f (rows_in xs s) ≡ rows_in (map f xs) s
rows_map f xs s =
    let k = s.to - s.from in
    map_cond f (nat_le s.from s.to && nat_le s.to (length xs)) (take k (drop s.from xs))
    ∙ ap (λ ys. cond (nat_le s.from s.to && nat_le s.to (length xs)) ys []) (sym (take-map f k (drop s.from xs)) ∙ ap (take k) (sym (drop-map f s.from xs)))
    ∙ ap (λ n. cond (nat_le s.from s.to && nat_le s.to n) (take k (drop s.from (map f xs))) []) (sym (length-map xs f))

among_map : {A B : Type 0} (f : A → B) {x : A} (xs : List A) → Among x xs → Among (f x) (map f xs)
among_map f [] a = absurd (among_none a)
among_map f (x ∷ xs) first = first
among_map f (x ∷ xs) (later a) = later (among_map f xs a)

map_among : {A B : Type 0} (f : A → B) {y : B} (xs : List A) → Among y (map f xs) → (x : A) × Among x xs × (f x ≡ y)
map_among f [] a = absurd (among_none a)
map_among f (x ∷ xs) first = (x, first, refl)
map_among f (x ∷ xs) (later a) = let r = map_among f xs a in (r.0, later r.1, r.2)

-- THE NAMES OF TYPES AND DIRECTIVES

abbrev row_label : TypeRow → Label
row_label r = r.label

types_named : (ts : List TypeDef) → map type_name ts ≡ map row_label (map type_row_of ts)
types_named [] = refl
types_named (t ∷ ts) = ap (λ ls. type_name t ∷ ls) (types_named ts)

rows_labelled : (D : Document) (v f : ℕ) → map row_label (type_rows_from v f D) ≡ type_labels D
rows_labelled [] v f = refl
rows_labelled (a_scalar l ∷ ds) v f = ap (λ ls. l ∷ ls) (rows_labelled ds _ _)
rows_labelled (an_enum l vs ∷ ds) v f = ap (λ ls. l ∷ ls) (rows_labelled ds _ _)
rows_labelled (an_input l fs ∷ ds) v f = ap (λ ls. l ∷ ls) (rows_labelled ds _ _)
rows_labelled (an_output l ∷ ds) v f = ap (λ ls. l ∷ ls) (rows_labelled ds _ _)
rows_labelled (a_directive l fs r ps ∷ ds) v f = rows_labelled ds _ _

directives_named : (ds : List Directive) (rs : List DirectiveRow) → Each DirectiveHeld ds rs → map directive_name ds ≡ map (λ (r : DirectiveRow). r.label) rs
directives_named [] [] h = refl
directives_named [] (r ∷ rs) h = absurd h
directives_named (d ∷ ds) [] h = absurd h
directives_named (d ∷ ds) (r ∷ rs) h =
    let here : directive_name d ≡ r.label = ap (λ n. labelled n d.place) h.0.name ∙ ap (labelled r.label.name) h.0.place in
    ap (λ l. l ∷ map directive_name ds) here ∙ ap (λ ls. r.label ∷ ls) (directives_named ds rs h.1)

directive_rows_labelled : (D : Document) (a : ℕ) → map (λ (r : DirectiveRow). r.label) (directive_rows_from a D) ≡ directive_labels D
directive_rows_labelled [] a = refl
directive_rows_labelled (a_scalar l ∷ ds) a = directive_rows_labelled ds _
directive_rows_labelled (an_enum l vs ∷ ds) a = directive_rows_labelled ds _
directive_rows_labelled (an_input l fs ∷ ds) a = directive_rows_labelled ds _
directive_rows_labelled (an_output l ∷ ds) a = directive_rows_labelled ds _
directive_rows_labelled (a_directive l fs r ps ∷ ds) a = ap (λ ls. l ∷ ls) (directive_rows_labelled ds _)

fields_named : (B : Name → Base) (T : Table) (fs : List Field) (ds : List Declared) → Each (FieldHeld B T) fs ds → map field_name fs ≡ labels_of ds
fields_named B T [] [] h = refl
fields_named B T [] (d ∷ ds) h = absurd h
fields_named B T (f ∷ fs) [] h = absurd h
fields_named B T (f ∷ fs) (d ∷ ds) h =
    let here : field_name f ≡ d.label = ap (λ n. labelled n f.place) h.0.name ∙ ap (labelled d.label.name) h.0.place in
    ap (λ l. l ∷ map field_name fs) here ∙ ap (λ ls. d.label ∷ ls) (fields_named B T fs ds h.1)

-- WHAT IS INSIDE A DEFINITION

labels_append : (ds es : List Declared) → labels_of (ds ++ es) ≡ labels_of ds ++ labels_of es
labels_append [] es = refl
labels_append (d ∷ ds) es = ap (λ ls. d.label ∷ ls) (labels_append ds es)

length_labels : (ds : List Declared) → length (labels_of ds) ≡ length ds
length_labels [] = refl
length_labels (d ∷ ds) = ap suc (length_labels ds)

abbrev row_names : (V F : List Label) → TypeKind → Span → List Label
row_names V F Scalar s = []
row_names V F Enum s = rows_in V s
row_names V F Input s = rows_in F s
row_names V F Output s = []

abbrev type_def : Definition → List Definition
type_def (a_scalar l) = a_scalar l ∷ []
type_def (an_enum l vs) = an_enum l vs ∷ []
type_def (an_input l fs) = an_input l fs ∷ []
type_def (an_output l) = an_output l ∷ []
type_def (a_directive l fs r ps) = []

abbrev type_defs : Document → List Definition
type_defs [] = []
type_defs (d ∷ ds) = type_def d ++ type_defs ds

abbrev directive_def : Definition → List Definition
directive_def (a_scalar l) = []
directive_def (an_enum l vs) = []
directive_def (an_input l fs) = []
directive_def (an_output l) = []
directive_def (a_directive l fs r ps) = a_directive l fs r ps ∷ []

abbrev directive_defs : Document → List Definition
directive_defs [] = []
directive_defs (d ∷ ds) = directive_def d ++ directive_defs ds

defs_split : {d : Definition} (D : Document) → Among d D → Among d (type_defs D) ⊎ Among d (directive_defs D)
defs_split [] a = absurd (among_none a)
defs_split (d ∷ ds) (later a) = ⊎_elim (λ b. inl (among_right (type_def d) (type_defs ds) b)) (λ b. inr (among_right (directive_def d) (directive_defs ds) b)) (defs_split ds a)
defs_split (a_scalar l ∷ ds) first = inl first
defs_split (an_enum l vs ∷ ds) first = inl first
defs_split (an_input l fs ∷ ds) first = inl first
defs_split (an_output l ∷ ds) first = inl first
defs_split (a_directive l fs r ps ∷ ds) first = inr first

type_one : {d : Definition} (e : Definition) → Among d (type_def e) → d ≡ e
type_one (a_scalar l) a = among_one a
type_one (an_enum l vs) a = among_one a
type_one (an_input l fs) a = among_one a
type_one (an_output l) a = among_one a
type_one (a_directive l fs r ps) a = absurd (among_none a)

directive_one : {d : Definition} (e : Definition) → Among d (directive_def e) → d ≡ e
directive_one (a_scalar l) a = absurd (among_none a)
directive_one (an_enum l vs) a = absurd (among_none a)
directive_one (an_input l fs) a = absurd (among_none a)
directive_one (an_output l) a = absurd (among_none a)
directive_one (a_directive l fs r ps) a = among_one a

among_head : {A : Type 0} {x y : A} (xs : List A) → x ≡ y → Among x (y ∷ xs)
among_head {x = x} xs e = subst (λ z. Among x (z ∷ xs)) e first

type_defs_among : {d : Definition} (D : Document) → Among d (type_defs D) → Among d D
type_defs_among [] a = absurd (among_none a)
type_defs_among (e ∷ ds) a = ⊎_elim (λ b. among_head ds (type_one e b)) (λ b. later (type_defs_among ds b)) (among_split (type_def e) (type_defs ds) a)

directive_defs_among : {d : Definition} (D : Document) → Among d (directive_defs D) → Among d D
directive_defs_among [] a = absurd (among_none a)
directive_defs_among (e ∷ ds) a = ⊎_elim (λ b. among_head ds (directive_one e b)) (λ b. later (directive_defs_among ds b)) (among_split (directive_def e) (directive_defs ds) a)

module _ (V F : List Label) where
  abbrev Inner : TypeRow → Definition → Type 0
  Inner r d = row_names V F r.kind r.inside ≡ inner_labels d

  each_type : (D : Document) (pv pf : List Label) (v f : ℕ) → v ≡ length pv → f ≡ length pf → V ≡ pv ++ values_in D → F ≡ pf ++ labels_of (inputs_in D) → Each Inner (type_rows_from v f D) (type_defs D)
  each_type [] pv pf v f ev ef eV eF = tt
  each_type (a_scalar l ∷ ds) pv pf v f ev ef eV eF = (refl, each_type ds pv pf (v + 0) (f + 0) (omega (arith, ev)) (omega (arith, ef)) eV eF)
  each_type (an_enum l vs ∷ ds) pv pf v f ev ef eV eF = (
    ap (λ W. rows_in W (span v (length vs))) eV ∙ rows_between pv vs (values_in ds) v ev,
    each_type ds (pv ++ vs) pf (v + length vs) (f + 0) (omega (arith, ev, length-append pv vs)) (omega (arith, ef)) (eV ∙ sym (append_assoc pv vs (values_in ds))) eF,
  )
  each_type (an_input l fs ∷ ds) pv pf v f ev ef eV eF =
      let rest = labels_of (inputs_in ds) in
      let eF' : F ≡ pf ++ (labels_of fs ++ rest) = eF ∙ ap (λ ls. pf ++ ls) (labels_append fs (inputs_in ds)) in (
        ap (λ W. rows_in W (span f (length fs))) eF' ∙ ap (λ n. rows_in (pf ++ (labels_of fs ++ rest)) (span f n)) (sym (length_labels fs)) ∙ rows_between pf (labels_of fs) rest f ef,
        each_type ds pv (pf ++ labels_of fs) (v + 0) (f + length fs) (omega (arith, ev)) (omega (arith, ef, length-append pf (labels_of fs), length_labels fs)) eV (eF' ∙ sym (append_assoc pf (labels_of fs) rest)),
      )
  each_type (an_output l ∷ ds) pv pf v f ev ef eV eF = (refl, each_type ds pv pf (v + 0) (f + 0) (omega (arith, ev)) (omega (arith, ef)) eV eF)
  each_type (a_directive l fs r ps ∷ ds) pv pf v f ev ef eV eF = each_type ds pv pf (v + 0) (f + 0) (omega (arith, ev)) (omega (arith, ef)) eV eF

module _ (A : List Label) where
  abbrev Argued : DirectiveRow → Definition → Type 0
  Argued r d = rows_in A r.arguments ≡ inner_labels d

  spans : (pa : List Label) (fs : List Declared) (rest : List Label) (a : ℕ) → a ≡ length pa → A ≡ pa ++ (labels_of fs ++ rest) → rows_in A (span a (length fs)) ≡ labels_of fs
  spans pa fs rest a ea e =
      ap (λ W. rows_in W (span a (length fs))) e ∙ ap (λ n. rows_in (pa ++ (labels_of fs ++ rest)) (span a n)) (sym (length_labels fs)) ∙ rows_between pa (labels_of fs) rest a ea

  each_directive : (D : Document) (pa : List Label) (a : ℕ) → a ≡ length pa → A ≡ pa ++ labels_of (arguments_in D) → Each Argued (directive_rows_from a D) (directive_defs D)
  each_directive [] pa a ea e = tt
  each_directive (a_scalar l ∷ ds) pa a ea e = each_directive ds pa (a + 0) (omega (arith, ea)) e
  each_directive (an_enum l vs ∷ ds) pa a ea e = each_directive ds pa (a + 0) (omega (arith, ea)) e
  each_directive (an_input l fs ∷ ds) pa a ea e = each_directive ds pa (a + 0) (omega (arith, ea)) e
  each_directive (an_output l ∷ ds) pa a ea e = each_directive ds pa (a + 0) (omega (arith, ea)) e
  each_directive (a_directive l fs r ps ∷ ds) pa a ea e =
      let rest = labels_of (arguments_in ds) in
      let e' : A ≡ pa ++ (labels_of fs ++ rest) = e ∙ ap (λ ls. pa ++ ls) (labels_append fs (arguments_in ds)) in
      (spans pa fs rest a ea e', each_directive ds (pa ++ labels_of fs) (a + length fs) (omega (arith, ea, length-append pa (labels_of fs), length_labels fs)) (e' ∙ sym (append_assoc pa (labels_of fs) rest)))

-- THE FAULTS

module _ (s : Schema) (D : Document) (h : Holds s D) where
  abbrev V : List Label
  V = values_in D

  abbrev F : List Label
  F = labels_of (inputs_in D)

  abbrev A : List Label
  A = labels_of (arguments_in D)

  types_are : map type_name (vec_items s.types) ≡ type_labels D
  types_are = types_named (vec_items s.types) ∙ ap (map row_label) h.types ∙ rows_labelled D 0 0

  directives_are : map directive_name (vec_items s.directives) ≡ directive_labels D
  directives_are = directives_named (vec_items s.directives) (directive_rows D) h.directives ∙ directive_rows_labelled D 0

  fields_are : map field_name (vec_items s.fields) ≡ F
  fields_are = fields_named (base_in D) (tree_table s.tree) (vec_items s.fields) (inputs_in D) h.fields

  arguments_are : map field_name (vec_items s.arguments) ≡ A
  arguments_are = fields_named (base_in D) (tree_table s.tree) (vec_items s.arguments) (arguments_in D) h.arguments

  inside_are : (t : TypeDef) (k : TypeKind) → names_inside s t k ≡ row_names V F k t.inside
  inside_are t Scalar = refl
  inside_are t Enum = rows_map value_name (vec_items s.values) t.inside ∙ ap (λ W. rows_in W t.inside) h.values
  inside_are t Input = rows_map field_name (vec_items s.fields) t.inside ∙ ap (λ W. rows_in W t.inside) fields_are
  inside_are t Output = refl

  argued_are : (d : Directive) → map field_name (rows_in (vec_items s.arguments) d.arguments) ≡ rows_in A d.arguments
  argued_are d = rows_map field_name (vec_items s.arguments) d.arguments ∙ ap (λ W. rows_in W d.arguments) arguments_are

  each_types : Each (Inner V F) (type_rows D) (type_defs D)
  each_types = each_type V F D [] [] 0 0 refl refl refl refl

  each_directives : Each (Argued A) (directive_rows D) (directive_defs D)
  each_directives = each_directive A D [] 0 refl refl

  abbrev Told : ℕ → Type 0
  Told p =
      ((OneOf BuiltIn (vec_items s.types) p ⊎ Twice (map type_name (vec_items s.types)) p) ⊎ Twice (map directive_name (vec_items s.directives)) p)
      ⊎ (OneOf (TwiceInside s) (vec_items s.types) p ⊎ OneOf (TwiceArgued s) (vec_items s.directives) p)

  built_to : (p : ℕ) → OneOf BuiltIn (vec_items s.types) p → NameTwiceAt D p
  built_to p (one_of {x = t} a b) = subst (NameTwiceAt D) b.1 (a_built_in (subst (Among (type_name t)) types_are (among_map type_name (vec_items s.types) a)) b.0)

  inside_to : (p : ℕ) → OneOf (TwiceInside s) (vec_items s.types) p → NameTwiceAt D p
  inside_to p (one_of {x = t} a w) =
      let r = each_to (Inner V F) (type_rows D) (type_defs D) each_types (subst (Among (type_row_of t)) h.types (among_map type_row_of (vec_items s.types) a)) in
      inside_twice (type_defs_among D r.1) (subst (λ ls. Twice ls p) (inside_are t t.kind ∙ r.2) w)

  argued_to : (p : ℕ) → OneOf (TwiceArgued s) (vec_items s.directives) p → NameTwiceAt D p
  argued_to p (one_of {x = d} a w) =
      let q = each_to DirectiveHeld (vec_items s.directives) (directive_rows D) h.directives a in
      let r = each_to (Argued A) (directive_rows D) (directive_defs D) each_directives q.1 in
      inside_twice (directive_defs_among D r.1) (subst (λ ls. Twice ls p) (argued_are d ∙ ap (rows_in A) q.2.arguments ∙ r.2) w)

  told_to : (p : ℕ) → Told p → NameTwiceAt D p
  told_to p x =
      ⊎_elim
      (λ y. ⊎_elim
      (λ z. ⊎_elim (built_to p) (λ t. a_type_twice (subst (λ ls. Twice ls p) types_are t)) z)
      (λ t. a_directive_twice (subst (λ ls. Twice ls p) directives_are t))
      y)
      (λ y. ⊎_elim (inside_to p) (argued_to p) y)
      x

  built_from : (l : Label) → Among l (type_labels D) → has built_in_names l.name ≡ true → OneOf BuiltIn (vec_items s.types) l.place
  built_from l a b =
      let r = map_among type_name (vec_items s.types) (subst (Among l) (sym types_are) a) in
      one_of r.1 (subst (λ (k : Label). has built_in_names k.name ≡ true) (sym r.2) b, ap (λ (k : Label). k.place) r.2)

  inside_from : (d : Definition) (p : ℕ) → Twice (inner_labels d) p → Among d (type_defs D) ⊎ Among d (directive_defs D) → OneOf (TwiceInside s) (vec_items s.types) p ⊎ OneOf (TwiceArgued s) (vec_items s.directives) p
  inside_from d p w x =
      ⊎_elim
      (λ a.
      let r = each_from (Inner V F) (type_rows D) (type_defs D) each_types a in
      let t = map_among type_row_of (vec_items s.types) (subst (Among r.0) (sym h.types) r.1) in
      let same : row_names V F t.0.kind t.0.inside ≡ inner_labels d = ap (λ (q : TypeRow). row_names V F q.kind q.inside) t.2 ∙ r.2 in
      inl (one_of t.1 (subst (λ ls. Twice ls p) (sym (inside_are t.0 t.0.kind ∙ same)) w)))
      (λ a.
      let r = each_from (Argued A) (directive_rows D) (directive_defs D) each_directives a in
      let q = each_from DirectiveHeld (vec_items s.directives) (directive_rows D) h.directives r.1 in
      inr (one_of q.1 (subst (λ ls. Twice ls p) (sym (argued_are q.0 ∙ ap (rows_in A) q.2.arguments ∙ r.2)) w)))
      x

  told_from : (p : ℕ) → NameTwiceAt D p → Told p
  told_from p (a_built_in {l = l} a b) = inl (inl (inl (built_from l a b)))
  told_from p (a_type_twice t) = inl (inl (inr (subst (λ ls. Twice ls p) (sym types_are) t)))
  told_from p (a_directive_twice t) = inl (inr (subst (λ ls. Twice ls p) (sym directives_are) t))
  told_from p (inside_twice {d = d} a w) = inr (inside_from d p w (defs_split D a))

  pub first_told : (r : Option ℕ) → FirstFault Told r → FirstFault (NameTwiceAt D) r
  first_told r = first_as Told (NameTwiceAt D) r told_to told_from
