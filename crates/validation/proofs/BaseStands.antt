-- The types that fields have, and what their names stand for.
use Rattle.std.proofs.Common.{◌≡◌, ℕ, zero, suc, ◌+◌, ◌<◌, ◌⊎◌, inl, inr, ⊎_elim, Bool, true, false, true≢false, cond, List, [], ◌∷◌, length, get_or, take, Some, Option, codes, vec_items, sym, ◌∙◌, ap, subst, refl}
use Rattle.model.specs.Values.{Name, same, has, Def, int_d, float_d, string_d, boolean_d, id_d, custom_d, output_d, TypeDef, declared, find}
use Rattle.model.specs.Checking.{inner}
use Rattle.model.specs.Cycles.{Among, first, later}
use Rattle.model.proofs.CoNames.{same_true, same_refl}
use Rattle.schema.specs.declared.types.Base.{Base}
use Rattle.schema.specs.declared.types.Base.TheVariants.{Int, Float, String, Boolean, Id, Custom, Enum, Input, Output, Unknown}
use Rattle.schema.specs.declared.definition.Field.{Field}
use Rattle.schema.specs.declared.definition.Schema.{Schema}
use Rattle.schema.specs.Documents.{Typed, Declared, Document, a_scalar, an_enum, an_input, an_output, a_directive, types_in, schema_of}
use Rattle.schema.specs.Rows.{type_rows_from, base_among, base_in}
use Rattle.schema.specs.SchemaReading.{inputs_in, arguments_in}
use Rattle.schema.specs.Types.{ty_from}
use Rattle.schema.specs.Holds.{Each, FieldHeld, Holds}
use Rattle.source.specs.Table.{tree_table}
use Rattle.validation.specs.Making.{Known, known_built_in, known_declared, built_in_names, UnknownAt, unknown_at, NotInputAt, not_input_at, FirstFault}
use Rattle.validation.specs.Places.{StandsFor, stands_for, lesser_of}
use Rattle.validation.proofs.Least.{first_as, first_lesser, first_one, among_more, among_before, among_last}

-- what a name stands for, where K says that it is known, and what it is declared as
pub data Case (K : Type 0) : Base → Def → Type 0 where
  c_unknown : {d : Def} → (K → ⊥) → Case K Unknown d
  c_output : K → Case K Output output_d
  c_input : {b : Base} {d : Def} → K → (b ≡ Unknown → ⊥) → (b ≡ Output → ⊥) → (d ≡ output_d → ⊥) → Case K b d

pub is_unknown : {K : Type 0} {b : Base} {d : Def} → Case K b d → b ≡ Unknown → K → ⊥
is_unknown (c_unknown n) e k = n k
is_unknown (c_output h) e k = cc
is_unknown (c_input h u o q) e k = u e

pub unknown_is : {K : Type 0} {b : Base} {d : Def} → Case K b d → (K → ⊥) → b ≡ Unknown
unknown_is (c_unknown n) h = refl
unknown_is (c_output k) h = absurd (h k)
unknown_is (c_input k u o q) h = absurd (h k)

pub is_output : {K : Type 0} {b : Base} {d : Def} → Case K b d → b ≡ Output → K × (d ≡ output_d)
is_output (c_unknown n) e = cc
is_output (c_output k) e = (k, refl)
is_output (c_input k u o q) e = absurd (o e)

pub output_is : {K : Type 0} {b : Base} {d : Def} → Case K b d → K → d ≡ output_d → b ≡ Output
output_is (c_unknown n) k e = absurd (n k)
output_is (c_output h) k e = refl
output_is (c_input h u o q) k e = absurd (q e)

case_as : {K L : Type 0} {b : Base} {d : Def} → (K → L) → (L → K) → Case K b d → Case L b d
case_as to from (c_unknown n) = c_unknown (λ l. n (from l))
case_as to from (c_output k) = c_output (to k)
case_as to from (c_input k u o q) = c_input (to k) u o q

-- a type of that name is among them
abbrev Declares : List TypeDef → Name → Type 0
Declares ts n = (t : TypeDef) × Among t ts × (t.name ≡ n)

none_declares : {n : Name} → Declares [] n → ⊥
none_declares (t, a, e) = elim a [ ]

same_of : (m n : Name) → m ≡ n → same m n ≡ false → ⊥
same_of m n e f = true≢false (sym (subst (λ (k : Name). same m k ≡ true) e (same_refl m)) ∙ f)

later_declares : (t : TypeDef) (ts : List TypeDef) (n : Name) → same t.name n ≡ false → Declares (t ∷ ts) n → Declares ts n
later_declares t ts n f (u, first, e) = absurd (same_of u.name n e f)
later_declares t ts n f (u, later a, e) = (u, a, e)

case_step : (t : TypeDef) (ts : List TypeDef) (n : Name) (b r : Base) (q : Bool) → same t.name n ≡ q → ((K : Type 0) → K → Case K b t.def)
    → Case (Declares ts n) r (declared ts n) → Case (Declares (t ∷ ts) n) (cond q b r) (cond q t.def (declared ts n))
case_step t ts n b r true e here rest = here (Declares (t ∷ ts) n) (t, first, same_true t.name n e)
case_step t ts n b r false e here rest = case_as (λ (u, a, h). (u, later a, h)) (later_declares t ts n e) rest

case_rows : (D : Document) (v f i : ℕ) (n : Name) → Case (Declares (types_in D) n) (base_among (type_rows_from v f D) i n) (declared (types_in D) n)
case_rows [] v f i n = c_unknown none_declares
case_rows (a_scalar l ∷ ds) v f i n = case_step (record { name = l.name; def = custom_d }) (types_in ds) n (Custom i) _ (same l.name n) refl (λ K k. c_input k (λ e. cc) (λ e. cc) (λ e. cc)) (case_rows ds _ _ (suc i) n)
case_rows (an_enum l vs ∷ ds) v f i n = case_step _ (types_in ds) n (Enum i) _ (same l.name n) refl (λ K k. c_input k (λ e. cc) (λ e. cc) (λ e. cc)) (case_rows ds _ _ (suc i) n)
case_rows (an_input l fs ∷ ds) v f i n = case_step _ (types_in ds) n (Input i) _ (same l.name n) refl (λ K k. c_input k (λ e. cc) (λ e. cc) (λ e. cc)) (case_rows ds _ _ (suc i) n)
case_rows (an_output l ∷ ds) v f i n = case_step _ (types_in ds) n Output _ (same l.name n) refl (λ K k. c_output k) (case_rows ds _ _ (suc i) n)
case_rows (a_directive l fs r ps ∷ ds) v f i n = case_rows ds _ _ i n

case_built_in : (K : Type 0) (a b c d e : Bool) (base : Base) (def : Def)
    → (cond a true (cond b true (cond c true (cond d true (cond e true false)))) ≡ true → K)
    → (cond a true (cond b true (cond c true (cond d true (cond e true false)))) ≡ false → Case K base def)
    → Case K (cond a Int (cond b Float (cond c String (cond d Boolean (cond e Id base))))) (cond a int_d (cond b float_d (cond c string_d (cond d boolean_d (cond e id_d def)))))
case_built_in K true b c d e base def k rest = c_input (k refl) (λ e. cc) (λ e. cc) (λ e. cc)
case_built_in K false true c d e base def k rest = c_input (k refl) (λ e. cc) (λ e. cc) (λ e. cc)
case_built_in K false false true d e base def k rest = c_input (k refl) (λ e. cc) (λ e. cc) (λ e. cc)
case_built_in K false false false true e base def k rest = c_input (k refl) (λ e. cc) (λ e. cc) (λ e. cc)
case_built_in K false false false false true base def k rest = c_input (k refl) (λ e. cc) (λ e. cc) (λ e. cc)
case_built_in K false false false false false base def k rest = rest refl

declares_known : (D : Document) (n : Name) → Declares (types_in D) n → Known D n
declares_known D n (t, a, e) = known_declared a e

known_declares : (D : Document) (n : Name) → has built_in_names n ≡ false → Known D n → Declares (types_in D) n
known_declares D n f (known_built_in h) = absurd (true≢false (sym h ∙ f))
known_declares D n f (known_declared {t} a e) = (t, a, e)

pub case_of : (D : Document) (n : Name) → Case (Known D n) (base_in D n) (find (schema_of D) n)
case_of D n =
    case_built_in (Known D n) (same (codes "Int") n) (same (codes "Float") n) (same (codes "String") n) (same (codes "Boolean") n) (same (codes "ID") n) _ _
    known_built_in
    (λ f. case_as (declares_known D n) (known_declares D n f) (case_rows D 0 0 0 n))

-- the name of a type
pub inner_from : (marks : List Bool) (w : Name) (k : ℕ) → inner (ty_from marks w k) ≡ w
inner_from marks w zero = refl
inner_from marks w (suc k) = inner_from marks w k

-- rows one by one
pub each_to : {A B : Type 0} (R : A → B → Type 0) {x : A} (xs : List A) (ys : List B) → Each R xs ys → Among x xs → (y : B) × Among y ys × R x y
each_to R [] ys h a = elim a [ ]
each_to R (x ∷ xs) [] h a = absurd h
each_to R (x ∷ xs) (y ∷ ys) h first = (y, first, h.0)
each_to R (x ∷ xs) (y ∷ ys) h (later a) = let r = each_to R xs ys h.1 a in (r.0, later r.1, r.2)

pub each_from : {A B : Type 0} (R : A → B → Type 0) {y : B} (xs : List A) (ys : List B) → Each R xs ys → Among y ys → (x : A) × Among x xs × R x y
each_from R [] [] h a = elim a [ ]
each_from R [] (y ∷ ys) h a = absurd h
each_from R (x ∷ xs) [] h a = elim a [ ]
each_from R (x ∷ xs) (y ∷ ys) h first = (x, first, h.0)
each_from R (x ∷ xs) (y ∷ ys) h (later a) = let r = each_from R xs ys h.1 a in (r.0, later r.1, r.2)

-- the fault of a field's type, told from the row and from the definition
module _ (D : Document) (s : Schema) (h : Holds s D) (base : Base) (Wrong : Name → Type 0) (to : (n : Name) → base_in D n ≡ base → Wrong n) (from : (n : Name) → Wrong n → base_in D n ≡ base) where
  abbrev Rows : ℕ → Type 0
  Rows p = StandsFor base (vec_items s.fields) p ⊎ StandsFor base (vec_items s.arguments) p

  -- at p such a type of one of these is written
  abbrev WrongIn : List Declared → ℕ → Type 0
  WrongIn ds p = (d : Declared) × Among d ds × Wrong (inner d.typed.ty) × (d.typed.place ≡ p)

  wrong_in : (fs : List Field) (ds : List Declared) (p : ℕ) → Each (FieldHeld (base_in D) (tree_table s.tree)) fs ds → StandsFor base fs p → WrongIn ds p
  wrong_in fs ds p e (stands_for {f} a b q) =
      let r = each_to (FieldHeld (base_in D) (tree_table s.tree)) fs ds e a in
      let held = r.2 in
      let name : inner r.0.typed.ty ≡ f.ty.name.now = ap (λ (t : Typed). inner t.ty) (sym held.typed) ∙ inner_from f.ty.shape.non_null f.ty.name.now f.ty.shape.levels in
      (r.0, r.1, subst Wrong (sym name) (to f.ty.name.now (sym held.base ∙ b)), ap (λ (t : Typed). t.place) (sym held.typed) ∙ q)

  wrong_from : (fs : List Field) (ds : List Declared) (p : ℕ) → Each (FieldHeld (base_in D) (tree_table s.tree)) fs ds → WrongIn ds p → StandsFor base fs p
  wrong_from fs ds p e (d, a, w, q) =
      let r = each_from (FieldHeld (base_in D) (tree_table s.tree)) fs ds e a in
      let f = r.0 in
      let held = r.2 in
      let name : inner d.typed.ty ≡ f.ty.name.now = ap (λ (t : Typed). inner t.ty) (sym held.typed) ∙ inner_from f.ty.shape.non_null f.ty.name.now f.ty.shape.levels in
      stands_for r.1 (held.base ∙ from f.ty.name.now (subst Wrong name w)) (ap (λ (t : Typed). t.place) held.typed ∙ q)

  rows_wrong : (p : ℕ) → Rows p → WrongIn (inputs_in D) p ⊎ WrongIn (arguments_in D) p
  rows_wrong p x = ⊎_elim (λ a. inl (wrong_in _ _ p h.fields a)) (λ a. inr (wrong_in _ _ p h.arguments a)) x

  wrong_rows : (p : ℕ) → WrongIn (inputs_in D) p ⊎ WrongIn (arguments_in D) p → Rows p
  wrong_rows p x = ⊎_elim (λ a. inl (wrong_from _ _ p h.fields a)) (λ a. inr (wrong_from _ _ p h.arguments a)) x

module _ (D : Document) (s : Schema) (h : Holds s D) where
  abbrev Unheard : Name → Type 0
  Unheard n = Known D n → ⊥

  unheard_to : (n : Name) → base_in D n ≡ Unknown → Unheard n
  unheard_to n e = is_unknown (case_of D n) e

  unheard_from : (n : Name) → Unheard n → base_in D n ≡ Unknown
  unheard_from n e = unknown_is (case_of D n) e

  abbrev Outward : Name → Type 0
  Outward n = Known D n × (find (schema_of D) n ≡ output_d)

  outward_to : (n : Name) → base_in D n ≡ Output → Outward n
  outward_to n e = is_output (case_of D n) e

  outward_from : (n : Name) → Outward n → base_in D n ≡ Output
  outward_from n e = output_is (case_of D n) e.0 e.1

  unknown_to : (p : ℕ) → WrongIn D s h Unknown Unheard unheard_to unheard_from (inputs_in D) p ⊎ WrongIn D s h Unknown Unheard unheard_to unheard_from (arguments_in D) p → UnknownAt D p
  unknown_to p x = ⊎_elim (λ (d, a, w, q). unknown_at (inl a) w q) (λ (d, a, w, q). unknown_at (inr a) w q) x

  unknown_from : (p : ℕ) → UnknownAt D p → WrongIn D s h Unknown Unheard unheard_to unheard_from (inputs_in D) p ⊎ WrongIn D s h Unknown Unheard unheard_to unheard_from (arguments_in D) p
  unknown_from p (unknown_at {d} a w q) = ⊎_elim (λ b. inl (d, b, w, q)) (λ b. inr (d, b, w, q)) a

  -- the first unknown type, told from the rows
  pub first_unknown : (r : Option ℕ) → FirstFault (λ p. StandsFor Unknown (vec_items s.fields) p ⊎ StandsFor Unknown (vec_items s.arguments) p) r → FirstFault (UnknownAt D) r
  first_unknown r =
      first_as (λ p. StandsFor Unknown (vec_items s.fields) p ⊎ StandsFor Unknown (vec_items s.arguments) p) (UnknownAt D) r
      (λ p x. unknown_to p (rows_wrong D s h Unknown Unheard unheard_to unheard_from p x))
      (λ p x. wrong_rows D s h Unknown Unheard unheard_to unheard_from p (unknown_from p x))

  output_to : (p : ℕ) → WrongIn D s h Output Outward outward_to outward_from (inputs_in D) p ⊎ WrongIn D s h Output Outward outward_to outward_from (arguments_in D) p → NotInputAt D p
  output_to p x = ⊎_elim (λ (d, a, w, q). not_input_at (inl a) w.0 w.1 q) (λ (d, a, w, q). not_input_at (inr a) w.0 w.1 q) x

  output_from : (p : ℕ) → NotInputAt D p → WrongIn D s h Output Outward outward_to outward_from (inputs_in D) p ⊎ WrongIn D s h Output Outward outward_to outward_from (arguments_in D) p
  output_from p (not_input_at {d} a k e q) = ⊎_elim (λ b. inl (d, b, (k, e), q)) (λ b. inr (d, b, (k, e), q)) a

  -- the first type that is no input type, told from the rows
  pub first_output : (r : Option ℕ) → FirstFault (λ p. StandsFor Output (vec_items s.fields) p ⊎ StandsFor Output (vec_items s.arguments) p) r → FirstFault (NotInputAt D) r
  first_output r =
      first_as (λ p. StandsFor Output (vec_items s.fields) p ⊎ StandsFor Output (vec_items s.arguments) p) (NotInputAt D) r
      (λ p x. output_to p (rows_wrong D s h Output Outward outward_to outward_from p x))
      (λ p x. wrong_rows D s h Output Outward outward_to outward_from p (output_from p x))

-- one field further
module _ (base : Base) (fs : List Field) (i : ℕ) (d : Field) (within : i < length fs) where
  abbrev here : Field
  here = get_or fs i d

  abbrev Before : ℕ → Type 0
  Before = StandsFor base (take i fs)

  abbrev Now : ℕ → Type 0
  Now = StandsFor base (take (i + 1) fs)

  kept : (p : ℕ) → Before p → Now p
  kept p (stands_for a b q) = stands_for (among_before fs i d within a) b q

  parts : (p : ℕ) → Now p → Before p ⊎ ((here.ty.shape.base ≡ base) × (here.ty.place ≡ p))
  parts p (stands_for {f} a b q) =
      ⊎_elim
      (λ x. inl (stands_for x b q))
      (λ e. inr (subst (λ (g : Field). g.ty.shape.base ≡ base) e b, subst (λ (g : Field). g.ty.place ≡ p) e q))
      (among_more fs i d within a)

  pub one_more : (r : Option ℕ) → FirstFault Before r → here.ty.shape.base ≡ base → FirstFault Now (lesser_of r (Some here.ty.place))
  one_more r h b =
      first_as (λ p. Before p ⊎ (here.ty.place ≡ p)) Now _
      (λ p x. ⊎_elim (kept p) (λ q. stands_for (among_last fs i d within) b q) x)
      (λ p x. ⊎_elim (λ y. inl y) (λ y. inr y.1) (parts p x))
      (first_lesser Before (λ p. here.ty.place ≡ p) r (Some here.ty.place) h (first_one here.ty.place))

  pub none_more : (r : Option ℕ) → FirstFault Before r → (here.ty.shape.base ≡ base → ⊥) → FirstFault Now r
  none_more r h n = first_as Before Now r kept (λ p x. ⊎_elim (λ y. y) (λ y. absurd (n y.0)) (parts p x)) h
