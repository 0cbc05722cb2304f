-- Whether defaults are right, by a check that knows no variable.
use Rattle.std.proofs.Common.{◌≡◌, ℕ, zero, suc, ◌+◌, ◌-◌, ◌^◌, ◌<◌, ◌≤◌, ◌⊎◌, inl, inr, ⊎_elim, min, true, nat_eq, List, [], ◌∷◌, length, get_or, map, take, Some, None, Option, sym, ap, ◌∙◌, subst, refl, arith}
use Rattle.std.proofs.lemmas.Bool.Decides.{nat_tests}
use Rattle.std.proofs.lemmas.List.{take_all}
use mathlib.Core.Option.{none, some}
use Rattle.model.specs.Values.{Name, Raw, Raws, Mems, null, scalar, variable, list, object, nil, cons, end, mem, place_of, Ty}
use Rattle.model.specs.Limits.{RawLimits, RawLimitsAll, RawLimitsMems}
use Rattle.model.specs.Checking.{Finding, RightDefault}
use Rattle.model.specs.CheckLaws.{NoNameTwice, NoNameTwiceAll, NoNameTwiceMems}
use Rattle.model.specs.Cycles.{Among, first, later}
use Rattle.model.proofs.CyNumbers.{one_some, none_some}
use Rattle.source.specs.Table.{Table, Held}
use Rattle.schema.specs.declared.definition.Schema.{Schema as SchemaRows}
use Rattle.schema.specs.declared.operation.Variable.{Variable as VariableRow}
use Rattle.schema.specs.Documents.{Typed, Declared, Document, VariableDefinition, OperationDocument, schema_of}
use Rattle.schema.specs.Rows.{base_in}
use Rattle.schema.specs.declared.definition.Field.{Field as FieldRow}
use Rattle.schema.specs.declared.types.Base.{Base}
use Rattle.schema.specs.declared.types.«Type».{«Type» as TypeIn}
use Rattle.schema.specs.SchemaReading.{inputs_in, arguments_in}
use Rattle.schema.specs.Holds.{Each, DefaultHeld, FieldHeld, Holds, typed_of}
use Rattle.schema.specs.HoldsOperation.{VariableHeld as VariableRowHeld}
use Rattle.validation.specs.declared.diagnostics.Diagnostics.{Diagnostics}
use Rattle.validation.specs.Diagnosed.{Noted}
use Rattle.validation.specs.Literals.{type_of, VariableHeld, Knows}
use Rattle.validation.specs.Making.{FirstFault, WrongDefault, BadVariableDefaultAt, bad_variable_default_at, BadDefaultAt, bad_default_at}
use Rattle.validation.specs.Places.{lesser_of}
use Rattle.validation.specs.Repeats.{OneOf, one_of}
use Rattle.validation.proofs.CycleFields.{each_length}
use Rattle.validation.proofs.Least.{first_as, one_more, none_more}

-- within the limits of a source no name is twice
mutual
  pub once_named : (k : ℕ) (x : Raw) → RawLimits k x → NoNameTwice x
  once_named k (null p) h = tt
  once_named k (scalar p s) h = tt
  once_named k (variable p n) h = tt
  once_named k (list p xs) h = once_all (suc k) xs h.1
  once_named k (object p ms) h = (h.1, once_mems (suc k) ms h.2)

  once_all : (k : ℕ) (xs : Raws) → RawLimitsAll k xs → NoNameTwiceAll xs
  once_all k nil h = tt
  once_all k (cons x xs) h = (once_named k x h.0, once_all k xs h.1)

  once_mems : (k : ℕ) (ms : Mems) → RawLimitsMems k ms → NoNameTwiceMems ms
  once_mems k end h = tt
  once_mems k (mem n x ms) h = (once_named k x h.1, once_mems k ms h.2)

-- a check that knows no variable
pub knows_none : (D : Document) (s r : SchemaRows) (names : List Name) (T : Table) (rows : List VariableRow) → Holds s D → r ≡ s → rows ≡ [] → names ≡ map (λ (v : VariableRow). v.name.now) rows → Knows r names T rows D []
knows_none D s r names T rows h e z n = record {
  holds = subst (λ q. Holds q D) (sym e) h;
  declares = record { named = n; held = subst (λ (vs : List VariableRow). Each (VariableHeld T) vs []) (sym z) tt };
}

total_zero : (n : ℕ) → nat_eq n 0 ≡ true → n ≡ 0
total_zero n e = grind (arith, nat_tests, e)

-- nothing is counted where nothing is found
pub silent : (a b : Diagnostics) (fs : List Finding) → a.total ≡ 0 → Noted a b fs → nat_eq b.total 0 ≡ true → fs ≡ []
silent a b [] z n e = refl
silent a b (f ∷ fs) z n e = absurd (omega (arith, n.total, z, total_zero b.total e))

pub uncounted : (a b : Diagnostics) (fs : List Finding) → a.total ≡ 0 → Noted a b fs → fs ≡ [] → nat_eq b.total 0 ≡ true
uncounted a b fs z n e =
    let t = subst (λ (gs : List Finding). b.total ≡ min (a.total + length gs) (2 ^ 64 - 1)) e n.total in
    let k : b.total ≡ 0 = omega (arith, t, z) in
    subst (λ m. nat_eq m 0 ≡ true) (sym k) refl

-- what stands beside a row
pub each_pair : {A B : Type 0} (R : A → B → Type 0) (xs : List A) (ys : List B) → Each R xs ys → (i : ℕ) (x : A) → i < length xs → (y : B) × R (get_or xs i x) y × (get_or ys i y ≡ y) × (i < length ys) × Among y ys
each_pair R [] ys h i x l = absurd (omega arith)
each_pair R (z ∷ xs) [] h i x l = absurd h
each_pair R (z ∷ xs) (w ∷ ys) h zero x l = (w, h.0, refl, omega arith, first)
each_pair R (z ∷ xs) (w ∷ ys) h (suc i) x l = let r = each_pair R xs ys h.1 i x (omega arith) in (r.0, r.1, r.2, omega (arith, r.3), later r.4)

-- the default of a variable is wrong
abbrev pub WrongVariable : Document → VariableDefinition → ℕ → Type 0
WrongVariable S v p = WrongDefault S v.declared p

abbrev pub WrongAt : Document → Raw → Ty → ℕ → Type 0
WrongAt S x t p = (RightDefault (schema_of S) x t → ⊥) × (place_of x ≡ p)

abbrev pub Limited : Declared → Type 0
Limited d = (x : Raw) → d.dflt ≡ some x → RawLimits 0 x

-- a default that stands at a cursor, or none
module _ (S : Document) (T : Table) (at : Option ℕ) (ty : TypeIn Base) (d : Declared) (typed : typed_of ty ≡ d.typed) (held : DefaultHeld T at d.dflt) where
  no_default : at ≡ None → (p : ℕ) → WrongDefault S d p → ⊥
  no_default e p w = go d.dflt w.1 (subst (λ o. DefaultHeld T o d.dflt) e held)
    where
      go : (o : mathlib.Core.Option.Option Raw) → o ≡ some w.0 → DefaultHeld T None o → ⊥
      go none q k = none_some q
      go (some x) q k = k

  default_wrong : Limited d → (c : ℕ) → at ≡ Some c → (r : Option ℕ) → ((x : Raw) → Held T c x → NoNameTwice x → FirstFault (WrongAt S x (type_of ty)) r) → FirstFault (WrongDefault S d) r
  default_wrong limited c e r told = go d.dflt refl (subst (λ o. DefaultHeld T o d.dflt) e held)
    where
      t : type_of ty ≡ d.typed.ty
      t = ap (λ (y : Typed). y.ty) typed

      go : (o : mathlib.Core.Option.Option Raw) → d.dflt ≡ o → DefaultHeld T (Some c) o → FirstFault (WrongDefault S d) r
      go none q k = absurd k
      go (some x) q k =
          let h : Held T c x = record { stands = k; within = limited x q } in
          first_as (WrongAt S x (type_of ty)) (WrongDefault S d) r
          (λ p w. (x, q, (λ z. w.0 (subst (RightDefault (schema_of S) x) (sym t) z)), w.1))
          (λ p w. let same : w.0 ≡ x = one_some w.1 q in (
            (λ z. w.2 (subst (λ y. RightDefault (schema_of S) y d.typed.ty) (sym same) (subst (RightDefault (schema_of S) x) t z))),
            ap place_of (sym same) ∙ w.3,
          ))
          (told x h (once_named 0 x h.within))

-- one more row, whose own first fault is known
module _ {A B : Type 0} (R : A → B → Type 0) (P : B → ℕ → Type 0) (xs : List A) (ys : List B) (each : Each R xs ys) where
  abbrev Before : ℕ → ℕ → Type 0
  Before i = OneOf P (take i ys)

  row_more : (i : ℕ) (v : A) → i < length xs → (one r : Option ℕ) → FirstFault (Before i) one → ((y : B) → R (get_or xs i v) y → Among y ys → FirstFault (P y) r) → FirstFault (Before (i + 1)) (lesser_of one r)
  row_more i v within one r before f =
      let p = each_pair R xs ys each i v within in
      one_more P ys i p.0 p.3 one r before (subst (λ y. FirstFault (P y) r) (sym p.2) (f p.0 p.1 p.4))

  row_passed : (i : ℕ) (v : A) → i < length xs → (one : Option ℕ) → FirstFault (Before i) one → ((y : B) → R (get_or xs i v) y → (q : ℕ) → P y q → ⊥) → FirstFault (Before (i + 1)) one
  row_passed i v within one before f =
      let p = each_pair R xs ys each i v within in
      none_more P ys i p.0 p.3 one before (subst (λ y. (q : ℕ) → P y q → ⊥) (sym p.2) (f p.0 p.1))

  pub all_rows : (i : ℕ) → length xs ≤ i → (one : Option ℕ) → FirstFault (Before i) one → FirstFault (OneOf P ys) one
  all_rows i l one h =
      let n = each_length R xs ys each in
      subst (λ (zs : List B). FirstFault (OneOf P zs) one) (take_all i ys (omega (arith, n, l))) h

-- field by field
module _ (S : Document) (T : Table) (fs : List FieldRow) (ds : List Declared) (each : Each (FieldHeld (base_in S) T) fs ds) (i : ℕ) (v : FieldRow) (within : i < length fs) (one : Option ℕ) (before : FirstFault (OneOf (WrongDefault S) (take i ds)) one) where
  abbrev field : FieldRow
  field = get_or fs i v

  pub field_more : ((d : Declared) → Among d ds → Limited d) → (c : ℕ) → field.default ≡ Some c → (r : Option ℕ) → ((x : Raw) → field.ty.shape.base ≡ base_in S field.ty.name.now → Held T c x → NoNameTwice x → FirstFault (WrongAt S x (type_of field.ty)) r) → FirstFault (OneOf (WrongDefault S) (take (i + 1) ds)) (lesser_of one r)
  field_more limited c e r told = row_more (FieldHeld (base_in S) T) (WrongDefault S) fs ds each i v within one r before (λ d h a. default_wrong S T field.default field.ty d h.typed h.default (limited d a) c e r (λ x k n. told x h.base k n))

  pub field_passed : field.default ≡ None → FirstFault (OneOf (WrongDefault S) (take (i + 1) ds)) one
  field_passed e = row_passed (FieldHeld (base_in S) T) (WrongDefault S) fs ds each i v within one before (λ d h. no_default S T field.default field.ty d h.typed h.default e)

-- variable by variable
module _ (S : Document) (T : Table) (vs : List VariableRow) (ds : List VariableDefinition) (each : Each (VariableRowHeld (base_in S) T) vs ds) where
  module _ (i : ℕ) (v : VariableRow) (within : i < length vs) (one : Option ℕ) (before : FirstFault (OneOf (WrongVariable S) (take i ds)) one) where
    abbrev row : VariableRow
    row = get_or vs i v

    pub variable_more : ((d : VariableDefinition) → Among d ds → Limited d.declared) → (c : ℕ) → row.default ≡ Some c → (r : Option ℕ) → ((x : Raw) → row.ty.shape.base ≡ base_in S row.ty.name.now → Held T c x → NoNameTwice x → FirstFault (WrongAt S x (type_of row.ty)) r) → FirstFault (OneOf (WrongVariable S) (take (i + 1) ds)) (lesser_of one r)
    variable_more limited c e r told = row_more (VariableRowHeld (base_in S) T) (WrongVariable S) vs ds each i v within one r before (λ d h a. default_wrong S T row.default row.ty d.declared h.typed h.default (limited d a) c e r (λ x k n. told x h.base k n))

    pub variable_passed : row.default ≡ None → FirstFault (OneOf (WrongVariable S) (take (i + 1) ds)) one
    variable_passed e = row_passed (VariableRowHeld (base_in S) T) (WrongVariable S) vs ds each i v within one before (λ d h. no_default S T row.default row.ty d.declared h.typed h.default e)

  pub all_variables : (D : OperationDocument) → D.variables ≡ ds → (i : ℕ) → length vs ≤ i → (one : Option ℕ) → FirstFault (OneOf (WrongVariable S) (take i ds)) one → FirstFault (BadVariableDefaultAt S D) one
  all_variables D z i l one h =
      let all = subst (λ (xs : List VariableDefinition). FirstFault (OneOf (WrongVariable S) xs) one) (sym z) (all_rows (VariableRowHeld (base_in S) T) (WrongVariable S) vs ds each i l one h) in
      first_as (OneOf (WrongVariable S) D.variables) (BadVariableDefaultAt S D) one to from all
    where
      to : (p : ℕ) → OneOf (WrongVariable S) D.variables p → BadVariableDefaultAt S D p
      to p (one_of a w) = bad_variable_default_at a w

      from : (p : ℕ) → BadVariableDefaultAt S D p → OneOf (WrongVariable S) D.variables p
      from p (bad_variable_default_at a w) = one_of a w

-- of fields and of arguments
pub all_inputs : (D : Document) (r : Option ℕ) → FirstFault (λ p. OneOf (WrongDefault D) (inputs_in D) p ⊎ OneOf (WrongDefault D) (arguments_in D) p) r → FirstFault (BadDefaultAt D) r
all_inputs D r = first_as (λ p. OneOf (WrongDefault D) (inputs_in D) p ⊎ OneOf (WrongDefault D) (arguments_in D) p) (BadDefaultAt D) r to from
  where
    among_inputs : (p : ℕ) → OneOf (WrongDefault D) (inputs_in D) p → BadDefaultAt D p
    among_inputs p (one_of a w) = bad_default_at (inl a) w

    among_arguments : (p : ℕ) → OneOf (WrongDefault D) (arguments_in D) p → BadDefaultAt D p
    among_arguments p (one_of a w) = bad_default_at (inr a) w

    to : (p : ℕ) → OneOf (WrongDefault D) (inputs_in D) p ⊎ OneOf (WrongDefault D) (arguments_in D) p → BadDefaultAt D p
    to p x = ⊎_elim (among_inputs p) (among_arguments p) x

    from : (p : ℕ) → BadDefaultAt D p → OneOf (WrongDefault D) (inputs_in D) p ⊎ OneOf (WrongDefault D) (arguments_in D) p
    from p (bad_default_at i w) = ⊎_elim (λ a. inl (one_of a w)) (λ a. inr (one_of a w)) i
