-- Members whose names stand twice in a literal.
use Rattle.std.proofs.Common.{◌≡◌, ℕ, ◌<◌, ◌≤◌, List, length, Some, None, Ok, Err, Option, Result, ◌⊎◌, inl, inr, ⊎_elim, true, vec_items, sym, ◌∙◌, ap, subst, refl, arith}
use Rattle.std.proofs.lemmas.Bool.{cases_lt}
use Rattle.std.proofs.Math.Option.{none, some}
use Rattle.model.specs.Values.{Raw, null, scalar, variable, list, object, place_of}
use Rattle.model.specs.Cycles.{Among}
use Rattle.source.specs.declared.nodes.Nodes.{Nodes}
use Rattle.source.specs.Nodes.{node_at}
use Rattle.source.specs.Table.{Table, tree_table, Stands}
use Rattle.schema.specs.declared.definition.Field.{Field}
use Rattle.schema.specs.declared.definition.Schema.{Schema}
use Rattle.schema.specs.Documents.{Declared, Document}
use Rattle.schema.specs.Rows.{base_in}
use Rattle.schema.specs.Holds.{Each, Holds, FieldHeld, DefaultHeld}
use Rattle.text.specs.declared.fault.Fault.{Fault}
use Rattle.text.specs.declared.fault.Fault.TheVariants.{BadText, TooDeep, NoSpace, RepeatedName, LongNumber, NoMemory}
use Rattle.text.specs.declared.language.Language.TheVariants.{Graphql}
use Rattle.text.specs.Faults.{place_of as fault_place}
use Rattle.reader.specs.Tokens.{Sights}
use Rattle.reader.specs.Reading.{Out, got, fails, Reads}
use Rattle.reader.specs.Told.{Blames, LiteralIn}
use Rattle.reader.proofs.RdSame.{same}
use Rattle.reader.proofs.RdSights.{one_sight, sights_number}
use Rattle.validation.specs.Making.{FirstFault, MemberTwice, NameTwiceAt, RepeatedNameAt, declared_again, member_again}
use Rattle.validation.specs.Repeats.{OneOf, one_of, DefaultTwice}
use Rattle.validation.proofs.Least.{first_as}
use Rattle.validation.proofs.BaseStands.{each_to, each_from}

-- reading has one outcome
one : (text : List ℕ) {d i : ℕ} {o p : Out Raw} → Reads (Sights Graphql text) Graphql true d i o → Reads (Sights Graphql text) Graphql true d i p → o ≡ p
one text r q = same (Sights Graphql text) (one_sight Graphql text) (sights_number Graphql text) Graphql true r q

abbrev place_in : Out Raw → ℕ
place_in (got j t) = j
place_in (fails f) = fault_place f

module _ (text : List ℕ) (at : ℕ) where
  pub member_found : (p : ℕ) → at ≤ length text → Reads (Sights Graphql text) Graphql true 32 at (fails (RepeatedName p)) → FirstFault (MemberTwice text at) (Some p)
  member_found p h r = ((h, r), λ q m. let e : p ≡ q = ap place_in (one text r m.1) in omega (arith, e))

  pub member_read : (j : ℕ) (t : Raw) → Reads (Sights Graphql text) Graphql true 32 at (got j t) → (q : ℕ) → MemberTwice text at q → ⊥
  member_read j t r q m = let e = one text r m.1 in cc

  pub member_other : (f : Fault) → Blames f (λ g. Reads (Sights Graphql text) Graphql true 32 at (fails g)) → ((p : ℕ) → f ≡ RepeatedName p → ⊥) → (f ≡ NoMemory → ⊥) → (q : ℕ) → MemberTwice text at q → ⊥
  member_other (BadText k) b n m q x = let e = one text b x.1 in cc
  member_other (TooDeep k) b n m q x = let e = one text b x.1 in cc
  member_other (NoSpace k) b n m q x = let e = one text b x.1 in cc
  member_other (RepeatedName k) b n m q x = absurd (n k refl)
  member_other (LongNumber k) b n m q x = let e = one text b x.1 in cc
  member_other NoMemory b n m q x = absurd (m refl)

  -- a repeated name is not told of a place past the end
  pub inside : (r : Result ℕ Fault) (p : ℕ) → r ≡ Err (RepeatedName p) → (length text < at → r ≡ Err (BadText (length text))) → at ≤ length text
  inside r p e past = ⊎_elim (λ h. absurd (let q = sym e ∙ past h in cc)) (λ h. h) (cases_lt (length text) at)

  pub none_told : (before after : Nodes) (r : Result ℕ Fault) → (at ≤ length text → LiteralIn true text 1 at before after r) → ((p : ℕ) → r ≡ Err (RepeatedName p) → ⊥) → (r ≡ Err NoMemory → ⊥) → (q : ℕ) → MemberTwice text at q → ⊥
  none_told before after (Ok j) t n m q x = let w = t x.0 in member_read j w.tree w.reads q x
  none_told before after (Err f) t n m q x = member_other f (t x.0) (λ p e. n p (ap Err e)) (λ e. m (ap Err e)) q x

  pub some_told : (before after : Nodes) (r : Result ℕ Fault) → (at ≤ length text → LiteralIn true text 1 at before after r) → (length text < at → r ≡ Err (BadText (length text))) → (p : ℕ) → r ≡ Err (RepeatedName p) → FirstFault (MemberTwice text at) (Some p)
  some_told before after r t past p e =
      let h = inside r p e past in
      member_found p h (subst (λ (r : Result ℕ Fault). LiteralIn true text 1 at before after r) e (t h))

abbrev fault_in : Result ℕ Fault → Fault
fault_in (Ok j) = NoMemory
fault_in (Err f) = f

-- one result has one fault
pub one_fault : (r : Result ℕ Fault) (f g : Fault) → r ≡ Err f → r ≡ Err g → f ≡ g
one_fault r f g e d = sym (ap fault_in e) ∙ ap fault_in d

pub no_fault : (r : Result ℕ Fault) (j : ℕ) (f : Fault) → r ≡ Ok j → r ≡ Err f → ⊥
no_fault (Ok i) j f e d = cc
no_fault (Err g) j f e d = cc

-- THE DEFAULTS OF A DOCUMENT

pub place_stands : (T : Table) (c : ℕ) (x : Raw) → Stands T c x → (node_at T.nodes c).place ≡ place_of x
place_stands T c (null p) h = h.0.says.place
place_stands T c (scalar p v) h = h.0.says.place
place_stands T c (variable p n) h = h.0.says.place
place_stands T c (list p xs) h = h.0.says.place
place_stands T c (object p ms) h = h.0.says.place

abbrev place_given : mathlib.Core.Option.Option Raw → ℕ
place_given none = 0
place_given (some x) = place_of x

pub twice_to : (T : Table) (o : Option ℕ) (e : mathlib.Core.Option.Option Raw) (p : ℕ) → DefaultHeld T o e → DefaultTwice T o p → (x : Raw) × (e ≡ some x) × MemberTwice T.text (place_of x) p
twice_to T None e p h w = absurd w
twice_to T (Some c) none p h w = absurd h
twice_to T (Some c) (some x) p h w = (x, refl, subst (λ k. MemberTwice T.text k p) (place_stands T c x h) w)

pub twice_from : (T : Table) (o : Option ℕ) (e : mathlib.Core.Option.Option Raw) (x : Raw) (p : ℕ) → DefaultHeld T o e → e ≡ some x → MemberTwice T.text (place_of x) p → DefaultTwice T o p
twice_from T None none x p h q w = cc
twice_from T None (some y) x p h q w = absurd h
twice_from T (Some c) none x p h q w = absurd h
twice_from T (Some c) (some y) x p h q w =
    let same : place_of y ≡ place_of x = ap place_given q in
    subst (λ k. MemberTwice T.text k p) (sym (place_stands T c y h ∙ same)) w

module _ (s : Schema) (D : Document) (h : Holds s D) where
  abbrev T : Table
  T = tree_table s.tree

  abbrev FieldTwice : Field → ℕ → Type 0
  FieldTwice f = DefaultTwice T f.default

  abbrev Again : ℕ → Type 0
  Again p = NameTwiceAt D p ⊎ (OneOf (FieldTwice) (vec_items s.fields) p ⊎ OneOf (FieldTwice) (vec_items s.arguments) p)

  -- a default among these repeats a member's name
  abbrev AgainIn : List Declared → ℕ → Type 0
  AgainIn ds p = (d : Declared) × Among d ds × ((x : Raw) × (d.dflt ≡ some x) × MemberTwice T.text (place_of x) p)

  again_to : (fs : List Field) (ds : List Declared) (p : ℕ) → Each (FieldHeld (base_in D) T) fs ds → OneOf (FieldTwice) fs p → AgainIn ds p
  again_to fs ds p e (one_of {x = f} a w) =
      let r = each_to (FieldHeld (base_in D) T) fs ds e a in
      (r.0, r.1, twice_to T f.default r.0.dflt p r.2.default w)

  again_from : (fs : List Field) (ds : List Declared) (p : ℕ) → Each (FieldHeld (base_in D) T) fs ds → AgainIn ds p → OneOf (FieldTwice) fs p
  again_from fs ds p e (d, a, w) =
      let r = each_from (FieldHeld (base_in D) T) fs ds e a in
      one_of r.1 (twice_from T r.0.default d.dflt w.0 p r.2.default w.1 w.2)

  told_to : (p : ℕ) → Again p → RepeatedNameAt T.text D p
  told_to p x =
      ⊎_elim
      declared_again
      (λ y. ⊎_elim
      (λ w. let r = again_to _ _ p h.fields w in member_again (inl r.1) r.2.1 r.2.2)
      (λ w. let r = again_to _ _ p h.arguments w in member_again (inr r.1) r.2.1 r.2.2)
      y)
      x

  told_from : (p : ℕ) → RepeatedNameAt T.text D p → Again p
  told_from p (declared_again a) = inl a
  told_from p (member_again {d = d} {x = x} i e w) =
      inr (⊎_elim
      (λ a. inl (again_from _ _ p h.fields (d, a, (x, e, w))))
      (λ a. inr (again_from _ _ p h.arguments (d, a, (x, e, w))))
      i)

  pub first_again : (r : Option ℕ) → FirstFault Again r → FirstFault (RepeatedNameAt T.text D) r
  first_again r = first_as Again (RepeatedNameAt T.text D) r told_to told_from
