-- Where no object in the tree of what was read has two members of one name, no name of a member is told.
use Rattle.std.proofs.Common.{◌≡◌, ℕ, ⊎_elim, true, false, List, map, Some, None, Option, vec_items, sym, subst, refl}
use Rattle.std.proofs.Math.Option.{none, some}
use Rattle.model.specs.Values.{Raw, place_of}
use Rattle.model.specs.Cycles.{Among}
use Rattle.text.specs.declared.language.Language.TheVariants.{Graphql}
use Rattle.source.specs.Table.{Table, tree_table, Stands}
use Rattle.reader.specs.Tokens.{Sights, TokenIs}
use Rattle.reader.specs.Reading.{got}
use Rattle.reader.proofs.RdSights.{sure, seen_is, sights_number}
use Rattle.reader.proofs.RdSound.{sound}
use Rattle.reader.proofs.RdAgree.{agree}
use Rattle.schema.specs.declared.definition.Field.{Field}
use Rattle.schema.specs.declared.definition.Schema.{Schema}
use Rattle.schema.specs.declared.operation.Operation.{Operation}
use Rattle.schema.specs.declared.operation.Variable.{Variable}
use Rattle.schema.specs.Documents.{Declared, Document, OperationDocument}
use Rattle.schema.specs.Rows.{base_in}
use Rattle.schema.specs.Holds.{Each, Holds, FieldHeld, DefaultHeld}
use Rattle.schema.specs.HoldsOperation.{VariableHeld, ArgumentHeld, HoldsOperation, arguments_in}
use Rattle.schema.specs.SchemaReading.{inputs_in, arguments_in as directive_arguments, ReadsSchema}
use Rattle.schema.specs.OperationReading.{ReadsOperation}
use Rattle.schema.proofs.Entering.{not_got}
use Rattle.validation.specs.Making.{FirstFault, Twice, MemberTwice, NameTwiceAt, RepeatedNameAt, declared_again, member_again, RepeatedInOperationAt, variable_again, default_again, value_again}
use Rattle.validation.specs.Objects.{AllApart}
use Rattle.validation.specs.Places.{labelled}
use Rattle.validation.proofs.Least.{first_as}
use Rattle.validation.proofs.BaseStands.{each_from}
use Rattle.validation.proofs.ObjectsApart.{apart_value}
use Rattle.validation.proofs.Rereading.{literal_here}
use Rattle.validation.proofs.Sourcing.{DefaultRead, input_read}
use Rattle.validation.proofs.OperationSourcing.{default_of, value_of}
use Rattle.validation.proofs.OperationFaults.{names_are}

-- the cursor where a default stands
pub default_stands : (T : Table) (o : Option ℕ) (e : mathlib.Core.Option.Option Raw) (x : Raw) → DefaultHeld T o e → e ≡ some x → (c : ℕ) × Stands T c x
default_stands T None none x h q = cc
default_stands T None (some y) x h q = absurd h
default_stands T (Some c) none x h q = absurd h
default_stands T (Some c) (some y) x h q = (c, subst (λ e. DefaultHeld T (Some c) e) q h)

-- a literal that was read, and stands
pub none_twice : (T : Table) → AllApart T → (c : ℕ) (x : Raw) (p : ℕ) → Stands T c x → DefaultRead (Sights Graphql T.text) (some x) → MemberTwice T.text (place_of x) p → ⊥
none_twice T apart c x p h g w =
    let N = Sights Graphql T.text in
    let X = TokenIs Graphql T.text in
    let r = literal_here T.text g.2 in
    let s = sound N X (λ i b e y n. seen_is n) Graphql false r.1 1 refl in
    not_got (agree N X (sure Graphql T.text) (sights_number Graphql T.text) Graphql true w.1 s.0 1 refl (apart_value T apart 1 c x h s.1))

module _ (s : Schema) (D : Document) (h : Holds s D) (apart : AllApart (tree_table s.tree)) (e : ℕ) (r : ReadsSchema s.tree.text.now (got e D)) where
  abbrev T : Table
  T = tree_table s.tree

  none_among : (fs : List Field) (ds : List Declared) (d : Declared) (x : Raw) (p : ℕ) → Each (FieldHeld (base_in D) T) fs ds → Among d ds → d.dflt ≡ some x → DefaultRead (Sights Graphql T.text) (some x) → MemberTwice T.text (place_of x) p → ⊥
  none_among fs ds d x p h a z g w =
      let f = each_from (FieldHeld (base_in D) T) fs ds h a in
      let c = default_stands T f.0.default d.dflt x f.2.default z in
      none_twice T apart c.0 x p c.1 g w

  name_again : (p : ℕ) → RepeatedNameAt T.text D p → NameTwiceAt D p
  name_again p (declared_again a) = a
  name_again p (member_again {d = d} {x = x} i z w) =
      let g = input_read T.text r i z in
      absurd (⊎_elim
      (λ a. none_among (vec_items s.fields) (inputs_in D) d x p h.fields a z g w)
      (λ a. none_among (vec_items s.arguments) (directive_arguments D) d x p h.arguments a z g w)
      i)

  pub first_name : (o : Option ℕ) → FirstFault (NameTwiceAt D) o → FirstFault (RepeatedNameAt T.text D) o
  first_name o = first_as (NameTwiceAt D) (RepeatedNameAt T.text D) o (λ p a. declared_again a) name_again

module _ (S : Document) (o : Operation) (D : OperationDocument) (h : HoldsOperation (base_in S) o D) (apart : AllApart (tree_table o.tree)) (e : ℕ) (r : ReadsOperation o.tree.text.now (got e D)) where
  abbrev U : Table
  U = tree_table o.tree

  abbrev Names : ℕ → Type 0
  Names = Twice (map (λ (v : Variable). labelled v.name.now v.name_place) (vec_items o.variables))

  variable_twice : (p : ℕ) → RepeatedInOperationAt U.text D p → Names p
  variable_twice p (variable_again t) = subst (λ ls. Twice ls p) (sym (names_are S o D h)) t
  variable_twice p (default_again {v = v} {x = x} a z w) =
      let f = each_from (VariableHeld (base_in S) U) (vec_items o.variables) D.variables h.variables a in
      let c = default_stands U f.0.default v.declared.dflt x f.2.default z in
      absurd (none_twice U apart c.0 x p c.1 (default_of U.text r a z) w)
  variable_twice p (value_again {a = a} i w) =
      let f = each_from (ArgumentHeld U) (vec_items o.arguments) (arguments_in D.uses) h.arguments i in
      absurd (none_twice U apart f.0.value a.value p f.2.value (value_of U.text r i) w)

  pub first_variable : (q : Option ℕ) → FirstFault Names q → FirstFault (RepeatedInOperationAt U.text D) q
  first_variable q = first_as Names (RepeatedInOperationAt U.text D) q (λ p t. variable_again (subst (λ ls. Twice ls p) (names_are S o D h) t)) variable_twice
