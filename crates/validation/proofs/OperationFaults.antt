-- The faults of an operation's names and types, told from its text.
use Rattle.std.proofs.Common.{◌≡◌, ℕ, ◌⊎◌, inl, inr, ⊎_elim, List, [], ◌∷◌, map, Some, Option, vec_items, sym, ◌∙◌, ap, subst, refl}
use Rattle.model.specs.Values.{Name, output_d, find}
use Rattle.model.specs.Checking.{inner}
use Rattle.model.specs.Cycles.{Among}
use Rattle.source.specs.Table.{Table, tree_table}
use Rattle.schema.specs.declared.types.Base.{Base}
use Rattle.schema.specs.declared.types.Base.TheVariants.{Output, Unknown}
use Rattle.schema.specs.declared.operation.Variable.{Variable}
use Rattle.schema.specs.declared.operation.Argument.{Argument as ArgumentIn}
use Rattle.schema.specs.declared.operation.Operation.{Operation}
use Rattle.schema.specs.Documents.{Label, Typed, Document, VariableDefinition, OperationDocument, schema_of}
use Rattle.schema.specs.Rows.{base_in}
use Rattle.schema.specs.Holds.{Each}
use Rattle.schema.specs.HoldsOperation.{VariableHeld, ArgumentHeld, HoldsOperation, arguments_in}
use Rattle.validation.specs.Making.{FirstFault, Known, Twice, MemberTwice, variable_labels, RepeatedInOperationAt, variable_again, default_again, value_again, UnknownVariableAt, unknown_variable_at, NotInputVariableAt, not_input_variable_at}
use Rattle.validation.specs.Places.{BasedAt, labelled}
use Rattle.validation.specs.Repeats.{OneOf, one_of, DefaultTwice}
use Rattle.validation.proofs.Least.{first_as}
use Rattle.validation.proofs.BaseStands.{case_of, is_unknown, unknown_is, is_output, output_is, inner_from, each_to, each_from}
use Rattle.validation.proofs.MembersTwice.{twice_to, twice_from, place_stands}

module _ (S : Document) (o : Operation) (D : OperationDocument) (h : HoldsOperation (base_in S) o D) where
  abbrev T : Table
  T = tree_table o.tree

  -- TYPES

  -- a variable's type is wrong so
  abbrev WrongIn : (Name → Type 0) → ℕ → Type 0
  WrongIn Wrong p = (v : VariableDefinition) × Among v D.variables × Wrong (inner v.declared.typed.ty) × (v.declared.typed.place ≡ p)

  module _ (base : Base) (Wrong : Name → Type 0) (to : (n : Name) → base_in S n ≡ base → Wrong n) (from : (n : Name) → Wrong n → base_in S n ≡ base) where
    abbrev Based : ℕ → Type 0
    Based = OneOf (λ (v : Variable). BasedAt base v.ty) (vec_items o.variables)

    wrong_to : (p : ℕ) → Based p → WrongIn Wrong p
    wrong_to p (one_of {x = v} a b) =
        let r = each_to (VariableHeld (base_in S) T) (vec_items o.variables) D.variables h.variables a in
        let held = r.2 in
        let name : inner r.0.declared.typed.ty ≡ v.ty.name.now = ap (λ (t : Typed). inner t.ty) (sym held.typed) ∙ inner_from v.ty.shape.non_null v.ty.name.now v.ty.shape.levels in
        (r.0, r.1, subst Wrong (sym name) (to v.ty.name.now (sym held.base ∙ b.0)), ap (λ (t : Typed). t.place) (sym held.typed) ∙ b.1)

    wrong_from : (p : ℕ) → WrongIn Wrong p → Based p
    wrong_from p (d, a, w, q) =
        let r = each_from (VariableHeld (base_in S) T) (vec_items o.variables) D.variables h.variables a in
        let v = r.0 in
        let held = r.2 in
        let name : inner d.declared.typed.ty ≡ v.ty.name.now = ap (λ (t : Typed). inner t.ty) (sym held.typed) ∙ inner_from v.ty.shape.non_null v.ty.name.now v.ty.shape.levels in
        one_of r.1 (held.base ∙ from v.ty.name.now (subst Wrong name w), ap (λ (t : Typed). t.place) held.typed ∙ q)

  pub first_unknown : (r : Option ℕ) → FirstFault (OneOf (λ (v : Variable). BasedAt Unknown v.ty) (vec_items o.variables)) r → FirstFault (UnknownVariableAt S D) r
  first_unknown r =
      first_as (OneOf (λ (v : Variable). BasedAt Unknown v.ty) (vec_items o.variables)) (UnknownVariableAt S D) r
      (λ p x. let w = wrong_to Unknown (λ n. Known S n → ⊥) (λ n e. is_unknown (case_of S n) e) (λ n e. unknown_is (case_of S n) e) p x in unknown_variable_at w.1 w.2 w.3)
      unknown_rows
    where
      unknown_rows : (p : ℕ) → UnknownVariableAt S D p → OneOf (λ (v : Variable). BasedAt Unknown v.ty) (vec_items o.variables) p
      unknown_rows p (unknown_variable_at {v = v} a k q) = wrong_from Unknown (λ n. Known S n → ⊥) (λ n e. is_unknown (case_of S n) e) (λ n e. unknown_is (case_of S n) e) p (v, a, k, q)

  abbrev Outward : Name → Type 0
  Outward n = Known S n × (find (schema_of S) n ≡ output_d)

  pub first_output : (r : Option ℕ) → FirstFault (OneOf (λ (v : Variable). BasedAt Output v.ty) (vec_items o.variables)) r → FirstFault (NotInputVariableAt S D) r
  first_output r =
      first_as (OneOf (λ (v : Variable). BasedAt Output v.ty) (vec_items o.variables)) (NotInputVariableAt S D) r
      (λ p x. let w = wrong_to Output Outward (λ n e. is_output (case_of S n) e) (λ n e. output_is (case_of S n) e.0 e.1) p x in not_input_variable_at w.1 w.2.0 w.2.1 w.3)
      output_rows
    where
      output_rows : (p : ℕ) → NotInputVariableAt S D p → OneOf (λ (v : Variable). BasedAt Output v.ty) (vec_items o.variables) p
      output_rows p (not_input_variable_at {v = v} a k e q) = wrong_from Output Outward (λ n e. is_output (case_of S n) e) (λ n e. output_is (case_of S n) e.0 e.1) p (v, a, (k, e), q)

  -- NAMES

  abbrev variable_name : Variable → Label
  variable_name v = labelled v.name.now v.name_place

  named : (vs : List Variable) (ds : List VariableDefinition) → Each (VariableHeld (base_in S) T) vs ds → map variable_name vs ≡ variable_labels ds
  named [] [] e = refl
  named [] (d ∷ ds) e = absurd e
  named (v ∷ vs) [] e = absurd e
  named (v ∷ vs) (d ∷ ds) e =
      let l = d.declared.label in
      let here : variable_name v ≡ l = ap (λ n. labelled n v.name_place) e.0.name ∙ ap (labelled l.name) e.0.name_place in
      ap (λ k. k ∷ map variable_name vs) here ∙ ap (λ ls. l ∷ ls) (named vs ds e.1)

  pub names_are : map variable_name (vec_items o.variables) ≡ variable_labels D.variables
  names_are = named (vec_items o.variables) D.variables h.variables

  abbrev Defaults : ℕ → Type 0
  Defaults = OneOf (λ (v : Variable). DefaultTwice T v.default) (vec_items o.variables)

  abbrev Values : ℕ → Type 0
  Values = OneOf (λ (a : ArgumentIn). DefaultTwice T (Some a.value)) (vec_items o.arguments)

  abbrev Again : ℕ → Type 0
  Again p = Twice (map variable_name (vec_items o.variables)) p ⊎ (Defaults p ⊎ Values p)

  default_to : (p : ℕ) → Defaults p → RepeatedInOperationAt T.text D p
  default_to p (one_of {x = v} a w) =
      let r = each_to (VariableHeld (base_in S) T) (vec_items o.variables) D.variables h.variables a in
      let t = twice_to T v.default r.0.declared.dflt p r.2.default w in
      default_again r.1 t.1 t.2

  value_to : (p : ℕ) → Values p → RepeatedInOperationAt T.text D p
  value_to p (one_of {x = v} a w) =
      let r = each_to (ArgumentHeld T) (vec_items o.arguments) (arguments_in D.uses) h.arguments a in
      value_again r.1 (subst (λ k. MemberTwice T.text k p) (place_stands T v.value r.0.value r.2.value) w)

  again_to : (p : ℕ) → Again p → RepeatedInOperationAt T.text D p
  again_to p x = ⊎_elim (λ t. variable_again (subst (λ ls. Twice ls p) names_are t)) (λ y. ⊎_elim (default_to p) (value_to p) y) x

  again_from : (p : ℕ) → RepeatedInOperationAt T.text D p → Again p
  again_from p (variable_again t) = inl (subst (λ ls. Twice ls p) (sym names_are) t)
  again_from p (default_again {v = d} {x = x} a e w) =
      let r = each_from (VariableHeld (base_in S) T) (vec_items o.variables) D.variables h.variables a in
      inr (inl (one_of r.1 (twice_from T r.0.default d.declared.dflt x p r.2.default e w)))
  again_from p (value_again {a = d} a w) =
      let r = each_from (ArgumentHeld T) (vec_items o.arguments) (arguments_in D.uses) h.arguments a in
      inr (inr (one_of r.1 (subst (λ k. MemberTwice T.text k p) (sym (place_stands T r.0.value d.value r.2.value)) w)))

  pub first_again : (r : Option ℕ) → FirstFault Again r → FirstFault (RepeatedInOperationAt T.text D) r
  first_again r = first_as Again (RepeatedInOperationAt T.text D) r again_to again_from
