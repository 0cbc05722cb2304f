-- Definitions that are read.
use Rattle.std.proofs.Common.{◌≡◌, ℕ, Bool, true, false, codes, Some, None, Option, is_some, List, [], ◌∷◌, ◌++◌, length, map, Ok, Err, Result, sym, refl, ap, ◌∙◌, subst, append-nil, ⊎_elim, ◌⊎◌, arith, vec_len, vec_items}
use Rattle.std.proofs.lemmas.List.{map-append}
use Rattle.model.specs.Values.{Location}
use Rattle.text.specs.declared.fault.Fault.{Fault}
use Rattle.text.specs.TokenGrammar.{open_brace, close_brace, at_sign}
use Rattle.reader.specs.Tokens.{Sight}
use Rattle.reader.specs.Reading.{Out, got, fails, is_mark}
use Rattle.reader.proofs.Faults.{blames_map}
use Rattle.source.specs.declared.raw.Span.{Span}
use Rattle.source.specs.Table.{tree_table, Keeps}
use Rattle.source.proofs.Keeping.{keeps_all}
use Rattle.schema.specs.declared.definition.Schema.{Schema}
use Rattle.schema.specs.declared.definition.TypeDef.{TypeDef}
use Rattle.schema.specs.declared.definition.Directive.{Directive}
use Rattle.schema.specs.declared.definition.TypeKind.{TypeKind}
use Rattle.schema.specs.declared.definition.TypeKind.TheVariants.{Scalar, Output}
use Rattle.schema.specs.declared.tokens.Tokens.{Tokens}
use Rattle.schema.specs.Documents.{Label, Declared, Definition, a_scalar, an_output, an_enum, an_input, a_directive}
use Rattle.schema.specs.Holds.{FieldHeld, DirectiveHeld, type_row_of, label_of}
use Rattle.schema.specs.Outcomes.{Gives, Takes, the_mark, any_name}
use Rattle.schema.specs.Rows.{span, type_row, directive_row}
use Rattle.schema.specs.SchemaReading.{Counts, is_word, the_word, ReadsRepeatable, s_enum, s_input, values_of, inputs_of, arguments_of, ReadsNew, ReadsValueList, ReadsFieldList, ReadsContents, ReadsArguments, ReadsManner, ReadsAllLocations, ReadsDirective}
use Rattle.schema.specs.SchemaTold.{Appended, ContentsAdded, Added, FieldsAdded, counts, sort_of, unknown}
use Rattle.schema.specs.Told.{Read, Told, TokenIfAny, sights}
use Rattle.schema.proofs.Seeing.{after_eaten, after_left}
use Rattle.schema.proofs.Rowing.{appended_none, appended_one}

-- what is told of a part is told of the whole
pub told_on : {X Y Z : Type 0} (n m : ℕ) (R : (ℕ → Sight → Type 0) → ℕ → Out X → Type 0) (S : (ℕ → Sight → Type 0) → ℕ → Out Z → Type 0) (M : Y → X → Type 0) (P : Y → Z → Type 0) (mid old new : Tokens) (r : Result Y Fault)
    → ((y : Y) → Read n R M mid new y → Read m S P old new y)
    → ((f : Fault) → R (sights mid) mid.at (fails f) → S (sights old) old.at (fails f))
    → Told n R M mid new r → Told m S P old new r
told_on n m R S M P mid old new (Ok y) f g h = f y h
told_on n m R S M P mid old new (Err e) f g h = blames_map (λ x. R (sights mid) mid.at (fails x)) (λ x. S (sights old) old.at (fails x)) g e h

module _ (N : ℕ → Sight → Type 0) (c : Counts) (l : Label) where
  pub enum_unopened : (i : ℕ) (f : Fault) → Takes N (the_mark open_brace) i (fails f) → ReadsContents N c l s_enum i (fails f)
  enum_unopened i f h = (fails f, (fails f, h, refl), refl)

  pub enum_fails : (i e s : ℕ) (f : Fault) → Takes N (the_mark open_brace) i (got e s) → ReadsValueList N c.values e (fails f) → ReadsContents N c l s_enum i (fails f)
  enum_fails i e s f h r = (fails f, (got e s, h, r), refl)

  pub enum_got : (i e s j : ℕ) (vs : List Label) → Takes N (the_mark open_brace) i (got e s) → ReadsValueList N c.values e (got j vs) → ReadsContents N c l s_enum i (got j (an_enum l vs))
  enum_got i e s j vs h r = (got j vs, (got e s, h, r), refl)

  pub input_unopened : (i : ℕ) (f : Fault) → Takes N (the_mark open_brace) i (fails f) → ReadsContents N c l s_input i (fails f)
  input_unopened i f h = (fails f, (fails f, h, refl), refl)

  pub input_fails : (i e s : ℕ) (f : Fault) → Takes N (the_mark open_brace) i (got e s) → ReadsFieldList N (is_mark close_brace) 1024 c.inputs e (fails f) → ReadsContents N c l s_input i (fails f)
  input_fails i e s f h r = (fails f, (got e s, h, r), refl)

  pub input_got : (i e s j : ℕ) (ds : List Declared) → Takes N (the_mark open_brace) i (got e s) → ReadsFieldList N (is_mark close_brace) 1024 c.inputs e (got j ds) → ReadsContents N c l s_input i (got j (an_input l ds))
  input_got i e s j ds h r = (got j ds, (got e s, h, r), refl)

-- a type with nothing in it
bare_with : (u : Tokens) (old : Schema) (l : Label) (k : TypeKind) (d : Definition) → ReadsContents (sights u) (counts old) l (sort_of k) u.at (got u.at d) → type_row (vec_len old.values) (vec_len old.fields) d ≡ record { label = l; kind = k; inside = span 0 0 } ∷ []
    → values_of d ≡ [] → inputs_of d ≡ [] → directive_row (vec_len old.arguments) d ≡ [] → arguments_of d ≡ []
    → Read 0 (λ N. ReadsContents N (counts old) l (sort_of k)) (ContentsAdded old old l k) u u (span 0 0)
bare_with u old l k d r w v f a b = record {
  value = d;
  reads = r;
  means = record {
    row = w;
    types = refl;
    values = sym (ap (λ x. map label_of (vec_items old.values) ++ x) v ∙ append-nil (map label_of (vec_items old.values)));
    fields = subst (Appended (FieldHeld unknown (tree_table old.tree)) (vec_items old.fields) (vec_items old.fields)) (sym f) (appended_none (FieldHeld unknown (tree_table old.tree)) (vec_items old.fields));
    directives = refl;
    arguments = refl;
    no_directive = a;
    no_arguments = b;
    keeps = keeps_all (tree_table old.tree);
  };
  onward = (refl, omega arith);
}

pub bare_read : (u : Tokens) (old : Schema) (l : Label) (k : TypeKind) → (k ≡ Scalar) ⊎ (k ≡ Output) → Read 0 (λ N. ReadsContents N (counts old) l (sort_of k)) (ContentsAdded old old l k) u u (span 0 0)
bare_read u old l k h = ⊎_elim
    (λ e. bare_with u old l k (a_scalar l) (subst (λ x. ReadsContents (sights u) (counts old) l (sort_of x) u.at (got u.at (a_scalar l))) (sym e) refl) (λ i. record { label = l; kind = sym e i; inside = span 0 0 } ∷ []) refl refl refl refl)
    (λ e. bare_with u old l k (an_output l) (subst (λ x. ReadsContents (sights u) (counts old) l (sort_of x) u.at (got u.at (an_output l))) (sym e) refl) (λ i. record { label = l; kind = sym e i; inside = span 0 0 } ∷ []) refl refl refl refl)
    h

-- the row of a type is pushed after all that is in it
pub type_added : (old mid new : Schema) (l : Label) (k : TypeKind) (s : Span) (d : Definition) (t : TypeDef) → ContentsAdded old mid l k s d → type_row_of t ≡ record { label = l; kind = k; inside = s }
    → vec_items new.types ≡ vec_items mid.types ++ t ∷ [] → new.values ≡ mid.values → new.fields ≡ mid.fields → new.directives ≡ mid.directives → new.arguments ≡ mid.arguments → tree_table new.tree ≡ tree_table mid.tree
    → Added old new d
type_added old mid new l k s d t a e p v f r g q = record {
  types = ap (map type_row_of) p ∙ map-append type_row_of (vec_items mid.types) (t ∷ []) ∙ ap (λ x. map type_row_of (vec_items x) ++ type_row_of t ∷ []) a.types ∙ ap (λ x. map type_row_of (vec_items old.types) ++ x ∷ []) e ∙ ap (λ x. map type_row_of (vec_items old.types) ++ x) (sym a.row);
  values = ap (λ x. map label_of (vec_items x)) v ∙ a.values;
  fields = subst (λ x. Appended (FieldHeld unknown (tree_table new.tree)) (vec_items old.fields) (vec_items x) (inputs_of d)) (sym f) (subst (λ T. Appended (FieldHeld unknown T) (vec_items old.fields) (vec_items mid.fields) (inputs_of d)) (sym q) a.fields);
  directives = subst (λ x. Appended DirectiveHeld (vec_items old.directives) (vec_items x) (directive_row (vec_len old.arguments) d)) (sym (r ∙ a.directives))
      (subst (λ x. Appended DirectiveHeld (vec_items old.directives) (vec_items old.directives) x) (sym a.no_directive) (appended_none DirectiveHeld (vec_items old.directives)));
  arguments = subst (λ x. Appended (FieldHeld unknown (tree_table new.tree)) (vec_items old.arguments) (vec_items x) (arguments_of d)) (sym (g ∙ a.arguments))
      (subst (λ x. Appended (FieldHeld unknown (tree_table new.tree)) (vec_items old.arguments) (vec_items old.arguments) x) (sym a.no_arguments) (appended_none (FieldHeld unknown (tree_table new.tree)) (vec_items old.arguments)));
  keeps = subst (λ T. Keeps 0 (tree_table old.tree) T) (sym q) a.keeps;
}

-- the row of a directive is pushed after its arguments
pub directive_added : (old new : Schema) (l : Label) (ds : List Declared) (r : Bool) (ls : List Location) (s : Span) (t : Directive) → FieldsAdded (tree_table old.tree) (tree_table new.tree) (vec_items old.arguments) (vec_items new.arguments) s ds
    → length (vec_items old.arguments) ≡ vec_len old.arguments → DirectiveHeld t (record { label = l; arguments = s; locations = ls; repeatable = r })
    → vec_items new.directives ≡ vec_items old.directives ++ t ∷ [] → new.types ≡ old.types → new.values ≡ old.values → new.fields ≡ old.fields
    → Added old new (a_directive l ds r ls)
directive_added old new l ds r ls s t a n h p q v f = record {
  types = ap (λ x. map type_row_of (vec_items x)) q ∙ sym (append-nil (map type_row_of (vec_items old.types)));
  values = ap (λ x. map label_of (vec_items x)) v ∙ sym (append-nil (map label_of (vec_items old.values)));
  fields = subst (λ x. Appended (FieldHeld unknown (tree_table new.tree)) (vec_items old.fields) (vec_items x) []) (sym f) (appended_none (FieldHeld unknown (tree_table new.tree)) (vec_items old.fields));
  directives = appended_one DirectiveHeld (vec_items old.directives) (vec_items old.directives) (vec_items new.directives) [] t _ (appended_none DirectiveHeld (vec_items old.directives)) p
      (subst (λ x. DirectiveHeld t (record { label = l; arguments = x; locations = ls; repeatable = r })) (a.inside ∙ ap (λ k. span k (length ds)) n) h);
  arguments = a.fields;
  keeps = a.keeps;
}

-- DIRECTIVES

module _ (N : ℕ → Sight → Type 0) where
  pub repeats : (i j : ℕ) (o : Option ℕ) → TokenIfAny N (is_word (codes "repeatable")) i (got j o) → ReadsRepeatable N i (got j (is_some o))
  repeats i j (Some s) h = after_eaten N (is_word (codes "repeatable")) (λ s. Gives true) (Gives false) (got j true) i j s h refl
  repeats i j None h = after_left N (is_word (codes "repeatable")) (λ s. Gives true) (Gives false) (got j false) i j h refl

  pub manner_fails : (i j : ℕ) (o : Option ℕ) (f : Fault) → TokenIfAny N (is_word (codes "repeatable")) i (got j o) → Takes N (the_word (codes "on")) j (fails f) → ReadsManner N i (fails f)
  manner_fails i j o f h k = (got j (is_some o), repeats i j o h, (fails f, k, refl))

  pub manner_got : (i j : ℕ) (o : Option ℕ) (k s : ℕ) → TokenIfAny N (is_word (codes "repeatable")) i (got j o) → Takes N (the_word (codes "on")) j (got k s) → ReadsManner N i (got k (is_some o))
  manner_got i j o k s h t = (got j (is_some o), repeats i j o h, (got k s, t, refl))

  module _ (c : Counts) where
    pub directive_unmarked : (i : ℕ) (f : Fault) → Takes N (the_mark at_sign) i (fails f) → ReadsDirective N c i (fails f)
    directive_unmarked i f h = (fails f, h, refl)

    module _ (i e s : ℕ) (m : Takes N (the_mark at_sign) i (got e s)) where
      pub directive_unnamed : (f : Fault) → ReadsNew N 64 c.directives any_name e (fails f) → ReadsDirective N c i (fails f)
      directive_unnamed f h = (got e s, m, (fails f, h, refl))

      module _ (j : ℕ) (l : Label) (n : ReadsNew N 64 c.directives any_name e (got j l)) where
        pub directive_bad_arguments : (f : Fault) → ReadsArguments N c.arguments j (fails f) → ReadsDirective N c i (fails f)
        directive_bad_arguments f h = (got e s, m, (got j l, n, (fails f, h, refl)))

        module _ (k : ℕ) (ds : List Declared) (a : ReadsArguments N c.arguments j (got k ds)) where
          pub directive_bad_manner : (f : Fault) → ReadsManner N k (fails f) → ReadsDirective N c i (fails f)
          directive_bad_manner f h = (got e s, m, (got j l, n, (got k ds, a, (fails f, h, refl))))

          module _ (p : ℕ) (r : Bool) (b : ReadsManner N k (got p r)) where
            pub directive_bad_locations : (f : Fault) → ReadsAllLocations N p (fails f) → ReadsDirective N c i (fails f)
            directive_bad_locations f h = (got e s, m, (got j l, n, (got k ds, a, (got p r, b, (fails f, h, refl)))))

            pub directive_got : (q : ℕ) (ls : List Location) → ReadsAllLocations N p (got q ls) → ReadsDirective N c i (got q (a_directive l ds r ls))
            directive_got q ls h = (got e s, m, (got j l, n, (got k ds, a, (got p r, b, (got q ls, h, refl)))))
