-- A whole schema, definition by definition.
use Rattle.std.proofs.Common.{◌≡◌, ℕ, ◌+◌, ◌<◌, ◌≤◌, nat_lt, ⊎_elim, Ok, Err, Result, ◌&&◌, true, false, List, [], ◌∷◌, ◌++◌, length, map, Some, None, Option as Maybe, sym, refl, ap, ◌∙◌, subst, append_assoc, append-nil, vec_len, vec_items, arith}
use Rattle.std.proofs.Math.Option.{Option, some, none}
use Rattle.std.proofs.lemmas.List.{length-map, length-append}
use Rattle.std.proofs.lemmas.Bool.{cases_Bool}
use Rattle.std.proofs.lemmas.Bool.Decides.{nat_tests}
use Rattle.text.specs.declared.language.Language.TheVariants.{Graphql}
use Rattle.schema.specs.declared.tokens.Name.{Name as NameToken}
use Rattle.schema.specs.declared.tokens.Tokens.{Tokens}
use Rattle.text.specs.declared.fault.Fault.{Fault}
use Rattle.text.specs.declared.fault.Fault.TheVariants.{BadText}
use Rattle.text.specs.TokenGrammar.{Lexical, a_mark, a_name, a_number, a_string, the_end}
use Rattle.reader.specs.Tokens.{Sight, sees, blind, Sights}
use Rattle.reader.specs.Reading.{got, fails}
use Rattle.source.specs.Table.{Table, tree_table, Keeps}
use Rattle.schema.specs.declared.definition.Schema.{Schema}
use Rattle.schema.specs.declared.definition.Field.{Field}
use Rattle.schema.specs.declared.document.Keyword.{Keyword as Word}
use Rattle.schema.specs.Documents.{Label, Declared, Definition, a_scalar, an_enum, an_input, an_output, a_directive, Document, type_of, directive_of}
use Rattle.schema.specs.Holds.{Each, FieldHeld, DirectiveHeld, HeldBy, type_row_of, label_of}
use Rattle.schema.specs.Locations.{in_table}
use Rattle.schema.specs.Outcomes.{Takes, any_name, taken, accepted, shuts}
use Rattle.schema.specs.Reading.{Onward}
use Rattle.schema.specs.SchemaGrammar.{ends}
use Rattle.schema.specs.Told.{Read, Labels, sights}
use Rattle.schema.specs.Rows.{type_row, type_rows, type_rows_from, directive_row, directive_rows, directive_rows_from}
use Rattle.schema.specs.SchemaReading.{Counts, nothing, ReadsDefinition, ReadsAfter, ReadsOn, Keyword, keywords, a_keyword, counted, values_of, inputs_of, arguments_of, values_in, inputs_in, arguments_in}
use Rattle.schema.specs.SchemaTold.{Open, Closed, ItemTold, Appended, Added, KeywordTold, keyword_of, counts, unknown}
use Rattle.schema.proofs.Eating.{failed}
use Rattle.schema.proofs.Entering.{not_fails}
use Rattle.schema.proofs.Listing.{Sofar, sofar_step, sofar_fails, sofar_as}
use Rattle.schema.proofs.Rowing.{each_map, each_append, each_length, appended_length, field_kept}
use Rattle.schema.proofs.Seeing.{name_seen}

-- KEYWORDS

no_keyword : (v : Sight) (f : Fault) → taken any_name v ≡ fails f → taken a_keyword v ≡ fails f
no_keyword (sees s c (a_name w)) f h = not_fails h
no_keyword (sees s c (a_mark m)) f h = failed h
no_keyword (sees s c (a_number k ds)) f h = failed h
no_keyword (sees s c (a_string cs)) f h = failed h
no_keyword (sees s c the_end) f h = failed h
no_keyword (blind g) f h = failed h

module _ (N : ℕ → Sight → Type 0) where
  pub keyword_fails : (i : ℕ) (f : Fault) → Takes N any_name i (fails f) → Takes N a_keyword i (fails f)
  keyword_fails i f h = (h.0, h.1, no_keyword h.0 f h.2)

  pub keyword_taken : (i e : ℕ) (l : Label) (k : Keyword) → Takes N any_name i (got e l) → in_table keywords l.name ≡ some k → Takes N a_keyword i (got e k)
  keyword_taken i e l k h r = (sees l.place e (a_name l.name), name_seen N i e l h, ap (accepted l.place e) r)

  pub keyword_refused : (i e : ℕ) (l : Label) → Takes N any_name i (got e l) → in_table keywords l.name ≡ none → Takes N a_keyword i (fails (BadText l.place))
  keyword_refused i e l h r = (sees l.place e (a_name l.name), name_seen N i e l h, ap (accepted l.place e) r)

pub word_some : (q : Option Keyword) (o : Maybe Word) (w : Word) → o ≡ Some w → KeywordTold q o → q ≡ some (keyword_of w)
word_some none o w e h = absurd (subst (KeywordTold none) e h)
word_some (some k) o w e h = ap some (sym (subst (KeywordTold (some k)) e h))

pub word_none : (q : Option Keyword) (o : Maybe Word) → o ≡ None → KeywordTold q o → q ≡ none
word_none none o e h = refl
word_none (some k) o e h = absurd (subst (KeywordTold (some k)) e h)

-- ROWS

pub values_more : (D : Document) (d : Definition) → values_in (D ++ d ∷ []) ≡ values_in D ++ values_of d
values_more [] d = append-nil (values_of d)
values_more (e ∷ D) d = ap (λ x. values_of e ++ x) (values_more D d) ∙ sym (append_assoc (values_of e) (values_in D) (values_of d))

pub inputs_more : (D : Document) (d : Definition) → inputs_in (D ++ d ∷ []) ≡ inputs_in D ++ inputs_of d
inputs_more [] d = append-nil (inputs_of d)
inputs_more (e ∷ D) d = ap (λ x. inputs_of e ++ x) (inputs_more D d) ∙ sym (append_assoc (inputs_of e) (inputs_in D) (inputs_of d))

pub arguments_more : (D : Document) (d : Definition) → arguments_in (D ++ d ∷ []) ≡ arguments_in D ++ arguments_of d
arguments_more [] d = append-nil (arguments_of d)
arguments_more (e ∷ D) d = ap (λ x. arguments_of e ++ x) (arguments_more D d) ∙ sym (append_assoc (arguments_of e) (arguments_in D) (arguments_of d))

sum_more : {X : Type 0} (n : ℕ) (xs ys : List X) → (n + length xs) + length ys ≡ n + length (xs ++ ys)
sum_more n xs ys = omega (arith, length-append xs ys)

types_more : (v f : ℕ) (D : Document) (d : Definition) → type_rows_from v f (D ++ d ∷ []) ≡ type_rows_from v f D ++ type_row (v + length (values_in D)) (f + length (inputs_in D)) d
types_more v f [] d = append-nil (type_row v f d) ∙ ap (λ n. type_row n f d) (omega arith) ∙ ap (λ n. type_row (v + 0) n d) (omega arith)
types_more v f (e ∷ D) d =
    ap (λ x. type_row v f e ++ x) (types_more (v + length (values_of e)) (f + length (inputs_of e)) D d)
    ∙ sym (append_assoc (type_row v f e) (type_rows_from (v + length (values_of e)) (f + length (inputs_of e)) D) (type_row (v + length (values_of e) + length (values_in D)) (f + length (inputs_of e) + length (inputs_in D)) d))
    ∙ ap (λ n. type_rows_from v f (e ∷ D) ++ type_row n (f + length (inputs_of e) + length (inputs_in D)) d) (sum_more v (values_of e) (values_in D))
    ∙ ap (λ n. type_rows_from v f (e ∷ D) ++ type_row (v + length (values_in (e ∷ D))) n d) (sum_more f (inputs_of e) (inputs_in D))

directives_more : (a : ℕ) (D : Document) (d : Definition) → directive_rows_from a (D ++ d ∷ []) ≡ directive_rows_from a D ++ directive_row (a + length (arguments_in D)) d
directives_more a [] d = append-nil (directive_row a d) ∙ ap (λ n. directive_row n d) (omega arith)
directives_more a (e ∷ D) d =
    ap (λ x. directive_row a e ++ x) (directives_more (a + length (arguments_of e)) D d)
    ∙ sym (append_assoc (directive_row a e) (directive_rows_from (a + length (arguments_of e)) D) (directive_row (a + length (arguments_of e) + length (arguments_in D)) d))
    ∙ ap (λ n. directive_rows_from a (e ∷ D) ++ directive_row n d) (sum_more a (arguments_of e) (arguments_in D))

-- so many rows are as many definitions of the model
type_count : (v f : ℕ) (d : Definition) → length (type_row v f d) ≡ length (type_of d)
type_count v f (a_scalar l) = refl
type_count v f (an_enum l vs) = refl
type_count v f (an_input l ds) = refl
type_count v f (an_output l) = refl
type_count v f (a_directive l ds r ps) = refl

directive_count : (a : ℕ) (d : Definition) → length (directive_row a d) ≡ length (directive_of d)
directive_count a (a_scalar l) = refl
directive_count a (an_enum l vs) = refl
directive_count a (an_input l ds) = refl
directive_count a (an_output l) = refl
directive_count a (a_directive l ds r ps) = refl

-- ONE DEFINITION MORE

mapped : {A B : Type 0} (f : A → B) (xs ys : List A) (zs : List B) → map f ys ≡ map f xs ++ zs → length ys ≡ length xs + length zs
mapped f xs ys zs e = sym (length-map ys f) ∙ ap length e ∙ length-append (map f xs) zs ∙ ap (λ n. n + length zs) (length-map xs f)

pub counts_more : (old new : Schema) (d : Definition) → Added old new d → counted (counts old) d ≡ counts new
counts_more old new d a =
    let t : vec_len old.types + length (type_of d) ≡ vec_len new.types = omega (arith, mapped type_row_of (vec_items old.types) (vec_items new.types) _ a.types, type_count (vec_len old.values) (vec_len old.fields) d, old.types.ok.0, new.types.ok.0) in
    let v : vec_len old.values + length (values_of d) ≡ vec_len new.values = omega (arith, mapped label_of (vec_items old.values) (vec_items new.values) _ a.values, old.values.ok.0, new.values.ok.0) in
    let f : vec_len old.fields + length (inputs_of d) ≡ vec_len new.fields = omega (arith, appended_length _ _ _ _ a.fields, old.fields.ok.0, new.fields.ok.0) in
    let r : vec_len old.directives + length (directive_of d) ≡ vec_len new.directives = omega (arith, appended_length _ _ _ _ a.directives, directive_count (vec_len old.arguments) d, old.directives.ok.0, new.directives.ok.0) in
    let g : vec_len old.arguments + length (arguments_of d) ≡ vec_len new.arguments = omega (arith, appended_length _ _ _ _ a.arguments, old.arguments.ok.0, new.arguments.ok.0) in
    λ i. record { types = t i; values = v i; inputs = f i; directives = r i; arguments = g i }

fields_more : (T U : Table) (k : Keeps 0 T U) (old new : List Field) (ds es : List Declared) → Each (FieldHeld unknown T) old ds → Appended (FieldHeld unknown U) old new es → Each (FieldHeld unknown U) new (ds ++ es)
fields_more T U k old new ds es h a = subst (λ x. Each (FieldHeld unknown U) x (ds ++ es)) (sym a.added) (each_append (FieldHeld unknown U) old ds a.rows es (each_map (FieldHeld unknown T) (FieldHeld unknown U) (field_kept unknown T U k) old ds h) a.each)

pub held_more : (old new : Schema) (D : Document) (d : Definition) → HeldBy unknown old D → Added old new d → HeldBy unknown new (D ++ d ∷ [])
held_more old new D d h a =
    let v : vec_len old.values ≡ 0 + length (values_in D) = omega (arith, old.values.ok.0, length-map (vec_items old.values) label_of, ap length h.values) in
    let f : vec_len old.fields ≡ 0 + length (inputs_in D) = omega (arith, old.fields.ok.0, each_length _ _ _ h.fields) in
    let g : vec_len old.arguments ≡ 0 + length (arguments_in D) = omega (arith, old.arguments.ok.0, each_length _ _ _ h.arguments) in
    record {
      types = a.types ∙ ap (λ x. x ++ type_row (vec_len old.values) (vec_len old.fields) d) h.types ∙ ap (λ n. type_rows D ++ type_row n (vec_len old.fields) d) v ∙ ap (λ n. type_rows D ++ type_row (0 + length (values_in D)) n d) f ∙ sym (types_more 0 0 D d);
      values = a.values ∙ ap (λ x. x ++ values_of d) h.values ∙ sym (values_more D d);
      fields = subst (Each (FieldHeld unknown (tree_table new.tree)) (vec_items new.fields)) (sym (inputs_more D d)) (fields_more (tree_table old.tree) (tree_table new.tree) a.keeps _ _ _ _ h.fields a.fields);
      directives = subst (Each DirectiveHeld (vec_items new.directives)) (sym (directives_more 0 D d))
          (subst (λ x. Each DirectiveHeld x (directive_rows D ++ directive_row (0 + length (arguments_in D)) d)) (sym a.directives.added)
          (subst (λ n. Each DirectiveHeld (vec_items old.directives ++ a.directives.rows) (directive_rows D ++ directive_row n d)) g (each_append DirectiveHeld _ _ a.directives.rows _ h.directives a.directives.each)));
      arguments = subst (Each (FieldHeld unknown (tree_table new.tree)) (vec_items new.arguments)) (sym (arguments_more D d)) (fields_more (tree_table old.tree) (tree_table new.tree) a.keeps _ _ _ _ h.arguments a.arguments);
    }

-- THE WHOLE

pub long_text : (n : ℕ) → (n ≤ 65535 → ⊥) → 65535 < n
long_text n h = ⊎_elim (λ e. grind (arith, nat_tests)) (λ e. absurd (h (grind (arith, nat_tests)))) (cases_Bool (nat_lt 65535 n))

-- the name that the next definition begins with
pub record Keyed (N : ℕ → Sight → Type 0) (i j : ℕ) (l : Label) : Type 0 where
  pub sight : Sight
  pub seen : N i sight
  pub goes : shuts true ends sight ≡ false
  pub name : Takes N any_name i (got j l)

pub key_begun : (text : List ℕ) (t n : Tokens) (v : NameToken) (o : Maybe NameToken) → t.text.now ≡ text → o ≡ Some v → ItemTold ends true t n (Ok o) → Keyed (Sights Graphql text) t.at n.at (label_of v) × Onward 1 t n
key_begun text t n v o e p i =
    let j : Open ends true t × Read 1 (λ N. Takes N any_name) Labels t n v = subst (λ x. ItemTold ends true t n (Ok x)) p i in (
      record {
        sight = j.0.0;
        seen = subst (λ x. Sights Graphql x t.at j.0.0) e j.0.1;
        goes = j.0.2;
        name = subst (λ x. Takes (Sights Graphql x) any_name t.at (got n.at (label_of v))) e (subst (λ l. Takes (sights t) any_name t.at (got n.at l)) (sym j.1.means) j.1.reads);
      },
      j.1.onward,
    )

pub key_fails : (text : List ℕ) (t : Tokens) (f : Fault) → t.text.now ≡ text → Open ends true t × Takes (sights t) any_name t.at (fails f) → (v : Sight) × Sights Graphql text t.at v × (shuts true ends v ≡ false) × Takes (Sights Graphql text) a_keyword t.at (fails f)
key_fails text t f e j = (j.0.0, subst (λ x. Sights Graphql x t.at j.0.0) e j.0.1, j.0.2, keyword_fails (Sights Graphql text) t.at f (subst (λ x. Takes (Sights Graphql x) any_name t.at (fails f)) e j.1))

pub key_ended : (text : List ℕ) (t n : Tokens) (o : Maybe NameToken) → t.text.now ≡ text → o ≡ None → ItemTold ends true t n (Ok o) → (s : ℕ) × (x : Lexical) × Sights Graphql text t.at (sees s n.at x) × (true && ends x ≡ true)
key_ended text t n o e p i =
    let j : Closed ends true t n = subst (λ x. ItemTold ends true t n (Ok x)) p i in
    (j.start, j.token, subst (λ x. Sights Graphql x t.at (sees j.start n.at j.token)) e j.seen, j.closes)

-- no rows hold no definitions
pub held_none : (s : Schema) → vec_items s.types ≡ [] → vec_items s.values ≡ [] → vec_items s.fields ≡ [] → vec_items s.directives ≡ [] → vec_items s.arguments ≡ [] → HeldBy unknown s []
held_none s t v f d a = record {
  types = ap (map type_row_of) t;
  values = ap (map label_of) v;
  fields = subst (λ x. Each (FieldHeld unknown (tree_table s.tree)) x []) (sym f) tt;
  directives = subst (λ x. Each DirectiveHeld x []) (sym d) tt;
  arguments = subst (λ x. Each (FieldHeld unknown (tree_table s.tree)) x []) (sym a) tt;
}

pub short_text : (n : ℕ) → (65535 < n → ⊥) → n ≤ 65535
short_text n h = ⊎_elim (λ e. absurd (h (grind (arith, nat_tests)))) (λ e. grind (arith, nat_tests)) (cases_Bool (nat_lt 65535 n))

pub err_is : {T : Type 0} {f g : Fault} → ◌≡◌ {A = Result T Fault} (Err f) (Err g) → f ≡ g
err_is e = cc

pub ok_not : {T A : Type 0} {x : T} {g : Fault} → ◌≡◌ {A = Result T Fault} (Ok x) (Err g) → A
ok_not e = let z : ◌≡◌ {A = ℕ} 0 1 = cc in absurd (omega arith)

-- a definition after those before, whose keyword k was read from i to j
module _ (N : ℕ → Sight → Type 0) (i j : ℕ) (l : Label) (k : Keyword) (key : Keyed N i j l) (w : in_table keywords l.name ≡ some k) (c : Counts) (D : Document) (s : Sofar N ends counted (ReadsDefinition N) true nothing 0 true c i D) where
  pub define_fails : (f : Fault) → ReadsAfter N c k j (fails f) → ReadsOn N nothing 0 (fails f)
  define_fails f r = sofar_fails N ends counted (ReadsDefinition N) s key.sight f key.seen key.goes (got j k, keyword_taken N i j l k key.name w, r)

  pub define_step : (m : ℕ) (d : Definition) (b : Counts) → ReadsAfter N c k j (got m d) → counted c d ≡ b → Sofar N ends counted (ReadsDefinition N) true nothing 0 true b m (D ++ d ∷ [])
  define_step m d b r e = sofar_as N ends counted (ReadsDefinition N) (sofar_step N ends counted (ReadsDefinition N) s key.sight m d key.seen key.goes (got j k, keyword_taken N i j l k key.name w, r)) refl e refl

-- or none begins there
module _ (N : ℕ → Sight → Type 0) (i j : ℕ) (l : Label) (key : Keyed N i j l) (c : Counts) (D : Document) (s : Sofar N ends counted (ReadsDefinition N) true nothing 0 true c i D) where
  pub define_refused : in_table keywords l.name ≡ none → ReadsOn N nothing 0 (fails (BadText l.place))
  define_refused w = sofar_fails N ends counted (ReadsDefinition N) s key.sight (BadText l.place) key.seen key.goes (fails (BadText l.place), keyword_refused N i j l key.name w, refl)
