-- What the functions that read a schema promise.
use Rattle.std.specs.Prelude.{◌≡◌, ℕ, ◌&&◌, Bool, true, false, Some, None, Option, List, [], ◌∷◌, ◌++◌, length, map, Ok, Err, Result, vec_items, vec_len}
use mathlib.Core.Option.{none, some}
use Rattle.model.specs.Values as M
use Rattle.text.specs.declared.fault.Fault.{Fault}
use Rattle.text.specs.TokenGrammar.{Lexical}
use Rattle.reader.specs.Tokens.{Sight, sees}
use Rattle.reader.specs.Reading.{got, fails}
use Rattle.reader.specs.Told.{Blames}
use Rattle.source.specs.declared.raw.Span.{Span}
use Rattle.source.specs.Table.{Table, tree_table, Keeps}
use Rattle.schema.specs.declared.definition.TypeKind.{TypeKind}
use Rattle.schema.specs.declared.definition.TypeKind.TheVariants.{Scalar, Enum, Input, Output}
use Rattle.schema.specs.declared.document.Keyword.{Keyword as Word}
use Rattle.schema.specs.declared.document.Keyword.TheVariants.{«Type», Directive}
use Rattle.schema.specs.declared.definition.Field.{Field}
use Rattle.schema.specs.declared.definition.Schema.{Schema}
use Rattle.schema.specs.declared.tokens.Name.{Name}
use Rattle.schema.specs.declared.tokens.Tokens.{Tokens}
use Rattle.schema.specs.Outcomes.{Takes, any_name, shuts}
use Rattle.schema.specs.Reading.{Onward}
use Rattle.schema.specs.Told.{Read, Labels, sights}
use Rattle.schema.specs.declared.types.Base.{Base}
use Rattle.schema.specs.declared.types.Base.TheVariants.{Unknown}
use Rattle.schema.specs.Documents.{Label, Declared, Definition, Document}
use Rattle.schema.specs.SchemaReading.{values_of, inputs_of, arguments_of, Counts, Sort, s_scalar, s_enum, s_input, s_output, Keyword, k_type, k_directive, ReadsSchema}
use Rattle.schema.specs.Rows.{span, type_row, directive_row}
use Rattle.schema.specs.Holds.{Each, label_of, type_row_of, DirectiveHeld, FieldHeld, Holds}

-- rows for the things zs were added to the rows
pub record Appended {A B : Type 0} (R : A → B → Type 0) (old new : List A) (zs : List B) : Type 0 where
  pub rows : List A
  pub added : new ≡ old ++ rows
  pub each : Each R rows zs

-- until all types are read, the name of a type stands for nothing
abbrev pub unknown : M.Name → Base
unknown n = Unknown

-- what is seen next does not close the list
abbrev pub Open : (Lexical → Bool) → Bool → Tokens → Type 0
Open close may t = (v : Sight) × sights t t.at v × (shuts may close v ≡ false)

-- the list was closed
pub record Closed (close : Lexical → Bool) (may : Bool) (old new : Tokens) : Type 0 where
  pub start : ℕ
  pub token : Lexical
  pub seen : sights old old.at (sees start new.at token)
  pub closes : may && close token ≡ true
  pub onward : Onward 0 old new

-- the name that the next item of a list begins with, or the list's end
abbrev pub ItemTold : (Lexical → Bool) → Bool → Tokens → Tokens → Result (Option Name) Fault → Type 0
ItemTold close may old new (Ok (Some n)) = Open close may old × Read 1 (λ N. Takes N any_name) Labels old new n
ItemTold close may old new (Ok None) = Closed close may old new
ItemTold close may old new (Err f) = Blames f (λ g. Open close may old × Takes (sights old) any_name old.at (fails g))

-- the values of an enum were added, and this is where they stand
pub record ValuesAdded (old new : List Name) (s : Span) (ls : List Label) : Type 0 where
  pub values : map label_of new ≡ map label_of old ++ ls
  pub inside : s ≡ span (length old) (length ls)

-- fields or arguments were added, and this is where they stand
pub record FieldsAdded (T U : Table) (old new : List Field) (s : Span) (ds : List Declared) : Type 0 where
  pub fields : Appended (FieldHeld unknown U) old new ds
  pub inside : s ≡ span (length old) (length ds)
  pub keeps : Keeps 0 T U

abbrev pub sort_of : TypeKind → Sort
sort_of Scalar = s_scalar
sort_of Enum = s_enum
sort_of Input = s_input
sort_of Output = s_output

abbrev pub keyword_of : Word → Keyword
keyword_of («Type» k) = k_type (sort_of k)
keyword_of Directive = k_directive

-- what a name begins a definition of, or that it begins none
abbrev pub KeywordTold : mathlib.Core.Option.Option Keyword → Option Word → Type 0
KeywordTold none None = Unit {0}
KeywordTold none (Some w) = ⊥
KeywordTold (some k) None = ⊥
KeywordTold (some k) (Some w) = keyword_of w ≡ k

-- how much the tables hold
abbrev pub counts : Schema → Counts
counts s = record { types = vec_len s.types; values = vec_len s.values; inputs = vec_len s.fields; directives = vec_len s.directives; arguments = vec_len s.arguments }

-- all rows that a definition makes were added, but for that of its type, which is to have this kind and span
pub record ContentsAdded (old new : Schema) (l : Label) (k : TypeKind) (s : Span) (d : Definition) : Type 0 where
  pub row : type_row (vec_len old.values) (vec_len old.fields) d ≡ record { label = l; kind = k; inside = s } ∷ []
  pub types : new.types ≡ old.types
  pub values : map label_of (vec_items new.values) ≡ map label_of (vec_items old.values) ++ values_of d
  pub fields : Appended (FieldHeld unknown (tree_table new.tree)) (vec_items old.fields) (vec_items new.fields) (inputs_of d)
  pub directives : new.directives ≡ old.directives
  pub arguments : new.arguments ≡ old.arguments
  pub no_directive : directive_row (vec_len old.arguments) d ≡ []
  pub no_arguments : arguments_of d ≡ []
  pub keeps : Keeps 0 (tree_table old.tree) (tree_table new.tree)

-- all rows that a definition makes were added
pub record Added (old new : Schema) (d : Definition) : Type 0 where
  pub types : map type_row_of (vec_items new.types) ≡ map type_row_of (vec_items old.types) ++ type_row (vec_len old.values) (vec_len old.fields) d
  pub values : map label_of (vec_items new.values) ≡ map label_of (vec_items old.values) ++ values_of d
  pub fields : Appended (FieldHeld unknown (tree_table new.tree)) (vec_items old.fields) (vec_items new.fields) (inputs_of d)
  pub directives : Appended DirectiveHeld (vec_items old.directives) (vec_items new.directives) (directive_row (vec_len old.arguments) d)
  pub arguments : Appended (FieldHeld unknown (tree_table new.tree)) (vec_items old.arguments) (vec_items new.arguments) (arguments_of d)
  pub keeps : Keeps 0 (tree_table old.tree) (tree_table new.tree)

-- what reading a whole text comes to
abbrev pub SchemaTold : List ℕ → Result Schema Fault → Type 0
SchemaTold text (Ok s) = (e : ℕ) × (D : Document) × ReadsSchema text (got e D) × Holds s D
SchemaTold text (Err f) = Blames f (λ g. ReadsSchema text (fails g))
