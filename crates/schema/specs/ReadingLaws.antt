-- The laws of the readings of types, declarations and operations.
use Rattle.std.specs.Prelude.{◌≡◌, ℕ, ◌-◌, ◌≤◌, Bool, false, not, List, [], ◌∷◌, length, get_or, nat_lt, vec_items}
use Rattle.std.proofs.Math.Option.{Option, none, some}
use Rattle.model.specs.Values.{Name, Raw, Argument, Use, nullable}
use Rattle.text.specs.declared.language.Language.TheVariants.{Graphql}
use Rattle.text.specs.TokenGrammar.{Mark, bang, Lexical, a_name}
use Rattle.reader.specs.Tokens.{Sights, TokenIs}
use Rattle.reader.specs.Reading.{Out, got, is_mark, Bounded}
use Rattle.schema.specs.Declarations.{DeclaredAt, ReadsDeclared}
use Rattle.schema.specs.Documents.{Label, Typed, Declared, VariableDefinition, OperationDocument}
use Rattle.schema.specs.Holds.{Each}
use Rattle.schema.specs.HoldsOperation.{UseHeld, HoldsOperation}
use Rattle.schema.specs.declared.operation.Operation.{Operation as OperationIn}
use Rattle.schema.specs.declared.types.Base.{Base}
use Rattle.source.specs.Table.{tree_table}
use Rattle.schema.specs.Laws.{Once}
use Rattle.schema.specs.OperationGrammar.{OperationAt}
use Rattle.schema.specs.OperationReading.{ReadsOperation}
use Rattle.schema.specs.Types.{ty_from, is_list_type, item_of, levels_of, TypeAt, ReadsType}

-- each has one outcome
pub record OneOutcome : Type 0 where
  pub type : (d : ℕ) → Once (λ N. ReadsType N d)
  pub declared : (l : Label) → Once (λ N. ReadsDeclared N l)
  pub operation : (text : List ℕ) (o p : Out OperationDocument) → ReadsOperation text o → ReadsOperation text p → o ≡ p

-- P of each
abbrev pub AllOf : {X : Type 0} → (X → Type 0) → List X → Type 0
AllOf P [] = Unit {0}
AllOf P (x ∷ xs) = P x × AllOf P xs

-- eight list levels at most, and a literal within the limits at depth 1
abbrev pub DefaultWithin : Option Raw → Type 0
DefaultWithin none = Unit {0}
DefaultWithin (some t) = Bounded false 1 t

abbrev pub DeclaredWithin : Declared → Type 0
DeclaredWithin d = (levels_of d.typed.ty ≤ 8) × DefaultWithin d.dflt

abbrev pub VariableWithin : VariableDefinition → Type 0
VariableWithin v = DeclaredWithin v.declared

abbrev pub ArgumentWithin : Argument → Type 0
ArgumentWithin a = Bounded false 1 a.value

abbrev pub UseWithin : Use → Type 0
UseWithin u = AllOf ArgumentWithin u.arguments

-- and 64 variables at most
pub record OperationWithin (D : OperationDocument) : Type 0 where
  pub count : length D.variables ≤ 64
  pub variables : AllOf VariableWithin D.variables
  pub uses : AllOf UseWithin D.uses

-- a token stands next that is no mark m
pub record Unlike (T : ℕ → ℕ → ℕ → Lexical → Type 0) (m : Mark) (j : ℕ) : Type 0 where
  pub start : ℕ
  pub end : ℕ
  pub token : Lexical
  pub stands : T j start end token
  pub other : is_mark m token ≡ false

-- what is got is what the grammar has, within the limits; of a type, where no `!` follows
pub record AsWritten : Type 0 where
  pub type_read : (text : List ℕ) (d i j : ℕ) (t : Typed) (o : Out Typed) → TypeAt (TokenIs Graphql text) i j t → levels_of t.ty ≤ d → Unlike (TokenIs Graphql text) bang j → ReadsType (Sights Graphql text) d i o → o ≡ got j t
  pub type : (text : List ℕ) (d i j : ℕ) (t : Typed) → ReadsType (Sights Graphql text) d i (got j t) → TypeAt (TokenIs Graphql text) i j t × (levels_of t.ty ≤ d)
  pub declared : (text : List ℕ) (i e j : ℕ) (l : Label) (d : Declared) → TokenIs Graphql text i l.place e (a_name l.name) → ReadsDeclared (Sights Graphql text) l e (got j d) → DeclaredAt (TokenIs Graphql text) i j d × DeclaredWithin d
  pub operation : (text : List ℕ) (e : ℕ) (D : OperationDocument) → ReadsOperation text (got e D) → (length text ≤ 65535) × OperationAt (TokenIs Graphql text) e D × OperationWithin D
  pub operation_read : (text : List ℕ) (e : ℕ) (D : OperationDocument) (o : Out OperationDocument) → length text ≤ 65535 → OperationAt (TokenIs Graphql text) e D → OperationWithin D → ReadsOperation text o → o ≡ got e D

-- what the program asks of a type's marks is what its type says
pub record Shapes : Type 0 where
  pub list : (marks : List Bool) (w : Name) (k : ℕ) → nat_lt 0 k ≡ is_list_type (ty_from marks w k)
  pub null : (marks : List Bool) (w : Name) (k : ℕ) → not (get_or marks k false) ≡ nullable (ty_from marks w k)
  pub item : (marks : List Bool) (w : Name) (k : ℕ) → ty_from marks w (k - 1) ≡ item_of (ty_from marks w k)

-- the tables of an operation hold each use with its own arguments
pub record Uses : Type 0 where
  pub each : (B : Name → Base) (o : OperationIn) (D : OperationDocument) → HoldsOperation B o D → Each (UseHeld (tree_table o.tree) (vec_items o.arguments)) (vec_items o.uses) D.uses
