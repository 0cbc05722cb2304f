-- A text that is one value.
use Rattle.std.specs.Prelude.{◌≡◌, ℕ, ◌<◌, ◌≤◌, Bool, true, List, length, Ok, Err, Result}
use Rattle.model.specs.Values.{Raw}
use Rattle.model.specs.Limits.{RawLimits}
use Rattle.text.specs.declared.fault.Fault.{Fault}
use Rattle.text.specs.declared.fault.Fault.TheVariants.{BadText}
use Rattle.text.specs.declared.language.Language.{Language}
use Rattle.source.specs.declared.tree.Tree.{Tree}
use Rattle.source.specs.Table.{Table, tree_table, Stands, Held}
use Rattle.reader.specs.declared.reading.Reader.{Reader}
use Rattle.reader.specs.Manner.{Manner}
use Rattle.reader.specs.Tokens.{TokenIs, Sights}
use Rattle.reader.specs.Grammar.{Text}
use Rattle.reader.specs.Reading.{Out, got, fails, ReadsAll}
use Rattle.reader.specs.Told.{Blames, manner_of}

-- the text is at most 65,535 bytes long, and all of it is the value t, within the limits
pub record Writes (language : Language) (text : List ℕ) (t : Raw) : Type 0 where
  pub short : length text ≤ 65535
  pub text_of : Text (TokenIs language text) language t
  pub within : RawLimits 0 t

-- the first fault of a text from its front: its length, else what reading it comes to
pub data FirstFault (language : Language) (text : List ℕ) : Fault → Type 0 where
  too_long : {f : Fault} → 65535 < length text → f ≡ BadText 0 → FirstFault language text f
  reading : {f : Fault} → length text ≤ 65535 → ReadsAll (Sights language text) language true 33 (fails f) → FirstFault language text f

-- the value that the text writes, and no other, stands at the first node of the table
pub record Readable (language : Language) (text : List ℕ) (T : Table) : Type 0 where
  pub tree : Raw
  pub writes : Writes language text tree
  pub only : (u : Raw) → Writes language text u → u ≡ tree
  pub stands : Held T 0 tree

-- the text writes no value within the limits, and this is its first fault
pub record Unreadable (language : Language) (text : List ℕ) (f : Fault) : Type 0 where
  pub first : FirstFault language text f
  pub none : (u : Raw) → Writes language text u → ⊥

-- what reading all of a text comes to
abbrev pub Document : Language → List ℕ → Result Table Fault → Type 0
Document language text (Ok T) = Readable language text T
Document language text (Err f) = Blames f (Unreadable language text)

-- the same before the limits are told
pub record ReadWhole (m : Manner) (text : List ℕ) (T : Table) : Type 0 where
  pub tree : Raw
  pub end : ℕ
  pub short : length text ≤ 65535
  pub reads : ReadsAll (Sights m.language text) m.language m.distinct 33 (got end tree)
  pub stands : Stands T 0 tree

pub data FaultWhole (m : Manner) (text : List ℕ) : Fault → Type 0 where
  whole_long : {f : Fault} → 65535 < length text → f ≡ BadText 0 → FaultWhole m text f
  whole_read : {f : Fault} → length text ≤ 65535 → ReadsAll (Sights m.language text) m.language m.distinct 33 (fails f) → FaultWhole m text f

abbrev pub WholeTold : {W : Type 0} → Language → Reader W → Result Tree Fault → Type 0
WholeTold language r (Ok t) = ReadWhole (manner_of language r) r.text.now (tree_table t)
WholeTold language r (Err f) = Blames f (FaultWhole (manner_of language r) r.text.now)

-- the table behind a result
abbrev pub table_in : {X : Type 0} → (X → Table) → Result X Fault → Result Table Fault
table_in f (Ok x) = Ok (f x)
table_in f (Err e) = Err e

-- reading has one outcome, and each text one first fault at most, which no text has that writes a value within the limits;
-- that text writes no other value, and reading it comes to that value
pub record OneReading : Type 0 where
  pub outcome : (language : Language) (text : List ℕ) (distinct : Bool) (d : ℕ) (o p : Out Raw) → ReadsAll (Sights language text) language distinct d o → ReadsAll (Sights language text) language distinct d p → o ≡ p
  pub fault : (language : Language) (text : List ℕ) (f g : Fault) → FirstFault language text f → FirstFault language text g → f ≡ g
  pub clean : (language : Language) (text : List ℕ) (t : Raw) (f : Fault) → Writes language text t → FirstFault language text f → ⊥
  pub value : (language : Language) (text : List ℕ) (t u : Raw) → Writes language text t → Writes language text u → t ≡ u
  pub read : (language : Language) (text : List ℕ) (t : Raw) → Writes language text t → (e : ℕ) × ReadsAll (Sights language text) language true 33 (got e t)
