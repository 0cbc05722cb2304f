-- What the functions that read records promise.
use Rattle.std.specs.Prelude.{◌≡◌, ℕ, ◌<◌, ◌≤◌, List, [], Ok, Err, Result}
use Rattle.text.specs.declared.fault.Fault.{Fault}
use Rattle.text.specs.declared.fault.Fault.TheVariants.{BadText, TooDeep, NoSpace, RepeatedName, LongNumber, NoMemory}
use Rattle.model.specs.Values.{Name, Rec, Recs, Rmems}
use Rattle.names.specs.Index.{Added, names_from}
use Rattle.stored.specs.declared.reading.Reader.{Reader}
use Rattle.stored.specs.declared.header.Record.{Record}
use Rattle.stored.specs.declared.content.Content.{Content}
use Rattle.stored.specs.Frames.{past, RecordAt}
use Rattle.stored.specs.Contents.{ContentTold}
use Rattle.stored.specs.Outcomes.{got, fails, NameAt, Reads, ReadsItems, ReadsMembers}

-- P of a fault; nothing is said of want of memory
abbrev pub Blames : Fault → (Fault → Type 0) → Type 0
Blames (BadText k) P = P (BadText k)
Blames (TooDeep k) P = P (TooDeep k)
Blames (NoSpace k) P = P (NoSpace k)
Blames (RepeatedName k) P = P (RepeatedName k)
Blames (LongNumber k) P = P (LongNumber k)
Blames NoMemory P = Unit {0}

-- a record with that content stands at i
abbrev pub Holds : List ℕ → ℕ → ℕ → Record → Content → Type 0
Holds bytes i to h x = RecordAt bytes i to h × ContentTold h.kind h.body.now (Ok x)

-- the record at i, and what it holds; where that is refused, so is the value, however many levels are left
abbrev pub HoldsTold : List ℕ → ℕ → ℕ → Result (Record × Content) Fault → Type 0
HoldsTold bytes i to (Ok p) = Holds bytes i to p.0 p.1
HoldsTold bytes i to (Err f) = (d : ℕ) → Reads bytes d i to (fails f)

-- a value is read from i to e
pub record ValueAt (bytes : List ℕ) (d i to e : ℕ) : Type 0 where
  pub value : Rec
  pub reads : Reads bytes d i to (got e value)
  pub forward : i < e
  pub within : e ≤ to

-- w has the bytes of v, and no other names noted
pub record Same (v w : Reader) : Type 0 where
  pub bytes : w.bytes ≡ v.bytes
  pub names : w.names.links.items ≡ v.names.links.items

-- v reads the value at i, and is w then
abbrev pub ValueTold : Reader → ℕ → ℕ → ℕ → Reader → Result ℕ Fault → Type 0
ValueTold v d i to w (Ok e) = ValueAt v.bytes.now d i to e × Same v w
ValueTold v d i to w (Err f) = Blames f (λ g. Reads v.bytes.now d i to (fails g))

-- the items from i to `to`
abbrev pub ItemsTold : Reader → ℕ → ℕ → ℕ → Reader → Result Unit Fault → Type 0
ItemsTold v d i to w (Ok u) = ((rs : Recs) × ReadsItems v.bytes.now d i to (got to rs)) × Same v w
ItemsTold v d i to w (Err f) = Blames f (λ g. ReadsItems v.bytes.now d i to (fails g))

-- the members from i to `to`
abbrev pub MembersTold : Reader → ℕ → ℕ → ℕ → Reader → Result Unit Fault → Type 0
MembersTold v d i to w (Ok u) = ((ms : Rmems) × ReadsMembers v.bytes.now d [] i to (got to ms)) × Same v w
MembersTold v d i to w (Err f) = Blames f (λ g. ReadsMembers v.bytes.now d [] i to (fails g))

-- a member's name is read from i to e, new after those from base on, and noted
pub record NewName (v : Reader) (i to base e : ℕ) (w : Reader) : Type 0 where
  pub name : Name
  pub stands : NameAt v.bytes.now i to name
  pub ends : past i name ≡ e
  pub within : e ≤ to
  pub added : Added v.bytes.now [] base v.names.links.items w.names.links.items name
  pub same : w.bytes ≡ v.bytes

-- the name of the member at i; where it is refused, the members are, at whatever depth
abbrev pub NameTold : Reader → ℕ → ℕ → ℕ → Reader → Result ℕ Fault → Type 0
NameTold v i to base w (Ok e) = NewName v i to base e w
NameTold v i to base w (Err f) = Blames f (λ g. (d : ℕ) → i < to → ReadsMembers v.bytes.now d (names_from v.bytes.now [] v.names.links.items base) i to (fails g))
