-- Which tree stands at a cursor of a sheet's bytes. A cursor is the offset where an item, or a member with its name, starts;
-- that of the whole tree is the number of the bytes, where no record starts.
use Rattle.std.specs.Prelude.{◌≡◌, ◌≢◌, ℕ, ◌+◌, ◌-◌, ◌≤◌, cond, List, length, ◌==◌, Some, None, Option}
use Rattle.model.specs.Values.{Name, Rec, Recs, Rmems, r_null, r_plain, r_list, r_object, r_nil, r_cons, r_end, r_mem, Raw, Raws, Mems, null, scalar, list, object, nil, cons, end, mem}
use Rattle.model.specs.Back.{as_scalar}
use Rattle.model.specs.Records.{kind, body, encode, encode_all, encode_mems}
use Rattle.model.specs.Limits.{RecLimits, RecLimitsAll, RecLimitsMems}
use Rattle.source.specs.declared.raw.Kind.{Kind}
use Rattle.source.specs.declared.raw.Kind.TheVariants.{Null, Boolean, Whole, Decimal, String, List as ListKind, Object}
use Rattle.source.specs.declared.raw.Span.{Span}
use Rattle.record.specs.Kinds.{number_of}
use Rattle.record.specs.declared.kind.RecordKind.{RecordKind}
use Rattle.stored.specs.declared.header.Record.{Record}
use Rattle.stored.specs.declared.stored.Target.{Target}
use Rattle.stored.specs.Frames.{past, Framed, Fills}
use Rattle.stored.specs.Past.{past_at}

-- a record as a raw value: p is its place, f is where its body starts
abbrev mutual
  pub shown : ℕ → ℕ → Rec → Raw
  shown p f r_null = null p
  shown p f (r_plain x) = scalar p (as_scalar x)
  shown p f (r_list rs) = list p (shown_all f rs)
  shown p f (r_object ms) = object p (shown_mems f ms)

  pub shown_all : ℕ → Recs → Raws
  shown_all i r_nil = nil
  shown_all i (r_cons r rs) = cons (shown i (i + 6) r) (shown_all (i + length (encode r)) rs)

  pub shown_mems : ℕ → Rmems → Mems
  shown_mems i r_end = end
  shown_mems i (r_mem n r ms) = mem n (shown (past i n) (past i n + 6) r) (shown_mems (past i n + length (encode r)) ms)

-- the cursor leads to a record: its place, where its body starts, and what it is
pub data Leads (bytes : List ℕ) (at : ℕ) : ℕ → ℕ → Rec → Type 0 where
  at_root : {ms : Rmems} → at ≡ length bytes → encode_mems ms ≡ bytes → Leads bytes at 0 0 (r_object ms)
  at_item : {r : Rec} → Framed bytes at (length bytes) (kind r) (body r) → Leads bytes at at (at + 6) r
  at_member : {n : Name} {p : ℕ} {r : Rec} → Framed bytes at (length bytes) 8 n → past at n ≡ p → Framed bytes p (length bytes) (kind r) (body r) → Leads bytes at p (p + 6) r

-- the tree at a cursor, the items and the members in a span: within the limits at some depth
pub record Held (bytes : List ℕ) (at : ℕ) (t : Raw) : Type 0 where
  pub place : ℕ
  pub from : ℕ
  pub value : Rec
  pub leads : Leads bytes at place from value
  pub shows : shown place from value ≡ t
  pub depth : ℕ
  pub within : RecLimits depth value
  pub short : length bytes ≤ 65536

pub record HeldAll (bytes : List ℕ) (s : Span) (xs : Raws) : Type 0 where
  pub values : Recs
  pub fills : Fills bytes s.from s.to (encode_all values)
  pub shows : shown_all s.from values ≡ xs
  pub depth : ℕ
  pub within : RecLimitsAll depth values
  pub short : length bytes ≤ 65536

pub record HeldMems (bytes : List ℕ) (s : Span) (ms : Mems) : Type 0 where
  pub values : Rmems
  pub fills : Fills bytes s.from s.to (encode_mems values)
  pub shows : shown_mems s.from values ≡ ms
  pub depth : ℕ
  pub within : RecLimitsMems depth values
  pub short : length bytes ≤ 65536

-- a member of that name starts at the cursor
abbrev pub Named : List ℕ → ℕ → Name → Type 0
Named bytes at n = Framed bytes at (length bytes) 8 n

-- what the cursor's record is found to be
pub record Points (bytes : List ℕ) (p f : ℕ) (r : Rec) (h : Target) : Type 0 where
  pub place : h.place ≡ p
  pub kinds : number_of h.kind ≡ kind r
  pub from : h.from ≡ f
  pub bodies : h.body.now ≡ body r
  pub there : Fills bytes f (f + length (body r)) (body r)

-- a record lies within the bytes, and past the cursor where its value ends there is room for all in it;
-- whichever record the cursor leads to, it is that
pub record Follows (bytes : List ℕ) (at : ℕ) (h : Target) : Type 0 where
  pub lies : h.from + length h.body.now ≤ length bytes
  pub narrow : length h.body.now ≤ past_at bytes at - at - 1
  pub points : (p f : ℕ) (x : Rec) → Leads bytes at p f x → Points bytes p f x h

-- the record that the cursor leads to, or that there is none
abbrev pub FollowTold : List ℕ → ℕ → Option Target → Type 0
FollowTold bytes at None = (p f : ℕ) (x : Rec) → Leads bytes at p f x → ⊥
FollowTold bytes at (Some h) = Follows bytes at h

-- the target of the record that was found at a place
pub record TargetOf (at : ℕ) (found : Record) (h : Target) : Type 0 where
  pub place : h.place ≡ at
  pub kinds : number_of h.kind ≡ found.kind
  pub from : h.from ≡ found.from
  pub body : h.body.now ≡ found.body.now

-- that record, or that no kind has its number
abbrev pub TargetTold : ℕ → Record → Option Target → Type 0
TargetTold at found None = (q : RecordKind) → number_of q ≢ found.kind
TargetTold at found (Some h) = TargetOf at found h

-- the kind of a raw value, by the number of a record's
abbrev pub kind_numbered : ℕ → Kind
kind_numbered k = cond (k == 2) Boolean (cond (k == 3) Whole (cond (k == 4) Decimal (cond (k == 5) String (cond (k == 6) ListKind (cond (k == 7) Object Null)))))

-- P of every raw value that a record within the limits shows, by its kind and body
abbrev pub OfRecord : (Raw → Type 0) → ℕ → List ℕ → Type 0
OfRecord P k b = (p f d : ℕ) (x : Rec) → kind x ≡ k → body x ≡ b → RecLimits d x → P (shown p f x)
