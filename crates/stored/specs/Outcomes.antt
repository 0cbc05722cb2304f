-- What reading the records of a sheet's bytes comes to: values, or the fault that comes first.
use Rattle.std.specs.Prelude.{◌≡◌, ℕ, ◌+◌, ◌-◌, ◌<◌, ◌≤◌, true, false, List, [], ◌∷◌, ◌++◌, length}
use Rattle.text.specs.declared.fault.Fault.{Fault}
use Rattle.text.specs.declared.fault.Fault.TheVariants.{BadText, TooDeep, RepeatedName, LongNumber}
use Rattle.model.specs.Values.{Name, Rec, Recs, Rmems, r_list, r_object, r_nil, r_cons, r_end, r_mem, has}
use Rattle.model.specs.Limits.{NameLimits}
use Rattle.stored.specs.Frames.{past, Framed, Unframed}
use Rattle.stored.specs.Contents.{IsLeaf, Long, Senseless, Sensible}

-- an X that ends at a place, or a fault
pub data Out (X : Type 0) : Type 0 where
  got : ℕ → X → Out X
  fails : Fault → Out X

abbrev pub as_list : Out Recs → Out Rec
as_list (got e rs) = got e (r_list rs)
as_list (fails f) = fails f

abbrev pub as_object : Out Rmems → Out Rec
as_object (got e ms) = got e (r_object ms)
as_object (fails f) = fails f

abbrev pub ahead : Rec → Out Recs → Out Recs
ahead r (got e rs) = got e (r_cons r rs)
ahead r (fails f) = fails f

abbrev pub ahead_member : Name → Rec → Out Rmems → Out Rmems
ahead_member n r (got e ms) = got e (r_mem n r ms)
ahead_member n r (fails f) = fails f

-- the record of a member's name stands at i
pub record NameAt (bytes : List ℕ) (i to : ℕ) (n : Name) : Type 0 where
  pub framed : Framed bytes i to 8 n
  pub within : NameLimits n

abbrev pub Unnamed : List ℕ → ℕ → ℕ → Type 0
Unnamed bytes i to = (n : Name) → NameAt bytes i to n → ⊥

mutual
  -- the value whose record stands at i and ends no later than `to`, with d levels left for it and what is inside it.
  -- In this order: no record fits there, its body is not what its kind wants or its kind is none, its number is too long,
  -- it is too deep, what is inside it
  pub data Reads (bytes : List ℕ) : ℕ → ℕ → ℕ → Out Rec → Type 0 where
    r_none : {d i to : ℕ} → Unframed bytes i to → Reads bytes d i to (fails (BadText i))
    r_bad : {d i to k : ℕ} {b : List ℕ} → Framed bytes i to k b → Senseless k b → Reads bytes d i to (fails (BadText i))
    r_long : {d i to k : ℕ} {b : List ℕ} → Framed bytes i to k b → Long k b → Reads bytes d i to (fails (LongNumber i))
    r_deep : {d i to k : ℕ} {b : List ℕ} → Framed bytes i to k b → Sensible k b → d ≡ 0 → Reads bytes d i to (fails (TooDeep i))
    r_leaf : {d i to k e : ℕ} {b : List ℕ} {r : Rec} → Framed bytes i to k b → IsLeaf k b r → 0 < d → past i b ≡ e → Reads bytes d i to (got e r)
    r_items : {d i to e : ℕ} {b : List ℕ} {q : Out Recs} {o : Out Rec} → Framed bytes i to 6 b → 0 < d → past i b ≡ e → ReadsItems bytes (d - 1) (i + 6) e q → as_list q ≡ o → Reads bytes d i to o
    r_members : {d i to e : ℕ} {b : List ℕ} {q : Out Rmems} {o : Out Rec} → Framed bytes i to 7 b → 0 < d → past i b ≡ e → ReadsMembers bytes (d - 1) [] (i + 6) e q → as_object q ≡ o → Reads bytes d i to o

  -- the items from i to `to`
  pub data ReadsItems (bytes : List ℕ) : ℕ → ℕ → ℕ → Out Recs → Type 0 where
    i_end : {d i to : ℕ} → i ≡ to → ReadsItems bytes d i to (got to r_nil)
    i_fails : {d i to : ℕ} {f : Fault} → i < to → Reads bytes d i to (fails f) → ReadsItems bytes d i to (fails f)
    i_more : {d i to e : ℕ} {r : Rec} {q o : Out Recs} → i < to → Reads bytes d i to (got e r) → ReadsItems bytes d e to q → ahead r q ≡ o → ReadsItems bytes d i to o

  -- the members from i to `to`, after members with the names ns: a name, none of those before it, and a value
  pub data ReadsMembers (bytes : List ℕ) : ℕ → List Name → ℕ → ℕ → Out Rmems → Type 0 where
    m_end : {d i to : ℕ} {ns : List Name} → i ≡ to → ReadsMembers bytes d ns i to (got to r_end)
    m_unnamed : {d i to : ℕ} {ns : List Name} → i < to → Unnamed bytes i to → ReadsMembers bytes d ns i to (fails (BadText i))
    m_repeated : {d i to : ℕ} {ns : List Name} {n : Name} → i < to → NameAt bytes i to n → has ns n ≡ true → ReadsMembers bytes d ns i to (fails (RepeatedName i))
    m_fails : {d i to c : ℕ} {ns : List Name} {n : Name} {f : Fault} → i < to → NameAt bytes i to n → has ns n ≡ false → past i n ≡ c → Reads bytes d c to (fails f) → ReadsMembers bytes d ns i to (fails f)
    m_more : {d i to c e : ℕ} {ns : List Name} {n : Name} {r : Rec} {q o : Out Rmems} → i < to → NameAt bytes i to n → has ns n ≡ false → past i n ≡ c → Reads bytes d c to (got e r) → ReadsMembers bytes d (ns ++ n ∷ []) e to q → ahead_member n r q ≡ o → ReadsMembers bytes d ns i to o

-- what all of the bytes come to: at most 65,536, they are the members of an object at depth 0
pub data ReadsSheet (bytes : List ℕ) : Out Rmems → Type 0 where
  all_long : 65536 < length bytes → ReadsSheet bytes (fails (BadText 0))
  all_members : {o : Out Rmems} → length bytes ≤ 65536 → ReadsMembers bytes 32 [] 0 (length bytes) o → ReadsSheet bytes o
