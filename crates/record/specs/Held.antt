-- What working bytes hold.
use Rattle.std.specs.Prelude.{◌≡◌, ℕ, ◌+◌, ◌<◌, ◌≤◌, List, ◌++◌, length, take, Option}
use Rattle.std.specs.Borrow.{Bor}
use Rattle.record.specs.declared.body.Body.{Body}
use Rattle.record.specs.Records.{named, header, kind_of, opened}
use Rattle.record.specs.declared.working.Working.{Working}

-- the bytes that are written
abbrev pub written : Working → List ℕ
written w = take w.used w.bytes.now

-- how many bytes there are
abbrev pub size : Working → ℕ
size w = length w.bytes.now

-- the same bytes, as many as before, of which no fewer are written, and no more than there are
pub record Kept (v w : Working) : Type 0 where
  pub same : w.bytes.ghost_name ≡ v.bytes.ghost_name
  pub long : size w ≡ size v
  pub grown : v.used ≤ w.used
  pub inside : w.used ≤ size w

-- the bytes xs were written after what was written
pub record Wrote (v w : Working) (xs : List ℕ) : Type 0 where
  pub items : written w ≡ written v ++ xs
  pub used : w.used ≡ v.used + length xs
  pub same : w.bytes.ghost_name ≡ v.bytes.ghost_name
  pub long : size w ≡ size v

-- a record was opened: its name if there is one, its header and its body were written
pub record Begun (v w : Working) (name : Option (Bor (List ℕ))) (body : Body) (start : ℕ) : Type 0 where
  pub items : written w ≡ written v ++ (named name ++ (header (length (opened body)) (kind_of body) ++ opened body))
  pub at : start ≡ v.used + length (named name)
  pub used : w.used ≡ start + (6 + length (opened body))

-- a record was not opened, since there is no room for it
pub record NoRoom (v w : Working) (name : Option (Bor (List ℕ))) (body : Body) : Type 0 where
  pub full : size v < v.used + (length (named name) + (6 + length (opened body)))
  pub items : written w ≡ written v
  pub used : w.used ≡ v.used
