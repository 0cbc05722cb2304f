-- What a load does to the bytes of a sheet.
use Rattle.std.specs.Prelude.{◌≡◌, ℕ, ◌-◌, ◌≤◌, List, length, drop, replicate, Option, Some, None}
use Rattle.sheet.specs.declared.held.Contents.{Contents}

-- the first n bytes count, and all others are zero
pub record Replaced (bytes : List ℕ) (n : ℕ) : Type 0 where
  pub inside : n ≤ length bytes
  pub past : drop n bytes ≡ replicate (length bytes - n) 0

-- how many bytes count; before the first load that is accepted, none
abbrev pub taken : Option Contents → ℕ
taken None = 0
taken (Some c) = c.length
