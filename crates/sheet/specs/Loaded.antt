-- What a load does to a sheet.
use Rattle.std.specs.Prelude.{◌≡◌, ℕ, replicate, vec_len, Result, IsSome, IfOk, OnErr}
use Rattle.sheet.specs.Loads.{Replaced, taken}
use Rattle.sheet.specs.declared.held.Sheet.{Sheet}
use Rattle.sheet.specs.declared.fault.RequestFault.{RequestFault}

-- the working bytes are zero; refused, the sheet is as it was, and accepted, as many bytes count as the load tells
pub record Loaded {R : Type 0} (old new : Sheet R) (result : Result ℕ RequestFault) : Type 0 where
  pub cleared : new.working.items ≡ replicate (vec_len old.working) 0
  pub refused : OnErr result ((new.bytes.items ≡ old.bytes.items) × (new.contents ≡ old.contents))
  pub accepted : IfOk result (λ n. IsSome new.contents × (taken new.contents ≡ n) × Replaced new.bytes.items n)
