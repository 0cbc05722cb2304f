-- What `?` hands on.
use Rattle.std.proofs.Common.{◌≡◌, Ok, Err, Result, ap}
use Rattle.std.specs.Result.{IsErrAnd}

-- the exit of a `?` is the error that its conversion gives
pub handed_on : {T E : Type 0} {f : E} {r : Result T E} → IsErrAnd r (λ e. e ≡ f) → r ≡ Err f
handed_on {r = Ok x} h = absurd h
handed_on {r = Err e} h = ap (λ y. Err y) h
