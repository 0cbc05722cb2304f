use Rattle.std.proofs.Common.{◌≡◌, ◌<◌, take}
use Rattle.text.specs.NumberWorth.{value}
use Rattle.text.proofs.decimal.size.Given as goal

abbrev pub invariant-loop-b : goal.invariant-loop-b
invariant-loop-b l = (l.value < 1000000) × (l.value ≡ value (take l.b-index l.digits))
