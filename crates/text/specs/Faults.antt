-- The refusals of a text.
use Rattle.std.specs.Prelude.{ℕ, Some, None, Option}
use Rattle.text.specs.declared.fault.Fault.{Fault}
use Rattle.text.specs.declared.fault.Fault.TheVariants.{BadText, TooDeep, NoSpace, RepeatedName, LongNumber, NoMemory}

-- the number of a refusal; want of memory is none, and has no number
abbrev pub number_of : Fault → Option ℕ
number_of (BadText k) = Some 1
number_of (TooDeep k) = Some 2
number_of (NoSpace k) = Some 3
number_of (RepeatedName k) = Some 4
number_of (LongNumber k) = Some 5
number_of NoMemory = None

-- where in the text the fault lies; 0 for want of memory
abbrev pub place_of : Fault → ℕ
place_of (BadText k) = k
place_of (TooDeep k) = k
place_of (NoSpace k) = k
place_of (RepeatedName k) = k
place_of (LongNumber k) = k
place_of NoMemory = 0
