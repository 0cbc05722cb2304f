-- The kinds of records, and their numbers.
use Rattle.std.specs.Prelude.{◌≡◌, ℕ, Result, MatchResult, ◌≢◌}
use Rattle.record.specs.declared.kind.RecordKind.{RecordKind}
use Rattle.record.specs.declared.kind.RecordKind.TheVariants.{Null, Boolean, Whole, Decimal, String, List as ListKind, Object, Name}
use Rattle.record.specs.declared.kind.UnknownKind.{UnknownKind}

abbrev pub number_of : RecordKind → ℕ
number_of Null = 1
number_of Boolean = 2
number_of Whole = 3
number_of Decimal = 4
number_of String = 5
number_of ListKind = 6
number_of Object = 7
number_of Name = 8

-- the kind with that number, or that no kind has it
abbrev pub OfNumber : ℕ → Result RecordKind UnknownKind → Type 0
OfNumber n r = MatchResult r (λ k. number_of k ≡ n) (λ e. (e.0 ≡ n) × ((k : RecordKind) → number_of k ≢ n))
