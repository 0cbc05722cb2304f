use Rattle.std.proofs.Common.{◌≡◌, ◌-◌, ◌≤◌, List, ◌++◌, false, map, length, nat_lt, vec_len, vec_items}
use Rattle.text.specs.TokenGrammar.{close_brace}
use Rattle.reader.specs.Reading.{is_mark}
use Rattle.schema.specs.Documents.{Label}
use Rattle.schema.specs.Holds.{label_of}
use Rattle.schema.specs.Reading.{Onward}
use Rattle.schema.specs.SchemaReading.{next, value_name, ReadsNew}
use Rattle.schema.specs.Told.{sights}
use Rattle.schema.proofs.Listing.{Sofar}
use Rattle.schema.proofs.document.enum_values.Given as goal

abbrev pub invariant-loop-value : goal.invariant-loop-value
invariant-loop-value l =
    (xs : List Label)
    × Sofar (sights l.fn.tokens) (is_mark close_brace) next (λ k. ReadsNew (sights l.fn.tokens) 1024 k value_name) false (vec_len l.fn.values) l.fn.tokens.at (nat_lt (vec_len l.fn.values) (vec_len l.values)) (vec_len l.values) l.tokens.at xs
    × (map label_of (vec_items l.values) ≡ map label_of (vec_items l.fn.values) ++ xs)
    × Onward 0 l.fn.tokens l.tokens
    × (l.from ≡ vec_len l.fn.values)
    × (l.from ≤ vec_len l.values)
    × (vec_len l.values ≤ 1024)

abbrev pub decreases-loop-value : goal.decreases-loop-value
decreases-loop-value l = length l.tokens.text.now - l.tokens.at
