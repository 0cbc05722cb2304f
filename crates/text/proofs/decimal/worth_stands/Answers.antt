use Rattle.text.proofs.NormLaws.{numbers_write, writers_are_numbers, writes_once, worth_is_equivalence}
use Rattle.text.proofs.decimal.worth_stands.Goals as goal

pub returns : goal.returns
returns c = record { written = numbers_write; numbers = writers_are_numbers; once = writes_once; alike = worth_is_equivalence }
