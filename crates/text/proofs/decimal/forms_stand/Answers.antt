use Rattle.text.proofs.NormLaws.{forms_are_unique, equal_numbers_equal_forms, equal_forms_equal_numbers, wholes_are_unique}
use Rattle.text.proofs.decimal.forms_stand.Goals as goal

pub returns : goal.returns
returns c = record { unique = forms_are_unique; equal = equal_numbers_equal_forms; worth = equal_forms_equal_numbers; wholes = wholes_are_unique }
