use Rattle.text.specs.TokenGrammar.{Structural, begin_array, begin_object, end_array, end_object, name_separator, value_separator}
use Rattle.text.proofs.LexTold.{one_mark}
use Rattle.text.proofs.json.structural.Goals as goal

pub returns-in-91 : goal.returns-in-91
returns-in-91 c = one_mark Structural c.in-91.is begin_array

pub returns-in-123 : goal.returns-in-123
returns-in-123 c = one_mark Structural c.in-123.is begin_object

pub returns-in-93 : goal.returns-in-93
returns-in-93 c = one_mark Structural c.in-93.is end_array

pub returns-in-125 : goal.returns-in-125
returns-in-125 c = one_mark Structural c.in-125.is end_object

pub returns-in-58 : goal.returns-in-58
returns-in-58 c = one_mark Structural c.in-58.is name_separator

pub returns-in-44 : goal.returns-in-44
returns-in-44 c = one_mark Structural c.in-44.is value_separator
