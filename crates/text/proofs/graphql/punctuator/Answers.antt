use Rattle.text.specs.TokenGrammar.{Punctuator, p_bang, p_dollar, p_ampersand, p_open_paren, p_close_paren, p_colon, p_equals, p_at_sign, p_open_bracket, p_close_bracket, p_open_brace, p_pipe, p_close_brace}
use Rattle.text.proofs.LexTold.{one_mark}
use Rattle.text.proofs.graphql.punctuator.Goals as goal

pub returns-in-33 : goal.returns-in-33
returns-in-33 c = one_mark Punctuator c.in-33.is p_bang

pub returns-in-36 : goal.returns-in-36
returns-in-36 c = one_mark Punctuator c.in-36.is p_dollar

pub returns-in-38 : goal.returns-in-38
returns-in-38 c = one_mark Punctuator c.in-38.is p_ampersand

pub returns-in-40 : goal.returns-in-40
returns-in-40 c = one_mark Punctuator c.in-40.is p_open_paren

pub returns-in-41 : goal.returns-in-41
returns-in-41 c = one_mark Punctuator c.in-41.is p_close_paren

pub returns-in-58 : goal.returns-in-58
returns-in-58 c = one_mark Punctuator c.in-58.is p_colon

pub returns-in-61 : goal.returns-in-61
returns-in-61 c = one_mark Punctuator c.in-61.is p_equals

pub returns-in-64 : goal.returns-in-64
returns-in-64 c = one_mark Punctuator c.in-64.is p_at_sign

pub returns-in-91 : goal.returns-in-91
returns-in-91 c = one_mark Punctuator c.in-91.is p_open_bracket

pub returns-in-93 : goal.returns-in-93
returns-in-93 c = one_mark Punctuator c.in-93.is p_close_bracket

pub returns-in-123 : goal.returns-in-123
returns-in-123 c = one_mark Punctuator c.in-123.is p_open_brace

pub returns-in-124 : goal.returns-in-124
returns-in-124 c = one_mark Punctuator c.in-124.is p_pipe

pub returns-in-125 : goal.returns-in-125
returns-in-125 c = one_mark Punctuator c.in-125.is p_close_brace
