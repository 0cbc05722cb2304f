-- How the reading of a text goes on.
use Rattle.std.specs.Prelude.{◌≡◌, ℕ, ◌+◌, ◌≤◌, Bool, true, false, Ok, Err, Result}
use Rattle.text.specs.declared.fault.Fault.{Fault}
use Rattle.text.specs.declared.token.Lexeme.{Lexeme}
use Rattle.schema.specs.declared.tokens.Tokens.{Tokens}

-- the text stays, and at least n of its bytes are passed
abbrev pub Onward : ℕ → Tokens → Tokens → Type 0
Onward n old new = (new.text.now ≡ old.text.now) × (old.at + n ≤ new.at)

-- where the reading stands after a token that is passed, or left
abbrev pub past : ℕ → Bool → Result Lexeme Fault → ℕ
past at true (Ok l) = l.end
past at true (Err f) = at
past at false r = at
