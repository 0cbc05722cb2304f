-- Where a token stands.
use Rattle.std.specs.Prelude.{◌≡◌, ℕ, ◌<◌, ◌≤◌, Bool, true, false}
use Rattle.text.specs.declared.token.Token.{Token}
use Rattle.text.specs.declared.token.Token.TheVariants.{Bang, Dollar, Ampersand, OpenParen, CloseParen, Spread, Colon, Equals, At, OpenBracket, CloseBracket, OpenBrace, Pipe, CloseBrace, Comma, Name, Number, Text, End}

abbrev pub is_end : Token → Bool
is_end Bang = false
is_end Dollar = false
is_end Ampersand = false
is_end OpenParen = false
is_end CloseParen = false
is_end Spread = false
is_end Colon = false
is_end Equals = false
is_end At = false
is_end OpenBracket = false
is_end CloseBracket = false
is_end OpenBrace = false
is_end Pipe = false
is_end CloseBrace = false
is_end Comma = false
is_end (Name s) = false
is_end (Number s k) = false
is_end (Text s p) = false
is_end End = true

-- a token looked for from `at` on stands from start to end in a text of that many bytes
pub record Placed (size at start end : ℕ) (last : Bool) : Type 0 where
  pub onward : at ≤ size → at ≤ start
  pub ordered : start ≤ end
  pub within : end ≤ size
  pub some : last ≡ false → start < end
