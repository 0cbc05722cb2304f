-- Characters, and the strings of JSON (RFC 8259, section 7) and of GraphQL (October 2021, sections 2.1 and 2.9.4).
-- Each relation `R xs x rest` says that an x stands at the front of xs, and that rest follows it.
use Rattle.std.specs.Prelude.{◌≡◌, ℕ, ◌+◌, ◌-◌, ◌*◌, ◌<◌, true, ◌≢◌, ◌⊎◌, List, [], ◌∷◌, ◌++◌}
use Rattle.std.proofs.Math.Utf8.{scalar, encode}
use Rattle.std.specs.Char.{digit_value}
use Rattle.std.specs.Int.{IsInRange}
use Rattle.text.specs.declared.language.Language.{Language}
use Rattle.text.specs.declared.language.Language.TheVariants.{Json, Graphql}

-- the UTF-8 of a character
pub data Utf8Char : List ℕ → ℕ → List ℕ → Type 0 where
  utf8 : {xs r : List ℕ} {c : ℕ} → scalar c ≡ true → xs ≡ encode c ++ r → Utf8Char xs c r

-- 4HEXDIG of either case, and their value
pub data Hex4 : List ℕ → ℕ → List ℕ → Type 0 where
  hex4 : {a b c d : ℕ} {r : List ℕ} → digit_value a < 16 → digit_value b < 16 → digit_value c < 16 → digit_value d < 16
      → Hex4 (a ∷ b ∷ c ∷ d ∷ r) (((digit_value a * 16 + digit_value b) * 16 + digit_value c) * 16 + digit_value d) r

-- \u and four digits of a low surrogate
pub data Low : List ℕ → ℕ → List ℕ → Type 0 where
  low : {xs r : List ℕ} {u : ℕ} → Hex4 xs u r → IsInRange 56320 57343 u → Low (92 ∷ 117 ∷ xs) u r

-- what follows \u: four digits of a character, which is no surrogate, or those of a high surrogate and the escape of a low one
pub data Code : List ℕ → ℕ → List ℕ → Type 0 where
  lone : {xs r : List ℕ} {u : ℕ} → Hex4 xs u r → (u < 55296) ⊎ (57343 < u) → Code xs u r
  pair : {xs ys r : List ℕ} {u v : ℕ} → Hex4 xs u ys → IsInRange 55296 56319 u → Low ys v r → Code xs (65536 + (u - 55296) * 1024 + (v - 56320)) r

-- the letters that follow a backslash, and the character that each writes
pub data Short : ℕ → ℕ → Type 0 where
  quote : Short 34 34
  backslash : Short 92 92
  slash : Short 47 47
  backspace : Short 98 8
  form_feed : Short 102 12
  line_feed : Short 110 10
  carriage_return : Short 114 13
  tab : Short 116 9

-- an escape after its backslash, and the character that it writes
pub data Escape : List ℕ → ℕ → List ℕ → Type 0 where
  short : {letter c : ℕ} {r : List ℕ} → Short letter c → Escape (letter ∷ r) c r
  unicode : {xs r : List ℕ} {c : ℕ} → Code xs c r → Escape (117 ∷ xs) c r

-- SourceCharacter of GraphQL
abbrev pub SourceCharacter : ℕ → Type 0
SourceCharacter c = (c ≡ 9) ⊎ ((c ≡ 10) ⊎ ((c ≡ 13) ⊎ IsInRange 32 65535 c))

-- LineTerminator of GraphQL is made of these
abbrev pub LineTerminator : ℕ → Type 0
LineTerminator c = (c ≡ 10) ⊎ (c ≡ 13)

-- the characters that stand in a string as they are: `unescaped` of JSON, the first case of StringCharacter of GraphQL
abbrev pub Unescaped : Language → ℕ → Type 0
Unescaped Json c = IsInRange 32 33 c ⊎ (IsInRange 35 91 c ⊎ IsInRange 93 1114111 c)
Unescaped Graphql c = SourceCharacter c × (c ≢ 34) × (c ≢ 92) × (LineTerminator c → ⊥)

-- one character of a string, as it is or escaped
pub data Char (language : Language) : List ℕ → ℕ → List ℕ → Type 0 where
  unescaped : {xs r : List ℕ} {c : ℕ} → Utf8Char xs c r → Unescaped language c → Char language xs c r
  escape : {xs r : List ℕ} {c : ℕ} → Escape xs c r → Char language (92 ∷ xs) c r

-- any number of characters of a string
pub data Run (language : Language) : List ℕ → List ℕ → List ℕ → Type 0 where
  none : {r : List ℕ} → Run language r [] r
  more : {xs ys cs r : List ℕ} {c : ℕ} → Char language xs c ys → Run language ys cs r → Run language xs (c ∷ cs) r

-- the characters of a string, and the quotation mark that closes it
abbrev pub Reads : Language → List ℕ → List ℕ → List ℕ → Type 0
Reads language xs cs r = Run language xs cs (34 ∷ r)

-- a list that is the characters of a string, and no more
abbrev pub Chars : Language → List ℕ → List ℕ → Type 0
Chars language xs cs = Run language xs cs []
