-- The tokens of JSON (RFC 8259, sections 2 and 3) and of GraphQL (October 2021, section 2.1), and what is ignored between them.
-- A relation `R xs rest` says that something stands at the front of xs, and that rest follows it; `R xs x rest` says that it is an x.
use Rattle.std.specs.Prelude.{◌≡◌, ℕ, ◌<◌, ◌≤◌, ◌⊎◌, List, [], ◌∷◌, ◌++◌, length}
use Rattle.std.specs.Int.{IsInRange}
use Rattle.text.specs.declared.language.Language.{Language}
use Rattle.text.specs.declared.language.Language.TheVariants.{Json, Graphql}
use Rattle.text.specs.declared.number.NumberKind.{NumberKind}
use Rattle.text.specs.NumberGrammar.{IsDigit, Number}
use Rattle.text.specs.NumberScan.{Begins, exponent_of}
use Rattle.text.specs.StringGrammar.{Utf8Char, SourceCharacter, LineTerminator, Reads}

-- a structural character of JSON, or a punctuator of GraphQL
pub data Mark : Type 0 where
  bang : Mark
  dollar : Mark
  ampersand : Mark
  open_paren : Mark
  close_paren : Mark
  spread : Mark
  colon : Mark
  equals : Mark
  at_sign : Mark
  open_bracket : Mark
  close_bracket : Mark
  open_brace : Mark
  pipe : Mark
  close_brace : Mark
  comma : Mark

-- what a token is: a mark, a name by its bytes, a number by its kind and bytes, a string by its characters, or the end of the text
pub data Lexical : Type 0 where
  a_mark : Mark → Lexical
  a_name : List ℕ → Lexical
  a_number : NumberKind → List ℕ → Lexical
  a_string : List ℕ → Lexical
  the_end : Lexical

-- the list does not begin with a byte of P
abbrev pub NotAhead : (ℕ → Type 0) → List ℕ → Type 0
NotAhead P xs = (b : ℕ) (t : List ℕ) → xs ≡ b ∷ t → P b → ⊥

-- the bytes of a number: at most 1,000, and at most six digits in the exponent after leading zeros
pub record Numeral (ds : List ℕ) (kind : NumberKind) : Type 0 where
  pub number : Number ds kind
  pub short : length ds ≤ 1000
  pub small : exponent_of number < 1000000

-- the bytes that a number can begin with
abbrev pub NumberFirst : ℕ → Type 0
NumberFirst b = (b ≡ 45) ⊎ IsDigit b

-- any number of things that are ignored, one after another
pub data Skips (I : List ℕ → List ℕ → Type 0) : List ℕ → List ℕ → Type 0 where
  skipped : {r : List ℕ} → Skips I r r
  skip : {xs ys r : List ℕ} → I xs ys → Skips I ys r → Skips I xs r

-- ws of JSON is made of these: space, horizontal tab, line feed, carriage return
abbrev pub WhiteSpace : ℕ → Type 0
WhiteSpace b = (b ≡ 32) ⊎ ((b ≡ 9) ⊎ ((b ≡ 10) ⊎ (b ≡ 13)))

-- one byte of white space
pub data JsonIgnored : List ℕ → List ℕ → Type 0 where
  white_space_rule : {b : ℕ} {r : List ℕ} → WhiteSpace b → JsonIgnored (b ∷ r) r

-- begin-array, begin-object, end-array, end-object, name-separator, value-separator
pub data Structural : ℕ → Mark → Type 0 where
  begin_array : Structural 91 open_bracket
  begin_object : Structural 123 open_brace
  end_array : Structural 93 close_bracket
  end_object : Structural 125 close_brace
  name_separator : Structural 58 colon
  value_separator : Structural 44 comma

-- false, null, true
pub data LiteralName : List ℕ → Type 0 where
  false_name : LiteralName (102 ∷ 97 ∷ 108 ∷ 115 ∷ 101 ∷ [])
  null_name : LiteralName (110 ∷ 117 ∷ 108 ∷ 108 ∷ [])
  true_name : LiteralName (116 ∷ 114 ∷ 117 ∷ 101 ∷ [])

-- a token of JSON; a number is as long as its bytes can be read on
pub data JsonToken : List ℕ → Lexical → List ℕ → Type 0 where
  json_end : JsonToken [] the_end []
  json_mark : {b : ℕ} {r : List ℕ} {m : Mark} → Structural b m → JsonToken (b ∷ r) (a_mark m) r
  json_literal : {xs w r : List ℕ} → LiteralName w → xs ≡ w ++ r → JsonToken xs (a_name w) r
  json_number : {xs ds r : List ℕ} {kind : NumberKind} → Numeral ds kind → xs ≡ ds ++ r → NotAhead (λ b. Begins (ds ++ b ∷ [])) r → JsonToken xs (a_number kind ds) r
  json_string : {xs cs r : List ℕ} → Reads Json xs cs r → JsonToken (34 ∷ xs) (a_string cs) r

-- NameStart: a letter or _
abbrev pub NameStart : ℕ → Type 0
NameStart b = (b ≡ 95) ⊎ (IsInRange 65 90 b ⊎ IsInRange 97 122 b)

-- NameContinue: a letter, a digit or _
abbrev pub NameContinue : ℕ → Type 0
NameContinue b = NameStart b ⊎ IsDigit b

-- any number of NameContinue
pub data NameRest : List ℕ → Type 0 where
  name_ends : NameRest []
  name_goes : {b : ℕ} {bs : List ℕ} → NameContinue b → NameRest bs → NameRest (b ∷ bs)

-- CommentChar: a SourceCharacter that is no LineTerminator, in UTF-8
abbrev pub CommentCode : ℕ → Type 0
CommentCode c = SourceCharacter c × (LineTerminator c → ⊥)

pub data CommentChar : List ℕ → List ℕ → Type 0 where
  comment_char_rule : {xs r : List ℕ} {c : ℕ} → Utf8Char xs c r → CommentCode c → CommentChar xs r

-- the characters of a comment, up to a line terminator or the end of the text; with any other character before that it is no comment, and its # begins no token
pub data CommentRest : List ℕ → List ℕ → Type 0 where
  comment_ends : CommentRest [] []
  comment_breaks : {b : ℕ} {r : List ℕ} → LineTerminator b → CommentRest (b ∷ r) (b ∷ r)
  comment_goes : {xs ys r : List ℕ} → CommentChar xs ys → CommentRest ys r → CommentRest xs r

-- Comment
pub data Comment : List ℕ → List ℕ → Type 0 where
  number_sign : {xs r : List ℕ} → CommentRest xs r → Comment (35 ∷ xs) r

-- WhiteSpace, LineTerminator and Comma of GraphQL, each one byte
abbrev pub IgnoredByte : ℕ → Type 0
IgnoredByte b = (b ≡ 9) ⊎ ((b ≡ 32) ⊎ (LineTerminator b ⊎ (b ≡ 44)))

-- UnicodeBOM: U+FEFF, in UTF-8
abbrev pub ByteOrderMark : List ℕ → List ℕ → Type 0
ByteOrderMark xs r = Utf8Char xs 65279 r

-- Ignored: UnicodeBOM, WhiteSpace, LineTerminator, Comment, Comma
pub data GraphqlIgnored : List ℕ → List ℕ → Type 0 where
  unicode_bom : {xs r : List ℕ} → ByteOrderMark xs r → GraphqlIgnored xs r
  ignored_byte_rule : {b : ℕ} {r : List ℕ} → IgnoredByte b → GraphqlIgnored (b ∷ r) r
  ignored_comment : {xs r : List ℕ} → Comment xs r → GraphqlIgnored xs r

-- Punctuator of one byte
pub data Punctuator : ℕ → Mark → Type 0 where
  p_bang : Punctuator 33 bang
  p_dollar : Punctuator 36 dollar
  p_ampersand : Punctuator 38 ampersand
  p_open_paren : Punctuator 40 open_paren
  p_close_paren : Punctuator 41 close_paren
  p_colon : Punctuator 58 colon
  p_equals : Punctuator 61 equals
  p_at_sign : Punctuator 64 at_sign
  p_open_bracket : Punctuator 91 open_bracket
  p_close_bracket : Punctuator 93 close_bracket
  p_open_brace : Punctuator 123 open_brace
  p_pipe : Punctuator 124 pipe
  p_close_brace : Punctuator 125 close_brace

-- what may not follow a number: a digit, a point, a NameStart
abbrev pub NumberGoesOn : ℕ → Type 0
NumberGoesOn b = IsDigit b ⊎ ((b ≡ 46) ⊎ NameStart b)

-- a token of GraphQL: a name is the longest, of at most 127 bytes, and two quotation marks with a third after them are no string
pub data GraphqlToken : List ℕ → Lexical → List ℕ → Type 0 where
  graphql_end : GraphqlToken [] the_end []
  graphql_mark : {b : ℕ} {r : List ℕ} {m : Mark} → Punctuator b m → GraphqlToken (b ∷ r) (a_mark m) r
  graphql_spread : {r : List ℕ} → GraphqlToken (46 ∷ 46 ∷ 46 ∷ r) (a_mark spread) r
  graphql_name : {b : ℕ} {xs bs r : List ℕ} → NameStart b → NameRest bs → xs ≡ bs ++ r → NotAhead NameContinue r → length (b ∷ bs) ≤ 127 → GraphqlToken (b ∷ xs) (a_name (b ∷ bs)) r
  graphql_number : {xs ds r : List ℕ} {kind : NumberKind} → Numeral ds kind → xs ≡ ds ++ r → NotAhead NumberGoesOn r → GraphqlToken xs (a_number kind ds) r
  graphql_empty : {r : List ℕ} → NotAhead (λ b. b ≡ 34) r → GraphqlToken (34 ∷ 34 ∷ r) (a_string []) r
  graphql_string : {xs cs r : List ℕ} {c : ℕ} → Reads Graphql xs (c ∷ cs) r → GraphqlToken (34 ∷ xs) (a_string (c ∷ cs)) r

-- what is ignored in a language, one thing of it
abbrev pub Ignored : Language → List ℕ → List ℕ → Type 0
Ignored Json = JsonIgnored
Ignored Graphql = GraphqlIgnored

-- a token of a language
abbrev pub TokenOf : Language → List ℕ → Lexical → List ℕ → Type 0
TokenOf Json = JsonToken
TokenOf Graphql = GraphqlToken
