-- What the functions on tokens promise.
use Rattle.std.specs.Prelude.{◌≡◌, ℕ, ◌+◌, ◌-◌, ◌<◌, ◌≤◌, Bool, ◌⊎◌, List, ◌++◌, length, drop, Some, None, Ok, Err, Option, Result, IfOk}
use Rattle.text.specs.declared.fault.Fault.{Fault}
use Rattle.text.specs.declared.fault.Fault.TheVariants.{BadText, TooDeep, NoSpace, RepeatedName, LongNumber, NoMemory}
use Rattle.text.specs.declared.language.Language.{Language}
use Rattle.text.specs.declared.number.NumberKind.{NumberKind}
use Rattle.text.specs.declared.token.Lexeme.{Lexeme}
use Rattle.text.specs.declared.token.Token.{Token}
use Rattle.text.specs.declared.token.Token.TheVariants.{Bang, Dollar, Ampersand, OpenParen, CloseParen, Spread, Colon, Equals, At, OpenBracket, CloseBracket, OpenBrace, Pipe, CloseBrace, Comma, Name, Number, Text, End}
use Rattle.text.specs.NumberScan.{Found, Endless, FarScaled, ScanRefused}
use Rattle.text.specs.StringGrammar.{Reads}
use Rattle.text.specs.StringDecode.{Scanned, Nothing}
use Rattle.text.specs.Places.{Placed, is_end}
use Rattle.text.specs.TokenGrammar.{Mark, bang, dollar, ampersand, open_paren, close_paren, spread, colon, equals, at_sign, open_bracket, close_bracket, open_brace, pipe, close_brace, comma, Lexical, a_mark, a_name, a_number, a_string, the_end, NotAhead, Skips, NameContinue, NameRest, Ignored, TokenOf}
use Rattle.text.specs.Cuts.{part}

-- a token of the program, with the bytes for the references
pub data View : Type 0 where
  v_mark : Mark → View
  v_name : List ℕ → View
  v_number : NumberKind → List ℕ → View
  v_text : List ℕ → Bool → View
  v_end : View

abbrev pub view_of : Token → View
view_of Bang = v_mark bang
view_of Dollar = v_mark dollar
view_of Ampersand = v_mark ampersand
view_of OpenParen = v_mark open_paren
view_of CloseParen = v_mark close_paren
view_of Spread = v_mark spread
view_of Colon = v_mark colon
view_of Equals = v_mark equals
view_of At = v_mark at_sign
view_of OpenBracket = v_mark open_bracket
view_of CloseBracket = v_mark close_bracket
view_of OpenBrace = v_mark open_brace
view_of Pipe = v_mark pipe
view_of CloseBrace = v_mark close_brace
view_of Comma = v_mark comma
view_of (Name s) = v_name s.now
view_of (Number s k) = v_number k s.now
view_of (Text s p) = v_text s.now p
view_of End = v_end

-- the string that stands from i on and before j, after its first quotation mark, writes the characters cs, and `plain` says whether it has no escape
pub record Writes (language : Language) (text : List ℕ) (i j : ℕ) (plain : Bool) (cs : List ℕ) : Type 0 where
  pub scanned : Scanned language text i j plain
  pub same : scanned.chars ≡ cs

-- the program's token, from start to end in the text, is the one of the grammar
abbrev pub Holds : Language → List ℕ → (start end : ℕ) → View → Lexical → Type 0
Holds language text start end (v_mark m) x = x ≡ a_mark m
Holds language text start end (v_name s) x = (x ≡ a_name s) × (s ≡ part text start end)
Holds language text start end (v_number kind s) x = (x ≡ a_number kind s) × (s ≡ part text start end)
Holds language text start end (v_text s plain) x = (s ≡ part text (start + 1) (end - 1)) × ((cs : List ℕ) × (x ≡ a_string cs) × Writes language text (start + 1) end plain cs)
Holds language text start end v_end x = (x ≡ the_end) × (start ≡ length text)

-- nothing is ignored at the front of the list
abbrev pub Stops : Language → List ℕ → Type 0
Stops language xs = (r : List ℕ) → Ignored language xs r → ⊥

-- what is ignored leads from `at` to `start`, where nothing more is ignored, and nowhere else where that is so
pub record Skipped (language : Language) (text : List ℕ) (at start : ℕ) : Type 0 where
  pub onward : at ≤ length text → at ≤ start
  pub within : start ≤ length text
  pub leads : Skips (Ignored language) (drop at text) (drop start text)
  pub stops : Stops language (drop start text)
  pub only : (r : List ℕ) → Skips (Ignored language) (drop at text) r → Stops language r → drop start text ≡ r

-- a token stands from start to end, and no other stands at start; the program's token is it
pub record TokenAt (language : Language) (text : List ℕ) (start end : ℕ) (view : View) : Type 0 where
  pub token : Lexical
  pub within : end ≤ length text
  pub reads : TokenOf language (drop start text) token (drop end text)
  pub only : (x : Lexical) (r : List ℕ) → TokenOf language (drop start text) x r → (token ≡ x) × (drop end text ≡ r)
  pub holds : Holds language text start end view token

-- a number that is too long begins there, or one whose exponent is
abbrev pub LongAt : List ℕ → ℕ → Type 0
LongAt text at = Endless text at ⊎ FarScaled text at

-- no token stands there, and no number that is too long
pub record NoToken (language : Language) (text : List ℕ) (start : ℕ) : Type 0 where
  pub none : (x : Lexical) (r : List ℕ) → TokenOf language (drop start text) x r → ⊥
  pub not_long : LongAt text start → ⊥

-- why there is no token at start
abbrev pub RefusedHere : Language → List ℕ → ℕ → Fault → Type 0
RefusedHere language text start (BadText k) = (k ≡ start) × NoToken language text k
RefusedHere language text start (LongNumber k) = (k ≡ start) × LongAt text k
RefusedHere language text start (TooDeep k) = ⊥
RefusedHere language text start (NoSpace k) = ⊥
RefusedHere language text start (RepeatedName k) = ⊥
RefusedHere language text start NoMemory = ⊥

-- the token that stands at start, or why there is none
abbrev pub TokenHere : Language → List ℕ → ℕ → Result Lexeme Fault → Type 0
TokenHere language text start (Ok l) = (l.start ≡ start) × TokenAt language text l.start l.end (view_of l.token)
TokenHere language text start (Err f) = RefusedHere language text start f

-- the same, and its places
pub record FoundHere (language : Language) (text : List ℕ) (start : ℕ) (r : Result Lexeme Fault) : Type 0 where
  pub found : TokenHere language text start r
  pub placed : IfOk r (λ l. Placed (length text) start l.start l.end (is_end l.token))

-- the number that stands at start, whatever follows it, or why none does
abbrev pub NumeralTold : List ℕ → ℕ → Result Lexeme Fault → Type 0
NumeralTold text start (Ok l) = (l.start ≡ start) × ((kind : NumberKind) × Found text start l.end kind × (view_of l.token ≡ v_number kind (part text start l.end)))
NumeralTold text start (Err f) = ScanRefused text start f

-- the string after the quotation mark at start, or that none stands there
abbrev pub QuotedTold : Language → List ℕ → ℕ → Result Lexeme Fault → Type 0
QuotedTold language text start (Ok l) = (l.start ≡ start) × ((plain : Bool) × Scanned language text (start + 1) l.end plain × (view_of l.token ≡ v_text (part text (start + 1) (l.end - 1)) plain))
QuotedTold language text start (Err f) = (f ≡ BadText start) × Nothing (Reads language) text (start + 1)

-- the token that is spelled so, from start on, or that the word does not stand there
abbrev pub SpelledTold : List ℕ → ℕ → List ℕ → Token → Result Lexeme Fault → Type 0
SpelledTold text start word token (Ok l) = (l ≡ record { token = token; start = start; end = start + length word }) × (drop start text ≡ word ++ drop (start + length word) text)
SpelledTold text start word token (Err f) = (f ≡ BadText start) × ((r : List ℕ) → drop start text ≡ word ++ r → ⊥)

-- why no token is found from `at` on
abbrev pub TokenRefused : Language → List ℕ → ℕ → Fault → Type 0
TokenRefused language text at (BadText k) = Skipped language text at k × NoToken language text k
TokenRefused language text at (LongNumber k) = Skipped language text at k × LongAt text k
TokenRefused language text at (TooDeep k) = ⊥
TokenRefused language text at (NoSpace k) = ⊥
TokenRefused language text at (RepeatedName k) = ⊥
TokenRefused language text at NoMemory = ⊥

-- the first token from `at` on, or why none is found
abbrev pub TokenTold : Language → List ℕ → ℕ → Result Lexeme Fault → Type 0
TokenTold language text at (Ok l) = Skipped language text at l.start × TokenAt language text l.start l.end (view_of l.token)
TokenTold language text at (Err f) = TokenRefused language text at f

-- a mark of one byte, as the program's token
abbrev pub MarkTold : (ℕ → Mark → Type 0) → ℕ → Option Token → Type 0
MarkTold R b None = (m : Mark) → R b m → ⊥
MarkTold R b (Some t) = (m : Mark) × R b m × (view_of t ≡ v_mark m)

-- something of R stands from i to j, and nothing else of R stands at i
pub record StepAt (R : List ℕ → List ℕ → Type 0) (text : List ℕ) (i j : ℕ) : Type 0 where
  pub forward : i < j
  pub within : j ≤ length text
  pub reads : R (drop i text) (drop j text)
  pub only : (r : List ℕ) → R (drop i text) r → drop j text ≡ r

abbrev pub StepTold : (List ℕ → List ℕ → Type 0) → List ℕ → ℕ → Option ℕ → Type 0
StepTold R text i None = (r : List ℕ) → R (drop i text) r → ⊥
StepTold R text i (Some j) = StepAt R text i j

-- the name that begins at start ends there
pub record NameEnd (text : List ℕ) (start end : ℕ) : Type 0 where
  pub forward : start < end
  pub within : end ≤ length text
  pub rest : NameRest (part text (start + 1) end)
  pub stops : NotAhead NameContinue (drop end text)

-- a result without references
pub data Outcome : Type 0 where
  found : (start end : ℕ) → View → Outcome
  refused : Fault → Outcome

abbrev pub outcome_of : Result Lexeme Fault → Outcome
outcome_of (Ok l) = found l.start l.end (view_of l.token)
outcome_of (Err f) = refused f

-- at each place of each text there is one token, or one fault
abbrev pub OneToken : Type 0
OneToken = (language : Language) (text : List ℕ) (at : ℕ) (r s : Result Lexeme Fault) → TokenTold language text at r → TokenTold language text at s → outcome_of r ≡ outcome_of s
