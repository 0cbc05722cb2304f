-- The first token from a place on, in a language.
use Rattle.std.specs.Prelude.{◌≡◌, ℕ, ◌≤◌, List, length, drop}
use Rattle.text.specs.declared.fault.Fault.{Fault}
use Rattle.text.specs.declared.language.Language.{Language}
use Rattle.text.specs.TokenGrammar.{Lexical, Skips, Ignored, TokenOf}
use Rattle.text.specs.TokenFound.{Stops, Skipped, TokenRefused}

-- a token with the places where it starts and ends, or why there is none
pub data Sight : Type 0 where
  sees : (start end : ℕ) → Lexical → Sight
  blind : Fault → Sight

-- after all that is ignored from `at` on, the token x stands from start to end
pub record TokenIs (language : Language) (text : List ℕ) (at start end : ℕ) (x : Lexical) : Type 0 where
  pub begins : start ≤ length text
  pub within : end ≤ length text
  pub skips : Skips (Ignored language) (drop at text) (drop start text)
  pub stops : Stops language (drop start text)
  pub reads : TokenOf language (drop start text) x (drop end text)

-- the same, and no other token stands there
pub record Seen (language : Language) (text : List ℕ) (at start end : ℕ) (x : Lexical) : Type 0 where
  pub skipped : Skipped language text at start
  pub within : end ≤ length text
  pub reads : TokenOf language (drop start text) x (drop end text)
  pub only : (y : Lexical) (r : List ℕ) → TokenOf language (drop start text) y r → (x ≡ y) × (drop end text ≡ r)

-- what is seen from `at` on
abbrev pub Sights : Language → List ℕ → ℕ → Sight → Type 0
Sights language text at (sees s e x) = Seen language text at s e x
Sights language text at (blind f) = TokenRefused language text at f
