-- The laws of the cursor over a text: each of its functions has one answer and leaves one place, and what is passed is one token.
use Rattle.std.specs.Prelude.{◌≡◌, ℕ, true, List, Some, None}
use Rattle.text.specs.TokenGrammar.{Lexical, a_name}
use Rattle.text.specs.TokenFound.{View}
use Rattle.text.specs.declared.language.Language.TheVariants.{Graphql}
use Rattle.reader.specs.Tokens.{Sight, Sights, TokenIs}
use Rattle.reader.specs.Reading.{Out, got}
use Rattle.schema.specs.Documents.{Label}
use Rattle.schema.specs.Outcomes.{Takes, any_name}
use Rattle.schema.specs.Told.{is_token, the_token, TokenIfAny}

-- from one place of one text, reading R has one outcome
abbrev pub Once : {X : Type 0} → ((ℕ → Sight → Type 0) → ℕ → Out X → Type 0) → Type 0
Once {X} R = (text : List ℕ) (i : ℕ) (o p : Out X) → R (Sights Graphql text) i o → R (Sights Graphql text) i p → o ≡ p

pub record OneCursor : Type 0 where
  pub name : Once (λ N. Takes N any_name)
  pub expect : (v : View) → Once (λ N. Takes N (the_token v))
  pub eat : (v : View) → Once (λ N. TokenIfAny N (is_token v))

-- a token of the grammar that is the program's token
abbrev pub StandsAs : View → List ℕ → (i start end : ℕ) → Type 0
StandsAs v text i s e = (x : Lexical) × TokenIs Graphql text i s e x × (is_token v x ≡ true)

-- exactly one token of the grammar is passed, or none
pub record PassesOne : Type 0 where
  pub name : (text : List ℕ) (i j : ℕ) (l : Label) → Takes (Sights Graphql text) any_name i (got j l) → TokenIs Graphql text i l.place j (a_name l.name)
  pub expect : (v : View) (text : List ℕ) (i s j : ℕ) → Takes (Sights Graphql text) (the_token v) i (got j s) → StandsAs v text i s j
  pub eat : (v : View) (text : List ℕ) (i s j : ℕ) → TokenIfAny (Sights Graphql text) (is_token v) i (got j (Some s)) → StandsAs v text i s j
  pub left : (v : View) (text : List ℕ) (i j : ℕ) → TokenIfAny (Sights Graphql text) (is_token v) i (got j None) → i ≡ j
