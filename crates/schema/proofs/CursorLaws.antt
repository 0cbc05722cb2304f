-- The laws of the cursor.
use Rattle.std.proofs.Common.{◌≡◌, ℕ, Bool, true, false, cond, List, Some, None, refl, subst}
use Rattle.std.proofs.Math.Option.{Option, some, none}
use Rattle.std.specs.Prelude.{Option as Maybe}
use Rattle.text.specs.declared.language.Language.TheVariants.{Graphql}
use Rattle.text.specs.TokenGrammar.{Lexical, a_mark, a_name, a_number, a_string, the_end}
use Rattle.text.specs.TokenFound.{View}
use Rattle.reader.specs.Tokens.{sees, blind, Sights, TokenIs}
use Rattle.reader.specs.Reading.{got}
use Rattle.reader.proofs.RdSights.{one_sight, seen_is}
use Rattle.schema.specs.Documents.{Label}
use Rattle.schema.specs.Outcomes.{Gives, Takes, accepted, Chosen, any_name}
use Rattle.schema.specs.Laws.{OneCursor, PassesOne, StandsAs}
use Rattle.schema.specs.Told.{is_token, the_token, TokenIfAny}
use Rattle.schema.proofs.Readings.{once_takes, once_if, once_gives}

pub one_cursor : OneCursor
one_cursor = record {
  name = λ text. once_takes (Sights Graphql text) (one_sight Graphql text) any_name;
  expect = λ v text. once_takes (Sights Graphql text) (one_sight Graphql text) (the_token v);
  eat = λ v text. once_if (Sights Graphql text) (one_sight Graphql text) (is_token v) (λ s. Gives (Some s)) (Gives None) (λ s. once_gives (Some s)) (once_gives None);
}

-- a token that is taken is one of those
accepted_is : {X : Type 0} (s e j : ℕ) (q : Option X) (x : X) → accepted s e q ≡ got j x → (e ≡ j) × (q ≡ some x)
accepted_is s e j (some y) x h = (cc, cc)
accepted_is s e j none x h = cc

name_is : (s : ℕ) (x : Lexical) (l : Label) → any_name s x ≡ some l → (s ≡ l.place) × (x ≡ a_name l.name)
name_is s (a_name w) l h = (cc, cc)
name_is s (a_mark m) l h = cc
name_is s (a_number k ds) l h = cc
name_is s (a_string cs) l h = cc
name_is s the_end l h = cc

name_passed : (text : List ℕ) (i j : ℕ) (l : Label) → Takes (Sights Graphql text) any_name i (got j l) → TokenIs Graphql text i l.place j (a_name l.name)
name_passed text i j l (sees s e x, n, h) =
    let k = accepted_is s e j (any_name s x) l h in
    let w = name_is s x l k.1 in
    subst (λ a. TokenIs Graphql text i a j (a_name l.name)) w.0 (subst (λ b. TokenIs Graphql text i s b (a_name l.name)) k.0 (subst (TokenIs Graphql text i s e) w.1 (seen_is n)))
name_passed text i j l (blind f, n, h) = cc

token_by : (b : Bool) (s e p j : ℕ) → accepted s e (cond b (some s) none) ≡ got j p → (b ≡ true) × (s ≡ p) × (e ≡ j)
token_by true s e p j h = (refl, cc, cc)
token_by false s e p j h = cc

stands_as : (v : View) (text : List ℕ) (i s e p j : ℕ) (x : Lexical) → TokenIs Graphql text i s e x → is_token v x ≡ true → s ≡ p → e ≡ j → StandsAs v text i p j
stands_as v text i s e p j x t h a b = (x, subst (λ a. TokenIs Graphql text i a j x) a (subst (λ b. TokenIs Graphql text i s b x) b t), h)

expect_passed : (v : View) (text : List ℕ) (i p j : ℕ) → Takes (Sights Graphql text) (the_token v) i (got j p) → StandsAs v text i p j
expect_passed v text i p j (sees s e x, n, h) = let k = token_by (is_token v x) s e p j h in stands_as v text i s e p j x (seen_is n) k.0 k.1 k.2
expect_passed v text i p j (blind f, n, h) = cc

eat_by : (c : Bool) (i e s j p : ℕ) → Chosen c (Gives (Some s) e (got j (Some p))) (Gives None i (got j (Some p))) → (c ≡ true) × (s ≡ p) × (e ≡ j)
eat_by true i e s j p h = (refl, cc, cc)
eat_by false i e s j p h = cc

eat_passed : (v : View) (text : List ℕ) (i p j : ℕ) → TokenIfAny (Sights Graphql text) (is_token v) i (got j (Some p)) → StandsAs v text i p j
eat_passed v text i p j (sees s e x, n, h) = let k = eat_by (is_token v x) i e s j p h in stands_as v text i s e p j x (seen_is n) k.0 k.1 k.2
eat_passed v text i p j (blind f, n, h) = cc

left_by : (c : Bool) (i e s j : ℕ) → Chosen c (Gives (Some s) e (got j None)) (Gives {X = Maybe ℕ} None i (got j None)) → i ≡ j
left_by true i e s j h = cc
left_by false i e s j h = cc

eat_left : (v : View) (text : List ℕ) (i j : ℕ) → TokenIfAny (Sights Graphql text) (is_token v) i (got j None) → i ≡ j
eat_left v text i j (sees s e x, n, h) = left_by (is_token v x) i e s j h
eat_left v text i j (blind f, n, h) = cc

pub passes_one : PassesOne
passes_one = record { name = name_passed; expect = expect_passed; eat = eat_passed; left = eat_left }
