-- The values that texts write: JSON's (RFC 8259, sections 3 to 7) and GraphQL's (October 2021, section 2.9).
-- The two grammars share their productions. They differ in tokens, in what stands between two values
-- (value-separator in JSON; nothing in GraphQL, whose commas are ignored), and in names (a string; a Name).
use Rattle.std.specs.Prelude.{◌≡◌, ℕ, true, false, ◌≢◌, List, [], ◌∷◌}
use Rattle.std.proofs.Math.Option.{Option, none, some}
use Rattle.std.proofs.Math.Utf8.{encodes}
use Rattle.model.specs.Values.{Name, Dec, boolean, whole, decimal, string, symbol, Raw, Raws, Mems, null, scalar, variable, list, object, nil, cons, end, mem}
use Rattle.text.specs.declared.language.Language.{Language}
use Rattle.text.specs.declared.language.Language.TheVariants.{Json, Graphql}
use Rattle.text.specs.declared.number.NumberKind.TheVariants.{Whole, Decimal}
use Rattle.text.specs.NormalForm.{Normal, WholeOf}
use Rattle.text.specs.TokenGrammar.{dollar, colon, open_bracket, close_bracket, open_brace, close_brace, comma, Lexical, a_mark, a_name, a_number, a_string, the_end}

-- null, true, false
abbrev pub name_of_null : Name
name_of_null = 110 ∷ 117 ∷ 108 ∷ 108 ∷ []

abbrev pub name_of_true : Name
name_of_true = 116 ∷ 114 ∷ 117 ∷ 101 ∷ []

abbrev pub name_of_false : Name
name_of_false = 102 ∷ 97 ∷ 108 ∷ 115 ∷ 101 ∷ []

-- the decimal is the normal form of the number that the bytes write
abbrev pub NormalOf : List ℕ → Dec → Type 0
NormalOf ds d = Normal ds (record { negative = d.negative; exponent = d.exponent }) d.digits

-- a value that is one token, which starts at s; a name that is not null, true or false is an EnumValue
pub data Leaf (s : ℕ) : Lexical → Raw → Type 0 where
  l_null : {w : Name} → w ≡ name_of_null → Leaf s (a_name w) (null s)
  l_true : {w : Name} → w ≡ name_of_true → Leaf s (a_name w) (scalar s (boolean true))
  l_false : {w : Name} → w ≡ name_of_false → Leaf s (a_name w) (scalar s (boolean false))
  l_symbol : {w : Name} → w ≢ name_of_null → w ≢ name_of_true → w ≢ name_of_false → Leaf s (a_name w) (scalar s (symbol w))
  l_whole : {ds r : List ℕ} → WholeOf ds r → Leaf s (a_number Whole ds) (scalar s (whole r))
  l_decimal : {ds : List ℕ} {d : Dec} → NormalOf ds d → Leaf s (a_number Decimal ds) (scalar s (decimal d))
  l_string : {cs bs : List ℕ} → encodes cs ≡ bs → Leaf s (a_string cs) (scalar s (string bs))

-- the name that a token is: of a member in JSON, of an ObjectField in GraphQL
abbrev pub name_of : Language → Lexical → Option Name
name_of Json (a_mark m) = none
name_of Json (a_name w) = none
name_of Json (a_number k ds) = none
name_of Json (a_string cs) = some (encodes cs)
name_of Json the_end = none
name_of Graphql (a_mark m) = none
name_of Graphql (a_name w) = some w
name_of Graphql (a_number k ds) = none
name_of Graphql (a_string cs) = none
name_of Graphql the_end = none

-- what stands between two values, from j to k; T says which token stands after a place, and where it starts and ends
abbrev pub Separated : (ℕ → ℕ → ℕ → Lexical → Type 0) → Language → ℕ → ℕ → Type 0
Separated T Json j k = (s : ℕ) × T j s k (a_mark comma)
Separated T Graphql j k = j ≡ k

mutual
  -- value of JSON, Value of GraphQL: from i to j stands the value t
  pub data Value (T : ℕ → ℕ → ℕ → Lexical → Type 0) (language : Language) : ℕ → ℕ → Raw → Type 0 where
    g_leaf : {i s e : ℕ} {x : Lexical} {t : Raw} → T i s e x → Leaf s x t → Value T language i e t
    g_variable : {i s e b j : ℕ} {w : Name} → T i s e (a_mark dollar) → T e b j (a_name w) → Value T language i j (variable s w)
    g_list : {i s e j : ℕ} {xs : Raws} → T i s e (a_mark open_bracket) → Values T language e j xs → Value T language i j (list s xs)
    g_object : {i s e j : ℕ} {ms : Mems} → T i s e (a_mark open_brace) → Members T language e j ms → Value T language i j (object s ms)

  -- what follows the opening of an array or ListValue, with its closing
  pub data Values (T : ℕ → ℕ → ℕ → Lexical → Type 0) (language : Language) : ℕ → ℕ → Raws → Type 0 where
    g_nil : {i s e : ℕ} → T i s e (a_mark close_bracket) → Values T language i e nil
    g_values : {i j : ℕ} {xs : Raws} → SomeValues T language i j xs → Values T language i j xs

  pub data SomeValues (T : ℕ → ℕ → ℕ → Lexical → Type 0) (language : Language) : ℕ → ℕ → Raws → Type 0 where
    g_last : {i j s e : ℕ} {t : Raw} → Value T language i j t → T j s e (a_mark close_bracket) → SomeValues T language i e (cons t nil)
    g_more : {i j k m : ℕ} {t : Raw} {ts : Raws} → Value T language i j t → Separated T language j k → SomeValues T language k m ts → SomeValues T language i m (cons t ts)

  -- what follows the opening of an object or ObjectValue, with its closing
  pub data Members (T : ℕ → ℕ → ℕ → Lexical → Type 0) (language : Language) : ℕ → ℕ → Mems → Type 0 where
    g_end : {i s e : ℕ} → T i s e (a_mark close_brace) → Members T language i e end
    g_members : {i j : ℕ} {ms : Mems} → SomeMembers T language i j ms → Members T language i j ms

  pub data SomeMembers (T : ℕ → ℕ → ℕ → Lexical → Type 0) (language : Language) : ℕ → ℕ → Mems → Type 0 where
    g_last_member : {i j s e : ℕ} {n : Name} {t : Raw} → Member T language i j n t → T j s e (a_mark close_brace) → SomeMembers T language i e (mem n t end)
    g_more_members : {i j k m : ℕ} {n : Name} {t : Raw} {ts : Mems} → Member T language i j n t → Separated T language j k → SomeMembers T language k m ts → SomeMembers T language i m (mem n t ts)

  -- member of JSON, ObjectField of GraphQL
  pub data Member (T : ℕ → ℕ → ℕ → Lexical → Type 0) (language : Language) : ℕ → ℕ → Name → Raw → Type 0 where
    g_member : {i s e b c j : ℕ} {x : Lexical} {n : Name} {t : Raw} → T i s e x → name_of language x ≡ some n → T e b c (a_mark colon) → Value T language c j t → Member T language i j n t

-- the whole text is one value
pub record Text (T : ℕ → ℕ → ℕ → Lexical → Type 0) (language : Language) (t : Raw) : Type 0 where
  pub to : ℕ
  pub from : ℕ
  pub last : ℕ
  pub value : Value T language 0 to t
  pub ends : T to from last the_end
