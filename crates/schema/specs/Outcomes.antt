-- How readings with outcomes are put together, and beside each way what the grammar says of it.
-- A reading of an X says what it comes to from a place on: a family over places and outcomes.
-- A production says from where to where an X stands: a family over two places and an X.
use Rattle.std.specs.Prelude.{◌≡◌, ℕ, ◌&&◌, Bool, true, false, cond, List, [], ◌∷◌, nat_lt}
use Rattle.std.proofs.Math.Option.{Option, none, some}
use Rattle.text.specs.declared.fault.Fault.{Fault}
use Rattle.text.specs.declared.fault.Fault.TheVariants.{BadText, NoSpace}
use Rattle.text.specs.TokenGrammar.{Mark, Lexical, a_mark, a_name, a_number, a_string, the_end}
use Rattle.reader.specs.Tokens.{Sight, sees, blind}
use Rattle.reader.specs.Reading.{Out, got, fails, is_mark}
use Rattle.schema.specs.Documents.{Label}

-- it goes on from what was read, where something was
abbrev pub Goes : {X Y : Type 0} → (X → ℕ → Out Y → Type 0) → Out X → Out Y → Type 0
Goes B (got j x) o = B x j o
Goes B (fails f) o = fails f ≡ o

-- A, and then B, which may depend on what A was
abbrev pub Then : {X Y : Type 0} → (ℕ → Out X → Type 0) → (X → ℕ → Out Y → Type 0) → ℕ → Out Y → Type 0
Then {X} A B i o = (q : Out X) × A i q × Goes B q o

-- nothing is read
abbrev pub Gives : {X : Type 0} → X → ℕ → Out X → Type 0
Gives x i o = got i x ≡ o

-- what was read, as something else
abbrev pub Maps : {X Y : Type 0} → (X → Y) → (ℕ → Out X → Type 0) → ℕ → Out Y → Type 0
Maps f A = Then A (λ x. Gives (f x))

-- it goes on by the next token, of which nothing is passed yet; N says what is seen from a place on
abbrev pub Sees : {X : Type 0} → (ℕ → Sight → Type 0) → (Sight → ℕ → Out X → Type 0) → ℕ → Out X → Type 0
Sees N k i o = (v : Sight) × N i v × k v i o

abbrev pub accepted : {X : Type 0} → (start end : ℕ) → Option X → Out X
accepted s e (some x) = got e x
accepted s e none = fails (BadText s)

-- the token that is seen, where it is one of these
abbrev pub taken : {X : Type 0} → (ℕ → Lexical → Option X) → Sight → Out X
taken of (sees s e x) = accepted s e (of s x)
taken of (blind f) = fails f

-- the next token, which is to be one of these
abbrev pub Takes : {X : Type 0} → (ℕ → Sight → Type 0) → (ℕ → Lexical → Option X) → ℕ → Out X → Type 0
Takes N of i o = (v : Sight) × N i v × (taken of v ≡ o)

-- a mark, by its place
abbrev pub the_mark : Mark → ℕ → Lexical → Option ℕ
the_mark m s x = cond (is_mark m x) (some s) none

-- a name, with its place
abbrev pub any_name : ℕ → Lexical → Option Label
any_name s (a_mark m) = none
any_name s (a_name w) = some (record { name = w; place = s })
any_name s (a_number k ds) = none
any_name s (a_string cs) = none
any_name s the_end = none

abbrev pub Chosen : Bool → Type 0 → Type 0 → Type 0
Chosen true P Q = P
Chosen false P Q = Q

-- by what is seen: B from behind a token of the test, which starts at s, else C
abbrev pub Chooses : {X : Type 0} → (Lexical → Bool) → (ℕ → ℕ → Out X → Type 0) → (ℕ → Out X → Type 0) → Sight → ℕ → Out X → Type 0
Chooses test B C (sees s e x) i o = Chosen (test x) (B s e o) (C i o)
Chooses test B C (blind f) i o = fails f ≡ o

abbrev pub IfToken : {X : Type 0} → (ℕ → Sight → Type 0) → (Lexical → Bool) → (ℕ → ℕ → Out X → Type 0) → (ℕ → Out X → Type 0) → ℕ → Out X → Type 0
IfToken N test B C = Sees N (Chooses test B C)

abbrev pub IfMark : {X : Type 0} → (ℕ → Sight → Type 0) → Mark → (ℕ → ℕ → Out X → Type 0) → (ℕ → Out X → Type 0) → ℕ → Out X → Type 0
IfMark N m = IfToken N (is_mark m)

-- one more, where there are n and may be `most`; else the name at p is the surplus one
abbrev pub Room : (n most p : ℕ) → ℕ → Out (Unit {0}) → Type 0
Room n most p i o = cond (nat_lt n most) (got i tt) (fails (NoSpace p)) ≡ o

-- whether what is seen ends the items
abbrev pub shuts : Bool → (Lexical → Bool) → Sight → Bool
shuts may closes (sees s e x) = may && closes x
shuts may closes (blind f) = false

abbrev pub before : {X : Type 0} → X → Out (List X) → Out (List X)
before x (got j xs) = got j (x ∷ xs)
before x (fails f) = fails f

-- items up to a token that closes them, which is passed; `may` says whether it may come at once.
-- How an item is read may depend on those before it, by a state: s before the first.
pub data Items {S X : Type 0} (N : ℕ → Sight → Type 0) (closes : Lexical → Bool) (step : S → X → S) (A : S → ℕ → Out X → Type 0) : Bool → S → ℕ → Out (List X) → Type 0 where
  i_shut : {may : Bool} {s : S} {i b e : ℕ} {x : Lexical} → N i (sees b e x) → may && closes x ≡ true → Items N closes step A may s i (got e [])
  i_fails : {may : Bool} {s : S} {i : ℕ} {v : Sight} {f : Fault} → N i v → shuts may closes v ≡ false → A s i (fails f) → Items N closes step A may s i (fails f)
  i_more : {may : Bool} {s : S} {i j : ℕ} {v : Sight} {x : X} {q o : Out (List X)} → N i v → shuts may closes v ≡ false → A s i (got j x) → Items N closes step A true (step s x) j q → before x q ≡ o → Items N closes step A may s i o

-- the same by the grammar: P, any number of times, or at least once where it may not close at once, and the token that closes them
pub data ItemsAt {X : Type 0} (T : ℕ → ℕ → ℕ → Lexical → Type 0) (closes : Lexical → Bool) (P : ℕ → ℕ → X → Type 0) : Bool → ℕ → ℕ → List X → Type 0 where
  at_shut : {i b e : ℕ} {x : Lexical} → T i b e x → closes x ≡ true → ItemsAt T closes P true i e []
  at_more : {may : Bool} {i j k : ℕ} {x : X} {xs : List X} → P i j x → ItemsAt T closes P true j k xs → ItemsAt T closes P may i k (x ∷ xs)
