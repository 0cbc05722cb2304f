-- What is seen, where a token was passed, left or refused.
use Rattle.std.proofs.Common.{◌≡◌, ℕ, Bool, true, false, Some, None, Option, sym, refl, ap, ◌∙◌, subst}
use Rattle.std.proofs.Math.Option.{Option as Maybe, some, none}
use Rattle.text.specs.declared.fault.Fault.{Fault}
use Rattle.text.specs.declared.fault.Fault.TheVariants.{BadText}
use Rattle.text.specs.declared.language.Language.TheVariants.{Graphql}
use Rattle.text.specs.TokenGrammar.{Mark, Lexical, a_mark, a_name, a_number, a_string, the_end}
use Rattle.reader.specs.Tokens.{Sight, sees, blind, Sights}
use Rattle.reader.specs.Reading.{Out, got, fails, is_mark, sees_mark}
use Rattle.reader.proofs.RdSound.{mark_is}
use Rattle.schema.specs.declared.tokens.Tokens.{Tokens}
use Rattle.schema.specs.Documents.{Label}
use Rattle.schema.specs.Outcomes.{Gives, Takes, accepted, any_name, Chosen, IfToken}
use Rattle.schema.specs.Told.{sights, Read, Itself, TokenIfAny}

-- the same text is seen the same
pub seen_in : (a b : Tokens) (i : ℕ) (v : Sight) → b.text.now ≡ a.text.now → sights b i v → sights a i v
seen_in a b i v e n = subst (λ text. Sights Graphql text i v) e n

-- and read the same
pub read_in : {X : Type 0} (R : (ℕ → Sight → Type 0) → ℕ → Out X → Type 0) (a b : Tokens) (i : ℕ) (o : Out X) → b.text.now ≡ a.text.now → R (sights b) i o → R (sights a) i o
read_in R a b i o e r = subst (λ text. R (Sights Graphql text) i o) e r

-- what was read is the value itself
pub itself : {X : Type 0} (n : ℕ) (R : (ℕ → Sight → Type 0) → ℕ → Out X → Type 0) (old new : Tokens) (y x : X) → Read n R Itself old new y → y ≡ x → R (sights old) old.at (got new.at x)
itself n R old new y x r e = subst (λ z. R (sights old) old.at (got new.at z)) (sym r.means ∙ e) r.reads

eaten_by : (m : Mark) (x : Lexical) (c : Bool) (i s e j p : ℕ) → c ≡ is_mark m x → Chosen c (Gives (Some s) e (got j (Some p))) (Gives None i (got j (Some p))) → (s ≡ p) × (e ≡ j) × (x ≡ a_mark m)
eaten_by m x true i s e j p h g = (cc, cc, mark_is m x (sym h))
eaten_by m x false i s e j p h g = cc

left_by : (c : Bool) (i s e j : ℕ) → Chosen c (Gives (Some s) e (got j None)) (Gives {X = Option ℕ} None i (got j None)) → (i ≡ j) × (c ≡ false)
left_by true i s e j h = cc
left_by false i s e j h = (cc, refl)

fails_by : (c : Bool) (i s e : ℕ) (f : Fault) → Chosen c (Gives (Some s) e (fails f)) (Gives {X = Option ℕ} None i (fails f)) → ⊥
fails_by true i s e f h = cc
fails_by false i s e f h = cc

pub accepted_is : {X : Type 0} (s e j : ℕ) (q : Maybe X) (x : X) → accepted s e q ≡ got j x → (e ≡ j) × (q ≡ some x)
accepted_is s e j (some y) x h = (cc, cc)
accepted_is s e j none x h = cc

pub refused_is : {X : Type 0} (s e : ℕ) (q : Maybe X) (f : Fault) → accepted s e q ≡ fails f → (BadText s ≡ f) × (q ≡ none)
refused_is s e (some y) f h = cc
refused_is s e none f h = (cc, refl)

name_is : (s : ℕ) (x : Lexical) (l : Label) → any_name s x ≡ some l → (s ≡ l.place) × (x ≡ a_name l.name)
name_is s (a_name w) l h = (cc, cc)
name_is s (a_mark m) l h = cc
name_is s (a_number k ds) l h = cc
name_is s (a_string cs) l h = cc
name_is s the_end l h = cc

-- it goes on by whether a token came
by_any : {X : Type 0} (B : ℕ → ℕ → Out X → Type 0) (C : ℕ → Out X → Type 0) (o : Out X) (c : Bool) (i s e j p : ℕ) → Chosen c (Gives (Some s) e (got j (Some p))) (Gives None i (got j (Some p))) → B p j o → Chosen c (B s e o) (C i o)
by_any B C o true i s e j p h b = let a : p ≡ s = cc in let k : j ≡ e = cc in subst (λ s. B s e o) a (subst (λ e. B p e o) k b)
by_any B C o false i s e j p h b = cc

by_none : {X : Type 0} (B : ℕ → ℕ → Out X → Type 0) (C : ℕ → Out X → Type 0) (o : Out X) (c : Bool) (i s e j : ℕ) → Chosen c (Gives (Some s) e (got j None)) (Gives {X = Option ℕ} None i (got j None)) → C j o → Chosen c (B s e o) (C i o)
by_none B C o true i s e j h b = cc
by_none B C o false i s e j h b = let k : j ≡ i = cc in subst (λ i. C i o) k b

module _ (N : ℕ → Sight → Type 0) where
  -- a token that was eaten or left, or of which a fault was told: so it goes on
  pub after_eaten : {X : Type 0} (test : Lexical → Bool) (B : ℕ → ℕ → Out X → Type 0) (C : ℕ → Out X → Type 0) (o : Out X) (i j p : ℕ) → TokenIfAny N test i (got j (Some p)) → B p j o → IfToken N test B C i o
  after_eaten test B C o i j p (sees s e x, n, h) b = (sees s e x, n, by_any B C o (test x) i s e j p h b)
  after_eaten test B C o i j p (blind f, n, h) b = cc

  pub after_left : {X : Type 0} (test : Lexical → Bool) (B : ℕ → ℕ → Out X → Type 0) (C : ℕ → Out X → Type 0) (o : Out X) (i j : ℕ) → TokenIfAny N test i (got j None) → C j o → IfToken N test B C i o
  after_left test B C o i j (sees s e x, n, h) b = (sees s e x, n, by_none B C o (test x) i s e j h b)
  after_left test B C o i j (blind f, n, h) b = cc

  pub after_fault : {X : Type 0} (test : Lexical → Bool) (B : ℕ → ℕ → Out X → Type 0) (C : ℕ → Out X → Type 0) (f : Fault) (i : ℕ) → TokenIfAny N test i (fails f) → IfToken N test B C i (fails f)
  after_fault test B C f i (sees s e x, n, h) = absurd (fails_by (test x) i s e f h)
  after_fault test B C f i (blind g, n, h) = let k : g ≡ f = cc in (blind g, n, ap (λ g. fails g) k)

  pub name_seen : (i j : ℕ) (l : Label) → Takes N any_name i (got j l) → N i (sees l.place j (a_name l.name))
  name_seen i j l (sees s e x, n, h) =
      let k = accepted_is s e j (any_name s x) l h in
      let w = name_is s x l k.1 in
      subst (λ a. N i (sees a j (a_name l.name))) w.0 (subst (λ b. N i (sees s b (a_name l.name))) k.0 (subst (λ y. N i (sees s e y)) w.1 n))
  name_seen i j l (blind f, n, h) = cc

  -- a mark that was eaten, left, or not told of
  pub eaten_seen : (m : Mark) (i j p : ℕ) → TokenIfAny N (is_mark m) i (got j (Some p)) → N i (sees p j (a_mark m))
  eaten_seen m i j p (sees s e x, n, h) =
      let k = eaten_by m x (is_mark m x) i s e j p refl h in
      subst (λ a. N i (sees a j (a_mark m))) k.0 (subst (λ b. N i (sees s b (a_mark m))) k.1 (subst (λ y. N i (sees s e y)) k.2 n))
  eaten_seen m i j p (blind f, n, h) = cc

  -- nothing was passed, and something else is seen
  pub left_seen : (m : Mark) (i j : ℕ) → TokenIfAny N (is_mark m) i (got j None) → (i ≡ j) × ((v : Sight) × N i v × (sees_mark m v ≡ false))
  left_seen m i j (sees s e x, n, h) = let k = left_by (is_mark m x) i s e j h in (k.0, (sees s e x, n, k.1))
  left_seen m i j (blind f, n, h) = cc

  pub eating_fails : (m : Mark) (i : ℕ) (f : Fault) → TokenIfAny N (is_mark m) i (fails f) → N i (blind f)
  eating_fails m i f (sees s e x, n, h) = absurd (fails_by (is_mark m x) i s e f h)
  eating_fails m i f (blind g, n, h) = let e : g ≡ f = cc in subst (λ g. N i (blind g)) e n
