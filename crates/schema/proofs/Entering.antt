-- Names that are read, and whether there is room for what they name.
use Rattle.std.proofs.Common.{◌≡◌, ℕ, ◌+◌, ◌≤◌, ◌<◌, ◌==◌, not, Bool, true, false, cond, List, ◌++◌, map, length, nat_lt, ◌&&◌, Ok, Some, None, Option as Maybe, sym, refl, ap, ◌∙◌, subst, arith}
use Rattle.std.proofs.Math.Option.{Option, some, none}
use Rattle.std.proofs.lemmas.Bool.{cond-true, cond-false}
use Rattle.std.proofs.lemmas.Bool.Decides.{nat_tests}
use Rattle.std.proofs.lemmas.List.{length-map, length-append}
use Rattle.schema.specs.Rows.{span}
use Rattle.text.specs.declared.fault.Fault.{Fault}
use Rattle.text.specs.declared.fault.Fault.TheVariants.{BadText, NoSpace}
use Rattle.text.specs.declared.language.Language.TheVariants.{Graphql}
use Rattle.text.specs.TokenGrammar.{Lexical, a_mark, a_name, a_number, a_string, the_end}
use Rattle.reader.specs.Tokens.{Sight, sees, blind, Sights}
use Rattle.reader.specs.Reading.{Out, got, fails}
use Rattle.schema.specs.declared.tokens.Tokens.{Tokens}
use Rattle.schema.proofs.Seeing.{name_seen}
use Rattle.schema.specs.Documents.{Label}
use Rattle.schema.specs.Outcomes.{Takes, any_name, taken, accepted, shuts}
use Rattle.schema.specs.Reading.{Onward}
use Rattle.schema.specs.SchemaReading.{reserved, value_name, ReadsNew}
use Rattle.schema.specs.declared.tokens.Name.{Name as NameToken}
use Rattle.schema.specs.Holds.{label_of}
use Rattle.schema.specs.SchemaTold.{Open, Closed, ItemTold}
use Rattle.schema.specs.Told.{sights, Read, Labels}

pub not_got : {X A : Type 0} {f : Fault} {j : ℕ} {t : X} → fails f ≡ got j t → A
not_got e = let z : ◌≡◌ {A = ℕ} 0 1 = cc in absurd (omega arith)

pub not_fails : {X A : Type 0} {f : Fault} {j : ℕ} {t : X} → got j t ≡ fails f → A
not_fails e = let z : ◌≡◌ {A = ℕ} 0 1 = cc in absurd (omega arith)

-- where none is read, no enum value is
no_value : (v : Sight) (f : Fault) → taken any_name v ≡ fails f → taken value_name v ≡ fails f
no_value (sees s c (a_name w)) f h = not_fails h
no_value (sees s c (a_mark m)) f h = h
no_value (sees s c (a_number k ds)) f h = h
no_value (sees s c (a_string cs)) f h = h
no_value (sees s c the_end) f h = h
no_value (blind g) f h = h

module _ (N : ℕ → Sight → Type 0) where
  pub value_fails : (i : ℕ) (f : Fault) → Takes N any_name i (fails f) → Takes N value_name i (fails f)
  value_fails i f h = (h.0, h.1, no_value h.0 f h.2)

  value_is : (i e : ℕ) (l : Label) (o : Out Label) → Takes N any_name i (got e l) → accepted l.place e (cond (reserved l.name) none (some l)) ≡ o → Takes N value_name i o
  value_is i e l o h z = (sees l.place e (a_name l.name), name_seen N i e l h, z)

  pub value_taken : (i e : ℕ) (l : Label) → Takes N any_name i (got e l) → reserved l.name ≡ false → Takes N value_name i (got e l)
  value_taken i e l h r = value_is i e l (got e l) h (ap (accepted l.place e) (cond-false (reserved l.name) none (some l) r))

  pub value_refused : (i e : ℕ) (l : Label) → Takes N any_name i (got e l) → reserved l.name ≡ true → Takes N value_name i (fails (BadText l.place))
  value_refused i e l h r = value_is i e l (fails (BadText l.place)) h (ap (accepted l.place e) (cond-true (reserved l.name) none (some l) r))

  module _ (most n : ℕ) (of : ℕ → Lexical → Option Label) (i : ℕ) where
    pub new_fails : (f : Fault) → Takes N of i (fails f) → ReadsNew N most n of i (fails f)
    new_fails f h = (fails f, h, refl)

    pub new_taken : (e : ℕ) (l : Label) → Takes N of i (got e l) → nat_lt n most ≡ true → ReadsNew N most n of i (got e l)
    new_taken e l h r = (got e l, h, (got e tt, cond-true (nat_lt n most) (got e tt) (fails (NoSpace l.place)) r, refl))

    pub new_full : (e : ℕ) (l : Label) → Takes N of i (got e l) → nat_lt n most ≡ false → ReadsNew N most n of i (fails (NoSpace l.place))
    new_full e l h r = (got e l, h, (fails (NoSpace l.place), cond-false (nat_lt n most) (got e tt) (fails (NoSpace l.place)) r, refl))

-- what is seen in a text is seen wherever the text is the same
pub same_sights : (t u : Tokens) → t.text.now ≡ u.text.now → sights t ≡ sights u
same_sights t u e = ap (Sights Graphql) e

pub takes_in : {X : Type 0} (t u : Tokens) (of : ℕ → Lexical → Option X) (i : ℕ) (o : Out X) → t.text.now ≡ u.text.now → Takes (sights t) of i o → Takes (sights u) of i o
takes_in t u of i o e h = subst (λ N. Takes N of i o) (same_sights t u e) h

pub open_in : (t u : Tokens) (close : Lexical → Bool) (may may' : Bool) → t.text.now ≡ u.text.now → may ≡ may' → Open close may t → (v : Sight) × sights u t.at v × (shuts may' close v ≡ false)
open_in t u close may may' e b h = (h.0, subst (λ N. N t.at h.0) (same_sights t u e) h.1, subst (λ c. shuts c close h.0 ≡ false) b h.2)

pub onward_on : (n m : ℕ) (t u v : Tokens) → Onward n t u → Onward m u v → Onward n t v
onward_on n m t u v a b = (b.0 ∙ a.0, omega (arith, a.1, b.1))

-- rows were added where there are more than before
pub differs : (a b : ℕ) → b ≤ a → not (a == b) ≡ nat_lt b a
differs a b h = grind (arith, nat_tests)

pub room_is : (n most : ℕ) → n < most → nat_lt n most ≡ true
room_is n most h = grind (arith, nat_tests)

pub no_room : (n most : ℕ) → most ≤ n → nat_lt n most ≡ false
no_room n most h = grind (arith, nat_tests)

-- the next item of a list, in the text of u; there are k rows before the list and n now
pub record Begun (u : Tokens) (close : Lexical → Bool) (k n : ℕ) (t new : Tokens) (v : NameToken) : Type 0 where
  pub sight : Sight
  pub seen : sights u t.at sight
  pub goes : shuts (nat_lt k n) close sight ≡ false
  pub name : Takes (sights u) any_name t.at (got new.at (label_of v))
  pub onward : Onward 1 t new

pub record Unbegun (u : Tokens) (close : Lexical → Bool) (k n : ℕ) (t : Tokens) (f : Fault) : Type 0 where
  pub sight : Sight
  pub seen : sights u t.at sight
  pub goes : shuts (nat_lt k n) close sight ≡ false
  pub name : Takes (sights u) any_name t.at (fails f)

pub record Ended (u : Tokens) (close : Lexical → Bool) (k n : ℕ) (t new : Tokens) : Type 0 where
  pub start : ℕ
  pub token : Lexical
  pub seen : sights u t.at (sees start new.at token)
  pub closes : nat_lt k n && close token ≡ true
  pub onward : Onward 0 t new

may_close : (a b k n : ℕ) → a ≡ n → b ≡ k → k ≤ n → not (a == b) ≡ nat_lt k n
may_close a b k n p q h = differs a b (omega (arith, p, q, h)) ∙ ap (λ x. nat_lt x a) q ∙ ap (nat_lt k) p

module _ (t u : Tokens) (same : t.text.now ≡ u.text.now) (close : Lexical → Bool) (a b k n : ℕ) (p : a ≡ n) (q : b ≡ k) (h : k ≤ n) where
  pub item_begun : (new : Tokens) (o : Maybe NameToken) (v : NameToken) → o ≡ Some v → ItemTold close (not (a == b)) t new (Ok o) → Begun u close k n t new v
  item_begun new o v e i =
      let j : Open close (not (a == b)) t × Read 1 (λ N. Takes N any_name) Labels t new v = subst (λ x. ItemTold close (not (a == b)) t new (Ok x)) e i in
      let w = open_in t u close (not (a == b)) (nat_lt k n) same (may_close a b k n p q h) j.0 in
      record { sight = w.0; seen = w.1; goes = w.2; name = takes_in t u any_name t.at _ same (subst (λ l. Takes (sights t) any_name t.at (got new.at l)) (sym j.1.means) j.1.reads); onward = j.1.onward }

  pub item_unbegun : (f : Fault) → Open close (not (a == b)) t × Takes (sights t) any_name t.at (fails f) → Unbegun u close k n t f
  item_unbegun f j =
      let w = open_in t u close (not (a == b)) (nat_lt k n) same (may_close a b k n p q h) j.0 in
      record { sight = w.0; seen = w.1; goes = w.2; name = takes_in t u any_name t.at (fails f) same j.1 }

  pub item_ended : (new : Tokens) (o : Maybe NameToken) → o ≡ None → ItemTold close (not (a == b)) t new (Ok o) → Ended u close k n t new
  item_ended new o e i =
      let j : Closed close (not (a == b)) t new = subst (λ x. ItemTold close (not (a == b)) t new (Ok x)) e i in
      record { start = j.start; token = j.token; seen = subst (λ N. N t.at (sees j.start new.at j.token)) (same_sights t u same) j.seen; closes = subst (λ c. c && close j.token ≡ true) (may_close a b k n p q h) j.closes; onward = j.onward }

pub span_is : (from to a n : ℕ) → from ≡ a → to ≡ a + n → record { from = from; to = to } ≡ span a n
span_is from to a n p q = λ i. record { from = p i; to = q i }

-- so many rows were added
pub grown_by : {A B : Type 0} (f : A → B) (xs ys : List A) (zs : List B) → map f ys ≡ map f xs ++ zs → length ys ≡ length xs + length zs
grown_by f xs ys zs e = sym (length-map ys f) ∙ ap length e ∙ length-append (map f xs) zs ∙ ap (λ n. n + length zs) (length-map xs f)
