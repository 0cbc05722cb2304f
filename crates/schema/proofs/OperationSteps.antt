-- The steps of reading an operation.
use Rattle.std.proofs.Common.{◌≡◌, ℕ, zero, suc, ◌<◌, ◌≤◌, ◌&&◌, Bool, true, false, nat_lt, Some, None, Option as Maybe, Ok, refl, subst, arith}
use Rattle.std.proofs.lemmas.Bool.{cond-true, cond-false}
use Rattle.std.proofs.lemmas.Bool.Decides.{nat_tests}
use Rattle.text.specs.declared.fault.Fault.{Fault}
use Rattle.text.specs.declared.fault.Fault.TheVariants.{NoSpace}
use Rattle.reader.specs.Tokens.{Sight, sees}
use Rattle.reader.specs.Reading.{got, fails}
use Rattle.model.specs.Values.{Name, Argument}
use Rattle.source.specs.Table.{Table, Keeps}
use Rattle.source.proofs.Keeping.{stands_kept}
use Rattle.schema.specs.declared.operation.Argument.{Argument as ArgumentIn}
use Rattle.schema.specs.HoldsOperation.{VariableHeld, ArgumentHeld}
use Rattle.schema.specs.OperationTold.{BeginsTold}
use Rattle.schema.specs.Reading.{Onward}
use Rattle.schema.specs.SchemaTold.{Open, Closed}
use Rattle.schema.specs.Told.{sights, Read, Itself, is_token, the_token}
use Rattle.schema.specs.declared.tokens.Tokens.{Tokens}
use Rattle.schema.specs.declared.types.Base.{Base}
use Rattle.schema.specs.declared.operation.Variable.{Variable as VariableIn}
use Rattle.schema.proofs.Entering.{open_in, same_sights}
use Rattle.schema.proofs.Rowing.{default_kept}
use Rattle.schema.proofs.Seeing.{read_in, itself}
use Rattle.text.specs.TokenFound.{View}
use Rattle.text.specs.TokenGrammar.{Lexical}
use Rattle.schema.specs.Rows.{span, argument_span}
use Rattle.schema.specs.Documents.{Label, Declared, VariableDefinition}
use Rattle.schema.specs.Declarations.{ReadsDeclared}
use Rattle.schema.specs.OperationReading.{ReadsAfterDollar}
use Rattle.schema.specs.Outcomes.{Takes, any_name, shuts}
use Rattle.schema.specs.SchemaReading.{ReadsNew}

room_is : (n most : ℕ) → n < most → nat_lt n most ≡ true
room_is n most h = grind (arith, nat_tests)

no_room : (n most : ℕ) → most ≤ n → nat_lt n most ≡ false
no_room n most h = grind (arith, nat_tests)

module _ (N : ℕ → Sight → Type 0) (n s i : ℕ) where
  -- a variable from behind its `$`
  pub dollar_unnamed : (f : Fault) → Takes N any_name i (fails f) → ReadsAfterDollar N n s i (fails f)
  dollar_unnamed f h = (fails f, (fails f, h, refl), refl)

  module _ (e : ℕ) (l : Label) (h : Takes N any_name i (got e l)) where
    pub dollar_full : 64 ≤ n → ReadsAfterDollar N n s i (fails (NoSpace l.place))
    dollar_full r = (fails (NoSpace l.place), (got e l, h, (fails (NoSpace l.place), cond-false (nat_lt n 64) (got e tt) (fails (NoSpace l.place)) (no_room n 64 r), refl)), refl)

    entered : n < 64 → ReadsNew N 64 n any_name i (got e l)
    entered r = (got e l, h, (got e tt, cond-true (nat_lt n 64) (got e tt) (fails (NoSpace l.place)) (room_is n 64 r), refl))

    pub dollar_fails : (f : Fault) → n < 64 → ReadsDeclared N l e (fails f) → ReadsAfterDollar N n s i (fails f)
    dollar_fails f r d = (got e l, entered r, (fails f, d, refl))

    pub dollar_read : (j : ℕ) (x : Declared) → n < 64 → ReadsDeclared N l e (got j x) → ReadsAfterDollar N n s i (got j (record { place = s; declared = x }))
    dollar_read j x r d = (got e l, entered r, (got j x, d, refl))

-- an argument's value stands where the table grew
pub argument_kept : (T U : Table) → Keeps 0 T U → (a : ArgumentIn) (x : Argument) → ArgumentHeld T a x → ArgumentHeld U a x
argument_kept T U k a x h = record { name = h.name; place = h.place; value = stands_kept k a.value x.value (omega arith) h.value }

pub some_span : (a n : ℕ) → 0 < n → span a n ≡ argument_span a n
some_span a zero h = absurd (omega arith)
some_span a (suc n) h = refl

-- there are more than there were
pub more_than : (a b : ℕ) (c : Bool) → nat_lt a b && c ≡ true → a < b
more_than a b c h = grind (arith, nat_tests)

-- a variable's default stands where the table grew
pub variable_kept : (B : Name → Base) (T U : Table) → Keeps 0 T U → (v : VariableIn) (d : VariableDefinition) → VariableHeld B T v d → VariableHeld B U v d
variable_kept B T U k v d h = record { name = h.name; name_place = h.name_place; place = h.place; typed = h.typed; base = h.base; default = default_kept T U k v.default d.declared.dflt h.default }

-- the next item of a list, in the text of u
pub record Begun (u : Tokens) (first : View) (close : Lexical → Bool) (may : Bool) (t new : Tokens) (s : ℕ) : Type 0 where
  pub sight : Sight
  pub seen : sights u t.at sight
  pub goes : shuts may close sight ≡ false
  pub token : Takes (sights u) (the_token first) t.at (got new.at s)
  pub onward : Onward 0 t new

pub record Unbegun (u : Tokens) (first : View) (close : Lexical → Bool) (may : Bool) (t : Tokens) (f : Fault) : Type 0 where
  pub sight : Sight
  pub seen : sights u t.at sight
  pub goes : shuts may close sight ≡ false
  pub token : Takes (sights u) (the_token first) t.at (fails f)

pub record Ended (u : Tokens) (close : Lexical → Bool) (may : Bool) (t new : Tokens) : Type 0 where
  pub start : ℕ
  pub token : Lexical
  pub seen : sights u t.at (sees start new.at token)
  pub closes : may && close token ≡ true
  pub onward : Onward 0 t new

module _ (t u : Tokens) (same : t.text.now ≡ u.text.now) (first close : View) (may can : Bool) (p : may ≡ can) where
  pub begun : (new : Tokens) (o : Maybe ℕ) (s : ℕ) → o ≡ Some s → BeginsTold first close may t new (Ok o) → Begun u first (is_token close) can t new s
  begun new o s e b =
      let j : Open (is_token close) may t × Read 0 (λ N. Takes N (the_token first)) Itself t new s = subst (λ x. BeginsTold first close may t new (Ok x)) e b in
      let w = open_in t u (is_token close) may can same p j.0 in
      record { sight = w.0; seen = w.1; goes = w.2; token = read_in (λ N. Takes N (the_token first)) u t t.at (got new.at s) same (itself 0 (λ N. Takes N (the_token first)) t new s s j.1 refl); onward = j.1.onward }

  pub unbegun : (f : Fault) → Open (is_token close) may t × Takes (sights t) (the_token first) t.at (fails f) → Unbegun u first (is_token close) can t f
  unbegun f j =
      let w = open_in t u (is_token close) may can same p j.0 in
      record { sight = w.0; seen = w.1; goes = w.2; token = read_in (λ N. Takes N (the_token first)) u t t.at (fails f) same j.1 }

  pub ended : (new : Tokens) (o : Maybe ℕ) → o ≡ None → BeginsTold first close may t new (Ok o) → Ended u (is_token close) can t new
  ended new o e b =
      let j : Closed (is_token close) may t new = subst (λ x. BeginsTold first close may t new (Ok x)) e b in
      record { start = j.start; token = j.token; seen = subst (λ N. N t.at (sees j.start new.at j.token)) (same_sights t u same) j.seen; closes = subst (λ c. c && is_token close j.token ≡ true) p j.closes; onward = j.onward }
