-- Lists that are read item by item.
use Rattle.std.proofs.Common.{◌≡◌, ℕ, ◌&&◌, Bool, true, false, List, [], ◌∷◌, ◌++◌, sym, refl, ap, subst, append_assoc, append-nil}
use Rattle.text.specs.declared.fault.Fault.{Fault}
use Rattle.text.specs.TokenGrammar.{Lexical}
use Rattle.reader.specs.Tokens.{Sight, sees}
use Rattle.reader.specs.Reading.{Out, got, fails}
use Rattle.schema.specs.Outcomes.{before, shuts, Items, i_shut, i_fails, i_more}

-- what comes after the items xs, with them
abbrev pub prefixed : {X : Type 0} → List X → Out (List X) → Out (List X)
prefixed xs (got j ys) = got j (xs ++ ys)
prefixed xs (fails f) = fails f

pub prefixed_none : {X : Type 0} (q : Out (List X)) → q ≡ prefixed [] q
prefixed_none (got j ys) = refl
prefixed_none (fails f) = refl

pub prefixed_more : {X : Type 0} (xs : List X) (x : X) (q : Out (List X)) → prefixed xs (before x q) ≡ prefixed (xs ++ x ∷ []) q
prefixed_more xs x (got j ys) = ap (got j) (sym (append_assoc xs (x ∷ []) ys))
prefixed_more xs x (fails f) = refl

module _ {S X : Type 0} (N : ℕ → Sight → Type 0) (closes : Lexical → Bool) (step : S → X → S) (A : S → ℕ → Out X → Type 0) where
  -- the items xs were read, and what the rest comes to from here, the whole comes to with them
  pub record Sofar (may : Bool) (s : S) (i : ℕ) (may' : Bool) (s' : S) (here : ℕ) (xs : List X) : Type 0 where
    pub goes : (q : Out (List X)) → Items N closes step A may' s' here q → Items N closes step A may s i (prefixed xs q)

  pub sofar_start : (may : Bool) (s : S) (i : ℕ) → Sofar may s i may s i []
  sofar_start may s i = record { goes = λ q r. subst (Items N closes step A may s i) (prefixed_none q) r }

  module _ {may may' : Bool} {s s' : S} {i here : ℕ} {xs : List X} (a : Sofar may s i may' s' here xs) where
    pub sofar_step : (v : Sight) (j : ℕ) (x : X) → N here v → shuts may' closes v ≡ false → A s' here (got j x) → Sofar may s i true (step s' x) j (xs ++ x ∷ [])
    sofar_step v j x n h r = record { goes = λ q t. subst (Items N closes step A may s i) (prefixed_more xs x q) (a.goes (before x q) (i_more n h r t refl)) }

    pub sofar_fails : (v : Sight) (f : Fault) → N here v → shuts may' closes v ≡ false → A s' here (fails f) → Items N closes step A may s i (fails f)
    sofar_fails v f n h r = a.goes (fails f) (i_fails n h r)

    pub sofar_done : (b e : ℕ) (x : Lexical) → N here (sees b e x) → may' && closes x ≡ true → Items N closes step A may s i (got e xs)
    sofar_done b e x n h = subst (λ ys. Items N closes step A may s i (got e ys)) (append-nil xs) (a.goes (got e []) (i_shut n h))

  pub sofar_as : {may may' may'' : Bool} {s s' s'' : S} {i here here' : ℕ} {xs : List X} → Sofar may s i may' s' here xs → may' ≡ may'' → s' ≡ s'' → here ≡ here' → Sofar may s i may'' s'' here' xs
  sofar_as {may} {may'} {may''} {s} {s'} {s''} {i} {here} {here'} {xs} a p q r =
      subst (λ m. Sofar may s i m s'' here' xs) p (subst (λ x. Sofar may s i may' x here' xs) q (subst (λ h. Sofar may s i may' s' h xs) r a))
