-- Items and members that come one after another.
use Rattle.std.proofs.Common.{◌≡◌, ℕ, zero, suc, ◌-◌, ◌<◌, Bool, true, false, not, List, Some, None, Option, get_or, eqb, refl, sym, ap, ◌∙◌, subst, arith}
use lib.Pointwise.{pointwise}
use Rattle.std.proofs.Math.Option.{some}
use Rattle.std.proofs.lemmas.Bool.{cond-true, cond-false}
use Rattle.std.proofs.lemmas.Slice.Eq.{bytes_eq-Decides}
use Rattle.model.specs.Values.{Name, Raw, Raws, Mems, nil, cons, end, mem, place_of, Ty, named as named_type, list_of, has}
use Rattle.model.specs.Coercion.{member, first_undeclared}
use Rattle.source.specs.declared.raw.Span.{Span}
use Rattle.source.specs.Standing.{LeadsItems, LeadsMembers, Found}
use Rattle.source.specs.Spans.{Hands, Taken, Within}
use Rattle.schema.specs.Types.{ty_from}
use Rattle.validation.specs.Literals.{PlaceFound}

-- a step of the values of a source, at the same source by another name
pub at_base : {S : Type 0} (past : S → ℕ → ℕ) (named : S → ℕ → List ℕ → Type 0) (stands : S → ℕ → Raw → Type 0) (items : S → Span → Raws → Type 0) (members : S → Span → Mems → Type 0) (a b : S) (span rest : Span) (r : Option ℕ)
    → a ≡ b → Hands (past a) (named a) (stands a) (items a) (members a) span r rest → Hands (past b) (named b) (stands b) (items b) (members b) span r rest
at_base past named stands items members a b span rest r e h = subst (λ s. Hands (past s) (named s) (stands s) (items s) (members s) span r rest) e h

-- the rest of a narrow span is narrow, and what it hands out lies in it
pub narrower : {past at next : ℕ} {span rest : Span} {over : ℕ} → Taken over span next rest → Within past at span → Within past at rest
narrower t w = record { narrow = omega (arith, t.first, t.onward, t.from, t.to, w.narrow) }

pub lies_inside : {past at next : ℕ} {span rest : Span} {over : ℕ} → Taken over span next rest → Within past at span → over - next < past - at
lies_inside t w = omega (arith, t.first, t.onward, t.from, t.to, t.inside, w.narrow)

module _ (named : ℕ → List ℕ → Type 0) (stands : ℕ → Raw → Type 0) (items : Span → Raws → Type 0) (members : Span → Mems → Type 0) where
  pub items_led : (xs : Raws) (at : ℕ) (rest : Span) → LeadsItems stands items xs (Some (at, rest)) → (x : Raw) × (ys : Raws) × (xs ≡ cons x ys) × stands at x × items rest ys
  items_led nil at rest h = absurd h
  items_led (cons x xs) at rest h = (x, xs, refl, h.0, h.1)

  pub items_over : (xs : Raws) → LeadsItems stands items xs None → xs ≡ nil
  items_over nil h = refl
  items_over (cons x xs) h = absurd h

  pub members_led : (ms : Mems) (at : ℕ) (rest : Span) → LeadsMembers named stands members ms (Some (at, rest)) → (n : Name) × (x : Raw) × (ns : Mems) × (ms ≡ mem n x ns) × named at n × stands at x × members rest ns
  members_led end at rest h = absurd h
  members_led (mem n x ms) at rest h = (n, x, ms, refl, h.0, h.1, h.2)

  pub members_over : (ms : Mems) → LeadsMembers named stands members ms None → ms ≡ end
  members_over end h = refl
  members_over (mem n x ms) h = absurd h

  pub none_left : (ms : Mems) (q : Name) → LeadsMembers named stands members ms None → Found stands (member ms q) None
  none_left end q h = tt
  none_left (mem n x ms) q h = absurd h

  -- the first undeclared member, past one that is declared
  pub declared_passed : (ns : List Name) (ms : Mems) (at : ℕ) (rest : Span) → LeadsMembers named stands members ms (Some (at, rest)) → ((n : Name) → named at n → has ns n ≡ true)
      → (os : Mems) × members rest os × (first_undeclared ns ms ≡ first_undeclared ns os)
  declared_passed ns end at rest h d = absurd h
  declared_passed ns (mem n x ms) at rest h d = (ms, h.2, cond-true (has ns n) (first_undeclared ns ms) (some (place_of x)) (d n h.0))

  pub undeclared_here : (ns : List Name) (ms : Mems) (at : ℕ) (rest : Span) → LeadsMembers named stands members ms (Some (at, rest)) → ((n : Name) → named at n → has ns n ≡ false)
      → PlaceFound stands (first_undeclared ns ms) (Some at)
  undeclared_here ns end at rest h d = absurd h
  undeclared_here ns (mem n x ms) at rest h d = subst (λ o. PlaceFound stands o (Some at)) (sym (cond-false (has ns n) (first_undeclared ns ms) (some (place_of x)) (d n h.0))) (x, h.1, refl)

  pub none_undeclared : (ns : List Name) (ms : Mems) → LeadsMembers named stands members ms None → PlaceFound stands (first_undeclared ns ms) None
  none_undeclared ns end h = tt
  none_undeclared ns (mem n x ms) h = absurd h

-- names that are told apart
pub differ : (x y : List ℕ) (r : Bool) → r ≡ pointwise eqb x y → r ≡ false → x ≡ y → ⊥
differ x y r e f g = let k : true ≡ false = sym ((bytes_eq-Decides x y).1 g) ∙ (sym e ∙ f) in cc

pub agree : (x y : List ℕ) (r : Bool) → r ≡ pointwise eqb x y → r ≡ true → x ≡ y
agree x y r e f = (bytes_eq-Decides x y).0 (sym e ∙ f)

-- the type of a list's items
pub item_type : (m : List Bool) (w : Name) (k : ℕ) (b : Bool) (t : Ty) → ty_from m w k ≡ list_of b t → ty_from m w (k - 1) ≡ t
item_type m w zero b t e = absurd (let f : named_type (not (get_or m 0 false)) w ≡ list_of b t = e in cc)
item_type m w (suc k) b t e = let f : suc k - 1 ≡ k = omega arith in ap (ty_from m w) f ∙ (let g : list_of (not (get_or m (suc k) false)) (ty_from m w k) ≡ list_of b t = e in cc)
