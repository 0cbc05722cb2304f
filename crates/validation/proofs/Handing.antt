-- What a span of items or members hands out
use Rattle.std.proofs.Common.{◌≡◌, ℕ, Bool, true, false, List, Some, None, Option, sym, refl, ◌∙◌, subst}
use Rattle.std.proofs.lemmas.Bool.{cond-true, cond-false, both_ways}
use Rattle.std.proofs.lemmas.Slice.Eq.{bytes_eq-Decides}
use Rattle.std.specs.Str.{bytes_eq}
use mathlib.Core.Option.{some}
use Rattle.model.specs.Values.{Name, Raw, Raws, Mems, nil, cons, end, mem, same}
use Rattle.model.specs.Coercion.{member}
use Rattle.model.proofs.CoNames.{same_refl, same_true}
use Rattle.source.specs.declared.raw.Span.{Span}
use Rattle.source.specs.Standing.{LeadsItems, LeadsMembers, Found}
use Rattle.source.specs.Spans.{with_rest}

-- the names are the same by bytes exactly where they are the same
pub bytes_same : (n w : Name) (b : Bool) → b ≡ bytes_eq n w → same n w ≡ b
bytes_same n w true e = subst (λ k. same n k ≡ true) ((bytes_eq-Decides n w).0 (sym e)) (same_refl n)
bytes_same n w false e = other (same n w) refl
  where
    other : (c : Bool) → same n w ≡ c → c ≡ false
    other true h = absurd (both_ways false refl (e ∙ (bytes_eq-Decides n w).1 (same_true n w h)))
    other false h = refl

module _ (named : ℕ → List ℕ → Type 0) (stands : ℕ → Raw → Type 0) (members : Span → Mems → Type 0) where
  -- the member that comes is not of the name: it is among the others
  pub other_member : (ns : Mems) (r : Option ℕ) (at : ℕ) (rest : Span) (w : Name) → LeadsMembers named stands members ns (with_rest r rest) → r ≡ Some at
      → ((n : Name) → named at n → same n w ≡ false) → (ks : Mems) × members rest ks × (member ns w ≡ member ks w)
  other_member ns r at rest w h e f = go ns (subst (λ o. LeadsMembers named stands members ns (with_rest o rest)) e h)
    where
      go : (ns : Mems) → LeadsMembers named stands members ns (Some (at, rest)) → (ks : Mems) × members rest ks × (member ns w ≡ member ks w)
      go end h = absurd h
      go (mem n x ks) h = (ks, h.2, cond-false (same n w) (some x) (member ks w) (f n h.0))

  -- it is of the name
  pub this_member : (ns : Mems) (r : Option ℕ) (at : ℕ) (rest : Span) (w : Name) → LeadsMembers named stands members ns (with_rest r rest) → r ≡ Some at
      → ((n : Name) → named at n → same n w ≡ true) → Found stands (member ns w) (Some at)
  this_member ns r at rest w h e f = go ns (subst (λ o. LeadsMembers named stands members ns (with_rest o rest)) e h)
    where
      go : (ns : Mems) → LeadsMembers named stands members ns (Some (at, rest)) → Found stands (member ns w) (Some at)
      go end h = absurd h
      go (mem n x ks) h = subst (λ o. Found stands o (Some at)) (sym (cond-true (same n w) (some x) (member ks w) (f n h.0))) h.1

  -- none comes
  pub no_member : (ns : Mems) (r : Option ℕ) (rest : Span) (w : Name) → LeadsMembers named stands members ns (with_rest r rest) → r ≡ None → Found stands (member ns w) None
  no_member ns r rest w h e = go ns (subst (λ o. LeadsMembers named stands members ns (with_rest o rest)) e h)
    where
      go : (ns : Mems) → LeadsMembers named stands members ns None → Found stands (member ns w) None
      go end h = tt
      go (mem n x ks) h = absurd h

module _ (stands : ℕ → Raw → Type 0) (items : Span → Raws → Type 0) where
  -- the item that comes, and the others
  pub next_item : (ys : Raws) (r : Option ℕ) (at : ℕ) (rest : Span) → LeadsItems stands items ys (with_rest r rest) → r ≡ Some at → (y : Raw) × (zs : Raws) × (ys ≡ cons y zs) × stands at y × items rest zs
  next_item ys r at rest h e = go ys (subst (λ o. LeadsItems stands items ys (with_rest o rest)) e h)
    where
      go : (ys : Raws) → LeadsItems stands items ys (Some (at, rest)) → (y : Raw) × (zs : Raws) × (ys ≡ cons y zs) × stands at y × items rest zs
      go nil h = absurd h
      go (cons y zs) h = (y, zs, refl, h.0, h.1)

  pub no_item : (ys : Raws) (r : Option ℕ) (rest : Span) → LeadsItems stands items ys (with_rest r rest) → r ≡ None → ys ≡ nil
  no_item ys r rest h e = go ys (subst (λ o. LeadsItems stands items ys (with_rest o rest)) e h)
    where
      go : (ys : Raws) → LeadsItems stands items ys None → ys ≡ nil
      go nil h = refl
      go (cons y zs) h = absurd h
