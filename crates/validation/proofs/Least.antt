-- The first of faults, and what is among a list.
use Rattle.std.proofs.Common.{◌≡◌, ℕ, ◌+◌, ◌<◌, ◌≤◌, ◌⊎◌, inl, inr, ⊎_elim, Bool, true, false, cond, List, [], ◌∷◌, ◌++◌, length, get_or, take, Some, None, Option, nat_le, sym, subst, refl, arith}
use Rattle.std.proofs.lemmas.Bool.Decides.{nat_tests}
use Rattle.std.proofs.lemmas.List.{take_more}
use Rattle.model.specs.Cycles.{Among, first, later}
use Rattle.validation.specs.Making.{FirstFault}
use Rattle.validation.specs.Places.{lesser_of}
use Rattle.validation.specs.Repeats.{OneOf, one_of}

-- faults that lie at the same places have the same first
pub first_as : (P Q : ℕ → Type 0) (r : Option ℕ) → ((p : ℕ) → P p → Q p) → ((p : ℕ) → Q p → P p) → FirstFault P r → FirstFault Q r
first_as P Q None to from h = λ q x. h q (from q x)
first_as P Q (Some p) to from h = (to p h.0, λ q x. h.1 q (from q x))

lesser_least : (p q : ℕ) → (cond (nat_le p q) p q ≤ p) × (cond (nat_le p q) p q ≤ q)
lesser_least p q = (grind (arith, nat_tests), grind (arith, nat_tests))

lesser_one : (P : ℕ → Type 0) (b : Bool) (p q : ℕ) → P p → P q → P (cond b p q)
lesser_one P true p q x y = x
lesser_one P false p q x y = y

-- the first of the faults of two kinds
pub first_lesser : (P Q : ℕ → Type 0) (a b : Option ℕ) → FirstFault P a → FirstFault Q b → FirstFault (λ p. P p ⊎ Q p) (lesser_of a b)
first_lesser P Q None None h k = λ q. λ x. ⊎_elim (λ y. h q y) (λ y. k q y) x
first_lesser P Q None (Some q) h k = (inr k.0, λ r x. ⊎_elim (λ y. absurd (h r y)) (λ y. k.1 r y) x)
first_lesser P Q (Some p) None h k = (inl h.0, λ r x. ⊎_elim (λ y. h.1 r y) (λ y. absurd (k r y)) x)
first_lesser P Q (Some p) (Some q) h k =
    let l = lesser_least p q in
    let both : ℕ → Type 0 = λ r. P r ⊎ Q r in (
      lesser_one both (nat_le p q) p q (inl h.0) (inr k.0),
      λ r x. ⊎_elim
          (λ y. let z = h.1 r y in omega (arith, l.0))
          (λ y. let z = k.1 r y in omega (arith, l.1))
          x,
    )

-- the one fault that lies at a place
pub first_one : (p : ℕ) → FirstFault (λ q. p ≡ q) (Some p)
first_one p = (refl, λ q e. omega (arith, e))

pub among_left : {A : Type 0} {x : A} (xs ys : List A) → Among x xs → Among x (xs ++ ys)
among_left [] ys a = elim a [ ]
among_left (y ∷ xs) ys first = first
among_left (y ∷ xs) ys (later a) = later (among_left xs ys a)

pub among_right : {A : Type 0} {x : A} (xs ys : List A) → Among x ys → Among x (xs ++ ys)
among_right [] ys a = a
among_right (y ∷ xs) ys a = later (among_right xs ys a)

pub among_split : {A : Type 0} {x : A} (xs ys : List A) → Among x (xs ++ ys) → Among x xs ⊎ Among x ys
among_split [] ys a = inr a
among_split (y ∷ xs) ys first = inl first
among_split (y ∷ xs) ys (later a) = ⊎_elim (λ b. inl (later b)) (λ b. inr b) (among_split xs ys a)

pub among_none : {A : Type 0} {x : A} → Among x [] → ⊥
among_none a = elim a [ ]

pub among_one : {A : Type 0} {x y : A} → Among x (y ∷ []) → x ≡ y
among_one first = refl
among_one (later a) = absurd (among_none a)

-- what is among one more is among those before, or the last
pub among_more : {A : Type 0} {x : A} (xs : List A) (i : ℕ) (d : A) → i < length xs → Among x (take (i + 1) xs) → Among x (take i xs) ⊎ (x ≡ get_or xs i d)
among_more {A} {x} xs i d h a = ⊎_elim (λ b. inl b) (λ b. inr (among_one b)) (among_split (take i xs) (get_or xs i d ∷ []) (subst (Among x) (take_more xs i d h) a))

pub among_before : {A : Type 0} {x : A} (xs : List A) (i : ℕ) (d : A) → i < length xs → Among x (take i xs) → Among x (take (i + 1) xs)
among_before {A} {x} xs i d h a = subst (Among x) (sym (take_more xs i d h)) (among_left (take i xs) _ a)

pub among_last : {A : Type 0} (xs : List A) (i : ℕ) (d : A) → i < length xs → Among (get_or xs i d) (take (i + 1) xs)
among_last xs i d h = subst (Among (get_or xs i d)) (sym (take_more xs i d h)) (among_right (take i xs) _ first)

-- one more of them, whose own first fault is known
module _ {A : Type 0} (P : A → ℕ → Type 0) (xs : List A) (i : ℕ) (d : A) (within : i < length xs) where
  one_kept : (p : ℕ) → OneOf P (take i xs) p → OneOf P (take (i + 1) xs) p
  one_kept p (one_of a h) = one_of (among_before xs i d within a) h

  one_last : (p : ℕ) → P (get_or xs i d) p → OneOf P (take (i + 1) xs) p
  one_last p h = one_of (among_last xs i d within) h

  one_parts : (p : ℕ) → OneOf P (take (i + 1) xs) p → OneOf P (take i xs) p ⊎ P (get_or xs i d) p
  one_parts p (one_of {x} a h) = ⊎_elim (λ b. inl (one_of b h)) (λ e. inr (subst (λ (y : A). P y p) e h)) (among_more xs i d within a)

  pub one_more : (r o : Option ℕ) → FirstFault (OneOf P (take i xs)) r → FirstFault (P (get_or xs i d)) o → FirstFault (OneOf P (take (i + 1) xs)) (lesser_of r o)
  one_more r o h k =
      first_as (λ p. OneOf P (take i xs) p ⊎ P (get_or xs i d) p) (OneOf P (take (i + 1) xs)) _
      (λ p x. ⊎_elim (one_kept p) (one_last p) x)
      one_parts
      (first_lesser (OneOf P (take i xs)) (P (get_or xs i d)) r o h k)

  pub none_more : (r : Option ℕ) → FirstFault (OneOf P (take i xs)) r → ((p : ℕ) → P (get_or xs i d) p → ⊥) → FirstFault (OneOf P (take (i + 1) xs)) r
  none_more r h n = first_as (OneOf P (take i xs)) (OneOf P (take (i + 1) xs)) r one_kept (λ p x. ⊎_elim (λ y. y) (λ y. absurd (n p y)) (one_parts p x)) h

-- the same of what the program found
pub first_found : (P Q : ℕ → Type 0) (a b r : Option ℕ) → r ≡ lesser_of a b → FirstFault P a → FirstFault Q b → FirstFault (λ p. P p ⊎ Q p) r
first_found P Q a b r e h k = subst (FirstFault (λ p. P p ⊎ Q p)) (sym e) (first_lesser P Q a b h k)
