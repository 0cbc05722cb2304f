-- A literal that is read where names may repeat is read again from its first byte where they may not, or refused for a name that repeats.
use Rattle.std.proofs.Common.{◌≡◌, ℕ, ◌-◌, ◌≤◌, ◌⊎◌, inl, inr, ⊎_elim, Bool, true, false, List, [], ◌∷◌, ◌++◌, length, sym, ap, ◌∙◌, subst, refl, arith}
use Rattle.std.proofs.lemmas.Bool.{cases_Bool}
use Rattle.model.specs.Values.{Name, Raw, Raws, Mems, place_of, has}
use Rattle.text.specs.declared.fault.Fault.{Fault}
use Rattle.text.specs.declared.fault.Fault.TheVariants.{RepeatedName}
use Rattle.text.specs.declared.language.Language.{Language}
use Rattle.text.specs.declared.language.Language.TheVariants.{Graphql}
use Rattle.text.specs.TokenGrammar.{Lexical, a_mark, a_name, a_number, a_string, the_end, Skips, skipped, skip}
use Rattle.reader.specs.Tokens.{Sight, sees, blind, Seen, Sights}
use Rattle.reader.specs.Grammar.{Leaf, l_null, l_true, l_false, l_symbol, l_whole, l_decimal, l_string}
use Rattle.reader.specs.Reading.{Out, got, fails, NameAt, na_blind, na_none, na_long, na_repeated, na_name, Reads, r_blind, r_none, r_deep, r_leaf, r_variable, r_list, r_object, ReadsList, rl_nil, rl_items, ReadsItems, ri_fails, ri_halts, ri_last, ri_more, ReadsObject, ro_end, ro_members, ReadsMembers, rm_unnamed, rm_fails, rm_halts, rm_last, rm_more, as_list, as_object, as_variable, ahead, ahead_member}
use Rattle.schema.proofs.Entering.{not_got}

-- STRICT READING

module _ (N : ℕ → Sight → Type 0) (L : Language) where
  -- A is read, or a name repeats
  abbrev Again : {X : Type 0} → (Out X → Type 0) → Out X → Type 0
  Again A (got j x) = A (got j x) ⊎ ((p : ℕ) × A (fails (RepeatedName p)))
  Again A (fails f) = Unit {0}

  sure : {X : Type 0} (A : Out X → Type 0) (o : Out X) → A o → Again A o
  sure A (got j x) a = inl a
  sure A (fails f) a = tt

  -- A is read where B is, and fails alike
  onward : {X Y : Type 0} (A : Out X → Type 0) (B : Out Y → Type 0) (g : Out X → Out Y) (q : Out X) (o : Out Y) → ((f : Fault) → g (fails f) ≡ fails f) → ((q : Out X) → A q → B (g q)) → g q ≡ o → Again A q → Again B o
  onward A B g (got j x) o k h z (inl a) = subst (Again B) z (sure B (g (got j x)) (h (got j x) a))
  onward A B g (got j x) (got i y) k h z (inr (p, a)) = inr (p, subst B (k (RepeatedName p)) (h (fails (RepeatedName p)) a))
  onward A B g (got j x) (fails f) k h z (inr w) = tt
  onward A B g (fails e) o k h z w = subst (Again B) (sym (k e) ∙ z) tt

  name_again : {ns : List Name} {i : ℕ} {o : Out Name} → NameAt N L false ns i o → Again (NameAt N L true ns i) o
  name_again (na_blind n) = tt
  name_again (na_none n h) = tt
  name_again (na_long n h l) = tt
  name_again (na_repeated n h l r) = tt
  name_again {ns} {i} {o} (na_name {s = s} {n = w} n h l r m z) = ⊎_elim
      (λ e. repeated o (na_repeated n h l e))
      (λ e. sure (NameAt N L true ns i) o (na_name n h l e m z))
      (cases_Bool (has ns w))
    where
      repeated : (o : Out Name) → NameAt N L true ns i (fails (RepeatedName s)) → Again (NameAt N L true ns i) o
      repeated (got j x) a = inr (s, a)
      repeated (fails f) a = tt

  failed : {X : Type 0} (A : Out X → Type 0) (o : Out X) (p : ℕ) → A (fails (RepeatedName p)) → Again A o
  failed A (got j x) p a = inr (p, a)
  failed A (fails f) p a = tt

  mutual
    again : {d i : ℕ} {o : Out Raw} → Reads N L false d i o → Again (Reads N L true d i) o
    again (r_blind n) = tt
    again (r_none n h) = tt
    again (r_deep n h z) = tt
    again (r_leaf n h l) = inl (r_leaf n h l)
    again {d} {i} {o} (r_variable n h m z) = sure (Reads N L true d i) o (r_variable n h m z)
    again {d} {i} {o} (r_list {s = s} {e = e} {q = q} n h r z) = onward (ReadsList N L true (d - 1) e) (Reads N L true d i) (as_list s) q o (λ f. refl) (λ q a. r_list n h a refl) z (list_again r)
    again {d} {i} {o} (r_object {s = s} {e = e} {q = q} n h r z) = onward (ReadsObject N L true (d - 1) e) (Reads N L true d i) (as_object s) q o (λ f. refl) (λ q a. r_object n h a refl) z (object_again r)

    list_again : {d i : ℕ} {o : Out Raws} → ReadsList N L false d i o → Again (ReadsList N L true d i) o
    list_again (rl_nil n) = inl (rl_nil n)
    list_again {d} {i} {o} (rl_items n h r) = onward (ReadsItems N L true d i) (ReadsList N L true d i) (λ q. q) o o (λ f. refl) (λ q a. rl_items n h a) refl (items_again r)

    items_again : {d i : ℕ} {o : Out Raws} → ReadsItems N L false d i o → Again (ReadsItems N L true d i) o
    items_again (ri_fails r) = tt
    items_again (ri_halts r n z) = tt
    items_again (ri_last r n z) = ⊎_elim (λ a. inl (ri_last a n z)) (λ b. inr (b.0, ri_fails b.1)) (again r)
    items_again {d} {i} {o} (ri_more {k = k} {t = t} {q = q} r n z x y) = ⊎_elim
        (λ a. onward (ReadsItems N L true d k) (ReadsItems N L true d i) (ahead t) q o (λ f. refl) (λ q b. ri_more a n z b refl) y (items_again x))
        (λ b. failed (ReadsItems N L true d i) o b.0 (ri_fails b.1))
        (again r)

    object_again : {d i : ℕ} {o : Out Mems} → ReadsObject N L false d i o → Again (ReadsObject N L true d i) o
    object_again (ro_end n) = inl (ro_end n)
    object_again {d} {i} {o} (ro_members n h r) = onward (ReadsMembers N L true d [] i) (ReadsObject N L true d i) (λ q. q) o o (λ f. refl) (λ q a. ro_members n h a) refl (members_again r)

    members_again : {d i : ℕ} {ns : List Name} {o : Out Mems} → ReadsMembers N L false d ns i o → Again (ReadsMembers N L true d ns i) o
    members_again (rm_unnamed a) = tt
    members_again (rm_fails a r) = tt
    members_again (rm_halts a r n z) = tt
    members_again (rm_last a r n z) = ⊎_elim
        (λ c. ⊎_elim (λ b. inl (rm_last c b n z)) (λ b. inr (b.0, rm_fails c b.1)) (again r))
        (λ c. inr (c.0, rm_unnamed c.1))
        (name_again a)
    members_again {d} {i} {ns} {o} (rm_more {k = k} {n = n} {t = t} {q = q} a r m z x y) = ⊎_elim
        (λ c. ⊎_elim
        (λ b. onward (ReadsMembers N L true d (ns ++ n ∷ []) k) (ReadsMembers N L true d ns i) (ahead_member n t) q o (λ f. refl) (λ q w. rm_more c b m z w refl) y (members_again x))
        (λ b. failed (ReadsMembers N L true d ns i) o b.0 (rm_fails c b.1))
        (again r))
        (λ c. failed (ReadsMembers N L true d ns i) o c.0 (rm_unnamed c.1))
        (name_again a)

-- FROM THE FIRST BYTE

skips_on : {I : List ℕ → List ℕ → Type 0} {xs ys r : List ℕ} → Skips I xs ys → Skips I ys r → Skips I xs r
skips_on skipped t = t
skips_on (skip a s) t = skip a (skips_on s t)

module _ (text : List ℕ) where
  abbrev N : ℕ → Sight → Type 0
  N = Sights Graphql text

  -- a token is seen from where it starts
  seen_here : {i s e : ℕ} {x : Lexical} → Seen Graphql text i s e x → Seen Graphql text s s e x
  seen_here {i} {s} {e} {x} h =
      let k = h.skipped in
      record { skipped = record { onward = λ w. omega arith; within = k.within; leads = skipped; stops = k.stops; only = λ r t z. k.only r (skips_on k.leads t) z }; within = h.within; reads = h.reads; only = h.only }

  leaf_place : {s : ℕ} {x : Lexical} {t : Raw} → Leaf s x t → place_of t ≡ s
  leaf_place (l_null e) = refl
  leaf_place (l_true e) = refl
  leaf_place (l_false e) = refl
  leaf_place (l_symbol p q z) = refl
  leaf_place (l_whole o) = refl
  leaf_place (l_decimal n) = refl
  leaf_place (l_string e) = refl

  -- what is read from i on stands at a place from which the same is read
  abbrev From : Bool → ℕ → Out Raw → Type 0
  From b d (got j t) = (place_of t ≤ length text) × Reads N Graphql b d (place_of t) (got j t)
  From b d (fails f) = Unit {0}

  from_start : (b : Bool) (d s : ℕ) (o : Out Raw) → ((j : ℕ) (t : Raw) → o ≡ got j t → place_of t ≡ s) → s ≤ length text → Reads N Graphql b d s o → From b d o
  from_start b d s (fails f) h w r = tt
  from_start b d s (got j t) h w r = let e = sym (h j t refl) in subst (λ k. (k ≤ length text) × Reads N Graphql b d k (got j t)) e (w, r)

  abbrev raw_in : Out Raw → Raw → Raw
  raw_in (got j t) u = t
  raw_in (fails f) u = u

  same_place : {j k : ℕ} {t u : Raw} → got j t ≡ got k u → place_of t ≡ place_of u
  same_place {t = t} e = ap (λ q. place_of (raw_in q t)) e

  list_place : (s : ℕ) (q : Out Raws) (o : Out Raw) → as_list s q ≡ o → (j : ℕ) (t : Raw) → o ≡ got j t → place_of t ≡ s
  list_place s (got k xs) o z j t e = sym (same_place (z ∙ e))
  list_place s (fails f) o z j t e = not_got (z ∙ e)

  object_place : (s : ℕ) (q : Out Mems) (o : Out Raw) → as_object s q ≡ o → (j : ℕ) (t : Raw) → o ≡ got j t → place_of t ≡ s
  object_place s (got k xs) o z j t e = sym (same_place (z ∙ e))
  object_place s (fails f) o z j t e = not_got (z ∙ e)

  variable_place : (s : ℕ) (v : Sight) (o : Out Raw) → as_variable s v ≡ o → (j : ℕ) (t : Raw) → o ≡ got j t → place_of t ≡ s
  variable_place s (sees b e (a_mark m)) o z j t q = not_got (z ∙ q)
  variable_place s (sees b e (a_name w)) o z j t q = sym (same_place (z ∙ q))
  variable_place s (sees b e (a_number k ds)) o z j t q = not_got (z ∙ q)
  variable_place s (sees b e (a_string cs)) o z j t q = not_got (z ∙ q)
  variable_place s (sees b e the_end) o z j t q = not_got (z ∙ q)
  variable_place s (blind f) o z j t q = not_got (z ∙ q)

  from_reading : {b : Bool} {d i : ℕ} {o : Out Raw} → Reads N Graphql b d i o → From b d o
  from_reading (r_blind n) = tt
  from_reading (r_none n h) = tt
  from_reading (r_deep n h z) = tt
  from_reading {b} {d} {i} {o} (r_leaf {s = s} n h l) = from_start b d s o (λ j t e. same_place (sym e) ∙ leaf_place l) n.skipped.within (r_leaf (seen_here n) h l)
  from_reading {b} {d} {i} {o} (r_variable {s = s} {v = v} n h m z) = from_start b d s o (variable_place s v o z) n.skipped.within (r_variable (seen_here n) h m z)
  from_reading {b} {d} {i} {o} (r_list {s = s} {q = q} n h r z) = from_start b d s o (list_place s q o z) n.skipped.within (r_list (seen_here n) h r z)
  from_reading {b} {d} {i} {o} (r_object {s = s} {q = q} n h r z) = from_start b d s o (object_place s q o z) n.skipped.within (r_object (seen_here n) h r z)

  pub literal_here : {d i j : ℕ} {t : Raw} → Reads N Graphql false d i (got j t) → (place_of t ≤ length text) × Reads N Graphql false d (place_of t) (got j t)
  literal_here r = from_reading r

  pub literal_again : {d i j : ℕ} {t : Raw} → Reads N Graphql false d i (got j t) → (place_of t ≤ length text) × (Reads N Graphql true d (place_of t) (got j t) ⊎ ((p : ℕ) × Reads N Graphql true d (place_of t) (fails (RepeatedName p))))
  literal_again r = let h = from_reading r in (h.0, again N Graphql h.1)
