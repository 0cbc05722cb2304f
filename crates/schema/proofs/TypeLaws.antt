-- Reading a type has one outcome, and it is got exactly where the grammar has it within the limits.
use Rattle.std.proofs.Common.{◌≡◌, ℕ, zero, suc, ◌-◌, ◌<◌, ◌≤◌, Bool, true, false, cond, not, List, nat_lt, get_or, sym, refl, ap, ◌∙◌, subst, true≢false, arith}
use Rattle.std.proofs.Math.Option.{some, none}
use Rattle.std.proofs.lemmas.Bool.{cond-true}
use Rattle.std.proofs.lemmas.Bool.Decides.{nat_tests}
use Rattle.model.specs.Values.{Name, Ty, named, list_of, nullable}
use Rattle.text.specs.declared.fault.Fault.TheVariants.{BadText, TooDeep}
use Rattle.text.specs.TokenGrammar.{Mark, bang, open_bracket, close_bracket, Lexical, a_mark, a_name}
use Rattle.reader.specs.Tokens.{Sight, sees, blind}
use Rattle.reader.specs.Reading.{Out, got, fails, is_mark}
use Rattle.reader.proofs.RdSound.{mark_is, is_mark_lem}
use Rattle.schema.specs.Documents.{Typed}
use Rattle.schema.specs.Outcomes.{Goes, Gives, Takes, taken, accepted, the_mark, Chosen, Chooses}
use Rattle.schema.specs.ReadingLaws.{Unlike}
use Rattle.schema.specs.Types.{name_at, list_at, required, required_at, levels_of, begins_type, is_list_type, item_of, ty_from, NullableAt, named_type, list_type, TypeAt, nullable_type, non_null_type, ReadsMark, ReadsEnd, ReadsType, t_blind, t_bad, t_deep, t_named, t_list}
use Rattle.schema.proofs.Readings.{One, once_gives, once_takes, once_then, once_if, goes_once}

-- ONE OUTCOME

no_bracket : (m : Mark) → m ≡ open_bracket → is_mark open_bracket (a_mark m) ≡ false → ⊥
no_bracket m e h = true≢false (sym (ap (λ m. is_mark open_bracket (a_mark m)) e) ∙ h)

-- what an outcome is, by the token seen
record Seen (N : ℕ → Sight → Type 0) (d s e : ℕ) (x : Lexical) (p : Out Typed) : Type 0 where
  bad : begins_type x ≡ false → fails (BadText s) ≡ p
  deep : x ≡ a_mark open_bracket → d ≡ 0 → fails (TooDeep s) ≡ p
  name : (w : Name) → x ≡ a_name w → ReadsMark N (name_at w s) e p
  items : x ≡ a_mark open_bracket → 0 < d → (q : Out Typed) × ReadsType N (d - 1) e q × Goes (ReadsEnd N) q p

abbrev View : (N : ℕ → Sight → Type 0) → ℕ → Out Typed → Sight → Type 0
View N d p (sees s e x) = Seen N d s e x p
View N d p (blind f) = fails f ≡ p

bracket_begins : (x : Lexical) → x ≡ a_mark open_bracket → begins_type x ≡ false → ⊥
bracket_begins x e h = true≢false (sym (ap begins_type e) ∙ h)

name_begins : (x : Lexical) (w : Name) → x ≡ a_name w → begins_type x ≡ false → ⊥
name_begins x w e h = true≢false (sym (ap begins_type e) ∙ h)

module _ (N : ℕ → Sight → Type 0) (one : (i : ℕ) (v w : Sight) → N i v → N i w → v ≡ w) where
  once_mark : (t : Typed) → One (ReadsMark N t)
  once_mark t = once_if N one (is_mark bang) (λ s. Gives (required_at t)) (Gives t) (λ s. once_gives (required_at t)) (once_gives t)

  once_end : (t : Typed) → One (ReadsEnd N t)
  once_end t = once_then (Takes N (the_mark close_bracket)) (λ s. ReadsMark N (list_at t)) (once_takes N one (the_mark close_bracket)) (λ s. once_mark (list_at t))

  view : {d i : ℕ} {p : Out Typed} → ReadsType N d i p → (v : Sight) → N i v → View N d p v
  view {d} {i} {p} (t_blind {f = f} n) v m = subst (View N d p) (one i (blind f) v n m) refl
  view {d} {i} {p} (t_bad {s = s} {e = e} {x = x} n h) v m = subst (View N d p) (one i (sees s e x) v n m) (record {
    bad = λ g. refl;
    deep = λ y z. absurd (bracket_begins x y h);
    name = λ w y. absurd (name_begins x w y h);
    items = λ y z. absurd (bracket_begins x y h);
  })
  view {d} {i} {p} (t_deep {s = s} {e = e} n z) v m = subst (View N d p) (one i (sees s e (a_mark open_bracket)) v n m) (record {
    bad = λ g. absurd (bracket_begins (a_mark open_bracket) refl g);
    deep = λ y u. refl;
    name = λ w y. cc;
    items = λ y u. absurd (omega arith);
  })
  view {d} {i} {p} (t_named {s = s} {e = e} {w = w} n r) v m = subst (View N d p) (one i (sees s e (a_name w)) v n m) (record {
    bad = λ g. absurd (name_begins (a_name w) w refl g);
    deep = λ y u. cc;
    name = λ u y. let k : w ≡ u = cc in subst (λ w. ReadsMark N (name_at w s) e p) k r;
    items = λ y u. cc;
  })
  view {d} {i} {p} (t_list {s = s} {e = e} {q = q} n h r g) v m = subst (View N d p) (one i (sees s e (a_mark open_bracket)) v n m) (record {
    bad = λ k. absurd (bracket_begins (a_mark open_bracket) refl k);
    deep = λ y u. absurd (omega arith);
    name = λ w y. cc;
    items = λ y u. (q, r, g);
  })

  pub same_type : {d i : ℕ} {o p : Out Typed} → ReadsType N d i o → ReadsType N d i p → o ≡ p
  same_type (t_blind {f = f} n) q = view q (blind f) n
  same_type (t_bad {s = s} {e = e} {x = x} n h) q = (view q (sees s e x) n).bad h
  same_type (t_deep {s = s} {e = e} n z) q = (view q (sees s e (a_mark open_bracket)) n).deep refl z
  same_type {i = i} {o} {p} (t_named {s = s} {e = e} {w = w} n r) q = once_mark (name_at w s) e o p r ((view q (sees s e (a_name w)) n).name w refl)
  same_type {i = i} {o} {p} (t_list {s = s} {e = e} {q = u} n h r g) q =
      let w = (view q (sees s e (a_mark open_bracket)) n).items refl h in
      goes_once (ReadsEnd N) once_end u o p g (subst (λ u. Goes (ReadsEnd N) u p) (sym (same_type r w.1)) w.2)

  pub once_type : (d : ℕ) → One (ReadsType N d)
  once_type d i o p h g = same_type h g

-- WHAT IS READ STANDS THERE

levels_required : (t : Ty) → levels_of (required t) ≡ levels_of t
levels_required (named b w) = refl
levels_required (list_of b t) = refl

-- a mark that is taken is the one that stands there
token_taken : (m : Mark) (s e j p : ℕ) (x : Lexical) (c : Bool) → c ≡ is_mark m x → accepted s e (cond c (some s) none) ≡ got j p → (e ≡ j) × (x ≡ a_mark m)
token_taken m s e j p x true h g = (cc, mark_is m x (sym h))
token_taken m s e j p x false h g = cc

module _ (N : ℕ → Sight → Type 0) (T : ℕ → ℕ → ℕ → Lexical → Type 0) (seen : (i s e : ℕ) (x : Lexical) → N i (sees s e x) → T i s e x) where
  pub mark_stands : (m : Mark) (i j p : ℕ) → Takes N (the_mark m) i (got j p) → (s : ℕ) × T i s j (a_mark m)
  mark_stands m i j p (sees s e x, n, h) =
      let k = token_taken m s e j p x (is_mark m x) refl h in
      (s, subst (λ e. T i s e (a_mark m)) k.0 (subst (T i s e) k.1 (seen i s e x n)))
  mark_stands m i j p (blind f, n, h) = cc

  -- what was got stands there, with so many list levels at most
  abbrev Found : ℕ → ℕ → Out Typed → Type 0
  Found d i (got j t) = TypeAt T i j t × (levels_of t.ty ≤ d)
  Found d i (fails f) = Unit {0}

  found_by : (d i j s e : ℕ) (t : Typed) (x : Lexical) (o : Out Typed) (c : Bool) → c ≡ is_mark bang x → NullableAt T i j t → levels_of t.ty ≤ d → T j s e x → Chosen c (Gives (required_at t) e o) (Gives t j o) → Found d i o
  found_by d i j s e t x o true h a l b g = subst (Found d i) g (non_null_type a (subst (T j s e) (mark_is bang x (sym h)) b), omega (arith, levels_required t.ty, l))
  found_by d i j s e t x o false h a l b g = subst (Found d i) g (nullable_type a, l)

  mark_found : (d i j : ℕ) (t : Typed) (o : Out Typed) → NullableAt T i j t → levels_of t.ty ≤ d → ReadsMark N t j o → Found d i o
  mark_found d i j t o a l (sees s e x, n, h) = found_by d i j s e t x o (is_mark bang x) refl a l (seen j s e x n) h
  mark_found d i j t o a l (blind f, n, h) = subst (Found d i) h tt

  end_found : (d i s e j : ℕ) (t : Typed) (o : Out Typed) → T i s e (a_mark open_bracket) → TypeAt T e j t → suc (levels_of t.ty) ≤ d → ReadsEnd N t j o → Found d i o
  end_found d i s e j t o b a l (got c p, n, g) = let m = mark_stands close_bracket j c p n in mark_found d i c (list_at t) o (list_type b a m.1) l g
  end_found d i s e j t o b a l (fails f, n, g) = subst (Found d i) g tt

  items_found : (d i s e : ℕ) (q o : Out Typed) → 0 < d → T i s e (a_mark open_bracket) → Found (d - 1) e q → Goes (ReadsEnd N) q o → Found d i o
  items_found d i s e (got j t) o h b a g = end_found d i s e j t o b a.0 (omega (arith, a.1)) g
  items_found d i s e (fails f) o h b a g = subst (Found d i) g tt

  found : {d i : ℕ} {o : Out Typed} → ReadsType N d i o → Found d i o
  found (t_blind n) = tt
  found (t_bad n h) = tt
  found (t_deep n z) = tt
  found {d} {i} {o} (t_named {s = s} {e = e} {w = w} n r) = mark_found d i e (name_at w s) o (named_type (seen i s e (a_name w) n)) (omega arith) r
  found {d} {i} {o} (t_list {s = s} {e = e} {q = q} n h r g) = items_found d i s e q o h (seen i s e (a_mark open_bracket) n) (found r) g

  pub type_stands : (d i j : ℕ) (t : Typed) → ReadsType N d i (got j t) → TypeAt T i j t × (levels_of t.ty ≤ d)
  type_stands d i j t r = found r

-- WHAT STANDS THERE IS READ

sight_of : {N : ℕ → Sight → Type 0} {d i : ℕ} {o : Out Typed} → ReadsType N d i o → (v : Sight) × N i v
sight_of (t_blind {f = f} n) = (blind f, n)
sight_of (t_bad {s = s} {e = e} {x = x} n h) = (sees s e x, n)
sight_of (t_deep {s = s} {e = e} n z) = (sees s e (a_mark open_bracket), n)
sight_of (t_named {s = s} {e = e} {w = w} n r) = (sees s e (a_name w), n)
sight_of (t_list {s = s} {e = e} n h r g) = (sees s e (a_mark open_bracket), n)

module _ (N : ℕ → Sight → Type 0) (T : ℕ → ℕ → ℕ → Lexical → Type 0) (one : (i : ℕ) (v w : Sight) → N i v → N i w → v ≡ w)
    (sure : (i s e : ℕ) (x : Lexical) (v : Sight) → N i v → T i s e x → v ≡ sees s e x) where
  -- a mark that stands there is taken
  pub takes_mark : (m : Mark) (i s e : ℕ) (q : Out ℕ) → T i s e (a_mark m) → Takes N (the_mark m) i q → q ≡ got e s
  takes_mark m i s e q t (v, n, h) =
      sym h ∙ ap (taken (the_mark m)) (sure i s e (a_mark m) v n t) ∙ ap (accepted s e) (cond-true (is_mark m (a_mark m)) (some s) none (is_mark_lem m))

  seen_at : {d i s e : ℕ} {x : Lexical} {o : Out Typed} → ReadsType N d i o → T i s e x → Seen N d s e x o
  seen_at {d} {i} {s} {e} {x} {o} r t = let v = sight_of r in subst (View N d o) (sure i s e x v.0 v.1 t) (view N one r v.0 v.1)

  no_bang : (t : Typed) (j : ℕ) (o : Out Typed) → Unlike T bang j → ReadsMark N t j o → o ≡ got j t
  no_bang t j o u (v, n, h) =
      let g = subst (λ v. Chooses (is_mark bang) (λ s. Gives (required_at t)) (Gives t) v j o) (sure j u.start u.end u.token v n u.stands) h in
      sym (subst (λ c. Chosen c (Gives (required_at t) u.end o) (Gives t j o)) u.other g)

  with_bang : (t : Typed) (j s e : ℕ) (o : Out Typed) → T j s e (a_mark bang) → ReadsMark N t j o → o ≡ got e (required_at t)
  with_bang t j s e o k (v, n, h) = sym (subst (λ v. Chooses (is_mark bang) (λ s. Gives (required_at t)) (Gives t) v j o) (sure j s e (a_mark bang) v n k) h)

  mutual
    agree_nullable : {d i j : ℕ} {t : Typed} {o : Out Typed} → NullableAt T i j t → levels_of t.ty ≤ d → ReadsType N d i o → ReadsMark N t j o
    agree_nullable (named_type {w = w} a) l r = (seen_at r a).name w refl
    agree_nullable {d} {o = o} (list_type {e = e} {j = j} {b = b} {c = c} {t = t} a x k) l r =
        let w = (seen_at r a).items refl (omega (arith, l)) in
        let p = agree_type x (omega (arith, l)) (record { start = b; end = c; token = a_mark close_bracket; stands = k; other = refl }) w.1 in
        let g : ReadsEnd N t j o = subst (λ q. Goes (ReadsEnd N) q o) p w.2 in
        subst (λ q. Goes (λ s. ReadsMark N (list_at t)) q o) (takes_mark close_bracket j b c g.0 k g.1) g.2

    pub agree_type : {d i j : ℕ} {t : Typed} {o : Out Typed} → TypeAt T i j t → levels_of t.ty ≤ d → Unlike T bang j → ReadsType N d i o → o ≡ got j t
    agree_type {j = j} {t = t} {o = o} (nullable_type a) l u r = no_bang t j o u (agree_nullable a l r)
    agree_type {o = o} (non_null_type {j = j} {s = s} {e = e} {t = t} a b) l u r = with_bang t j s e o b (agree_nullable a (omega (arith, levels_required t.ty, l)) r)

-- SHAPES

pub item_law : (marks : List Bool) (w : Name) (k : ℕ) → ty_from marks w (k - 1) ≡ item_of (ty_from marks w k)
item_law marks w zero = refl
item_law marks w (suc k) = let e : suc k - 1 ≡ k = omega arith in ap (ty_from marks w) e

pub list_law : (marks : List Bool) (w : Name) (k : ℕ) → nat_lt 0 k ≡ is_list_type (ty_from marks w k)
list_law marks w zero = refl
list_law marks w (suc k) = grind (arith, nat_tests)

pub null_law : (marks : List Bool) (w : Name) (k : ℕ) → not (get_or marks k false) ≡ nullable (ty_from marks w k)
null_law marks w zero = refl
null_law marks w (suc k) = refl
