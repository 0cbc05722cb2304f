-- What is read is a value of the grammar within the limits.
use Rattle.std.proofs.Common.{◌≡◌, ℕ, suc, ◌+◌, ◌≤◌, Bool, true, false, cond, eqb, List, [], ◌∷◌, ◌++◌, length, sym, refl, ap, ◌∙◌, subst, arith}
use mathlib.Core.Option.{some}
use Rattle.std.proofs.lemmas.Bool.{eqb-true, eq-eqb, cond-false, false≢true}
use Rattle.model.specs.Values.{Name, Raw, Raws, Mems, has, same as same_name}
use Rattle.model.specs.Back.{Distinct}
use Rattle.model.specs.Limits.{mem_names}
use Rattle.model.proofs.CoNames.{has_head, has_later, apart}
use Rattle.text.specs.declared.fault.Fault.{Fault}
use Rattle.text.specs.declared.fault.Fault.TheVariants.{BadText}
use Rattle.text.specs.declared.language.Language.{Language}
use Rattle.text.specs.declared.language.Language.TheVariants.{Json, Graphql}
use Rattle.text.specs.TokenGrammar.{Mark, bang, dollar, ampersand, open_paren, close_paren, spread, colon, equals, at_sign, open_bracket, close_bracket, open_brace, pipe, close_brace, comma, Lexical, a_mark, a_name, the_end}
use Rattle.reader.specs.Tokens.{Sight, sees, blind}
use Rattle.reader.specs.Grammar.{Leaf, l_null, name_of, Separated, Value, g_leaf, g_variable, g_list, g_object, Values, g_nil, g_values, SomeValues, g_last, g_more, Members, g_end, g_members, SomeMembers, g_last_member, g_more_members, Member, g_member, Text}
use Rattle.reader.specs.Reading.{Out, got, fails, mark_number, is_mark, done, again, halts, turn, as_list, as_object, ahead, ahead_member, as_variable, colon_after, repeats, NameAt, na_blind, na_none, na_long, na_repeated, na_name, Reads, r_blind, r_none, r_deep, r_leaf, r_variable, r_list, r_object, ReadsList, rl_nil, rl_items, ReadsItems, ri_fails, ri_halts, ri_last, ri_more, ReadsObject, ro_end, ro_members, ReadsMembers, rm_unnamed, rm_fails, rm_halts, rm_last, rm_more, after_all, ReadsAll, all_fails, all_read, Unrepeated, Bounded, BoundedAll, BoundedMems}

-- a mark is told by its number
abbrev mark_of : ℕ → Mark
mark_of n =
    cond (eqb n 0) bang (cond (eqb n 1) dollar (cond (eqb n 2) ampersand (cond (eqb n 3) open_paren (cond (eqb n 4) close_paren
    (cond (eqb n 5) spread (cond (eqb n 6) colon (cond (eqb n 7) equals (cond (eqb n 8) at_sign (cond (eqb n 9) open_bracket
    (cond (eqb n 10) close_bracket (cond (eqb n 11) open_brace (cond (eqb n 12) pipe (cond (eqb n 13) close_brace comma)))))))))))))

mark_back : (m : Mark) → mark_of (mark_number m) ≡ m
mark_back bang = refl
mark_back _ = refl

pub mark_is : (m : Mark) (x : Lexical) → is_mark m x ≡ true → x ≡ a_mark m
mark_is m (a_mark k) h = ap a_mark (sym (sym (mark_back m) ∙ ap mark_of (eqb-true (mark_number m) (mark_number k) h) ∙ mark_back k))
mark_is m _ h = absurd (false≢true h)

pub is_mark_lem : (m : Mark) → is_mark m (a_mark m) ≡ true
is_mark_lem m = eq-eqb (mark_number m) (mark_number m) refl

-- names that come after others, each new where that is asked
abbrev pub Fresh : Bool → List Name → List Name → Type 0
Fresh distinct ns [] = Unit {0}
Fresh distinct ns (m ∷ ms) = (repeats distinct ns m ≡ false) × Fresh distinct (ns ++ m ∷ []) ms

has_last : (ns : List Name) (n : Name) → has (ns ++ n ∷ []) n ≡ true
has_last [] n = has_head n []
has_last (m ∷ ns) n = has_later m n (ns ++ n ∷ []) (has_last ns n)

has_front : (ns ms : List Name) (n : Name) → has ns n ≡ true → has (ns ++ ms) n ≡ true
has_front [] ms n h = absurd (false≢true h)
has_front (m ∷ ns) ms n h =
    let P : Bool → Type 0 = λ b. cond b true (has ns n) ≡ true → cond b true (has (ns ++ ms) n) ≡ true in
    (elim (same_name m n) as P [ true ↦ λ e. refl | false ↦ λ e. has_front ns ms n e ]) h

has_nowhere : (ns : List Name) (m n : Name) → has ns n ≡ false → same_name m n ≡ false → has (ns ++ m ∷ []) n ≡ false
has_nowhere [] m n h e = cond-false (same_name m n) true false e
has_nowhere (k ∷ ns) m n h e =
    let P : Bool → Type 0 = λ b. cond b true (has ns n) ≡ false → cond b true (has (ns ++ m ∷ []) n) ≡ false in
    (elim (same_name k n) as P [ true ↦ λ f. f | false ↦ λ f. has_nowhere ns m n f e ]) h

fresh_distinct : (ns ms : List Name) → Fresh true ns ms → Distinct ms × ((n : Name) → has ns n ≡ true → has ms n ≡ false)
fresh_distinct ns [] f = (tt, λ n h. refl)
fresh_distinct ns (m ∷ ms) f =
    let r = fresh_distinct (ns ++ m ∷ []) ms f.1 in
    ((r.1 m (has_last ns m), r.0), λ n h. cond-false (same_name m n) true (has ms n) (apart m n ns f.0 h) ∙ r.1 n (has_front ns (m ∷ []) n h))

distinct_fresh : (ns ms : List Name) → Distinct ms → ((n : Name) → has ms n ≡ true → has ns n ≡ false) → Fresh true ns ms
distinct_fresh ns [] d h = tt
distinct_fresh ns (m ∷ ms) d h = (
  h m (has_head m ms),
  distinct_fresh (ns ++ m ∷ []) ms d.1 (λ n e. has_nowhere ns m n (h n (has_later m n ms e)) (apart m n ms d.0 e)),
)

fresh_any : (ns ms : List Name) → Fresh false ns ms
fresh_any ns [] = tt
fresh_any ns (m ∷ ms) = (refl, fresh_any (ns ++ m ∷ []) ms)

pub fresh_unrepeated : (distinct : Bool) (ms : List Name) → Fresh distinct [] ms → Unrepeated distinct ms
fresh_unrepeated true ms f = (fresh_distinct [] ms f).0
fresh_unrepeated false ms f = tt

pub unrepeated_fresh : (distinct : Bool) (ms : List Name) → Unrepeated distinct ms → Fresh distinct [] ms
unrepeated_fresh true ms d = distinct_fresh [] ms d (λ n h. refl)
unrepeated_fresh false ms d = fresh_any [] ms

pub leaf_bounded : (distinct : Bool) (k : ℕ) {s : ℕ} {x : Lexical} {t : Raw} → Leaf s x t → k ≤ 32 → Bounded distinct k t
leaf_bounded distinct k (l_null e) h = h
leaf_bounded distinct k _ h = h

-- the tests of a turn
json_done : (b c : Bool) (e a : ℕ) (f : Fault) → cond b (done e) (cond c (again e) (halts f)) ≡ done a → (b ≡ true) × (e ≡ a)
json_done true c e a f z = (refl, (cc))
json_done false true e a f z = let w : ◌≡◌ {A = ℕ} 0 1 = cc in absurd (omega arith)
json_done false false e a f z = let w : ◌≡◌ {A = ℕ} 0 1 = cc in absurd (omega arith)

json_again : (b c : Bool) (e a : ℕ) (f : Fault) → cond b (done e) (cond c (again e) (halts f)) ≡ again a → (c ≡ true) × (e ≡ a)
json_again true c e a f z = let w : ◌≡◌ {A = ℕ} 0 1 = cc in absurd (omega arith)
json_again false true e a f z = (refl, (cc))
json_again false false e a f z = let w : ◌≡◌ {A = ℕ} 0 1 = cc in absurd (omega arith)

graphql_done : (b : Bool) (e j a : ℕ) → cond b (done e) (again j) ≡ done a → (b ≡ true) × (e ≡ a)
graphql_done true e j a z = (refl, (cc))
graphql_done false e j a z = let w : ◌≡◌ {A = ℕ} 0 1 = cc in absurd (omega arith)

graphql_again : (b : Bool) (e j a : ℕ) → cond b (done e) (again j) ≡ again a → j ≡ a
graphql_again true e j a z = let w : ◌≡◌ {A = ℕ} 0 1 = cc in absurd (omega arith)
graphql_again false e j a z = cc

halts_not : {A : Type 0} {f : Fault} {a : ℕ} → halts f ≡ done a → A
halts_not z = let w : ◌≡◌ {A = ℕ} 0 1 = cc in absurd (omega arith)

halts_never : {A : Type 0} {f : Fault} {a : ℕ} → halts f ≡ again a → A
halts_never z = let w : ◌≡◌ {A = ℕ} 0 1 = cc in absurd (omega arith)

-- a name and the colon after it
pub record NameStands (T : ℕ → ℕ → ℕ → Lexical → Type 0) (language : Language) (distinct : Bool) (ns : List Name) (i c : ℕ) (n : Name) : Type 0 where
  pub s : ℕ
  pub e : ℕ
  pub b : ℕ
  pub x : Lexical
  pub token : T i s e x
  pub name : name_of language x ≡ some n
  pub colon_follows : T e b c (a_mark colon)
  pub short : length n ≤ 127
  pub new : repeats distinct ns n ≡ false

-- what an outcome says
abbrev Sound : (ℕ → ℕ → ℕ → Lexical → Type 0) → Language → Bool → ℕ → ℕ → Out Raw → Type 0
Sound T language distinct i k (got j t) = Value T language i j t × Bounded distinct k t
Sound T language distinct i k (fails f) = Unit {0}

abbrev SoundList : (ℕ → ℕ → ℕ → Lexical → Type 0) → Language → Bool → ℕ → ℕ → Out Raws → Type 0
SoundList T language distinct i k (got j xs) = Values T language i j xs × BoundedAll distinct k xs
SoundList T language distinct i k (fails f) = Unit {0}

abbrev SoundItems : (ℕ → ℕ → ℕ → Lexical → Type 0) → Language → Bool → ℕ → ℕ → Out Raws → Type 0
SoundItems T language distinct i k (got j xs) = SomeValues T language i j xs × BoundedAll distinct k xs
SoundItems T language distinct i k (fails f) = Unit {0}

abbrev SoundObject : (ℕ → ℕ → ℕ → Lexical → Type 0) → Language → Bool → ℕ → ℕ → Out Mems → Type 0
SoundObject T language distinct i k (got j ms) = Members T language i j ms × Unrepeated distinct (mem_names ms) × BoundedMems distinct k ms
SoundObject T language distinct i k (fails f) = Unit {0}

abbrev SoundMembers : (ℕ → ℕ → ℕ → Lexical → Type 0) → Language → Bool → List Name → ℕ → ℕ → Out Mems → Type 0
SoundMembers T language distinct ns i k (got j ms) = SomeMembers T language i j ms × Fresh distinct ns (mem_names ms) × BoundedMems distinct k ms
SoundMembers T language distinct ns i k (fails f) = Unit {0}

abbrev SoundName : (ℕ → ℕ → ℕ → Lexical → Type 0) → Language → Bool → List Name → ℕ → Out Name → Type 0
SoundName T language distinct ns i (got c n) = NameStands T language distinct ns i c n
SoundName T language distinct ns i (fails f) = Unit {0}

abbrev SoundAll : (ℕ → ℕ → ℕ → Lexical → Type 0) → Language → Bool → Out Raw → Type 0
SoundAll T language distinct (got e t) = Text T language t × Bounded distinct 0 t
SoundAll T language distinct (fails f) = Unit {0}

module _ (N : ℕ → Sight → Type 0) (T : ℕ → ℕ → ℕ → Lexical → Type 0) (seen : (i s e : ℕ) (x : Lexical) → N i (sees s e x) → T i s e x) where
  seen_mark : (m : Mark) (i s e a : ℕ) (x : Lexical) → N i (sees s e x) → (is_mark m x ≡ true) × (e ≡ a) → T i s a (a_mark m)
  seen_mark m i s e a x n h = subst (λ y. T i s y (a_mark m)) h.1 (subst (T i s e) (mark_is m x h.0) (seen i s e x n))

  -- a turn that ends has found the closing mark
  turn_done : (language : Language) (close : Mark) (j a : ℕ) (v : Sight) → N j v → turn language close j v ≡ done a → (s : ℕ) × T j s a (a_mark close)
  turn_done Json close j a (sees s e x) n z = (s, seen_mark close j s e a x n (json_done (is_mark close x) (is_mark comma x) e a (BadText s) z))
  turn_done Json close j a (blind f) n z = halts_not z
  turn_done Graphql close j a (sees s e x) n z = (s, seen_mark close j s e a x n (graphql_done (is_mark close x) e j a z))
  turn_done Graphql close j a (blind f) n z = halts_not z

  -- and one that goes on, what stands between two values
  turn_again : (language : Language) (close : Mark) (j a : ℕ) (v : Sight) → N j v → turn language close j v ≡ again a → Separated T language j a
  turn_again Json close j a (sees s e x) n z = (s, seen_mark comma j s e a x n (json_again (is_mark close x) (is_mark comma x) e a (BadText s) z))
  turn_again Json close j a (blind f) n z = halts_never z
  turn_again Graphql close j a (sees s e x) n z = graphql_again (is_mark close x) e j a z
  turn_again Graphql close j a (blind f) n z = halts_never z

  module _ (language : Language) (distinct : Bool) where
    variable_sound : (i s e k : ℕ) (v : Sight) (o : Out Raw) → T i s e (a_mark dollar) → N e v → k ≤ 32 → as_variable s v ≡ o → Sound T language distinct i k o
    variable_sound i s e k (sees b j (a_name w)) o a n h z = subst (Sound T language distinct i k) z (g_variable a (seen e b j (a_name w) n), h)
    variable_sound i s e k _ o a n h z = subst (Sound T language distinct i k) z tt

    list_sound : (i s e k : ℕ) (q : Out Raws) (o : Out Raw) → T i s e (a_mark open_bracket) → k ≤ 32 → SoundList T language distinct e (suc k) q → as_list s q ≡ o → Sound T language distinct i k o
    list_sound i s e k (got j xs) o a h r z = subst (Sound T language distinct i k) z (g_list a r.0, (h, r.1))
    list_sound i s e k (fails f) o a h r z = subst (Sound T language distinct i k) z tt

    object_sound : (i s e k : ℕ) (q : Out Mems) (o : Out Raw) → T i s e (a_mark open_brace) → k ≤ 32 → SoundObject T language distinct e (suc k) q → as_object s q ≡ o → Sound T language distinct i k o
    object_sound i s e k (got j ms) o a h r z = subst (Sound T language distinct i k) z (g_object a r.0, (h, r.1, r.2))
    object_sound i s e k (fails f) o a h r z = subst (Sound T language distinct i k) z tt

    values_sound : (i k : ℕ) (q : Out Raws) → SoundItems T language distinct i k q → SoundList T language distinct i k q
    values_sound i k (got j xs) r = (g_values r.0, r.1)
    values_sound i k (fails f) r = tt

    more_sound : (i j k m : ℕ) (t : Raw) (q o : Out Raws) → Value T language i j t × Bounded distinct k t → Separated T language j m → SoundItems T language distinct m k q → ahead t q ≡ o → SoundItems T language distinct i k o
    more_sound i j k m t (got e ts) o v a r z = subst (SoundItems T language distinct i k) z (g_more v.0 a r.0, (v.1, r.1))
    more_sound i j k m t (fails f) o v a r z = subst (SoundItems T language distinct i k) z tt

    all_members : (i k : ℕ) (q : Out Mems) → SoundMembers T language distinct [] i k q → SoundObject T language distinct i k q
    all_members i k (got j ms) r = (g_members r.0, fresh_unrepeated distinct (mem_names ms) r.1, r.2)
    all_members i k (fails f) r = tt

    member_of : {ns : List Name} {i c j : ℕ} {n : Name} {t : Raw} → NameStands T language distinct ns i c n → Value T language c j t → Member T language i j n t
    member_of a v = g_member a.token a.name a.colon_follows v

    more_members : (ns : List Name) (i c j k m : ℕ) (n : Name) (t : Raw) (q o : Out Mems) → NameStands T language distinct ns i c n → Value T language c j t × Bounded distinct k t → Separated T language j m → SoundMembers T language distinct (ns ++ n ∷ []) m k q → ahead_member n t q ≡ o → SoundMembers T language distinct ns i k o
    more_members ns i c j k m n t (got e ms) o a v g r z = subst (SoundMembers T language distinct ns i k) z (g_more_members (member_of a v.0) g r.0, (a.new, r.1), (a.short, v.1, r.2))
    more_members ns i c j k m n t (fails f) o a v g r z = subst (SoundMembers T language distinct ns i k) z tt

    colon_test : (ns : List Name) (i b j : ℕ) (n : Name) (y : Bool) (o : Out Name) → (y ≡ true → NameStands T language distinct ns i j n) → cond y (got j n) (fails (BadText b)) ≡ o → SoundName T language distinct ns i o
    colon_test ns i b j n true o a z = subst (SoundName T language distinct ns i) z (a refl)
    colon_test ns i b j n false o a z = subst (SoundName T language distinct ns i) z tt

    colon_sound : (ns : List Name) (i s e : ℕ) (x : Lexical) (n : Name) (v : Sight) (o : Out Name) → T i s e x → name_of language x ≡ some n → length n ≤ 127 → repeats distinct ns n ≡ false → N e v → colon_after n v ≡ o → SoundName T language distinct ns i o
    colon_sound ns i s e x n (sees b j y) o a h l r m z = colon_test ns i b j n (is_mark colon y) o
        (λ p. record { s = s; e = e; b = b; x = x; token = a; name = h; colon_follows = seen_mark colon e b j j y m (p, refl); short = l; new = r }) z
    colon_sound ns i s e x n (blind f) o a h l r m z = subst (SoundName T language distinct ns i) z tt

    name_sound : {ns : List Name} {i : ℕ} {o : Out Name} → NameAt N language distinct ns i o → SoundName T language distinct ns i o
    name_sound (na_blind n) = tt
    name_sound (na_none n h) = tt
    name_sound (na_long n h l) = tt
    name_sound (na_repeated n h l r) = tt
    name_sound {ns} {i} {o} (na_name {s = s} {e = e} {x = x} {n = n} {v = v} m h l r c z) = colon_sound ns i s e x n v o (seen i s e x m) h l r c z

    mutual
      comes : {d i : ℕ} {o : Out Raw} → Reads N language distinct d i o → (k : ℕ) → k + d ≡ 33 → Sound T language distinct i k o
      comes (r_blind n) k w = tt
      comes (r_none n h) k w = tt
      comes (r_deep n h z) k w = tt
      comes {i = i} (r_leaf {s = s} {e = e} {x = x} n h l) k w = (g_leaf (seen i s e x n) l, leaf_bounded distinct k l (omega arith))
      comes {i = i} {o = o} (r_variable {s = s} {e = e} {v = v} n h m z) k w = variable_sound i s e k v o (seen i s e (a_mark dollar) n) m (omega arith) z
      comes {i = i} {o = o} (r_list {s = s} {e = e} {q = q} n h r z) k w = list_sound i s e k q o (seen i s e (a_mark open_bracket) n) (omega arith) (comes_list r (suc k) (omega arith)) z
      comes {i = i} {o = o} (r_object {s = s} {e = e} {q = q} n h r z) k w = object_sound i s e k q o (seen i s e (a_mark open_brace) n) (omega arith) (comes_object r (suc k) (omega arith)) z

      comes_list : {d i : ℕ} {o : Out Raws} → ReadsList N language distinct d i o → (k : ℕ) → k + d ≡ 33 → SoundList T language distinct i k o
      comes_list {i = i} (rl_nil {s = s} {e = e} n) k w = (g_nil (seen i s e (a_mark close_bracket) n), tt)
      comes_list {i = i} {o = o} (rl_items n h r) k w = values_sound i k o (comes_items r k w)

      comes_items : {d i : ℕ} {o : Out Raws} → ReadsItems N language distinct d i o → (k : ℕ) → k + d ≡ 33 → SoundItems T language distinct i k o
      comes_items (ri_fails r) k w = tt
      comes_items (ri_halts r n z) k w = tt
      comes_items (ri_last {j = j} {e = e} {v = v} r n z) k w = let a = comes r k w in (g_last a.0 (turn_done language close_bracket j e v n z).1, (a.1, tt))
      comes_items {i = i} {o = o} (ri_more {j = j} {k = m} {t = t} {v = v} {q = q} r n z x y) k w = more_sound i j k m t q o (comes r k w) (turn_again language close_bracket j m v n z) (comes_items x k w) y

      comes_object : {d i : ℕ} {o : Out Mems} → ReadsObject N language distinct d i o → (k : ℕ) → k + d ≡ 33 → SoundObject T language distinct i k o
      comes_object {i = i} (ro_end {s = s} {e = e} n) k w = (g_end (seen i s e (a_mark close_brace) n), fresh_unrepeated distinct [] tt, tt)
      comes_object {i = i} {o = o} (ro_members n h r) k w = all_members i k o (comes_members r k w)

      comes_members : {d i : ℕ} {ns : List Name} {o : Out Mems} → ReadsMembers N language distinct d ns i o → (k : ℕ) → k + d ≡ 33 → SoundMembers T language distinct ns i k o
      comes_members (rm_unnamed a) k w = tt
      comes_members (rm_fails a r) k w = tt
      comes_members (rm_halts a r n z) k w = tt
      comes_members (rm_last {j = j} {e = e} {v = v} a r n z) k w =
          let b = name_sound a in
          let c = comes r k w in
          (g_last_member (member_of b c.0) (turn_done language close_brace j e v n z).1, (b.new, tt), (b.short, c.1, tt))
      comes_members {i = i} {ns = ns} {o = o} (rm_more {c = c} {j = j} {k = m} {n = n} {t = t} {v = v} {q = q} a r l z x y) k w =
          more_members ns i c j k m n t q o (name_sound a) (comes r k w) (turn_again language close_brace j m v l z) (comes_members x k w) y

    pub sound : {d i j : ℕ} {t : Raw} → Reads N language distinct d i (got j t) → (k : ℕ) → k + d ≡ 33 → Value T language i j t × Bounded distinct k t
    sound r k w = comes r k w

    pub sound_items : {d i j : ℕ} {xs : Raws} → ReadsItems N language distinct d i (got j xs) → (k : ℕ) → k + d ≡ 33 → SomeValues T language i j xs × BoundedAll distinct k xs
    sound_items r k w = comes_items r k w

    pub sound_members : {d i j : ℕ} {ns : List Name} {ms : Mems} → ReadsMembers N language distinct d ns i (got j ms) → (k : ℕ) → k + d ≡ 33 → SomeMembers T language i j ms × Fresh distinct ns (mem_names ms) × BoundedMems distinct k ms
    sound_members r k w = comes_members r k w

    all_sound : (j : ℕ) (t : Raw) (v : Sight) (o : Out Raw) → Value T language 0 j t × Bounded distinct 0 t → N j v → after_all t v ≡ o → SoundAll T language distinct o
    all_sound j t (sees s e the_end) o a n z = subst (SoundAll T language distinct) z (record { to = j; from = s; last = e; value = a.0; ends = seen j s e the_end n }, a.1)
    all_sound j t _ o a n z = subst (SoundAll T language distinct) z tt

    comes_all : {d : ℕ} {o : Out Raw} → ReadsAll N language distinct d o → d ≡ 33 → SoundAll T language distinct o
    comes_all (all_fails r) h = tt
    comes_all {o = o} (all_read {j = j} {t = t} {v = v} r n z) h = all_sound j t v o (sound r 0 (omega arith)) n z

    pub sound_all : {e : ℕ} {t : Raw} → ReadsAll N language distinct 33 (got e t) → Text T language t × Bounded distinct 0 t
    sound_all r = comes_all r refl
