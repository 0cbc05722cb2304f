-- What the grammar says of a text within the limits is what is read.
use Rattle.std.proofs.Common.{◌≡◌, ℕ, suc, ◌+◌, ◌≤◌, Bool, true, false, cond, List, [], ◌∷◌, ◌++◌, length, sym, refl, ap, ◌∙◌, subst, arith}
use mathlib.Core.Option.{some}
use Rattle.std.proofs.lemmas.Bool.{cond-true, cond-false}
use Rattle.model.specs.Values.{Name, Raw, Raws, Mems, variable, list, object, nil, cons, end, mem}
use Rattle.model.specs.Limits.{mem_names}
use Rattle.text.specs.declared.fault.Fault.{Fault}
use Rattle.text.specs.declared.fault.Fault.TheVariants.{BadText}
use Rattle.text.specs.declared.language.Language.{Language}
use Rattle.text.specs.declared.language.Language.TheVariants.{Json, Graphql}
use Rattle.text.specs.declared.number.NumberKind.{NumberKind}
use Rattle.text.specs.NumberGrammar.{Number}
use Rattle.text.specs.TokenGrammar.{Mark, dollar, colon, open_bracket, close_bracket, open_brace, close_brace, comma, Lexical, a_mark, a_name, a_number, the_end}
use Rattle.reader.specs.Tokens.{Sight, sees, blind}
use Rattle.reader.specs.Grammar.{Leaf, name_of, Separated, Value, g_leaf, g_variable, g_list, g_object, Values, g_nil, g_values, SomeValues, g_last, g_more, Members, g_end, g_members, SomeMembers, g_last_member, g_more_members, Member, g_member, Text}
use Rattle.reader.specs.Reading.{Out, got, fails, Starts, starts_leaf, starts_list, starts_object, starts_variable, is_mark, sees_mark, Turn, done, again, halts, turn, as_list, as_object, ahead, ahead_member, as_variable, colon_after, repeats, NameAt, na_blind, na_none, na_long, na_repeated, na_name, Reads, r_blind, r_none, r_deep, r_leaf, r_variable, r_list, r_object, ReadsList, rl_nil, rl_items, ReadsItems, ri_fails, ri_halts, ri_last, ri_more, ReadsObject, ro_end, ro_members, ReadsMembers, rm_unnamed, rm_fails, rm_halts, rm_last, rm_more, after_all, ReadsAll, all_fails, all_read, Unrepeated, Bounded, BoundedAll, BoundedMems}
use Rattle.reader.proofs.RdSame.{one_leaf, leaf_no_mark, no_both, leaf_mark}
use Rattle.reader.proofs.RdSound.{is_mark_lem, Fresh, unrepeated_fresh}

-- a value whose token is a name does not begin with a mark
name_no_mark : (language : Language) (x : Lexical) (n : Name) (m : Mark) → name_of language x ≡ some n → is_mark m x ≡ false
name_no_mark Json (a_mark k) n m h = let z : ◌≡◌ {A = ℕ} 0 1 = cc in absurd (omega arith)
name_no_mark Graphql (a_mark k) n m h = let z : ◌≡◌ {A = ℕ} 0 1 = cc in absurd (omega arith)
name_no_mark language _ n m h = refl

pub deep_enough : (distinct : Bool) (k : ℕ) (t : Raw) → Bounded distinct k t → k ≤ 32
deep_enough distinct k (list at xs) h = h.0
deep_enough distinct k (object at ms) h = h.0
deep_enough distinct k _ h = h

-- a token stands at a place that is not the closing mark
pub record Opens (T : ℕ → ℕ → ℕ → Lexical → Type 0) (close : Mark) (i : ℕ) : Type 0 where
  pub s : ℕ
  pub e : ℕ
  pub x : Lexical
  pub token : T i s e x
  pub other : is_mark close x ≡ false

-- what a value is, by the token seen where it begins
record ViewAt (T : ℕ → ℕ → ℕ → Lexical → Type 0) (language : Language) (j : ℕ) (t : Raw) (s e : ℕ) (x : Lexical) : Type 0 where
  start : Raw
  starts : Starts s x start
  leaf : (u : Raw) → Leaf s x u → ((k : NumberKind) (ds : List ℕ) → x ≡ a_number k ds → Number ds k) → (u ≡ t) × (e ≡ j)
  a_variable : x ≡ a_mark dollar → (b : ℕ) × (w : Name) × T e b j (a_name w) × (t ≡ variable s w)
  a_list : x ≡ a_mark open_bracket → (xs : Raws) × Values T language e j xs × (t ≡ list s xs)
  an_object : x ≡ a_mark open_brace → (ms : Mems) × Members T language e j ms × (t ≡ object s ms)

abbrev View : (T : ℕ → ℕ → ℕ → Lexical → Type 0) → Language → ℕ → Raw → Sight → Type 0
View T language j t (sees s e x) = ViewAt T language j t s e x
View T language j t (blind f) = ⊥

-- what follows a value in a list, by the turn
abbrev Next : (T : ℕ → ℕ → ℕ → Lexical → Type 0) → Language → ℕ → Raws → Turn → Type 0
Next T language j ts (done e) = (ts ≡ nil) × (e ≡ j)
Next T language j ts (again k) = SomeValues T language k j ts
Next T language j ts (halts f) = ⊥

record ItemsView (N : ℕ → Sight → Type 0) (T : ℕ → ℕ → ℕ → Lexical → Type 0) (language : Language) (i j : ℕ) (xs : Raws) : Type 0 where
  m : ℕ
  t : Raw
  ts : Raws
  shape : xs ≡ cons t ts
  value : Value T language i m t
  next : (v : Sight) → N m v → Next T language j ts (turn language close_bracket m v)

abbrev NextMember : (T : ℕ → ℕ → ℕ → Lexical → Type 0) → Language → ℕ → Mems → Turn → Type 0
NextMember T language j ts (done e) = (ts ≡ end) × (e ≡ j)
NextMember T language j ts (again k) = SomeMembers T language k j ts
NextMember T language j ts (halts f) = ⊥

record MembersView (N : ℕ → Sight → Type 0) (T : ℕ → ℕ → ℕ → Lexical → Type 0) (language : Language) (i j : ℕ) (ms : Mems) : Type 0 where
  m : ℕ
  n : Name
  t : Raw
  ts : Mems
  shape : ms ≡ mem n t ts
  s : ℕ
  e : ℕ
  b : ℕ
  c : ℕ
  x : Lexical
  token : T i s e x
  name : name_of language x ≡ some n
  colon_follows : T e b c (a_mark colon)
  value : Value T language c m t
  next : (v : Sight) → N m v → NextMember T language j ts (turn language close_brace m v)

not_got : {X A : Type 0} {f : Fault} {j : ℕ} {t : X} → fails f ≡ got j t → A
not_got e = let z : ◌≡◌ {A = ℕ} 0 1 = cc in absurd (omega arith)

got_place : {X : Type 0} {i j : ℕ} {t u : X} → got i t ≡ got j u → i ≡ j
got_place e = cc

got_value : {X : Type 0} {i j : ℕ} {t u : X} → got i t ≡ got j u → t ≡ u
got_value e = cc

got_both : {X : Type 0} {i j : ℕ} {t u : X} → i ≡ j → t ≡ u → got i t ≡ got j u
got_both p q = cc

module _ (N : ℕ → Sight → Type 0) (T : ℕ → ℕ → ℕ → Lexical → Type 0)
    (sure : (i s e : ℕ) (x : Lexical) (v : Sight) → N i v → T i s e x → v ≡ sees s e x)
    (num : (i s e : ℕ) (k : NumberKind) (ds : List ℕ) → N i (sees s e (a_number k ds)) → Number ds k) where
  -- the turn where a closing mark stands
  pub turn_closes : (language : Language) (close : Mark) (j s e : ℕ) (v : Sight) → N j v → T j s e (a_mark close) → turn language close j v ≡ done e
  turn_closes Json close j s e v n a = ap (turn Json close j) (sure j s e (a_mark close) v n a) ∙ cond-true (is_mark close (a_mark close)) (done e) (cond (is_mark comma (a_mark close)) (again e) (halts (BadText s))) (is_mark_lem close)
  turn_closes Graphql close j s e v n a = ap (turn Graphql close j) (sure j s e (a_mark close) v n a) ∙ cond-true (is_mark close (a_mark close)) (done e) (again j) (is_mark_lem close)

  -- and where another value follows
  pub turn_goes : (language : Language) (close : Mark) (j k : ℕ) (v : Sight) → is_mark close (a_mark comma) ≡ false → N j v → Separated T language j k → Opens T close k → turn language close j v ≡ again k
  turn_goes Json close j k v h n a o =
      ap (turn Json close j) (sure j a.0 k (a_mark comma) v n a.1)
      ∙ cond-false (is_mark close (a_mark comma)) (done k) (cond (is_mark comma (a_mark comma)) (again k) (halts (BadText a.0))) h
  turn_goes Graphql close j k v h n a o =
      ap (turn Graphql close j) (sure j o.s o.e o.x v n (subst (λ i. T i o.s o.e o.x) (sym a) o.token))
      ∙ cond-false (is_mark close o.x) (done o.e) (again j) o.other ∙ ap again a

  module _ (language : Language) where
    value_opens : {i j : ℕ} {t : Raw} → Value T language i j t → Opens T close_bracket i
    value_opens (g_leaf {s = s} {e = e} {x = x} a l) = record { s = s; e = e; x = x; token = a; other = leaf_no_mark l close_bracket }
    value_opens (g_variable {s = s} {e = e} a w) = record { s = s; e = e; x = a_mark dollar; token = a; other = refl }
    value_opens (g_list {s = s} {e = e} a w) = record { s = s; e = e; x = a_mark open_bracket; token = a; other = refl }
    value_opens (g_object {s = s} {e = e} a w) = record { s = s; e = e; x = a_mark open_brace; token = a; other = refl }

    pub items_open : {i j : ℕ} {xs : Raws} → SomeValues T language i j xs → Opens T close_bracket i
    items_open (g_last v a) = value_opens v
    items_open (g_more v a r) = value_opens v

    member_opens : {i j : ℕ} {n : Name} {t : Raw} → Member T language i j n t → Opens T close_brace i
    member_opens (g_member {s = s} {e = e} {x = x} {n = n} a h c v) = record { s = s; e = e; x = x; token = a; other = name_no_mark language x n close_brace h }

    pub members_open : {i j : ℕ} {ms : Mems} → SomeMembers T language i j ms → Opens T close_brace i
    members_open (g_last_member v a) = member_opens v
    members_open (g_more_members v a r) = member_opens v

    view : {i j : ℕ} {t : Raw} → Value T language i j t → (v : Sight) → N i v → View T language j t v
    view {i} {j} {t} (g_leaf {s = s} {e = e} {x = x} a l) v n = subst (View T language j t) (sym (sure i s e x v n a)) (record {
      start = t;
      starts = starts_leaf l;
      leaf = λ u k h. (one_leaf h k l, refl);
      a_variable = λ h. absurd (leaf_mark l dollar h);
      a_list = λ h. absurd (leaf_mark l open_bracket h);
      an_object = λ h. absurd (leaf_mark l open_brace h);
    })
    view {i} {j} {t} (g_variable {s = s} {e = e} {b = b} {w = w} a c) v n = subst (View T language j t) (sym (sure i s e (a_mark dollar) v n a)) (record {
      start = variable s [];
      starts = starts_variable;
      leaf = λ u k h. absurd (leaf_mark k dollar refl);
      a_variable = λ h. (b, w, c, refl);
      a_list = λ h. let z : ◌≡◌ {A = ℕ} 0 1 = cc in absurd (omega arith);
      an_object = λ h. let z : ◌≡◌ {A = ℕ} 0 1 = cc in absurd (omega arith);
    })
    view {i} {j} {t} (g_list {s = s} {e = e} {xs = xs} a c) v n = subst (View T language j t) (sym (sure i s e (a_mark open_bracket) v n a)) (record {
      start = list s nil;
      starts = starts_list;
      leaf = λ u k h. absurd (leaf_mark k open_bracket refl);
      a_variable = λ h. let z : ◌≡◌ {A = ℕ} 0 1 = cc in absurd (omega arith);
      a_list = λ h. (xs, c, refl);
      an_object = λ h. let z : ◌≡◌ {A = ℕ} 0 1 = cc in absurd (omega arith);
    })
    view {i} {j} {t} (g_object {s = s} {e = e} {ms = ms} a c) v n = subst (View T language j t) (sym (sure i s e (a_mark open_brace) v n a)) (record {
      start = object s end;
      starts = starts_object;
      leaf = λ u k h. absurd (leaf_mark k open_brace refl);
      a_variable = λ h. let z : ◌≡◌ {A = ℕ} 0 1 = cc in absurd (omega arith);
      a_list = λ h. let z : ◌≡◌ {A = ℕ} 0 1 = cc in absurd (omega arith);
      an_object = λ h. (ms, c, refl);
    })

    view_items : {i j : ℕ} {xs : Raws} → SomeValues T language i j xs → ItemsView N T language i j xs
    view_items {j = j} (g_last {j = m} {s = s} {e = e} {t = t} w a) = record {
      m = m;
      t = t;
      ts = nil;
      shape = refl;
      value = w;
      next = λ v n. subst (Next T language j nil) (sym (turn_closes language close_bracket m s e v n a)) (refl, refl);
    }
    view_items {j = j} (g_more {j = m} {k = k} {t = t} {ts = ts} w a r) = record {
      m = m;
      t = t;
      ts = ts;
      shape = refl;
      value = w;
      next = λ v n. subst (Next T language j ts) (sym (turn_goes language close_bracket m k v refl n a (items_open r))) r;
    }

    member_view : {i m : ℕ} {n : Name} {t : Raw} (j : ℕ) (ts : Mems) → Member T language i m n t → ((v : Sight) → N m v → NextMember T language j ts (turn language close_brace m v)) → MembersView N T language i j (mem n t ts)
    member_view {m = m} {n = n} {t = t} j ts (g_member {s = s} {e = e} {b = b} {c = c} {x = x} a h k w) f = record {
      m = m;
      n = n;
      t = t;
      ts = ts;
      shape = refl;
      s = s;
      e = e;
      b = b;
      c = c;
      x = x;
      token = a;
      name = h;
      colon_follows = k;
      value = w;
      next = f;
    }

    view_members : {i j : ℕ} {ms : Mems} → SomeMembers T language i j ms → MembersView N T language i j ms
    view_members {j = j} (g_last_member {j = m} {s = s} {e = e} w a) = member_view j end w (λ v n. subst (NextMember T language j end) (sym (turn_closes language close_brace m s e v n a)) (refl, refl))
    view_members {j = j} (g_more_members {j = m} {k = k} {ts = ts} w a r) = member_view j ts w (λ v n. subst (NextMember T language j ts) (sym (turn_goes language close_brace m k v refl n a (members_open r))) r)

    module _ (distinct : Bool) where
      number_at : (i s e : ℕ) (x : Lexical) → N i (sees s e x) → (k : NumberKind) (ds : List ℕ) → x ≡ a_number k ds → Number ds k
      number_at i s e x n k ds h = num i s e k ds (subst (λ y. N i (sees s e y)) h n)

      colon_agrees : (n : Name) (v : Sight) (b c : ℕ) → v ≡ sees b c (a_mark colon) → colon_after n v ≡ got c n
      colon_agrees n v b c h = ap (colon_after n) h

      pub agree_name : {ns : List Name} {i s e b c : ℕ} {x : Lexical} {n : Name} {o : Out Name} → NameAt N language distinct ns i o → T i s e x → name_of language x ≡ some n → T e b c (a_mark colon) → length n ≤ 127 → repeats distinct ns n ≡ false → o ≡ got c n
      agree_name {i = i} {s} {e} {b} {c} {x} {n} (na_blind {f = f} m) a h k l r = let y = sure i s e x (blind f) m a in let z : ◌≡◌ {A = ℕ} 0 1 = cc in absurd (omega arith)
      agree_name {i = i} {s} {e} {b} {c} {x} {n} (na_none {s = s'} {e = e'} {x = x'} m g) a h k l r =
          let y = sure i s e x (sees s' e' x') m a in
          let u : x' ≡ x = cc in
          let w = sym g ∙ ap (name_of language) u ∙ h in
          let z : ◌≡◌ {A = ℕ} 0 1 = cc in absurd (omega arith)
      agree_name {i = i} {s} {e} {b} {c} {x} {n} (na_long {s = s'} {e = e'} {x = x'} {n = n'} m g q) a h k l r =
          let y = sure i s e x (sees s' e' x') m a in
          let u : x' ≡ x = cc in
          let w = sym g ∙ ap (name_of language) u ∙ h in
          let p : n' ≡ n = cc in
          absurd (omega (arith, ap length p))
      agree_name {ns} {i} {s} {e} {b} {c} {x} {n} (na_repeated {s = s'} {e = e'} {x = x'} {n = n'} m g q d) a h k l r =
          let y = sure i s e x (sees s' e' x') m a in
          let u : x' ≡ x = cc in
          let w = sym g ∙ ap (name_of language) u ∙ h in
          let p : n' ≡ n = cc in
          absurd (no_both d (ap (repeats distinct ns) p ∙ r))
      agree_name {i = i} {s} {e} {b} {c} {x} {n} (na_name {s = s'} {e = e'} {x = x'} {n = n'} {v = v} m g q d t z) a h k l r =
          let y = sure i s e x (sees s' e' x') m a in
          let u : x' ≡ x = cc in
          let f : e ≡ e' = cc in
          let w = sym g ∙ ap (name_of language) u ∙ h in
          let p : n' ≡ n = cc in
          sym z ∙ colon_agrees n' v b c (sure e' b c (a_mark colon) v t (subst (λ y. T y b c (a_mark colon)) f k)) ∙ ap (got c) p

      variable_agrees : (s j b : ℕ) (w : Name) (v : Sight) → v ≡ sees b j (a_name w) → as_variable s v ≡ got j (variable s w)
      variable_agrees s j b w v h = ap (as_variable s) h

      mutual
        pub agree : {d i j : ℕ} {t : Raw} {o : Out Raw} → Reads N language distinct d i o → Value T language i j t → (k : ℕ) → k + d ≡ 33 → Bounded distinct k t → o ≡ got j t
        agree (r_blind {f = f} n) v k w b = absurd (view v (blind f) n)
        agree (r_none {s = s} {e = e} {x = x} n h) v k w b = let u = view v (sees s e x) n in absurd (h u.start u.starts)
        agree {t = t} (r_deep n h z) v k w b = absurd (omega (arith, deep_enough distinct k t b))
        agree {i = i} (r_leaf {s = s} {e = e} {x = x} {t = y} n h l) v k w b = let u = (view v (sees s e x) n).leaf y l (number_at i s e x n) in got_both u.1 u.0
        agree {j = j} (r_variable {s = s} {e = e} {v = x} n h m z) v k w b =
            let u = (view v (sees s e (a_mark dollar)) n).a_variable refl in
            sym z ∙ variable_agrees s j u.0 u.1 x (sure e u.0 j (a_name u.1) x m u.2) ∙ ap (got j) (sym u.3)
        agree {j = j} (r_list {s = s} {e = e} n h r z) v k w b =
            let u = (view v (sees s e (a_mark open_bracket)) n).a_list refl in
            let c : Bounded distinct k (list s u.0) = subst (Bounded distinct k) u.2 b in
            sym z ∙ ap (as_list s) (agree_list r u.1 (suc k) (omega arith) c.1) ∙ ap (got j) (sym u.2)
        agree {j = j} (r_object {s = s} {e = e} n h r z) v k w b =
            let u = (view v (sees s e (a_mark open_brace)) n).an_object refl in
            let c : Bounded distinct k (object s u.0) = subst (Bounded distinct k) u.2 b in
            sym z ∙ ap (as_object s) (agree_object r u.1 (suc k) (omega arith) c.1 c.2) ∙ ap (got j) (sym u.2)

        pub agree_list : {d i j : ℕ} {xs : Raws} {o : Out Raws} → ReadsList N language distinct d i o → Values T language i j xs → (k : ℕ) → k + d ≡ 33 → BoundedAll distinct k xs → o ≡ got j xs
        agree_list {i = i} (rl_nil {s = s} {e = e} n) (g_nil {s = a} {e = b} g) k w c = let y = sure i a b (a_mark close_bracket) (sees s e (a_mark close_bracket)) n g in let z : e ≡ b = cc in got_both z refl
        agree_list {i = i} (rl_nil {s = s} {e = e} n) (g_values g) k w c =
            let o = items_open g in
            let y = sure i o.s o.e o.x (sees s e (a_mark close_bracket)) n o.token in
            let z : is_mark close_bracket o.x ≡ true = ap (sees_mark close_bracket) (sym y) in
            absurd (no_both z o.other)
        agree_list {i = i} (rl_items {v = v} n h r) (g_nil {s = a} {e = b} g) k w c =
            let z : sees_mark close_bracket v ≡ true = ap (sees_mark close_bracket) (sure i a b (a_mark close_bracket) v n g) in
            absurd (no_both z h)
        agree_list (rl_items n h r) (g_values g) k w c = agree_items r g k w c

        pub agree_items : {d i j : ℕ} {xs : Raws} {o : Out Raws} → ReadsItems N language distinct d i o → SomeValues T language i j xs → (k : ℕ) → k + d ≡ 33 → BoundedAll distinct k xs → o ≡ got j xs
        agree_items (ri_fails r) g k w c =
            let u = view_items g in
            let b : BoundedAll distinct k (cons u.t u.ts) = subst (BoundedAll distinct k) u.shape c in
            not_got (agree r u.value k w b.0)
        agree_items {j = j} (ri_halts {v = v} r n z) g k w c =
            let u = view_items g in
            let b : BoundedAll distinct k (cons u.t u.ts) = subst (BoundedAll distinct k) u.shape c in
            let p = agree r u.value k w b.0 in
            let q = got_place p in
            absurd (subst (Next T language j u.ts) (ap (λ i. turn language close_bracket i v) (sym q) ∙ z) (u.next v (subst (λ i. N i v) q n)))
        agree_items {j = j} (ri_last {v = v} r n z) g k w c =
            let u = view_items g in
            let b : BoundedAll distinct k (cons u.t u.ts) = subst (BoundedAll distinct k) u.shape c in
            let p = agree r u.value k w b.0 in
            let q = got_place p in
            let a = subst (Next T language j u.ts) (ap (λ i. turn language close_bracket i v) (sym q) ∙ z) (u.next v (subst (λ i. N i v) q n)) in
            got_both a.1 (ap (λ t. cons t nil) (got_value p) ∙ ap (cons u.t) (sym a.0) ∙ sym u.shape)
        agree_items {j = j} (ri_more {t = t} {v = v} r n z x y) g k w c =
            let u = view_items g in
            let b : BoundedAll distinct k (cons u.t u.ts) = subst (BoundedAll distinct k) u.shape c in
            let p = agree r u.value k w b.0 in
            let q = got_place p in
            let a = subst (Next T language j u.ts) (ap (λ i. turn language close_bracket i v) (sym q) ∙ z) (u.next v (subst (λ i. N i v) q n)) in
            sym y ∙ ap (ahead t) (agree_items x a k w b.1) ∙ ap (λ s. got j (cons s u.ts)) (got_value p) ∙ ap (got j) (sym u.shape)

        pub agree_object : {d i j : ℕ} {ms : Mems} {o : Out Mems} → ReadsObject N language distinct d i o → Members T language i j ms → (k : ℕ) → k + d ≡ 33 → Unrepeated distinct (mem_names ms) → BoundedMems distinct k ms → o ≡ got j ms
        agree_object {i = i} (ro_end {s = s} {e = e} n) (g_end {s = a} {e = b} g) k w f c = let y = sure i a b (a_mark close_brace) (sees s e (a_mark close_brace)) n g in let z : e ≡ b = cc in got_both z refl
        agree_object {i = i} (ro_end {s = s} {e = e} n) (g_members g) k w f c =
            let o = members_open g in
            let y = sure i o.s o.e o.x (sees s e (a_mark close_brace)) n o.token in
            let z : is_mark close_brace o.x ≡ true = ap (sees_mark close_brace) (sym y) in
            absurd (no_both z o.other)
        agree_object {i = i} (ro_members {v = v} n h r) (g_end {s = a} {e = b} g) k w f c =
            let z : sees_mark close_brace v ≡ true = ap (sees_mark close_brace) (sure i a b (a_mark close_brace) v n g) in
            absurd (no_both z h)
        agree_object {ms = ms} (ro_members n h r) (g_members g) k w f c = agree_members r g k w (unrepeated_fresh distinct (mem_names ms) f) c

        pub agree_members : {d i j : ℕ} {ns : List Name} {ms : Mems} {o : Out Mems} → ReadsMembers N language distinct d ns i o → SomeMembers T language i j ms → (k : ℕ) → k + d ≡ 33 → Fresh distinct ns (mem_names ms) → BoundedMems distinct k ms → o ≡ got j ms
        agree_members {ns = ns} (rm_unnamed m) g k w f c =
            let u = view_members g in
            let b : BoundedMems distinct k (mem u.n u.t u.ts) = subst (BoundedMems distinct k) u.shape c in
            let h : Fresh distinct ns (u.n ∷ mem_names u.ts) = subst (λ ms. Fresh distinct ns (mem_names ms)) u.shape f in
            not_got (agree_name m u.token u.name u.colon_follows b.0 h.0)
        agree_members {d} {ns = ns} (rm_fails {f = l} m r) g k w f c =
            let u = view_members g in
            let b : BoundedMems distinct k (mem u.n u.t u.ts) = subst (BoundedMems distinct k) u.shape c in
            let h : Fresh distinct ns (u.n ∷ mem_names u.ts) = subst (λ ms. Fresh distinct ns (mem_names ms)) u.shape f in
            let a = agree_name m u.token u.name u.colon_follows b.0 h.0 in
            not_got (agree r (subst (λ i. Value T language i u.m u.t) (sym (got_place a)) u.value) k w b.1)
        agree_members {j = j} {ns = ns} (rm_halts {v = v} m r n z) g k w f c =
            let u = view_members g in
            let b : BoundedMems distinct k (mem u.n u.t u.ts) = subst (BoundedMems distinct k) u.shape c in
            let h : Fresh distinct ns (u.n ∷ mem_names u.ts) = subst (λ ms. Fresh distinct ns (mem_names ms)) u.shape f in
            let a = agree_name m u.token u.name u.colon_follows b.0 h.0 in
            let p = agree r (subst (λ i. Value T language i u.m u.t) (sym (got_place a)) u.value) k w b.1 in
            let q = got_place p in
            absurd (subst (NextMember T language j u.ts) (ap (λ i. turn language close_brace i v) (sym q) ∙ z) (u.next v (subst (λ i. N i v) q n)))
        agree_members {j = j} {ns = ns} (rm_last {n = l} {t = t} {v = v} m r n z) g k w f c =
            let u = view_members g in
            let b : BoundedMems distinct k (mem u.n u.t u.ts) = subst (BoundedMems distinct k) u.shape c in
            let h : Fresh distinct ns (u.n ∷ mem_names u.ts) = subst (λ ms. Fresh distinct ns (mem_names ms)) u.shape f in
            let a = agree_name m u.token u.name u.colon_follows b.0 h.0 in
            let p = agree r (subst (λ i. Value T language i u.m u.t) (sym (got_place a)) u.value) k w b.1 in
            let q = got_place p in
            let x = subst (NextMember T language j u.ts) (ap (λ i. turn language close_brace i v) (sym q) ∙ z) (u.next v (subst (λ i. N i v) q n)) in
            got_both x.1 (ap (λ s. mem l s end) (got_value p) ∙ ap (λ s. mem s u.t end) (got_value a) ∙ ap (mem u.n u.t) (sym x.0) ∙ sym u.shape)
        agree_members {j = j} {ns = ns} (rm_more {k = i'} {n = l} {t = t} {v = v} {q = o'} m r n z x y) g k w f c =
            let u = view_members g in
            let b : BoundedMems distinct k (mem u.n u.t u.ts) = subst (BoundedMems distinct k) u.shape c in
            let h : Fresh distinct ns (u.n ∷ mem_names u.ts) = subst (λ ms. Fresh distinct ns (mem_names ms)) u.shape f in
            let a = agree_name m u.token u.name u.colon_follows b.0 h.0 in
            let p = agree r (subst (λ i. Value T language i u.m u.t) (sym (got_place a)) u.value) k w b.1 in
            let q = got_place p in
            let e = subst (NextMember T language j u.ts) (ap (λ i. turn language close_brace i v) (sym q) ∙ z) (u.next v (subst (λ i. N i v) q n)) in
            let fresh = subst (λ s. Fresh distinct (ns ++ s ∷ []) (mem_names u.ts)) (sym (got_value a)) h.1 in
            sym y ∙ ap (ahead_member l t) (agree_members x e k w fresh b.2) ∙ ap (λ s. got j (mem l s u.ts)) (got_value p) ∙ ap (λ s. got j (mem s u.t u.ts)) (got_value a) ∙ ap (got j) (sym u.shape)

      all_agrees : {d : ℕ} {o : Out Raw} {t : Raw} → ReadsAll N language distinct d o → d ≡ 33 → Text T language t → Bounded distinct 0 t → (e : ℕ) × (o ≡ got e t)
      all_agrees (all_fails r) h x b = not_got (agree r x.value 0 (omega arith) b)
      all_agrees {t = t} (all_read {t = u} {v = v} r n z) h x b =
          let p = agree r x.value 0 (omega arith) b in
          let y = sure x.to x.from x.last the_end v (subst (λ i. N i v) (got_place p) n) x.ends in
          (x.last, sym z ∙ ap (after_all u) y ∙ ap (got x.last) (got_value p))

      pub agree_all : {o : Out Raw} {t : Raw} → ReadsAll N language distinct 33 o → Text T language t → Bounded distinct 0 t → (e : ℕ) × (o ≡ got e t)
      agree_all r x b = all_agrees r refl x b

      pub refuses_all : {f : Fault} {t : Raw} → ReadsAll N language distinct 33 (fails f) → Text T language t → Bounded distinct 0 t → ⊥
      refuses_all r x b = not_got (agree_all r x b).1
