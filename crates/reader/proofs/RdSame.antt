-- Reading has one outcome.
use Rattle.std.proofs.Common.{◌≡◌, ℕ, ◌-◌, ◌<◌, ◌≤◌, Bool, true, false, List, [], ◌∷◌, ◌++◌, length, get_or, sym, refl, ap, ◌∙◌, subst, ⊎_elim, true≢false, arith}
use mathlib.Core.Option.{Option, none, some}
use Rattle.std.proofs.lemmas.Bool.{cases_Bool}
use Rattle.model.specs.Values.{Name, Dec, whole, decimal, string, Raw, Raws, Mems, scalar, variable as a_variable, list as a_list, object as an_object, nil, cons, end, mem, same as same_name}
use Rattle.model.proofs.CoNames.{same_true}
use Rattle.text.specs.declared.fault.Fault.TheVariants.{BadText, TooDeep, RepeatedName}
use Rattle.text.specs.declared.language.Language.{Language}
use Rattle.text.specs.declared.number.NumberKind.{NumberKind}
use Rattle.text.specs.declared.number.NumberKind.TheVariants.{Decimal}
use Rattle.text.specs.NumberGrammar.{Number}
use Rattle.text.specs.NormalForm.{WholeOf}
use Rattle.text.specs.TokenGrammar.{Mark, dollar, open_bracket, close_bracket, open_brace, close_brace, Lexical, a_mark, a_number}
use Rattle.text.proofs.NormLaws.{equal_numbers_equal_forms, numbers_write, worth_is_equivalence}
use Rattle.reader.proofs.RdSound.{is_mark_lem}
use Rattle.reader.specs.Tokens.{Sight, sees, blind}
use Rattle.reader.specs.Grammar.{NormalOf, Leaf, l_null, l_true, l_false, l_symbol, l_whole, l_decimal, l_string, name_of}
use Rattle.reader.specs.Reading.{Out, got, fails, Starts, starts_leaf, starts_list, starts_object, starts_variable, is_mark, sees_mark, Turn, done, again, halts, turn, as_list, as_object, ahead, ahead_member, as_variable, colon_after, repeats, NameAt, na_blind, na_none, na_long, na_repeated, na_name, Reads, r_blind, r_none, r_deep, r_leaf, r_variable, r_list, r_object, ReadsList, rl_nil, rl_items, ReadsItems, ri_fails, ri_halts, ri_last, ri_more, ReadsObject, ro_end, ro_members, ReadsMembers, rm_unnamed, rm_fails, rm_halts, rm_last, rm_more, after_all, ReadsAll, all_fails, all_read}

-- a whole number has one normal form
pub one_whole : (ds r q : List ℕ) → WholeOf ds r → WholeOf ds q → r ≡ q
one_whole ds r q a b = ⊎_elim
    (λ e. let z = same_true ds (45 ∷ 48 ∷ []) e in a.zero z ∙ sym (b.zero z))
    (λ e. let no : ds ≡ 45 ∷ 48 ∷ [] → ⊥ = λ z. let y : same_name ds (45 ∷ 48 ∷ []) ≡ true = ap (λ (l : List ℕ). same_name l (45 ∷ 48 ∷ [])) z in let w : ◌≡◌ {A = ℕ} 0 1 = cc in omega arith in a.other no ∙ sym (b.other no))
    (cases_Bool (same_name ds (45 ∷ 48 ∷ [])))

-- a decimal has one
pub one_decimal : (ds : List ℕ) (d c : Dec) → Number ds Decimal → NormalOf ds d → NormalOf ds c → d ≡ c
one_decimal ds d c n x y =
    let w = numbers_write ds Decimal n in
    let r = equal_numbers_equal_forms ds ds d.digits c.digits (record { negative = d.negative; exponent = d.exponent }) (record { negative = c.negative; exponent = c.exponent }) w.negative w.negative w.amount w.amount w.scale w.scale x y w.writes w.writes (worth_is_equivalence.itself w.negative w.amount w.scale) in
    λ i. record { negative = (r.0 i).negative; exponent = (r.0 i).exponent; digits = r.1 i }

abbrev first : List ℕ → ℕ
first xs = get_or xs 0 0

clash : {A : Type 0} {w v u : Name} → w ≡ v → w ≡ u → (first v ≡ first u → ⊥) → A
clash p q h = absurd (h (ap first (sym p ∙ q)))

-- a token is one value
pub one_leaf : {s : ℕ} {x : Lexical} {t u : Raw} → ((k : NumberKind) (ds : List ℕ) → x ≡ a_number k ds → Number ds k) → Leaf s x t → Leaf s x u → t ≡ u
one_leaf num (l_null e) (l_null f) = refl
one_leaf num (l_null e) (l_true f) = clash e f (λ h. omega arith)
one_leaf num (l_null e) (l_false f) = clash e f (λ h. omega arith)
one_leaf num (l_null e) (l_symbol a b c) = absurd (a e)
one_leaf num (l_true e) (l_null f) = clash e f (λ h. omega arith)
one_leaf num (l_true e) (l_true f) = refl
one_leaf num (l_true e) (l_false f) = clash e f (λ h. omega arith)
one_leaf num (l_true e) (l_symbol a b c) = absurd (b e)
one_leaf num (l_false e) (l_null f) = clash e f (λ h. omega arith)
one_leaf num (l_false e) (l_true f) = clash e f (λ h. omega arith)
one_leaf num (l_false e) (l_false f) = refl
one_leaf num (l_false e) (l_symbol a b c) = absurd (c e)
one_leaf num (l_symbol a b c) (l_null e) = absurd (a e)
one_leaf num (l_symbol a b c) (l_true e) = absurd (b e)
one_leaf num (l_symbol a b c) (l_false e) = absurd (c e)
one_leaf num (l_symbol a b c) (l_symbol d e f) = refl
one_leaf {s} num (l_whole {ds} {r} a) (l_whole {r = q} b) = ap (λ l. scalar s (whole l)) (one_whole ds r q a b)
one_leaf {s} num (l_decimal {ds} {d} a) (l_decimal {d = c} b) = ap (λ l. scalar s (decimal l)) (one_decimal ds d c (num Decimal ds refl) a b)
one_leaf {s} num (l_string e) (l_string f) = ap (λ l. scalar s (string l)) (sym e ∙ f)

-- no such value is a mark
pub leaf_no_mark : {s : ℕ} {x : Lexical} {t : Raw} → Leaf s x t → (m : Mark) → is_mark m x ≡ false
leaf_no_mark (l_null e) m = refl
leaf_no_mark _ m = refl

pub no_both : {b : Bool} → b ≡ true → b ≡ false → ⊥
no_both p q = true≢false (sym p ∙ q)

pub leaf_mark : {s : ℕ} {x : Lexical} {t : Raw} → Leaf s x t → (m : Mark) → x ≡ a_mark m → ⊥
leaf_mark l m h = no_both (ap (is_mark m) h ∙ is_mark_lem m) (leaf_no_mark l m)

-- what an outcome is, by the token seen
record ViewAt (N : ℕ → Sight → Type 0) (language : Language) (distinct : Bool) (d s e : ℕ) (x : Lexical) (p : Out Raw) : Type 0 where
  starts_not : ((t : Raw) → Starts s x t → ⊥) → fails (BadText s) ≡ p
  too_deep : (t : Raw) → Starts s x t → d ≡ 0 → fails (TooDeep s) ≡ p
  leaf : (t : Raw) → Leaf s x t → 0 < d → got e t ≡ p
  variable : x ≡ a_mark dollar → 0 < d → (v : Sight) × N e v × (as_variable s v ≡ p)
  list : x ≡ a_mark open_bracket → 0 < d → (q : Out Raws) × ReadsList N language distinct (d - 1) e q × (as_list s q ≡ p)
  object : x ≡ a_mark open_brace → 0 < d → (q : Out Mems) × ReadsObject N language distinct (d - 1) e q × (as_object s q ≡ p)

abbrev View : (N : ℕ → Sight → Type 0) → Language → Bool → ℕ → Out Raw → Sight → Type 0
View N language distinct d p (sees s e x) = ViewAt N language distinct d s e x p
View N language distinct d p (blind f) = fails f ≡ p

record ListView (N : ℕ → Sight → Type 0) (language : Language) (distinct : Bool) (d i : ℕ) (p : Out Raws) (v : Sight) : Type 0 where
  closed : (s e : ℕ) → v ≡ sees s e (a_mark close_bracket) → got e nil ≡ p
  items : sees_mark close_bracket v ≡ false → ReadsItems N language distinct d i p

record ObjectView (N : ℕ → Sight → Type 0) (language : Language) (distinct : Bool) (d i : ℕ) (p : Out Mems) (v : Sight) : Type 0 where
  closed : (s e : ℕ) → v ≡ sees s e (a_mark close_brace) → got e end ≡ p
  members : sees_mark close_brace v ≡ false → ReadsMembers N language distinct d [] i p

abbrev Turned : (N : ℕ → Sight → Type 0) → Language → Bool → ℕ → Raw → Out Raws → Turn → Type 0
Turned N language distinct d t p (done e) = got e (cons t nil) ≡ p
Turned N language distinct d t p (again k) = (q : Out Raws) × ReadsItems N language distinct d k q × (ahead t q ≡ p)
Turned N language distinct d t p (halts f) = fails f ≡ p

abbrev After : (N : ℕ → Sight → Type 0) → Language → Bool → ℕ → Out Raws → Out Raw → Type 0
After N language distinct d p (got j t) = (v : Sight) × N j v × Turned N language distinct d t p (turn language close_bracket j v)
After N language distinct d p (fails f) = fails f ≡ p

abbrev NameOn : (N : ℕ → Sight → Type 0) → Bool → List Name → (s e : ℕ) → Out Name → Option Name → Type 0
NameOn N distinct ns s e p none = fails (BadText s) ≡ p
NameOn N distinct ns s e p (some n) = (127 < length n → fails (BadText s) ≡ p) × (length n ≤ 127 → repeats distinct ns n ≡ true → fails (RepeatedName s) ≡ p) × (length n ≤ 127 → repeats distinct ns n ≡ false → (v : Sight) × N e v × (colon_after n v ≡ p))

abbrev NameView : (N : ℕ → Sight → Type 0) → Language → Bool → List Name → Out Name → Sight → Type 0
NameView N language distinct ns p (sees s e x) = NameOn N distinct ns s e p (name_of language x)
NameView N language distinct ns p (blind f) = fails f ≡ p

abbrev MemTurned : (N : ℕ → Sight → Type 0) → Language → Bool → ℕ → List Name → Name → Raw → Out Mems → Turn → Type 0
MemTurned N language distinct d ns n t p (done e) = got e (mem n t end) ≡ p
MemTurned N language distinct d ns n t p (again k) = (q : Out Mems) × ReadsMembers N language distinct d (ns ++ n ∷ []) k q × (ahead_member n t q ≡ p)
MemTurned N language distinct d ns n t p (halts f) = fails f ≡ p

abbrev MemAfter : (N : ℕ → Sight → Type 0) → Language → Bool → ℕ → List Name → Name → Out Mems → Out Raw → Type 0
MemAfter N language distinct d ns n p (got j t) = (v : Sight) × N j v × MemTurned N language distinct d ns n t p (turn language close_brace j v)
MemAfter N language distinct d ns n p (fails f) = fails f ≡ p

abbrev Named : (N : ℕ → Sight → Type 0) → Language → Bool → ℕ → List Name → Out Mems → Out Name → Type 0
Named N language distinct d ns p (got c n) = (o : Out Raw) × Reads N language distinct d c o × MemAfter N language distinct d ns n p o
Named N language distinct d ns p (fails f) = fails f ≡ p

abbrev AllAfter : (N : ℕ → Sight → Type 0) → Out Raw → Out Raw → Type 0
AllAfter N p (got j t) = (v : Sight) × N j v × (after_all t v ≡ p)
AllAfter N p (fails f) = fails f ≡ p

module _ (N : ℕ → Sight → Type 0) (one : (i : ℕ) (v w : Sight) → N i v → N i w → v ≡ w)
    (num : (i s e : ℕ) (k : NumberKind) (ds : List ℕ) → N i (sees s e (a_number k ds)) → Number ds k)
    (language : Language) (distinct : Bool) where
  number_at : (i s e : ℕ) (x : Lexical) → N i (sees s e x) → (k : NumberKind) (ds : List ℕ) → x ≡ a_number k ds → Number ds k
  number_at i s e x n k ds h = num i s e k ds (subst (λ y. N i (sees s e y)) h n)

  view : {d i : ℕ} {p : Out Raw} → Reads N language distinct d i p → (v : Sight) → N i v → View N language distinct d p v
  view {d} {i} {p} (r_blind {f = f} n) v m = subst (View N language distinct d p) (one i (blind f) v n m) refl
  view {d} {i} {p} (r_none {s = s} {e = e} {x = x} n h) v m = subst (View N language distinct d p) (one i (sees s e x) v n m) (record {
    starts_not = λ f. refl;
    too_deep = λ t f. absurd (h t f);
    leaf = λ t l. absurd (h t (starts_leaf l));
    variable = λ y. absurd (h (a_variable s []) (subst (λ x. Starts s x (a_variable s [])) (sym y) starts_variable));
    list = λ y. absurd (h (a_list s nil) (subst (λ x. Starts s x (a_list s nil)) (sym y) starts_list));
    object = λ y. absurd (h (an_object s end) (subst (λ x. Starts s x (an_object s end)) (sym y) starts_object));
  })
  view {d} {i} {p} (r_deep {s = s} {e = e} {x = x} {t = t} n h z) v m = subst (View N language distinct d p) (one i (sees s e x) v n m) (record {
    starts_not = λ f. absurd (f t h);
    too_deep = λ u f y. refl;
    leaf = λ u l y. absurd (omega arith);
    variable = λ y g. absurd (omega arith);
    list = λ y g. absurd (omega arith);
    object = λ y g. absurd (omega arith);
  })
  view {d} {i} {p} (r_leaf {s = s} {e = e} {x = x} {t = t} n h l) v m = subst (View N language distinct d p) (one i (sees s e x) v n m) (record {
    starts_not = λ f. absurd (f t (starts_leaf l));
    too_deep = λ u f y. absurd (omega arith);
    leaf = λ u k y. ap (got e) (one_leaf (number_at i s e x n) k l);
    variable = λ y. absurd (leaf_mark l dollar y);
    list = λ y. absurd (leaf_mark l open_bracket y);
    object = λ y. absurd (leaf_mark l open_brace y);
  })
  view {d} {i} {p} (r_variable {s = s} {e = e} {v = w} n h k z) v m = subst (View N language distinct d p) (one i (sees s e (a_mark dollar)) v n m) (record {
    starts_not = λ f. absurd (f _ starts_variable);
    too_deep = λ t f y. absurd (omega arith);
    leaf = λ t l y. absurd (leaf_mark l dollar refl);
    variable = λ y g. (w, k, z);
    list = λ y. let w : ◌≡◌ {A = ℕ} 0 1 = cc in absurd (omega arith);
    object = λ y. let w : ◌≡◌ {A = ℕ} 0 1 = cc in absurd (omega arith);
  })
  view {d} {i} {p} (r_list {s = s} {e = e} {q = q} n h r z) v m = subst (View N language distinct d p) (one i (sees s e (a_mark open_bracket)) v n m) (record {
    starts_not = λ f. absurd (f _ starts_list);
    too_deep = λ t f y. absurd (omega arith);
    leaf = λ t l y. absurd (leaf_mark l open_bracket refl);
    variable = λ y. let w : ◌≡◌ {A = ℕ} 0 1 = cc in absurd (omega arith);
    list = λ y g. (q, r, z);
    object = λ y. let w : ◌≡◌ {A = ℕ} 0 1 = cc in absurd (omega arith);
  })
  view {d} {i} {p} (r_object {s = s} {e = e} {q = q} n h r z) v m = subst (View N language distinct d p) (one i (sees s e (a_mark open_brace)) v n m) (record {
    starts_not = λ f. absurd (f _ starts_object);
    too_deep = λ t f y. absurd (omega arith);
    leaf = λ t l y. absurd (leaf_mark l open_brace refl);
    variable = λ y. let w : ◌≡◌ {A = ℕ} 0 1 = cc in absurd (omega arith);
    list = λ y. let w : ◌≡◌ {A = ℕ} 0 1 = cc in absurd (omega arith);
    object = λ y g. (q, r, z);
  })

  view_list : {d i : ℕ} {p : Out Raws} → ReadsList N language distinct d i p → (v : Sight) → N i v → ListView N language distinct d i p v
  view_list {d} {i} {p} (rl_nil {s = s} {e = e} n) v m =
      let y = one i (sees s e (a_mark close_bracket)) v n m in
      record {
        closed = λ a b z. let w : e ≡ b = cc in ap (λ k. got k nil) (sym w);
        items = λ z. let w : sees_mark close_bracket v ≡ true = ap (sees_mark close_bracket) (sym y) in absurd (no_both w z);
      }
  view_list {d} {i} {p} (rl_items {v = u} n h r) v m =
      let y = one i u v n m in
      record {
        closed = λ a b z. let w : sees_mark close_bracket u ≡ true = ap (sees_mark close_bracket) (y ∙ z) in absurd (no_both w h);
        items = λ z. r;
      }

  view_object : {d i : ℕ} {p : Out Mems} → ReadsObject N language distinct d i p → (v : Sight) → N i v → ObjectView N language distinct d i p v
  view_object {d} {i} {p} (ro_end {s = s} {e = e} n) v m =
      let y = one i (sees s e (a_mark close_brace)) v n m in
      record {
        closed = λ a b z. let w : e ≡ b = cc in ap (λ k. got k end) (sym w);
        members = λ z. let w : sees_mark close_brace v ≡ true = ap (sees_mark close_brace) (sym y) in absurd (no_both w z);
      }
  view_object {d} {i} {p} (ro_members {v = u} n h r) v m =
      let y = one i u v n m in
      record {
        closed = λ a b z. let w : sees_mark close_brace u ≡ true = ap (sees_mark close_brace) (y ∙ z) in absurd (no_both w h);
        members = λ z. r;
      }

  view_items : {d i : ℕ} {p : Out Raws} → ReadsItems N language distinct d i p → (o : Out Raw) × Reads N language distinct d i o × After N language distinct d p o
  view_items {d} {p = p} (ri_fails {f = f} r) = (fails f, r, refl)
  view_items {d} {p = p} (ri_halts {j = j} {t = t} {v = v} r n z) = (got j t, r, (v, n, subst (Turned N language distinct d t p) (sym z) refl))
  view_items {d} {p = p} (ri_last {j = j} {t = t} {v = v} r n z) = (got j t, r, (v, n, subst (Turned N language distinct d t p) (sym z) refl))
  view_items {d} {p = p} (ri_more {j = j} {t = t} {v = v} {q = q} r n z k y) = (got j t, r, (v, n, subst (Turned N language distinct d t p) (sym z) (q, k, y)))

  view_name : {ns : List Name} {i : ℕ} {p : Out Name} → NameAt N language distinct ns i p → (v : Sight) → N i v → NameView N language distinct ns p v
  view_name {ns} {i} {p} (na_blind {f = f} n) v m = subst (NameView N language distinct ns p) (one i (blind f) v n m) refl
  view_name {ns} {i} {p} (na_none {s = s} {e = e} {x = x} n h) v m = subst (NameView N language distinct ns p) (one i (sees s e x) v n m) (subst (NameOn N distinct ns s e p) (sym h) refl)
  view_name {ns} {i} {p} (na_long {s = s} {e = e} {x = x} n h l) v m = subst (NameView N language distinct ns p) (one i (sees s e x) v n m) (subst (NameOn N distinct ns s e p) (sym h)
      ((λ g. refl), (λ g. absurd (omega arith)), (λ g. absurd (omega arith))))
  view_name {ns} {i} {p} (na_repeated {s = s} {e = e} {x = x} n h l r) v m = subst (NameView N language distinct ns p) (one i (sees s e x) v n m) (subst (NameOn N distinct ns s e p) (sym h)
      ((λ g. absurd (omega arith)), (λ g k. refl), (λ g k. absurd (no_both r k))))
  view_name {ns} {i} {p} (na_name {s = s} {e = e} {x = x} {v = w} n h l r c z) v m = subst (NameView N language distinct ns p) (one i (sees s e x) v n m) (subst (NameOn N distinct ns s e p) (sym h)
      ((λ g. absurd (omega arith)), (λ g k. absurd (no_both k r)), (λ g k. (w, c, z))))

  named : {ns : List Name} {i s e : ℕ} {x : Lexical} {n : Name} {p : Out Name} → NameAt N language distinct ns i p → N i (sees s e x) → name_of language x ≡ some n → NameOn N distinct ns s e p (some n)
  named {ns} {i} {s} {e} {x} {n} {p} q m h = subst (NameOn N distinct ns s e p) h (view_name q (sees s e x) m)

  pub one_name : {ns : List Name} {i : ℕ} {o p : Out Name} → NameAt N language distinct ns i o → NameAt N language distinct ns i p → o ≡ p
  one_name (na_blind {f = f} n) q = view_name q (blind f) n
  one_name {ns} {p = p} (na_none {s = s} {e = e} {x = x} n h) q = subst (NameOn N distinct ns s e p) h (view_name q (sees s e x) n)
  one_name (na_long n h l) q = (named q n h).0 l
  one_name (na_repeated n h l r) q = (named q n h).1 l r
  one_name (na_name {e = e} {n = a} {v = v} n h l r c z) q =
      let w = (named q n h).2 l r in
      sym z ∙ ap (colon_after a) (one e v w.0 c w.1) ∙ w.2

  view_members : {d i : ℕ} {ns : List Name} {p : Out Mems} → ReadsMembers N language distinct d ns i p → (o : Out Name) × NameAt N language distinct ns i o × Named N language distinct d ns p o
  view_members (rm_unnamed {f = f} a) = (fails f, a, refl)
  view_members (rm_fails {c = c} {n = n} {f = f} a r) = (got c n, a, (fails f, r, refl))
  view_members {d} {ns = ns} {p} (rm_halts {c = c} {j = j} {n = n} {t = t} {v = v} a r m z) = (got c n, a, (got j t, r, (v, m, subst (MemTurned N language distinct d ns n t p) (sym z) refl)))
  view_members {d} {ns = ns} {p} (rm_last {c = c} {j = j} {n = n} {t = t} {v = v} a r m z) = (got c n, a, (got j t, r, (v, m, subst (MemTurned N language distinct d ns n t p) (sym z) refl)))
  view_members {d} {ns = ns} {p} (rm_more {c = c} {j = j} {n = n} {t = t} {v = v} {q = q} a r m z k y) = (got c n, a, (got j t, r, (v, m, subst (MemTurned N language distinct d ns n t p) (sym z) (q, k, y))))

  -- the turn that another derivation took
  turned : (d j : ℕ) (t : Raw) (p : Out Raws) {v : Sight} {T : Turn} → N j v → turn language close_bracket j v ≡ T → After N language distinct d p (got j t) → Turned N language distinct d t p T
  turned d j t p {v} n z a = subst (Turned N language distinct d t p) (ap (turn language close_bracket j) (one j a.0 v a.1 n) ∙ z) a.2

  mem_turned : (d j : ℕ) (ns : List Name) (n : Name) (t : Raw) (p : Out Mems) {v : Sight} {T : Turn} → N j v → turn language close_brace j v ≡ T → MemAfter N language distinct d ns n p (got j t) → MemTurned N language distinct d ns n t p T
  mem_turned d j ns n t p {v} m z a = subst (MemTurned N language distinct d ns n t p) (ap (turn language close_brace j) (one j a.0 v a.1 m) ∙ z) a.2

  mutual
    pub same : {d i : ℕ} {o p : Out Raw} → Reads N language distinct d i o → Reads N language distinct d i p → o ≡ p
    same (r_blind {f = f} n) q = view q (blind f) n
    same (r_none {s = s} {e = e} {x = x} n h) q = (view q (sees s e x) n).starts_not h
    same (r_deep {s = s} {e = e} {x = x} {t = t} n h z) q = (view q (sees s e x) n).too_deep t h z
    same (r_leaf {s = s} {e = e} {x = x} {t = t} n h l) q = (view q (sees s e x) n).leaf t l h
    same (r_variable {s = s} {e = e} {v = v} n h m z) q =
        let w = (view q (sees s e (a_mark dollar)) n).variable refl h in
        sym z ∙ ap (as_variable s) (one e v w.0 m w.1) ∙ w.2
    same (r_list {s = s} {e = e} n h r z) q =
        let w = (view q (sees s e (a_mark open_bracket)) n).list refl h in
        sym z ∙ ap (as_list s) (same_list r w.1) ∙ w.2
    same (r_object {s = s} {e = e} n h r z) q =
        let w = (view q (sees s e (a_mark open_brace)) n).object refl h in
        sym z ∙ ap (as_object s) (same_object r w.1) ∙ w.2

    pub same_list : {d i : ℕ} {o p : Out Raws} → ReadsList N language distinct d i o → ReadsList N language distinct d i p → o ≡ p
    same_list (rl_nil {s = s} {e = e} n) q = (view_list q (sees s e (a_mark close_bracket)) n).closed s e refl
    same_list (rl_items {v = v} n h r) q = same_items r ((view_list q v n).items h)

    pub same_items : {d i : ℕ} {o p : Out Raws} → ReadsItems N language distinct d i o → ReadsItems N language distinct d i p → o ≡ p
    same_items {d} {p = p} (ri_fails r) q = let w = view_items q in subst (After N language distinct d p) (sym (same r w.1)) w.2
    same_items {d} {p = p} (ri_halts {j = j} {t = t} r n z) q = let w = view_items q in turned d j t p n z (subst (After N language distinct d p) (sym (same r w.1)) w.2)
    same_items {d} {p = p} (ri_last {j = j} {t = t} r n z) q = let w = view_items q in turned d j t p n z (subst (After N language distinct d p) (sym (same r w.1)) w.2)
    same_items {d} {p = p} (ri_more {j = j} {t = t} r n z k y) q =
        let w = view_items q in
        let u = turned d j t p n z (subst (After N language distinct d p) (sym (same r w.1)) w.2) in
        sym y ∙ ap (ahead t) (same_items k u.1) ∙ u.2

    pub same_object : {d i : ℕ} {o p : Out Mems} → ReadsObject N language distinct d i o → ReadsObject N language distinct d i p → o ≡ p
    same_object (ro_end {s = s} {e = e} n) q = (view_object q (sees s e (a_mark close_brace)) n).closed s e refl
    same_object (ro_members {v = v} n h r) q = same_members r ((view_object q v n).members h)

    pub same_members : {d i : ℕ} {ns : List Name} {o p : Out Mems} → ReadsMembers N language distinct d ns i o → ReadsMembers N language distinct d ns i p → o ≡ p
    same_members {d} {ns = ns} {p = p} (rm_unnamed a) q = let w = view_members q in subst (Named N language distinct d ns p) (sym (one_name a w.1)) w.2
    same_members {d} {ns = ns} {p = p} (rm_fails {n = n} a r) q =
        let w = view_members q in
        let u = subst (Named N language distinct d ns p) (sym (one_name a w.1)) w.2 in
        subst (MemAfter N language distinct d ns n p) (sym (same r u.1)) u.2
    same_members {d} {ns = ns} {p = p} (rm_halts {j = j} {n = n} {t = t} a r m z) q =
        let w = view_members q in
        let u = subst (Named N language distinct d ns p) (sym (one_name a w.1)) w.2 in
        mem_turned d j ns n t p m z (subst (MemAfter N language distinct d ns n p) (sym (same r u.1)) u.2)
    same_members {d} {ns = ns} {p = p} (rm_last {j = j} {n = n} {t = t} a r m z) q =
        let w = view_members q in
        let u = subst (Named N language distinct d ns p) (sym (one_name a w.1)) w.2 in
        mem_turned d j ns n t p m z (subst (MemAfter N language distinct d ns n p) (sym (same r u.1)) u.2)
    same_members {d} {ns = ns} {p = p} (rm_more {j = j} {n = n} {t = t} a r m z k y) q =
        let w = view_members q in
        let u = subst (Named N language distinct d ns p) (sym (one_name a w.1)) w.2 in
        let x = mem_turned d j ns n t p m z (subst (MemAfter N language distinct d ns n p) (sym (same r u.1)) u.2) in
        sym y ∙ ap (ahead_member n t) (same_members k x.1) ∙ x.2

  view_all : {d : ℕ} {p : Out Raw} → ReadsAll N language distinct d p → (o : Out Raw) × Reads N language distinct d 0 o × AllAfter N p o
  view_all (all_fails {f = f} r) = (fails f, r, refl)
  view_all (all_read {j = j} {t = t} {v = v} r n z) = (got j t, r, (v, n, z))

  pub same_all : {d : ℕ} {o p : Out Raw} → ReadsAll N language distinct d o → ReadsAll N language distinct d p → o ≡ p
  same_all {p = p} (all_fails r) q = let w = view_all q in subst (AllAfter N p) (sym (same r w.1)) w.2
  same_all {p = p} (all_read {j = j} {t = t} {v = v} r n z) q =
      let w = view_all q in
      let u = subst (AllAfter N p) (sym (same r w.1)) w.2 in
      sym z ∙ ap (after_all t) (one j v u.0 n u.1) ∙ u.2
