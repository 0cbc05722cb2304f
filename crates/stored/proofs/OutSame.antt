-- Reading has one outcome.
use Rattle.std.proofs.Common.{◌≡◌, ℕ, ◌+◌, ◌-◌, ◌<◌, ◌≤◌, true, false, ◌⊎◌, List, [], ◌∷◌, ◌++◌, length, sym, refl, ap, ◌∙◌, subst, inl, inr, ⊎_elim, arith}
use Rattle.std.proofs.lemmas.Bool.{false≢true}
use Rattle.text.specs.declared.fault.Fault.TheVariants.{BadText, TooDeep, RepeatedName, LongNumber}
use Rattle.model.specs.Values.{Name, p_boolean, p_whole, p_decimal, p_string, Rec, Recs, Rmems, r_null, r_plain, r_list, r_object, r_nil, r_end, has}
use Rattle.model.specs.Records.{kind, body, encode, framed, Fits}
use Rattle.model.proofs.ByteLaws.{encode_injective}
use Rattle.stored.specs.Frames.{past, Framed, Unframed}
use Rattle.stored.specs.Contents.{IsLeaf, Long, Senseless, Sensible, a_leaf, a_list, an_object}
use Rattle.stored.specs.Outcomes.{Out, got, fails, as_list, as_object, ahead, ahead_member, NameAt, Unnamed, Reads, r_none, r_bad, r_long, r_deep, r_leaf, r_items, r_members, ReadsItems, i_end, i_fails, i_more, ReadsMembers, m_end, m_unnamed, m_repeated, m_fails, m_more, ReadsSheet, all_long, all_members}
use Rattle.stored.specs.OneFrame.{one_framed, inside}
use Rattle.stored.proofs.CoForms.{Leafy, l_null, l_boolean, l_whole, l_decimal, l_string, leafy, leafy_kind}

-- WHAT A RECORD SAYS

-- the ways in which a kind and a body can be read
data Said : Type 0 where
  bad : Said
  long : Said
  leaf : Rec → Said
  items : Said
  members : Said

data Says (k : ℕ) (b : List ℕ) : Said → Type 0 where
  says_bad : Senseless k b → Says k b bad
  says_long : Long k b → Says k b long
  says_leaf : {r : Rec} → IsLeaf k b r → Says k b (leaf r)
  says_items : k ≡ 6 → Says k b items
  says_members : k ≡ 7 → Says k b members

pub leaf_fits : (k : ℕ) (b : List ℕ) (r : Rec) → IsLeaf k b r → Fits r × (kind r ≡ k) × (body r ≡ b)
leaf_fits k b r_null h = (tt, sym h.0, sym h.1)
leaf_fits k b (r_plain (p_boolean t)) h = (tt, h.0, h.1)
leaf_fits k b (r_plain (p_whole s)) h = (tt, h.0, h.1)
leaf_fits k b (r_plain (p_decimal d)) h = (h.2.fits, h.0, h.1)
leaf_fits k b (r_plain (p_string s)) h = (tt, h.0, h.1)
leaf_fits k b (r_list rs) h = absurd h
leaf_fits k b (r_object ms) h = absurd h

one_leaf : (k : ℕ) (b : List ℕ) (r s : Rec) → length b < 4294967200 → IsLeaf k b r → IsLeaf k b s → r ≡ s
one_leaf k b r s n h g =
    let p = leaf_fits k b r h in
    let q = leaf_fits k b s g in
    let e : encode r ≡ framed k b = ap (λ c. framed (kind r) c) p.2 ∙ ap (λ l. framed l b) p.1 in
    let f : encode s ≡ framed k b = ap (λ c. framed (kind s) c) q.2 ∙ ap (λ l. framed l b) q.1 in
    let l = ap length e in
    let m = ap length f in
    encode_injective.0 r s p.0 q.0 (omega arith) (omega arith) (e ∙ sym f)

long_kind : (k : ℕ) (b : List ℕ) → Long k b → (3 ≤ k) × (k ≤ 4)
long_kind k b l = ⊎_elim (λ h. let e = h.0 in (omega arith, omega arith)) (λ h. let e = h.0 in (omega arith, omega arith)) l

not_long : (k : ℕ) (b : List ℕ) → Long k b → (k < 3) ⊎ (4 < k) → ⊥
not_long k b l h = let m = long_kind k b l in ⊎_elim (λ x. omega (arith, m.0)) (λ x. omega (arith, m.1)) h

long_leafy : {b : List ℕ} {k : ℕ} → Leafy b k → Long k b → ⊥
long_leafy {b} (l_null e) h = not_long 1 b h (inl (omega arith))
long_leafy {b} (l_boolean f) h = not_long 2 b h (inl (omega arith))
long_leafy (l_whole w) h = ⊎_elim (λ x. omega (arith, x.1, w.short)) (λ x. let e = x.0 in omega arith) h
long_leafy (l_decimal f s) h = ⊎_elim (λ x. let e = x.0 in omega arith) (λ x. omega (arith, x.1)) h
long_leafy {b} (l_string u) h = not_long 5 b h (inr (omega arith))

one_said : {k : ℕ} {b : List ℕ} {s t : Said} → length b < 4294967200 → Says k b s → Says k b t → s ≡ t
one_said n (says_bad x) (says_bad y) = refl
one_said n (says_bad x) (says_long y) = absurd (x.not_long y)
one_said n (says_bad x) (says_leaf y) = absurd (x.no_leaf _ y)
one_said n (says_bad x) (says_items y) = absurd (x.no_list y)
one_said n (says_bad x) (says_members y) = absurd (x.no_object y)
one_said n (says_long x) (says_bad y) = absurd (y.not_long x)
one_said n (says_long x) (says_long y) = refl
one_said {k} {b} n (says_long x) (says_leaf {r = r} y) = absurd (long_leafy (leafy k b r y) x)
one_said {k} {b} n (says_long x) (says_items y) = absurd (let l = long_kind k b x in omega (arith, l.1))
one_said {k} {b} n (says_long x) (says_members y) = absurd (let l = long_kind k b x in omega (arith, l.1))
one_said n (says_leaf x) (says_bad y) = absurd (y.no_leaf _ x)
one_said {k} {b} n (says_leaf {r = r} x) (says_long y) = absurd (long_leafy (leafy k b r x) y)
one_said {k} {b} n (says_leaf {r = r} x) (says_leaf {r = s} y) = ap leaf (one_leaf k b r s n x y)
one_said {k} {b} n (says_leaf {r = r} x) (says_items y) = absurd (let l = leafy_kind (leafy k b r x) in omega (arith, l.1))
one_said {k} {b} n (says_leaf {r = r} x) (says_members y) = absurd (let l = leafy_kind (leafy k b r x) in omega (arith, l.1))
one_said n (says_items x) (says_bad y) = absurd (y.no_list x)
one_said {k} {b} n (says_items x) (says_long y) = absurd (let l = long_kind k b y in omega (arith, l.1))
one_said {k} {b} n (says_items x) (says_leaf {r = r} y) = absurd (let l = leafy_kind (leafy k b r y) in omega (arith, l.1))
one_said n (says_items x) (says_items y) = refl
one_said n (says_items x) (says_members y) = absurd (omega arith)
one_said n (says_members x) (says_bad y) = absurd (y.no_object x)
one_said {k} {b} n (says_members x) (says_long y) = absurd (let l = long_kind k b y in omega (arith, l.1))
one_said {k} {b} n (says_members x) (says_leaf {r = r} y) = absurd (let l = leafy_kind (leafy k b r y) in omega (arith, l.1))
one_said n (says_members x) (says_items y) = absurd (omega arith)
one_said n (says_members x) (says_members y) = refl

-- THE OUTCOME, BY WHAT THE RECORD SAYS

abbrev Via : List ℕ → ℕ → ℕ → ℕ → Out Rec → Said → Type 0
Via bytes d i e o bad = fails (BadText i) ≡ o
Via bytes d i e o long = fails (LongNumber i) ≡ o
Via bytes d i e o (leaf r) = (d ≡ 0 → fails (TooDeep i) ≡ o) × (0 < d → got e r ≡ o)
Via bytes d i e o items = (d ≡ 0 → fails (TooDeep i) ≡ o) × (0 < d → (q : Out Recs) × ReadsItems bytes (d - 1) (i + 6) e q × (as_list q ≡ o))
Via bytes d i e o members = (d ≡ 0 → fails (TooDeep i) ≡ o) × (0 < d → (q : Out Rmems) × ReadsMembers bytes (d - 1) [] (i + 6) e q × (as_object q ≡ o))

record Seen (bytes : List ℕ) (d i to : ℕ) (o : Out Rec) : Type 0 where
  k : ℕ
  b : List ℕ
  frame : Framed bytes i to k b
  said : Said
  says : Says k b said
  via : Via bytes d i (past i b) o said

deep_seen : {bytes : List ℕ} {d i to k : ℕ} {b : List ℕ} → Framed bytes i to k b → Sensible k b → d ≡ 0 → Seen bytes d i to (fails (TooDeep i))
deep_seen {k = k} {b} f (a_leaf r x) z = record { k = k; b = b; frame = f; said = leaf r; says = says_leaf x; via = (λ h. refl, λ h. absurd (omega arith)) }
deep_seen {k = k} {b} f (a_list x) z = record { k = k; b = b; frame = f; said = items; says = says_items x; via = (λ h. refl, λ h. absurd (omega arith)) }
deep_seen {k = k} {b} f (an_object x) z = record { k = k; b = b; frame = f; said = members; says = says_members x; via = (λ h. refl, λ h. absurd (omega arith)) }

view : {bytes : List ℕ} {d i to : ℕ} {o : Out Rec} → Reads bytes d i to o → Unframed bytes i to ⊎ Seen bytes d i to o
view (r_none u) = inl u
view (r_bad {k = k} {b} f x) = inr (record { k = k; b = b; frame = f; said = bad; says = says_bad x; via = refl })
view (r_long {k = k} {b} f x) = inr (record { k = k; b = b; frame = f; said = long; says = says_long x; via = refl })
view (r_deep f x z) = inr (deep_seen f x z)
view (r_leaf {k = k} {b = b} {r} f x h e) = inr (record { k = k; b = b; frame = f; said = leaf r; says = says_leaf x; via = (λ z. absurd (omega arith), λ z. ap (λ n. got n r) e) })
view {bytes} {d} {i} (r_items {b = b} {q} f h e x y) = inr (record { k = 6; b = b; frame = f; said = items; says = says_items refl; via = (λ z. absurd (omega arith), λ z. (q, subst (λ n. ReadsItems bytes (d - 1) (i + 6) n q) (sym e) x, y)) })
view {bytes} {d} {i} (r_members {b = b} {q} f h e x y) = inr (record { k = 7; b = b; frame = f; said = members; says = says_members refl; via = (λ z. absurd (omega arith), λ z. (q, subst (λ n. ReadsMembers bytes (d - 1) [] (i + 6) n q) (sym e) x, y)) })

pub body_short : {bytes : List ℕ} {i to k : ℕ} {b : List ℕ} → length bytes ≤ 65536 → Framed bytes i to k b → length b < 4294967200
body_short n f = let l = inside f in omega arith

says_on : {k l : ℕ} {b c : List ℕ} {s : Said} → k ≡ l → b ≡ c → Says k b s → Says l c s
says_on {k} {l} {b} {c} {s} p q x = subst (λ n. Says n c s) p (subst (λ m. Says k m s) q x)

-- where one reading finds a record that says s, any reading goes by it
meets : {bytes : List ℕ} {d i to k : ℕ} {b : List ℕ} {s : Said} {o : Out Rec} → length bytes ≤ 65536 → Framed bytes i to k b → Says k b s → Reads bytes d i to o → Via bytes d i (past i b) o s
meets {bytes} {d} {i} {b = b} {s} {o} n f x y =
    ⊎_elim (λ u. absurd (u _ b f))
    (λ v.
    let e = one_framed f v.frame in
    let t = one_said (body_short n f) x (says_on (sym e.0) (sym e.1) v.says) in
    subst (Via bytes d i (past i b) o) (sym t) (subst (λ c. Via bytes d i (past i c) o v.said) (sym e.1) v.via))
    (view y)

meets_deep : {bytes : List ℕ} {d i to k : ℕ} {b : List ℕ} {o : Out Rec} → length bytes ≤ 65536 → Framed bytes i to k b → Sensible k b → d ≡ 0 → Reads bytes d i to o → fails (TooDeep i) ≡ o
meets_deep n f (a_leaf r x) z y = (meets n f (says_leaf x) y).0 z
meets_deep n f (a_list x) z y = (meets n f (says_items x) y).0 z
meets_deep n f (an_object x) z y = (meets n f (says_members x) y).0 z

none_meets : {bytes : List ℕ} {d i to : ℕ} {o : Out Rec} → Unframed bytes i to → Reads bytes d i to o → fails (BadText i) ≡ o
none_meets u (r_none w) = refl
none_meets u (r_bad f x) = absurd (u _ _ f)
none_meets u (r_long f x) = absurd (u _ _ f)
none_meets u (r_deep f x z) = absurd (u _ _ f)
none_meets u (r_leaf f x h e) = absurd (u _ _ f)
none_meets u (r_items f h e x y) = absurd (u _ _ f)
none_meets u (r_members f h e x y) = absurd (u _ _ f)

-- ITEMS AND MEMBERS

abbrev After : List ℕ → ℕ → ℕ → Out Recs → Out Rec → Type 0
After bytes d to o (got e r) = (q : Out Recs) × ReadsItems bytes d e to q × (ahead r q ≡ o)
After bytes d to o (fails f) = fails f ≡ o

view_items : {bytes : List ℕ} {d i to : ℕ} {o : Out Recs} → i < to → ReadsItems bytes d i to o → (p : Out Rec) × Reads bytes d i to p × After bytes d to o p
view_items h (i_end e) = absurd (omega arith)
view_items h (i_fails {f = f} l r) = (fails f, r, refl)
view_items h (i_more {e = e} {r} {q} l x y z) = (got e r, x, (q, y, z))

ended : {bytes : List ℕ} {d i to : ℕ} {o : Out Recs} → i ≡ to → ReadsItems bytes d i to o → got to r_nil ≡ o
ended h (i_end e) = refl
ended h (i_fails l r) = absurd (omega arith)
ended h (i_more l x y z) = absurd (omega arith)

abbrev AfterMember : List ℕ → ℕ → List Name → Name → ℕ → Out Rmems → Out Rec → Type 0
AfterMember bytes d ns n to o (got e r) = (q : Out Rmems) × ReadsMembers bytes d (ns ++ n ∷ []) e to q × (ahead_member n r q ≡ o)
AfterMember bytes d ns n to o (fails f) = fails f ≡ o

ended_members : {bytes : List ℕ} {d i to : ℕ} {ns : List Name} {o : Out Rmems} → i ≡ to → ReadsMembers bytes d ns i to o → got to r_end ≡ o
ended_members h (m_end e) = refl
ended_members h (m_unnamed l u) = absurd (omega arith)
ended_members h (m_repeated l n t) = absurd (omega arith)
ended_members h (m_fails l n t e x) = absurd (omega arith)
ended_members h (m_more l n t e x y z) = absurd (omega arith)

unnamed_members : {bytes : List ℕ} {d i to : ℕ} {ns : List Name} {o : Out Rmems} → i < to → Unnamed bytes i to → ReadsMembers bytes d ns i to o → fails (BadText i) ≡ o
unnamed_members h u (m_end e) = absurd (omega arith)
unnamed_members h u (m_unnamed l v) = refl
unnamed_members h u (m_repeated l n t) = absurd (u _ n)
unnamed_members h u (m_fails l n t e x) = absurd (u _ n)
unnamed_members h u (m_more l n t e x y z) = absurd (u _ n)

one_name : {bytes : List ℕ} {i to : ℕ} {n m : Name} → NameAt bytes i to n → NameAt bytes i to m → n ≡ m
one_name x y = (one_framed x.framed y.framed).1

repeated_members : {bytes : List ℕ} {d i to : ℕ} {ns : List Name} {n : Name} {o : Out Rmems} → i < to → NameAt bytes i to n → has ns n ≡ true → ReadsMembers bytes d ns i to o → fails (RepeatedName i) ≡ o
repeated_members h a t (m_end e) = absurd (omega arith)
repeated_members h a t (m_unnamed l u) = absurd (u _ a)
repeated_members h a t (m_repeated l n u) = refl
repeated_members {ns = ns} h a t (m_fails l n u e x) = absurd (false≢true (sym u ∙ ap (has ns) (sym (one_name a n)) ∙ t))
repeated_members {ns = ns} h a t (m_more l n u e x y z) = absurd (false≢true (sym u ∙ ap (has ns) (sym (one_name a n)) ∙ t))

view_members : {bytes : List ℕ} {d i to : ℕ} {ns : List Name} {n : Name} {o : Out Rmems} → i < to → NameAt bytes i to n → has ns n ≡ false → ReadsMembers bytes d ns i to o → (p : Out Rec) × Reads bytes d (past i n) to p × AfterMember bytes d ns n to o p
view_members h a t (m_end e) = absurd (omega arith)
view_members h a t (m_unnamed l u) = absurd (u _ a)
view_members {ns = ns} h a t (m_repeated l n u) = absurd (false≢true (sym t ∙ ap (has ns) (one_name a n) ∙ u))
view_members {bytes} {d} {i} {to} {n = n} h a t (m_fails {f = f} l m u e x) =
    (fails f, subst (λ k. Reads bytes d k to (fails f)) (sym (ap (past i) (one_name a m) ∙ e)) x, refl)
view_members {bytes} {d} {i} {to} {ns} {n} {o} h a t (m_more {e = e} {r = r} {q} l m u c x y z) =
    let s = one_name a m in (
      got e r,
      subst (λ k. Reads bytes d k to (got e r)) (sym (ap (past i) s ∙ c)) x,
      (q, subst (λ w. ReadsMembers bytes d (ns ++ w ∷ []) e to q) (sym s) y, ap (λ w. ahead_member w r q) s ∙ z),
    )

mutual
  pub same_reads : {bytes : List ℕ} {d i to : ℕ} {o p : Out Rec} → length bytes ≤ 65536 → Reads bytes d i to o → Reads bytes d i to p → o ≡ p
  same_reads n (r_none u) y = none_meets u y
  same_reads n (r_bad f x) y = meets n f (says_bad x) y
  same_reads n (r_long f x) y = meets n f (says_long x) y
  same_reads n (r_deep f x z) y = meets_deep n f x z y
  same_reads n (r_leaf {r = r} f x h e) y = ap (λ k. got k r) (sym e) ∙ (meets n f (says_leaf x) y).1 h
  same_reads {bytes} {d} {i} n (r_items {q = q} f h e x z) y =
      let v = (meets n f (says_items refl) y).1 h in
      sym z ∙ ap as_list (same_items n x (subst (λ k. ReadsItems bytes (d - 1) (i + 6) k v.0) e v.1)) ∙ v.2
  same_reads {bytes} {d} {i} n (r_members {q = q} f h e x z) y =
      let v = (meets n f (says_members refl) y).1 h in
      sym z ∙ ap as_object (same_members n x (subst (λ k. ReadsMembers bytes (d - 1) [] (i + 6) k v.0) e v.1)) ∙ v.2

  pub same_items : {bytes : List ℕ} {d i to : ℕ} {o p : Out Recs} → length bytes ≤ 65536 → ReadsItems bytes d i to o → ReadsItems bytes d i to p → o ≡ p
  same_items n (i_end e) y = ended e y
  same_items {bytes} {d} {to = to} {p = p} n (i_fails l r) y = let v = view_items l y in subst (After bytes d to p) (sym (same_reads n r v.1)) v.2
  same_items {bytes} {d} {to = to} {p = p} n (i_more {r = r} l x q z) y =
      let v = view_items l y in
      let w = subst (After bytes d to p) (sym (same_reads n x v.1)) v.2 in
      sym z ∙ ap (ahead r) (same_items n q w.1) ∙ w.2

  pub same_members : {bytes : List ℕ} {d i to : ℕ} {ns : List Name} {o p : Out Rmems} → length bytes ≤ 65536 → ReadsMembers bytes d ns i to o → ReadsMembers bytes d ns i to p → o ≡ p
  same_members n (m_end e) y = ended_members e y
  same_members n (m_unnamed l u) y = unnamed_members l u y
  same_members n (m_repeated l a t) y = repeated_members l a t y
  same_members {bytes} {d} {to = to} {ns} {p = p} n (m_fails {n = m} {f} l a t e x) y =
      let v = view_members l a t y in
      subst (AfterMember bytes d ns m to p) (sym (same_reads n x (subst (λ k. Reads bytes d k to v.0) e v.1))) v.2
  same_members {bytes} {d} {to = to} {ns} {p = p} n (m_more {n = m} {r} l a t e x q z) y =
      let v = view_members l a t y in
      let w = subst (AfterMember bytes d ns m to p) (sym (same_reads n x (subst (λ k. Reads bytes d k to v.0) e v.1))) v.2 in
      sym z ∙ ap (ahead_member m r) (same_members n q w.1) ∙ w.2

pub one_outcome : {bytes : List ℕ} {o p : Out Rmems} → ReadsSheet bytes o → ReadsSheet bytes p → o ≡ p
one_outcome (all_long h) (all_long g) = refl
one_outcome (all_long h) (all_members g y) = absurd (omega arith)
one_outcome (all_members g x) (all_long h) = absurd (omega arith)
one_outcome (all_members g x) (all_members h y) = same_members g x y
