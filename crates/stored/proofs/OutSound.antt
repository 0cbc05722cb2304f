-- What is read is what the bytes encode, within the limits, and all that is so is read.
use Rattle.std.proofs.Common.{◌≡◌, ℕ, suc, ◌+◌, ◌-◌, ◌≤◌, false, List, [], ◌∷◌, ◌++◌, length, drop, sym, refl, ap, ◌∙◌, subst, arith, length-append, length-drop}
use Rattle.std.proofs.lemmas.List.{append_assoc, append-nil, append_cancel_right, drop-drop, drop_at, drop_all}
use Rattle.text.specs.declared.fault.Fault.{Fault}
use Rattle.model.specs.Values.{Name, Plain, Rec, Recs, Rmems, r_null, r_plain, r_list, r_object, r_nil, r_cons, r_end, r_mem, has}
use Rattle.model.specs.Records.{kind, encode, encode_all, encode_mems, framed, plain_kind, plain_body, DecodesSheet}
use Rattle.model.specs.Limits.{RecLimits, RecLimitsAll, RecLimitsMems}
use Rattle.stored.specs.Frames.{past, Framed, Fills}
use Rattle.stored.specs.Contents.{IsLeaf}
use Rattle.stored.specs.Outcomes.{Out, got, fails, as_list, as_object, ahead, ahead_member, NameAt, Reads, r_none, r_bad, r_long, r_deep, r_leaf, r_items, r_members, ReadsItems, i_end, i_fails, i_more, ReadsMembers, m_end, m_unnamed, m_repeated, m_fails, m_more, ReadsSheet, all_members}
use Rattle.stored.proofs.OutSame.{leaf_fits, one_outcome}
use Rattle.stored.specs.OneTree.{limits_fit_mems}
use Rattle.stored.proofs.OutNames.{New, distinct_new, new_distinct}

-- BYTES FROM ONE PLACE TO ANOTHER

pub fills_none : (bytes : List ℕ) (i : ℕ) → Fills bytes i i []
fills_none bytes i = record { there = refl; ends = omega arith }

pub fills_join : {bytes : List ℕ} {i j e : ℕ} {xs ys : List ℕ} → Fills bytes i j xs → Fills bytes j e ys → Fills bytes i e (xs ++ ys)
fills_join {bytes} {e = e} {xs} {ys} f g = record {
  there = f.there ∙ ap (λ l. xs ++ l) g.there ∙ sym (append_assoc xs ys (drop e bytes));
  ends = let l = length-append xs ys in let p = f.ends in let q = g.ends in omega arith;
}

pub fills_split : {bytes : List ℕ} {i e : ℕ} (xs ys : List ℕ) → Fills bytes i e (xs ++ ys) → Fills bytes i (i + length xs) xs × Fills bytes (i + length xs) e ys
fills_split {bytes} {i} {e} xs ys f =
    let l = length-append xs ys in
    let whole : drop i bytes ≡ xs ++ (ys ++ drop e bytes) = f.there ∙ append_assoc xs ys (drop e bytes) in
    let rest : drop (i + length xs) bytes ≡ ys ++ drop e bytes =
    sym (drop-drop (length xs) i bytes) ∙ ap (drop (length xs)) whole ∙ drop_at xs (ys ++ drop e bytes) (length xs) refl in (
      record { there = whole ∙ ap (λ l. xs ++ l) (sym rest); ends = refl },
      record { there = rest; ends = let p = f.ends in omega arith },
    )

pub fills_same : {bytes : List ℕ} {i e : ℕ} {xs ys : List ℕ} → Fills bytes i e xs → Fills bytes i e ys → xs ≡ ys
fills_same {bytes} {e = e} {xs} {ys} f g = append_cancel_right xs ys (drop e bytes) (sym f.there ∙ g.there)

-- the bytes of a record, and of its body
pub framed-fills : {bytes : List ℕ} {i to k e : ℕ} {b : List ℕ} → Framed bytes i to k b → past i b ≡ e → Fills bytes i e (framed k b)
framed-fills {bytes} {i} {k = k} {e} {b} f p =
    let n = 6 + length b in
    let rest : drop e bytes ≡ f.rest =
    ap (λ m. drop m bytes) (sym p) ∙ sym (drop-drop n i bytes) ∙ ap (drop n) f.there ∙ drop_at (framed k b) f.rest n (omega arith) in
    record { there = f.there ∙ ap (λ l. framed k b ++ l) (sym rest); ends = sym p ∙ omega arith }

pub body_fills : {bytes : List ℕ} {i e k : ℕ} {b : List ℕ} → Fills bytes i e (framed k b) → Fills bytes (i + 6) e b
body_fills {bytes} {i} f = record { there = sym (drop-drop 6 i bytes) ∙ ap (drop 6) f.there; ends = let p = f.ends in omega arith }

pub fills_framed : {bytes : List ℕ} {i e to k : ℕ} {b : List ℕ} → length bytes ≤ 65536 → Fills bytes i e (framed k b) → e ≤ to → Framed bytes i to k b
fills_framed {bytes} {i} {e} {k = k} {b} n f h =
    let l = ap length f.there in
    let m = length-append b (drop e bytes) in
    let d = length-drop i bytes in
    record { rest = drop e bytes; there = f.there; small = omega arith; within = let p = f.ends in omega arith }

-- WHAT IS READ STANDS THERE

abbrev pub Good : List ℕ → ℕ → ℕ → Out Rec → Type 0
Good bytes i k (got e r) = Fills bytes i e (encode r) × RecLimits k r
Good bytes i k (fails f) = Unit {0}

abbrev pub GoodItems : List ℕ → ℕ → ℕ → ℕ → Out Recs → Type 0
GoodItems bytes i to k (got e rs) = (e ≡ to) × Fills bytes i to (encode_all rs) × RecLimitsAll k rs
GoodItems bytes i to k (fails f) = Unit {0}

abbrev pub GoodMembers : List ℕ → List Name → ℕ → ℕ → ℕ → Out Rmems → Type 0
GoodMembers bytes ns i to k (got e ms) = (e ≡ to) × Fills bytes i to (encode_mems ms) × New ns ms × RecLimitsMems k ms
GoodMembers bytes ns i to k (fails f) = Unit {0}

leaf_limits : (n : ℕ) (b : List ℕ) (k : ℕ) (r : Rec) → IsLeaf n b r → k ≤ 32 → RecLimits k r
leaf_limits n b k r_null x h = h
leaf_limits n b k (r_plain p) x h = (h, x.2)
leaf_limits n b k (r_list rs) x h = absurd x
leaf_limits n b k (r_object ms) x h = absurd x

leaf_encodes : (n : ℕ) (b : List ℕ) (r : Rec) → IsLeaf n b r → framed n b ≡ encode r
leaf_encodes n b r x = let p = leaf_fits n b r x in sym (ap (λ c. framed (kind r) c) p.2 ∙ ap (λ l. framed l b) p.1)

-- the body of a record is what fills it
filled : {bytes : List ℕ} {i to e x k : ℕ} {b c : List ℕ} → Framed bytes i to k b → past i b ≡ e → x ≡ e → Fills bytes (i + 6) e c → Fills bytes i x (framed k c)
filled {bytes} {i} {e = e} {k = k} {b = b} {c} f p y g =
    let whole = framed-fills f p in
    let same = fills_same (body_fills whole) g in
    subst (λ n. Fills bytes i n (framed k c)) (sym y) (subst (λ l. Fills bytes i e (framed k l)) same whole)

list_good : {bytes : List ℕ} {i to e : ℕ} {b : List ℕ} (k : ℕ) (q : Out Recs) → Framed bytes i to 6 b → past i b ≡ e → k ≤ 32 → GoodItems bytes (i + 6) e (suc k) q → Good bytes i k (as_list q)
list_good k (got x rs) f p h g = (filled f p g.0 g.1, (h, g.2))
list_good k (fails y) f p h g = tt

object_good : {bytes : List ℕ} {i to e : ℕ} {b : List ℕ} (k : ℕ) (q : Out Rmems) → Framed bytes i to 7 b → past i b ≡ e → k ≤ 32 → GoodMembers bytes [] (i + 6) e (suc k) q → Good bytes i k (as_object q)
object_good k (got x ms) f p h g = (filled f p g.0 g.1, (h, new_distinct ms g.2, g.3))
object_good k (fails y) f p h g = tt

items_good : (bytes : List ℕ) (i to e k : ℕ) (r : Rec) (q : Out Recs) → Good bytes i k (got e r) → GoodItems bytes e to k q → GoodItems bytes i to k (ahead r q)
items_good bytes i to e k r (got x rs) p g = (g.0, fills_join p.0 g.1, (p.1, g.2))
items_good bytes i to e k r (fails y) p g = tt

members_good : (bytes : List ℕ) (i to c e k : ℕ) (ns : List Name) (n : Name) (r : Rec) (q : Out Rmems) → NameAt bytes i to n → has ns n ≡ false → past i n ≡ c → Good bytes c k (got e r) → GoodMembers bytes (ns ++ n ∷ []) e to k q → GoodMembers bytes ns i to k (ahead_member n r q)
members_good bytes i to c e k ns n r (got x ms) a t z p g = (g.0, fills_join (framed-fills a.framed z) (fills_join p.0 g.1), (t, g.2), (a.within, p.1, g.3))
members_good bytes i to c e k ns n r (fails y) a t z p g = tt

mutual
  pub sound : {bytes : List ℕ} {d i to : ℕ} {o : Out Rec} (k : ℕ) → d + k ≡ 33 → Reads bytes d i to o → Good bytes i k o
  sound k h (r_none u) = tt
  sound k h (r_bad f x) = tt
  sound k h (r_long f x) = tt
  sound k h (r_deep f x z) = tt
  sound {bytes} {i = i} k h (r_leaf {k = n} {e} {b} {r} f x g p) =
      (subst (Fills bytes i e) (leaf_encodes n b r x) (framed-fills f p), leaf_limits n b k r x (omega arith))
  sound {bytes} {d} {i} k h (r_items {q = q} f g p x y) = subst (Good bytes i k) y (list_good k q f p (omega arith) (sound_items (suc k) (omega arith) x))
  sound {bytes} {d} {i} k h (r_members {q = q} f g p x y) = subst (Good bytes i k) y (object_good k q f p (omega arith) (sound_members (suc k) (omega arith) x))

  pub sound_items : {bytes : List ℕ} {d i to : ℕ} {o : Out Recs} (k : ℕ) → d + k ≡ 33 → ReadsItems bytes d i to o → GoodItems bytes i to k o
  sound_items {bytes} {i = i} k h (i_end e) = (refl, subst (λ n. Fills bytes i n []) e (fills_none bytes i), tt)
  sound_items k h (i_fails l r) = tt
  sound_items {bytes} {i = i} {to} k h (i_more {e = e} {r} {q} l x y z) = subst (GoodItems bytes i to k) z (items_good bytes i to e k r q (sound k h x) (sound_items k h y))

  pub sound_members : {bytes : List ℕ} {d i to : ℕ} {ns : List Name} {o : Out Rmems} (k : ℕ) → d + k ≡ 33 → ReadsMembers bytes d ns i to o → GoodMembers bytes ns i to k o
  sound_members {bytes} {i = i} k h (m_end e) = (refl, subst (λ n. Fills bytes i n []) e (fills_none bytes i), tt, tt)
  sound_members k h (m_unnamed l u) = tt
  sound_members k h (m_repeated l a t) = tt
  sound_members k h (m_fails l a t e x) = tt
  sound_members {bytes} {i = i} {to} {ns} k h (m_more {c = c} {e} {n = n} {r} {q} l a t w x y z) = subst (GoodMembers bytes ns i to k) z (members_good bytes i to c e k ns n r q a t w (sound k h x) (sound_members k h y))

-- WHAT STANDS THERE IS READ

plain_leaf : (x : Plain) (k : ℕ) → RecLimits k (r_plain x) → IsLeaf (plain_kind x) (plain_body x) (r_plain x)
plain_leaf x k h = (refl, refl, h.1)

mutual
  pub complete : {bytes : List ℕ} {i e to : ℕ} (r : Rec) (k d : ℕ) → length bytes ≤ 65536 → d + k ≡ 33 → Fills bytes i e (encode r) → e ≤ to → RecLimits k r → Reads bytes d i to (got e r)
  complete r_null k d n h f t l = r_leaf (fills_framed n f t) (refl, refl) (omega arith) (let p = f.ends in omega arith)
  complete (r_plain x) k d n h f t l = let m = l.0 in r_leaf (fills_framed n f t) (plain_leaf x k l) (omega arith) (let p = f.ends in omega arith)
  complete (r_list rs) k d n h f t l =
      let m = l.0 in
      r_items (fills_framed n f t) (omega arith) (let p = f.ends in omega arith) (complete_items rs (suc k) (d - 1) n (omega arith) (body_fills f) l.1) refl
  complete (r_object ms) k d n h f t l =
      let m = l.0 in
      r_members (fills_framed n f t) (omega arith) (let p = f.ends in omega arith) (complete_members [] ms (suc k) (d - 1) n (omega arith) (body_fills f) (distinct_new ms l.1) l.2) refl

  pub complete_items : {bytes : List ℕ} {i to : ℕ} (rs : Recs) (k d : ℕ) → length bytes ≤ 65536 → d + k ≡ 33 → Fills bytes i to (encode_all rs) → RecLimitsAll k rs → ReadsItems bytes d i to (got to rs)
  complete_items r_nil k d n h f l = i_end (let p = f.ends in omega arith)
  complete_items {bytes} {i} {to} (r_cons r rs) k d n h f l =
      let s = fills_split (encode r) (encode_all rs) f in
      let p = s.1.ends in
      i_more (omega arith) (complete r k d n h s.0 (omega arith) l.0) (complete_items rs k d n h s.1 l.1) refl

  pub complete_members : {bytes : List ℕ} {i to : ℕ} (ns : List Name) (ms : Rmems) (k d : ℕ) → length bytes ≤ 65536 → d + k ≡ 33 → Fills bytes i to (encode_mems ms) → New ns ms → RecLimitsMems k ms → ReadsMembers bytes d ns i to (got to ms)
  complete_members ns r_end k d n h f w l = m_end (let p = f.ends in omega arith)
  complete_members {bytes} {i} {to} ns (r_mem m r ms) k d n h f w l =
      let s = fills_split (framed 8 m) (encode r ++ encode_mems ms) f in
      let t = fills_split (encode r) (encode_mems ms) s.1 in
      let p = t.1.ends in
      let q : i + length (framed 8 m) ≤ to = omega arith in
      m_more (omega arith) (record { framed = fills_framed n s.0 q; within = l.0 }) w.0 (omega arith)
      (complete r k d n h t.0 (omega arith) l.1) (complete_members (ns ++ m ∷ []) ms k d n h t.1 w.1 l.2) refl

-- THE WHOLE SHEET

pub sheet_sound : (bytes : List ℕ) (e : ℕ) (ms : Rmems) → ReadsMembers bytes 32 [] 0 (length bytes) (got e ms) → DecodesSheet bytes ms × RecLimits 0 (r_object ms)
sheet_sound bytes e ms x =
    let g = sound_members 1 refl x in
    let a : bytes ≡ encode_mems ms = g.1.there ∙ ap (λ l. encode_mems ms ++ l) (drop_all (length bytes) bytes (omega arith)) ∙ append-nil (encode_mems ms) in
    (record { fits = limits_fit_mems 1 ms g.3; bytes_are = sym a }, (omega arith, new_distinct ms g.2, g.3))

pub sheet_complete : (bytes : List ℕ) (ms : Rmems) → length bytes ≤ 65536 → DecodesSheet bytes ms → RecLimits 0 (r_object ms) → ReadsSheet bytes (got (length bytes) ms)
sheet_complete bytes ms n d l =
    let a = d.bytes_are in
    let f : Fills bytes 0 (length bytes) (encode_mems ms) = record {
      there = sym a ∙ sym (append-nil (encode_mems ms)) ∙ ap (λ l. encode_mems ms ++ l) (sym (drop_all (length bytes) bytes (omega arith)));
      ends = sym (ap length a) ∙ omega arith;
    } in
    all_members n (complete_members [] ms 1 32 n refl f (distinct_new ms l.1) l.2)

apart : {X : Type 0} {f : Fault} {e : ℕ} {x : X} → fails f ≡ got e x → ⊥
apart e = let z : ◌≡◌ {A = ℕ} 0 1 = cc in omega arith

pub sheet_refuses : (bytes : List ℕ) (f : Fault) → ReadsSheet bytes (fails f) → (ms : Rmems) → DecodesSheet bytes ms → RecLimits 0 (r_object ms) → length bytes ≤ 65536 → ⊥
sheet_refuses bytes f x ms d l n = apart (one_outcome x (sheet_complete bytes ms n d l))
