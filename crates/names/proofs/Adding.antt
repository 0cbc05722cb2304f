-- A link that is added.
use Rattle.std.proofs.Common.{◌≡◌, ℕ, zero, suc, ◌+◌, ◌<◌, ◌≤◌, Bool, true, false, ◌⊎◌, List, [], ◌∷◌, ◌++◌, Some, length, get_or, take, drop, set, sym, refl, ap, ◌∙◌, subst, inl, inr, ⊎_elim, arith}
use Rattle.std.proofs.lemmas.List.{length_push, length-set, get_or_append_left, get_or_push, get_or-set_same, get_or-set_other, get_or_read, drop-append-le, take-append-le, take-set-le}
use Rattle.std.proofs.lemmas.Bool.{cases_lt, cases_eq, cases_Bool, cond-true, cond-false, lt-ltb}
use Rattle.model.specs.Values.{Name, has, same}
use Rattle.model.proofs.CoNames.{same_true, has_head, has_later}
use Rattle.names.specs.declared.names.Link.{Link}
use Rattle.names.specs.Parts.{PartFits, bytes_of}
use Rattle.names.specs.Bits.{name_hash, bit_of}
use Rattle.names.specs.Index.{blank, child_of, linked, name_at, names_of, names_from, Child, Leads, here, down, Goes, start, on, Sound, Leaf, Found, Added}

-- a name that no link has is not among the names
absent : (text pool : List ℕ) (links : List Link) (base : ℕ) (n : List ℕ) → ((k : ℕ) → base ≤ k → k < length links → name_at text pool links k ≡ n → ⊥) → has (names_from text pool links base) n ≡ false
absent text pool [] zero n none = refl
absent text pool [] (suc b) n none = refl
absent text pool (x ∷ xs) zero n none =
    ⊎_elim
    (λ e. absurd (none 0 (omega arith) (omega arith) (same_true _ n e)))
    (λ e. cond-false _ _ _ e ∙ absent text pool xs zero n (λ k a b e. none (suc k) (omega arith) (omega arith) e))
    (cases_Bool (same (bytes_of text pool x.name) n))
absent text pool (x ∷ xs) (suc b) n none = absent text pool xs b n (λ k a h e. none (suc k) (omega arith) (omega arith) e)

-- a name that a link has is among the names
present : (text pool : List ℕ) (links : List Link) (base : ℕ) (n : List ℕ) (k : ℕ) → base ≤ k → k < length links → name_at text pool links k ≡ n → has (names_from text pool links base) n ≡ true
present text pool [] base n k a h e = absurd (omega arith)
present text pool (x ∷ xs) zero n zero a h e = subst (λ (m : Name). has (m ∷ names_of text pool xs) n ≡ true) (sym e) (has_head n (names_of text pool xs))
present text pool (x ∷ xs) zero n (suc k) a h e = has_later (bytes_of text pool x.name) n (names_of text pool xs) (present text pool xs zero n k (omega arith) (omega arith) e)
present text pool (x ∷ xs) (suc b) n zero a h e = absurd (omega arith)
present text pool (x ∷ xs) (suc b) n (suc k) a h e = present text pool xs b n k (omega arith) (omega arith) e

pub found_has : {text pool : List ℕ} {links : List Link} {base : ℕ} {n : List ℕ} → Found text pool links base n → has (names_from text pool links base) n ≡ true
found_has {text} {pool} {links} {base} {n} f = present text pool links base n f.k f.from f.within f.named

-- the names of links that are joined
names_append : (text pool : List ℕ) (ks ls : List Link) → names_of text pool (ks ++ ls) ≡ names_of text pool ks ++ names_of text pool ls
names_append text pool [] ls = refl
names_append text pool (k ∷ ks) ls = ap (λ ns. bytes_of text pool k.name ∷ ns) (names_append text pool ks ls)

names_push : (text pool : List ℕ) (links : List Link) (base : ℕ) (new : Link) → base ≤ length links → names_from text pool (links ++ new ∷ []) base ≡ names_from text pool links base ++ bytes_of text pool new.name ∷ []
names_push text pool links base new h = ap (names_of text pool) (drop-append-le base links (new ∷ []) h) ∙ names_append text pool (drop base links) (new ∷ [])

-- another link with the same name
names_set : (text pool : List ℕ) (links : List Link) (base i : ℕ) (l : Link) → l.name ≡ (get_or links i blank).name → names_from text pool (set links i l) base ≡ names_from text pool links base
names_set text pool [] base i l e = refl
names_set text pool (x ∷ xs) zero zero l e = ap (λ p. bytes_of text pool p ∷ names_of text pool xs) e
names_set text pool (x ∷ xs) zero (suc i) l e = ap (λ ns. bytes_of text pool x.name ∷ ns) (names_set text pool xs zero i l e)
names_set text pool (x ∷ xs) (suc b) zero l e = refl
names_set text pool (x ∷ xs) (suc b) (suc i) l e = names_set text pool xs b i l e

-- after a link is added: the others keep their names and their children
record Grown (before after : List Link) (new : Link) : Type 0 where
  long : length after ≡ length before + 1
  name_kept : (k : ℕ) → k < length before → (get_or after k blank).name ≡ (get_or before k blank).name
  hash_kept : (k : ℕ) → k < length before → (get_or after k blank).hash ≡ (get_or before k blank).hash
  name_new : (get_or after (length before) blank).name ≡ new.name
  hash_new : (get_or after (length before) blank).hash ≡ new.hash
  children : (at c : ℕ) (side : Bool) → Child before at side c → Child after at side c

grown_push : (before : List Link) (new : Link) → Grown before (before ++ new ∷ []) new
grown_push before new =
    record {
      long = length_push before new;
      name_kept = λ k h. ap (λ (l : Link). l.name) (get_or_append_left before (new ∷ []) blank k h);
      hash_kept = λ k h. ap (λ (l : Link). l.hash) (get_or_append_left before (new ∷ []) blank k h);
      name_new = ap (λ (l : Link). l.name) (get_or_push before new blank (length before) refl);
      hash_new = ap (λ (l : Link). l.hash) (get_or_push before new blank (length before) refl);
      children = λ at c side x.
          record {
            is = ap (λ (l : Link). child_of l side) (get_or_append_left before (new ∷ []) blank at (omega (arith, x.after, x.within))) ∙ x.is;
            after = x.after;
            within = omega (arith, x.within, length_push before new);
          };
    }

child_new : (l : Link) (side : Bool) (c : ℕ) → 0 < c → child_of (linked l side c) side ≡ Some c
child_new l true c h = cond-true _ _ _ (lt-ltb 0 c h)
child_new l false c h = cond-true _ _ _ (lt-ltb 0 c h)

child_kept : (l : Link) (side s : Bool) (c : ℕ) → (s ≡ side → ⊥) → child_of (linked l side c) s ≡ child_of l s
child_kept l true true c ne = absurd (ne refl)
child_kept l true false c ne = refl
child_kept l false true c ne = refl
child_kept l false false c ne = absurd (ne refl)

cases_side : (s t : Bool) → (s ≡ t) ⊎ (s ≡ t → ⊥)
cases_side true true = inl refl
cases_side true false = inr (λ e. absurd (let z : ◌≡◌ {A = ℕ} 0 1 = cc in omega arith))
cases_side false true = inr (λ e. absurd (let z : ◌≡◌ {A = ℕ} 0 1 = cc in omega arith))
cases_side false false = inl refl

-- a child comes where there was none
module _ (before mid : List Link) (new : Link) (at : ℕ) (side : Bool) (c : ℕ) (g : Grown before mid new) (within : at < length before) (ends : (d : ℕ) → Child before at side d → ⊥) where
  abbrev after : List Link
  after = set mid at (linked (get_or mid at blank) side c)

  inside : at < length mid
  inside = omega (arith, g.long)

  at_set : get_or after at blank ≡ linked (get_or mid at blank) side c
  at_set = get_or-set_same mid at (linked (get_or mid at blank) side c) blank inside

  off_set : (k : ℕ) → (k ≡ at → ⊥) → get_or after k blank ≡ get_or mid k blank
  off_set k ne = get_or-set_other mid at k (linked (get_or mid at blank) side c) blank ne

  name_same : (k : ℕ) → (get_or after k blank).name ≡ (get_or mid k blank).name
  name_same k =
      ⊎_elim
      (λ e. subst (λ (j : ℕ). (get_or after j blank).name ≡ (get_or mid j blank).name) (sym e) (ap (λ (l : Link). l.name) at_set))
      (λ ne. ap (λ (l : Link). l.name) (off_set k ne))
      (cases_eq k at)

  hash_same : (k : ℕ) → (get_or after k blank).hash ≡ (get_or mid k blank).hash
  hash_same k =
      ⊎_elim
      (λ e. subst (λ (j : ℕ). (get_or after j blank).hash ≡ (get_or mid j blank).hash) (sym e) (ap (λ (l : Link). l.hash) at_set))
      (λ ne. ap (λ (l : Link). l.hash) (off_set k ne))
      (cases_eq k at)

  child_same : (k d : ℕ) (s : Bool) → Child before k s d → child_of (get_or after k blank) s ≡ child_of (get_or mid k blank) s
  child_same k d s x =
      ⊎_elim
      (λ e. ⊎_elim
      (λ q. absurd (ends d (subst (λ (t : Bool). Child before at t d) q (subst (λ (j : ℕ). Child before j s d) e x))))
      (λ q. subst (λ (j : ℕ). child_of (get_or after j blank) s ≡ child_of (get_or mid j blank) s) (sym e)
      (ap (λ (l : Link). child_of l s) at_set ∙ child_kept (get_or mid at blank) side s c q))
      (cases_side s side))
      (λ ne. ap (λ (l : Link). child_of l s) (off_set k ne))
      (cases_eq k at)

  grown_set : Grown before after new
  grown_set =
      record {
        long = length-set mid at _ ∙ g.long;
        name_kept = λ k h. name_same k ∙ g.name_kept k h;
        hash_kept = λ k h. hash_same k ∙ g.hash_kept k h;
        name_new = name_same (length before) ∙ g.name_new;
        hash_new = hash_same (length before) ∙ g.hash_new;
        children = λ k d s x.
            let y = g.children k d s x in
            record { is = child_same k d s x ∙ y.is; after = y.after; within = omega (arith, y.within, length-set mid at (linked (get_or mid at blank) side c)) };
      }

  new_child : c ≡ length before → Child after at side c
  new_child e =
      record {
        is = ap (λ (l : Link). child_of l side) at_set ∙ child_new (get_or mid at blank) side c (omega arith);
        after = omega arith;
        within = omega (arith, g.long, length-set mid at (linked (get_or mid at blank) side c));
      }

leads_on : {before after : List Link} {h : ℕ} {n : List ℕ} {at level k : ℕ} → ((at c : ℕ) (side : Bool) → Child before at side c → Child after at side c) → Leads before h n at level k → Leads after h n at level k
leads_on f here = here
leads_on f (down x l) = down (f _ _ _ x) (leads_on f l)

goes_on : {before after : List Link} {h base : ℕ} {n : List ℕ} {at level : ℕ} (k : ℕ) → ((at c : ℕ) (side : Bool) → Child before at side c → Child after at side c) → Goes before h n base at level → Leads after h n at level k → Leads after h n base 0 k
goes_on k f start l = l
goes_on k f (on g x) l = goes_on k f g (down (f _ _ _ x) l)

-- what holds of those before and of the last holds of all
each : (P : ℕ → Type 0) (m n : ℕ) → n ≡ m + 1 → ((k : ℕ) → k < m → P k) → P m → (k : ℕ) → k < n → P k
each P m n e below last k h =
    ⊎_elim (below k) (λ a. let q : m ≡ k = omega arith in subst P q last) (cases_lt k m)

-- the links stay a search tree
sound_grown : (text pool : List ℕ) (before after : List Link) (base : ℕ) (new : Link) → Grown before after new → Sound text pool before base
    → PartFits text pool new.name → new.hash ≡ name_hash (bytes_of text pool new.name)
    → Leads after (name_hash (bytes_of text pool new.name)) (bytes_of text pool new.name) base 0 (length before)
    → Sound text pool after base
sound_grown text pool before after base new g s fits hashed leads =
    let kept : (k : ℕ) → k < length before → name_at text pool before k ≡ name_at text pool after k = λ k h. ap (bytes_of text pool) (sym (g.name_kept k h)) in
    let last : bytes_of text pool new.name ≡ name_at text pool after (length before) = ap (bytes_of text pool) (sym g.name_new) in
    record {
      leads = λ k a h.
          each (λ k. base ≤ k → Leads after (name_hash (name_at text pool after k)) (name_at text pool after k) base 0 k) (length before) (length after) g.long
          (λ k h a. subst (λ (n : List ℕ). Leads after (name_hash n) n base 0 k) (kept k h) (leads_on g.children (s.leads k a h)))
          (λ a. subst (λ (n : List ℕ). Leads after (name_hash n) n base 0 (length before)) last leads)
          k h a;
      fits = λ k a h.
          each (λ k. base ≤ k → PartFits text pool (get_or after k blank).name) (length before) (length after) g.long
          (λ k h a. subst (PartFits text pool) (sym (g.name_kept k h)) (s.fits k a h))
          (λ a. subst (PartFits text pool) (sym g.name_new) fits)
          k h a;
      hashed = λ k a h.
          each (λ k. base ≤ k → (get_or after k blank).hash ≡ name_hash (name_at text pool after k)) (length before) (length after) g.long
          (λ k h a. g.hash_kept k h ∙ s.hashed k a h ∙ ap name_hash (kept k h))
          (λ a. g.hash_new ∙ hashed ∙ ap name_hash last)
          k h a;
    }

-- the first name of an object
pub add_first : (text pool : List ℕ) (base : ℕ) (before after : List Link) (new : Link) (n : List ℕ)
    → base ≡ length before → after ≡ before ++ new ∷ [] → PartFits text pool new.name → n ≡ bytes_of text pool new.name → new.hash ≡ name_hash n
    → Sound text pool before base → Added text pool base before after (bytes_of text pool new.name)
add_first text pool base before after new n root is fits reads hashed s =
    let g : Grown before after new = subst (λ (ls : List Link). Grown before ls new) (sym is) (grown_push before new) in
    let q = bytes_of text pool new.name in
    record {
      fresh = absent text pool before base q (λ k a h e. omega arith);
      names = ap (λ ls. names_from text pool ls base) is ∙ names_push text pool before base new (omega arith);
      below = ap (take base) is ∙ take-append-le base before (new ∷ []) (omega arith);
      within = omega (arith, g.long);
      sound = sound_grown text pool before after base new g s fits (hashed ∙ ap name_hash reads) (subst (λ (k : ℕ). Leads after (name_hash q) q base 0 k) root here);
    }

-- a further name, below the leaf
pub add_below : (text pool : List ℕ) (base : ℕ) (before mid : List Link) (new l : Link) (n : List ℕ) (at c : ℕ) (side : Bool)
    → base ≤ at → at < length before → mid ≡ before ++ new ∷ [] → l ≡ get_or mid at l → c ≡ length before
    → PartFits text pool new.name → n ≡ bytes_of text pool new.name → new.hash ≡ name_hash n
    → Sound text pool before base → Leaf text pool before base new.hash n at side
    → Added text pool base before (set mid at (linked l side c)) (bytes_of text pool new.name)
add_below text pool base before mid new l n at c side from within is read end fits reads hashed s f =
    let g : Grown before mid new = subst (λ (ls : List Link). Grown before ls new) (sym is) (grown_push before new) in
    let q = bytes_of text pool new.name in
    let set_is : set mid at (linked (get_or mid at blank) side c) ≡ set mid at (linked l side c) =
    ap (λ (x : Link). set mid at (linked x side c)) (sym (get_or_read mid at l (omega (arith, g.long)) read blank)) in
    let grown = grown_set before mid new at side c g within f.ends in
    let child : Child (set mid at (linked (get_or mid at blank) side c)) at (bit_of new.hash n f.level) (length before) =
    subst (λ (b : Bool). Child (set mid at (linked (get_or mid at blank) side c)) at b (length before)) f.sides
    (subst (λ (d : ℕ). Child (set mid at (linked (get_or mid at blank) side c)) at side d) end (new_child before mid new at side c g within f.ends end)) in
    let leads = goes_on (length before) grown.children f.goes (down child here) in
    subst (λ (ls : List Link). Added text pool base before ls q) set_is
    (record {
      fresh = subst (λ (m : Name). has (names_from text pool before base) m ≡ false) reads (absent text pool before base n f.fresh);
      names = names_set text pool mid base at _ refl ∙ ap (λ ls. names_from text pool ls base) is ∙ names_push text pool before base new (omega arith);
      below = take-set-le base mid at _ from ∙ ap (take base) is ∙ take-append-le base before (new ∷ []) (omega arith);
      within = omega (arith, grown.long);
      sound = sound_grown text pool before _ base new grown s fits (hashed ∙ ap name_hash reads)
          (subst (λ (m : List ℕ). Leads (set mid at (linked (get_or mid at blank) side c)) (name_hash m) m base 0 (length before)) reads
          (subst (λ (h : ℕ). Leads (set mid at (linked (get_or mid at blank) side c)) h n base 0 (length before)) hashed leads));
    })
