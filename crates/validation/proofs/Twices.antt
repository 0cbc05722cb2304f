-- Names that stand twice, found one after the other.
use Rattle.std.proofs.Common.{◌≡◌, ℕ, zero, suc, ◌+◌, ◌<◌, ◌≤◌, ◌⊎◌, inl, inr, ⊎_elim, List, [], ◌∷◌, ◌++◌, map, length, get_or, take, Some, None, Option, sym, ◌∙◌, ap, subst, refl, arith}
use Rattle.std.proofs.lemmas.Bool.{cases_lt}
use Rattle.std.proofs.lemmas.List.{take_more, get_or-map, length-map}
use Rattle.lookup.specs.First.{First}
use Rattle.model.specs.Values.{Name}
use Rattle.model.specs.Cycles.{Among, first, later}
use Rattle.schema.specs.Documents.{Label}
use Rattle.validation.specs.Making.{Twice, twice_here, twice_later, FirstFault}
use Rattle.validation.specs.Places.{lesser_of, labelled}
use Rattle.validation.proofs.Least.{first_as, first_lesser, first_one, among_left, among_split, among_one, among_none}

pub twice_none : {p : ℕ} → Twice [] p → ⊥
twice_none t = elim t [ ]

-- the last of them has the name of one before it
abbrev pub Again : List Label → Label → ℕ → Type 0
Again ls l p = (m : Label) × Among m ls × (m.name ≡ l.name) × (l.place ≡ p)

twice_left : {p : ℕ} (ls ms : List Label) → Twice ls p → Twice (ls ++ ms) p
twice_left [] ms t = absurd (twice_none t)
twice_left (l ∷ ls) ms (twice_here a e) = twice_here (among_left ls ms a) e
twice_left (l ∷ ls) ms (twice_later t) = twice_later (twice_left ls ms t)

twice_last : {m : Label} (ls : List Label) (l : Label) → Among m ls → m.name ≡ l.name → Twice (ls ++ l ∷ []) l.place
twice_last [] l a e = absurd (among_none a)
twice_last (x ∷ ls) l first e = twice_here (last_of ls) e where
  last_of : (ls : List Label) → Among l (ls ++ l ∷ [])
  last_of [] = first
  last_of (y ∷ ls) = later (last_of ls)
twice_last (x ∷ ls) l (later a) e = twice_later (twice_last ls l a e)

twice_split : {p : ℕ} (ls : List Label) (l : Label) → Twice (ls ++ l ∷ []) p → Twice ls p ⊎ Again ls l p
twice_split [] l (twice_here a e) = absurd (among_none a)
twice_split [] l (twice_later t) = absurd (twice_none t)
twice_split (x ∷ ls) l (twice_here {m = m} a e) =
    ⊎_elim
    (λ b. inl (twice_here b e))
    (λ b. let q : m ≡ l = among_one b in inr (x, first, e ∙ ap (λ (k : Label). k.name) q, ap (λ (k : Label). k.place) (sym q)))
    (among_split ls (l ∷ []) a)
twice_split (x ∷ ls) l (twice_later t) =
    ⊎_elim (λ u. inl (twice_later u)) (λ (m, a, e, q). inr (m, later a, e, q)) (twice_split ls l t)

-- what is among the first of them, by its index
index_among : {A : Type 0} (xs : List A) (i k : ℕ) (d : A) → k < i → k < length xs → Among (get_or xs k d) (take i xs)
index_among [] i k d h w = absurd (omega arith)
index_among (x ∷ xs) zero k d h w = absurd (omega arith)
index_among (x ∷ xs) (suc i) zero d h w = first
index_among (x ∷ xs) (suc i) (suc k) d h w = later (index_among xs i k d (omega arith) (omega arith))

among_index : {A : Type 0} {x : A} (xs : List A) (i : ℕ) (d : A) → Among x (take i xs) → (k : ℕ) × (k < i) × (k < length xs) × (get_or xs k d ≡ x)
among_index [] zero d a = absurd (among_none a)
among_index [] (suc i) d a = absurd (among_none a)
among_index (x ∷ xs) zero d a = absurd (among_none a)
among_index (x ∷ xs) (suc i) d first = (0, omega arith, omega arith, refl)
among_index (x ∷ xs) (suc i) d (later a) = let r = among_index xs i d a in (suc r.0, omega (arith, r.1), omega (arith, r.2), r.3)

abbrev name_of : Label → Name
name_of l = l.name

module _ (ls : List Label) (i : ℕ) (d : Label) (within : i < length ls) (r : Option ℕ) (f : First (map name_of ls) (get_or ls i d).name r) where
  abbrev here : Label
  here = get_or ls i d

  name_at : (k : ℕ) → k < length ls → get_or (map name_of ls) k [] ≡ (get_or ls k d).name
  name_at k h = get_or-map name_of ls k d [] h

  -- where the first place of the name is this one, none before has it
  new : r ≡ Some i → (m : Label) → Among m (take i ls) → m.name ≡ here.name → ⊥
  new e m a n =
      let k = among_index ls i d a in
      let g : First (map name_of ls) here.name (Some i) = subst (First (map name_of ls) here.name) e f in
      g.2 k.0 k.1 (name_at k.0 k.2 ∙ ap name_of k.3 ∙ n)

  found : (r : Option ℕ) → First (map name_of ls) here.name r → (r ≡ Some i → ⊥) → (m : Label) × Among m (take i ls) × (m.name ≡ here.name)
  found None g n = absurd (g i (omega (arith, length-map ls name_of)) (name_at i within))
  found (Some j) g n =
      ⊎_elim
      (λ (h : j < i). (get_or ls j d, index_among ls i j d h (omega (arith, length-map ls name_of, g.0)), sym (name_at j (omega (arith, length-map ls name_of, g.0))) ∙ g.1))
      (λ (h : i ≤ j).
      ⊎_elim
      (λ (k : i < j). absurd (g.2 i k (name_at i within)))
      (λ (k : j ≤ i). let e : j ≡ i = omega arith in absurd (n (ap Some e)))
      (cases_lt i j))
      (cases_lt j i)

  abbrev Before : ℕ → Type 0
  Before = Twice (take i ls)

  abbrev Now : ℕ → Type 0
  Now = Twice (take (i + 1) ls)

  more : take (i + 1) ls ≡ take i ls ++ here ∷ []
  more = take_more ls i d within

  kept : (p : ℕ) → Before p → Now p
  kept p t = subst (λ (ms : List Label). Twice ms p) (sym more) (twice_left (take i ls) (here ∷ []) t)

  parts : (p : ℕ) → Now p → Before p ⊎ Again (take i ls) here p
  parts p t = twice_split (take i ls) here (subst (λ (ms : List Label). Twice ms p) more t)

  pub twice_more : (o : Option ℕ) → FirstFault Before o → (r ≡ Some i → ⊥) → FirstFault Now (lesser_of o (Some here.place))
  twice_more o h n =
      let q = found r f n in
      first_as (λ p. Before p ⊎ (here.place ≡ p)) Now _
      (λ p x. ⊎_elim (kept p) (λ e. subst Now e (subst (λ (ms : List Label). Twice ms here.place) (sym more) (twice_last (take i ls) here q.1 q.2))) x)
      (λ p x. ⊎_elim (λ y. inl y) (λ (m, a, e, s). inr s) (parts p x))
      (first_lesser Before (λ p. here.place ≡ p) o (Some here.place) h (first_one here.place))

  pub twice_same : (o : Option ℕ) → FirstFault Before o → r ≡ Some i → FirstFault Now o
  twice_same o h e = first_as Before Now o kept (λ p x. ⊎_elim (λ y. y) (λ (m, a, s, q). absurd (new e m a s)) (parts p x)) h

-- the names of records, told by their labels
pub names_labelled : {R : Type 0} (called : R → Name) (at : R → ℕ) (rs : List R) → map called rs ≡ map name_of (map (λ r. labelled (called r) (at r)) rs)
names_labelled called at [] = refl
names_labelled called at (r ∷ rs) = ap (λ ns. called r ∷ ns) (names_labelled called at rs)

-- one record further, of which the first place of its name was found
module _ {R : Type 0} (called : R → Name) (at : R → ℕ) (rs : List R) (i : ℕ) (x : R) (within : i < length rs) (is : x ≡ get_or rs i x)
    (names : List Name) (same : names ≡ map called rs) (name : Name) (named : name ≡ called x) (r : Option ℕ) (f : First names name r) where
  abbrev labels : List Label
  labels = map (λ r. labelled (called r) (at r)) rs

  nowhere : Label
  nowhere = labelled [] 0

  inside : i < length labels
  inside = omega (arith, within, length-map rs (λ r. labelled (called r) (at r)))

  labelled_here : get_or labels i nowhere ≡ labelled (called x) (at x)
  labelled_here = get_or-map (λ r. labelled (called r) (at r)) rs i x nowhere within ∙ ap (λ r. labelled (called r) (at r)) (sym is)

  first_here : First (map name_of labels) (get_or labels i nowhere).name r
  first_here =
      subst (λ (ns : List Name). First ns (get_or labels i nowhere).name r) (same ∙ names_labelled called at rs)
      (subst (λ (n : Name). First names n r) (named ∙ ap name_of (sym labelled_here)) f)

  pub record_more : (o : Option ℕ) (p : ℕ) → p ≡ at x → FirstFault (Twice (take i labels)) o → (r ≡ Some i → ⊥) → FirstFault (Twice (take (i + 1) labels)) (lesser_of o (Some p))
  record_more o p e h n =
      subst (λ (q : ℕ). FirstFault (Twice (take (i + 1) labels)) (lesser_of o (Some q))) (ap (λ (l : Label). l.place) labelled_here ∙ sym e)
      (twice_more labels i nowhere inside r first_here o h n)

  pub record_same : (o : Option ℕ) → FirstFault (Twice (take i labels)) o → r ≡ Some i → FirstFault (Twice (take (i + 1) labels)) o
  record_same o h e = twice_same labels i nowhere inside r first_here o h e
