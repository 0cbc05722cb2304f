-- The links of the names of an object, and what adding a name does.
use Rattle.std.specs.Prelude.{◌≡◌, ℕ, ◌+◌, ◌<◌, ◌≤◌, Bool, true, false, cond, List, [], ◌∷◌, ◌++◌, length, get_or, take, drop, Some, None, Ok, Err, Option, Result, ◌≢◌, slice_index_or, nat_lt}
use Rattle.model.specs.Values.{has}
use Rattle.names.specs.declared.part.Part.{Part}
use Rattle.names.specs.declared.part.Part.TheVariants.{Text}
use Rattle.names.specs.declared.child.ChildIndex.{ChildIndex}
use Rattle.names.specs.declared.names.Link.{Link}
use Rattle.names.specs.Parts.{PartFits, bytes_of}
use Rattle.names.specs.Bits.{name_hash, bit_of}

-- what holds the index of a child; 0 for none
abbrev pub child_at : ℕ → ChildIndex
child_at c = record { index = c }

-- the index of the child, if there is one
abbrev pub index_of : ChildIndex → Option ℕ
index_of c = cond (nat_lt 0 c.index) (Some c.index) None

-- what stands past the end
abbrev pub blank : Link
blank = record { name = Text 0 0; hash = 0; low = child_at 0; high = child_at 0 }

-- the child of a link on the high (true) or the low side
abbrev pub child_of : Link → Bool → Option ℕ
child_of l side = index_of (cond side l.high l.low)

-- a link with another child
abbrev pub linked : Link → Bool → ℕ → Link
linked l side c = record { name = l.name; hash = l.hash; low = cond side l.low (child_at c); high = cond side (child_at c) l.high }

-- the name of the link at k
abbrev pub name_at : (text pool : List ℕ) → List Link → ℕ → List ℕ
name_at text pool links k = bytes_of text pool (get_or links k blank).name

-- the names of links, and of those from base on
abbrev pub names_of : (text pool : List ℕ) → List Link → List (List ℕ)
names_of text pool [] = []
names_of text pool (l ∷ ls) = bytes_of text pool l.name ∷ names_of text pool ls

abbrev pub names_from : (text pool : List ℕ) → List Link → ℕ → List (List ℕ)
names_from text pool links base = names_of text pool (drop base links)

-- c is the child of the link at `at` on a side: a child comes after its parent and before the end; any other counts as none
pub record Child (links : List Link) (at : ℕ) (side : Bool) (c : ℕ) : Type 0 where
  pub is : child_of (slice_index_or links at blank) side ≡ Some c
  pub after : at < c
  pub within : c < length links

-- the search for a name n with the hash h, from the link at `at` at a level, comes to the link at k
pub data Leads (links : List Link) (h : ℕ) (n : List ℕ) : ℕ → ℕ → ℕ → Type 0 where
  here : {at level : ℕ} → Leads links h n at level at
  down : {at level c k : ℕ} → Child links at (bit_of h n level) c → Leads links h n c (level + 1) k → Leads links h n at level k

-- the links from base on are a search tree of their names, with the root at base
pub record Sound (text pool : List ℕ) (links : List Link) (base : ℕ) : Type 0 where
  pub leads : (k : ℕ) → base ≤ k → k < length links → Leads links (name_hash (name_at text pool links k)) (name_at text pool links k) base 0 k
  pub fits : (k : ℕ) → base ≤ k → k < length links → PartFits text pool (get_or links k blank).name
  pub hashed : (k : ℕ) → base ≤ k → k < length links → (get_or links k blank).hash ≡ name_hash (name_at text pool links k)

-- the search for n from base comes to `at` at a level
pub data Goes (links : List Link) (h : ℕ) (n : List ℕ) (base : ℕ) : ℕ → ℕ → Type 0 where
  start : Goes links h n base base 0
  on : {at level c : ℕ} → Goes links h n base at level → Child links at (bit_of h n level) c → Goes links h n base c (level + 1)

-- the search for n ends at `at`, where there is no child on its side, and no link has the name
pub record Leaf (text pool : List ℕ) (links : List Link) (base h : ℕ) (n : List ℕ) (at : ℕ) (side : Bool) : Type 0 where
  pub level : ℕ
  pub goes : Goes links h n base at level
  pub sides : side ≡ bit_of h n level
  pub ends : (c : ℕ) → Child links at side c → ⊥
  pub fresh : (k : ℕ) → base ≤ k → k < length links → name_at text pool links k ≢ n

-- a link from base on that has the name n
pub record Found (text pool : List ℕ) (links : List Link) (base : ℕ) (n : List ℕ) : Type 0 where
  pub k : ℕ
  pub from : base ≤ k
  pub within : k < length links
  pub named : name_at text pool links k ≡ n

-- how a search ends
abbrev pub LeafTold : (text pool : List ℕ) (links : List Link) (base h : ℕ) (n : List ℕ) → Option (ℕ × Bool) → Type 0
LeafTold text pool links base h n None = Sound text pool links base → h ≡ name_hash n → Found text pool links base n
LeafTold text pool links base h n (Some p) = (base ≤ p.0) × (p.0 < length links) × (Sound text pool links base → h ≡ name_hash n → Leaf text pool links base h n p.0 p.1)

-- the name n is new, and was added
pub record Added (text pool : List ℕ) (base : ℕ) (before after : List Link) (n : List ℕ) : Type 0 where
  pub fresh : has (names_from text pool before base) n ≡ false
  pub names : names_from text pool after base ≡ names_from text pool before base ++ n ∷ []
  pub below : take base after ≡ take base before
  pub within : base ≤ length after
  pub sound : Sound text pool after base

-- what adding a name comes to; without memory nothing is added
abbrev pub AddTold : {E : Type 0} (text pool : List ℕ) (base : ℕ) (before after : List Link) → Part → Result Bool E → Type 0
AddTold text pool base before after name (Ok true) = base ≤ length before → PartFits text pool name → Sound text pool before base → Added text pool base before after (bytes_of text pool name)
AddTold text pool base before after name (Ok false) = (after ≡ before) × (PartFits text pool name → Sound text pool before base → has (names_from text pool before base) (bytes_of text pool name) ≡ true)
AddTold text pool base before after name (Err e) = after ≡ before
