-- The walk down the links of an object.
use Rattle.std.proofs.Common.{◌≡◌, ℕ, ◌+◌, ◌<◌, ◌≤◌, Bool, ◌⊎◌, List, Option, Some, length, get_or, sym, refl, ap, ◌∙◌, subst, inl, inr, ⊎_elim, arith}
use Rattle.std.proofs.lemmas.List.{get_or_read}
use Rattle.names.specs.declared.names.Link.{Link}
use Rattle.names.specs.Parts.{PartFits, bytes_of}
use Rattle.names.specs.Bits.{name_hash, bit_of}
use Rattle.names.specs.Index.{blank, child_of, name_at, Child, Leads, here, down, Goes, start, on, Sound, Leaf}

-- the walk came to `at`, and every link with the name is still ahead
pub record Walking (text pool : List ℕ) (links : List Link) (base h : ℕ) (n : List ℕ) (at level : ℕ) : Type 0 where
  pub from : base ≤ at
  pub within : at < length links
  pub shallow : level ≤ at
  pub goes : Goes links h n base at level
  pub ahead : Sound text pool links base → h ≡ name_hash n → (k : ℕ) → base ≤ k → k < length links → name_at text pool links k ≡ n → Leads links h n at level k

-- a search ends at the link, or goes on at its child
ways : {links : List Link} {h : ℕ} {n : List ℕ} {at level k : ℕ} → Leads links h n at level k → (at ≡ k) ⊎ ((c : ℕ) × Child links at (bit_of h n level) c × Leads links h n c (level + 1) k)
ways here = inl refl
ways (down {c = c} x l) = inr (c, x, l)

pub walk_start : (text pool : List ℕ) (links : List Link) (base h : ℕ) (n : List ℕ) → base < length links → Walking text pool links base h n base 0
walk_start text pool links base h n lt =
    record {
      from = omega arith;
      within = lt;
      shallow = omega arith;
      goes = start;
      ahead = λ s e k a b same.
          subst (λ (g : ℕ). Leads links g n base 0 k) (sym e)
          (subst (λ (m : List ℕ). Leads links (name_hash m) m base 0 k) same (s.leads k a b));
    }

-- the link at `at` has another name, so that a link with the name is further on
further : {text pool : List ℕ} {links : List Link} {base h : ℕ} {n : List ℕ} {at level : ℕ}
    → Walking text pool links base h n at level → Sound text pool links base → h ≡ name_hash n
    → (name_at text pool links at ≡ n → ⊥)
    → (k : ℕ) → base ≤ k → k < length links → name_at text pool links k ≡ n → (c : ℕ) × Child links at (bit_of h n level) c × Leads links h n c (level + 1) k
further {text} {pool} {links} w s e other k a b same =
    ⊎_elim (λ q. absurd (other (ap (λ j. name_at text pool links j) q ∙ same))) (λ d. d) (ways (w.ahead s e k a b same))

same_child : {links : List Link} {at c d : ℕ} {side : Bool} → Child links at side c → Child links at side d → c ≡ d
same_child x y = let e = sym x.is ∙ y.is in cc

pub walk_on : {text pool : List ℕ} {links : List Link} {base h : ℕ} {n : List ℕ} {at level : ℕ} (next : ℕ)
    → Walking text pool links base h n at level
    → (Sound text pool links base → h ≡ name_hash n → name_at text pool links at ≡ n → ⊥)
    → Child links at (bit_of h n level) next
    → Walking text pool links base h n next (level + 1)
walk_on {links = links} {h = h} {n = n} {level = level} next w other x =
    record {
      from = omega (arith, w.from, x.after);
      within = x.within;
      shallow = omega (arith, w.shallow, x.after);
      goes = on w.goes x;
      ahead = λ s e k a b same.
          let f = further w s e (other s e) k a b same in
          subst (λ (c : ℕ). Leads links h n c (level + 1) k) (same_child f.1 x) f.2;
    }

pub walk_ends : {text pool : List ℕ} {links : List Link} {base h : ℕ} {n : List ℕ} {at level : ℕ} (side : Bool)
    → Walking text pool links base h n at level
    → (Sound text pool links base → h ≡ name_hash n → name_at text pool links at ≡ n → ⊥)
    → side ≡ bit_of h n level
    → ((c : ℕ) → Child links at side c → ⊥)
    → Sound text pool links base → h ≡ name_hash n → Leaf text pool links base h n at side
walk_ends {links = links} {at = at} {level = level} side w other sides ends s e =
    record {
      level = level;
      goes = w.goes;
      sides = sides;
      ends = ends;
      fresh = λ k a b same.
          let f = further w s e (other s e) k a b same in
          ends f.0 (subst (λ (b : Bool). Child links at b f.0) (sym sides) f.1);
    }

-- what is read of the link at `at`
pub name_read : (text pool : List ℕ) (links : List Link) (at : ℕ) (l : Link) (bytes : List ℕ)
    → at < length links → l ≡ get_or links at l
    → (PartFits text pool l.name → bytes ≡ bytes_of text pool l.name)
    → PartFits text pool (get_or links at blank).name → bytes ≡ name_at text pool links at
name_read text pool links at l bytes lt is read fits =
    let e : l ≡ get_or links at blank = get_or_read links at l lt is blank in
    read (subst (λ (m : Link). PartFits text pool m.name) (sym e) fits) ∙ ap (λ (m : Link). bytes_of text pool m.name) e

pub hash_read : (text pool : List ℕ) (links : List Link) (base at h : ℕ) (n : List ℕ) (l : Link)
    → at < length links → l ≡ get_or links at l → base ≤ at
    → Sound text pool links base → h ≡ name_hash n → name_at text pool links at ≡ n → l.hash ≡ h
hash_read text pool links base at h n l lt is from s e same =
    ap (λ (m : Link). m.hash) (get_or_read links at l lt is blank) ∙ s.hashed at from lt ∙ ap name_hash same ∙ sym e

pub child_read : (links : List Link) (at next : ℕ) (l : Link) (side bit : Bool) (child : Option ℕ)
    → at < length links → l ≡ get_or links at l → child ≡ child_of l side → child ≡ Some next → side ≡ bit
    → at < next → next < length links → Child links at bit next
child_read links at next l side bit child lt is reads some sides after within =
    record {
      is = ap (λ (m : Link). child_of m bit) (sym (get_or_read links at l lt is blank)) ∙ ap (child_of l) (sym sides) ∙ sym reads ∙ some;
      after = after;
      within = within;
    }

-- the child that was read is none: it comes no later, or past the end
pub no_child : (links : List Link) (at : ℕ) (l : Link) (side : Bool) (child : Option ℕ)
    → at < length links → l ≡ get_or links at l → child ≡ child_of l side
    → ((next : ℕ) → child ≡ Some next → at < next → next < length links → ⊥) → (c : ℕ) → Child links at side c → ⊥
no_child links at l side child lt is reads none c x =
    none c (reads ∙ ap (λ (m : Link). child_of m side) (get_or_read links at l lt is blank) ∙ x.is) x.after x.within
