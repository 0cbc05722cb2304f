-- What stays when a table grows.
use Rattle.std.proofs.Common.{◌≡◌, ℕ, ◌+◌, ◌<◌, ◌≤◌, List, [], ◌++◌, length, Some, None, Option, sym, refl, ap, ◌∙◌, subst, append_assoc, append-nil, arith}
use Rattle.model.specs.Values.{Raw, Raws, Mems, null, scalar, variable, list, object, nil, cons, end, mem}
use Rattle.names.specs.declared.part.Part.{Part}
use Rattle.names.specs.Parts.{PartFits, MayFit, bytes_of, bytes_if_any}
use Rattle.names.proofs.Growth.{fits_pool, bytes_pool}
use Rattle.source.specs.declared.nodes.Node.{Node}
use Rattle.source.specs.Contents.{text_in}
use Rattle.source.specs.Nodes.{node_at}
use Rattle.source.specs.Table.{Table, Says, Head, Named, Stands, StandsAll, StandsMems, Keeps, past_of}
use Rattle.source.specs.OneTree.{head_of}

pub keeps_all : (T : Table) → Keeps 0 T T
keeps_all T = record { text = refl; more = []; pool = sym (append-nil T.pool); grows = omega arith; nodes = λ i k l. refl }

pub keeps_on : {k : ℕ} {T U V : Table} → Keeps k T U → Keeps k U V → Keeps k T V
keeps_on {k} {T} {U} {V} a b = record {
  text = b.text ∙ a.text;
  more = a.more ++ b.more;
  pool = b.pool ∙ ap (λ l. l ++ b.more) a.pool ∙ append_assoc T.pool a.more b.more;
  grows = omega (arith, a.grows, b.grows);
  nodes = λ i h l. b.nodes i h (omega (arith, a.grows)) ∙ a.nodes i h l;
}

-- the bytes of a part
pub fits_kept : {k : ℕ} {T U : Table} → Keeps k T U → (p : Part) → PartFits T.text T.pool p → PartFits U.text U.pool p
fits_kept {k} {T} {U} a p h =
    subst (λ x. PartFits x U.pool p) (sym a.text) (subst (λ x. PartFits T.text x p) (sym a.pool) (fits_pool T.text T.pool a.more p h))

pub bytes_kept : {k : ℕ} {T U : Table} → Keeps k T U → (p : Part) → PartFits T.text T.pool p → bytes_of U.text U.pool p ≡ bytes_of T.text T.pool p
bytes_kept {k} {T} {U} a p h =
    ap (λ x. bytes_of x U.pool p) a.text ∙ ap (λ x. bytes_of T.text x p) a.pool ∙ bytes_pool T.text T.pool a.more p h

may_fit_kept : {k : ℕ} {T U : Table} → Keeps k T U → (p : Option Part) → MayFit T.text T.pool p → MayFit U.text U.pool p
may_fit_kept a None h = tt
may_fit_kept a (Some p) h = fits_kept a p h

any_bytes_kept : {k : ℕ} {T U : Table} → Keeps k T U → (p : Option Part) → MayFit T.text T.pool p → bytes_if_any U.text U.pool p ≡ bytes_if_any T.text T.pool p
any_bytes_kept a None h = refl
any_bytes_kept a (Some p) h = bytes_kept a p h

-- what a node says, with its text in a table that grew
pub says_kept : {k : ℕ} {T U : Table} {n : Node} {t : Raw} → Keeps k T U → Says T n t → Says U n t
says_kept {n = n} a s = record {
  kind = s.kind;
  place = s.place;
  flag = s.flag;
  negative = s.negative;
  exponent = s.exponent;
  fits = may_fit_kept a (text_in n.content) s.fits;
  text = any_bytes_kept a (text_in n.content) s.fits ∙ s.text;
}

pub past_kept : {k : ℕ} {T U : Table} → Keeps k T U → (at : ℕ) → k ≤ at → at < length T.nodes → past_of U.nodes at ≡ past_of T.nodes at
past_kept a at h l = ap (λ (n : Node). at + n.size) (a.nodes at h l)

head_kept : {k : ℕ} {T U : Table} → Keeps k T U → (at : ℕ) (t : Raw) → k ≤ at → Head T at t → Head U at t
head_kept {k} {T} {U} a at t h s =
    let l : at < length T.nodes = omega (arith, s.some, s.inside) in
    let p = past_kept a at h l in
    record {
      says = subst (λ (n : Node). Says U n t) (sym (a.nodes at h l)) (says_kept a s.says);
      some = omega (arith, s.some, p);
      inside = omega (arith, s.inside, p, a.grows);
    }

size_kept : {k : ℕ} {T U : Table} → Keeps k T U → (at n : ℕ) → k ≤ at → at < length T.nodes → (node_at T.nodes at).size ≡ n → (node_at U.nodes at).size ≡ n
size_kept a at n h l e = ap (λ (n : Node). n.size) (a.nodes at h l) ∙ e

pub named_kept : {k : ℕ} {T U : Table} → Keeps k T U → (at : ℕ) (n : List ℕ) → k ≤ at → at < length T.nodes → Named T at n → Named U at n
named_kept a at n h l s = record {
  part = s.part;
  some = ap (λ (n : Node). n.name) (a.nodes at h l) ∙ s.some;
  fits = fits_kept a s.part s.fits;
  is = bytes_kept a s.part s.fits ∙ s.is;
}

within_of : {T : Table} {at : ℕ} {t : Raw} → Head T at t → at < length T.nodes
within_of s = omega (arith, s.some, s.inside)

mutual
  pub stands_kept : {k : ℕ} {T U : Table} → Keeps k T U → (at : ℕ) (t : Raw) → k ≤ at → Stands T at t → Stands U at t
  stands_kept a at (null p) h s = (head_kept a at (null p) h s.0, size_kept a at 1 h (within_of s.0) s.1)
  stands_kept a at (scalar p x) h s = (head_kept a at (scalar p x) h s.0, size_kept a at 1 h (within_of s.0) s.1)
  stands_kept a at (variable p x) h s = (head_kept a at (variable p x) h s.0, size_kept a at 1 h (within_of s.0) s.1)
  stands_kept {U = U} a at (list p xs) h s = (
    head_kept a at (list p xs) h s.0,
    subst (λ j. StandsAll U (at + 1) j xs) (sym (past_kept a at h (within_of s.0))) (all_kept a (at + 1) _ xs (omega arith) s.1),
  )
  stands_kept {U = U} a at (object p ms) h s = (
    head_kept a at (object p ms) h s.0,
    subst (λ j. StandsMems U (at + 1) j ms) (sym (past_kept a at h (within_of s.0))) (mems_kept a (at + 1) _ ms (omega arith) s.1),
  )

  pub all_kept : {k : ℕ} {T U : Table} → Keeps k T U → (i j : ℕ) (xs : Raws) → k ≤ i → StandsAll T i j xs → StandsAll U i j xs
  all_kept a i j nil h s = s
  all_kept {T = T} {U = U} a i j (cons x xs) h s =
      let g = head_of T i x s.0 in (
        stands_kept a i x h s.0,
        subst (λ k. StandsAll U k j xs) (sym (past_kept a i h (within_of g))) (all_kept a _ j xs (omega (arith, g.some)) s.1),
      )

  pub mems_kept : {k : ℕ} {T U : Table} → Keeps k T U → (i j : ℕ) (ms : Mems) → k ≤ i → StandsMems T i j ms → StandsMems U i j ms
  mems_kept a i j end h s = s
  mems_kept {T = T} {U = U} a i j (mem n x ms) h s =
      let g = head_of T i x s.1 in (
        named_kept a i n h (within_of g) s.0,
        stands_kept a i x h s.1,
        subst (λ k. StandsMems U k j ms) (sym (past_kept a i h (within_of g))) (mems_kept a _ j ms (omega (arith, g.some)) s.2),
      )
