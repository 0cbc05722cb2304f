-- Objects whose members have names of their own: told by the nodes, and of the value that stands there.
use Rattle.std.proofs.Common.{◌≡◌, ℕ, suc, ◌+◌, ◌<◌, ◌≤◌, true, false, List, [], ◌∷◌, ◌++◌, length, Some, Option, sym, ap, ◌∙◌, subst, arith}
use Rattle.model.specs.Values.{Name, Raw, Raws, Mems, null, scalar, variable, list, object, nil, cons, end, mem}
use Rattle.model.specs.Limits.{mem_names}
use Rattle.names.specs.declared.names.Link.{Link}
use Rattle.names.specs.declared.part.Part.{Part}
use Rattle.names.specs.declared.part.Part.TheVariants.{Text}
use Rattle.names.specs.Parts.{PartFits, bytes_of}
use Rattle.names.specs.Index.{Sound, Added, names_from}
use Rattle.source.specs.Nodes.{node_at}
use Rattle.source.specs.Table.{Table, past_of, Stands, StandsAll, StandsMems}
use Rattle.source.specs.OneTree.{head_of, forward_mems}
use Rattle.reader.specs.Reading.{Bounded, BoundedAll, BoundedMems}
use Rattle.reader.proofs.RdSound.{Fresh, fresh_unrepeated}
use Rattle.validation.specs.Objects.{ApartAt, AllApart}

-- BY THE NODES

-- the links hold the names of an object's members before a cursor, if those are read that stand
abbrev pub Sofar : Table → ℕ → ℕ → List Link → Type 0
Sofar T top at links =
    past_of T.nodes top ≤ length T.nodes → (ns : Mems) → StandsMems T (top + 1) (past_of T.nodes top) ns →
    Sound T.text T.pool links 0 × ((ms : Mems) × StandsMems T at (past_of T.nodes top) ms × (Fresh true (names_from T.text T.pool links 0) (mem_names ms) → Fresh true [] (mem_names ns)))

abbrev part_in : Option Part → Part
part_in (Some p) = p
part_in _ = Text 0 0

module _ (T : Table) (top at next : ℕ) (before after : List Link) (p : Part)
    (inside : at < past_of T.nodes top)
    (named : (node_at T.nodes at).name ≡ Some p)
    (told : (0 ≤ length before) → PartFits T.text T.pool p → Sound T.text T.pool before 0 → Added T.text T.pool 0 before after (bytes_of T.text T.pool p))
    (goes : 0 < (node_at T.nodes at).size → past_of T.nodes at ≤ length T.nodes → next ≡ past_of T.nodes at) where
  abbrev End : ℕ
  End = past_of T.nodes top

  abbrev Rest : Mems → List Link → ℕ → Type 0
  Rest ns links i = Sound T.text T.pool links 0 × ((ms : Mems) × StandsMems T i End ms × (Fresh true (names_from T.text T.pool links 0) (mem_names ms) → Fresh true [] (mem_names ns)))

  one_more : (ns ms : Mems) → Sound T.text T.pool before 0 → StandsMems T at End ms → (Fresh true (names_from T.text T.pool before 0) (mem_names ms) → Fresh true [] (mem_names ns)) → Rest ns after next
  one_more ns end s h f = absurd (omega (arith, h, inside))
  one_more ns (mem n x ms) s h f =
      let m = h.0 in
      let q : m.part ≡ p = ap part_in (sym m.some ∙ named) in
      let fits : PartFits T.text T.pool p = subst (PartFits T.text T.pool) q m.fits in
      let is : bytes_of T.text T.pool p ≡ n = subst (λ k. bytes_of T.text T.pool k ≡ n) q m.is in
      let a = told (omega arith) fits s in
      let e = head_of T at x h.1 in
      let z : next ≡ past_of T.nodes at = goes (omega (arith, e.some)) e.inside in
      let names : names_from T.text T.pool after 0 ≡ names_from T.text T.pool before 0 ++ n ∷ [] = a.names ∙ ap (λ k. names_from T.text T.pool before 0 ++ k ∷ []) is in
      let fresh = subst (λ k. Rattle.model.specs.Values.has (names_from T.text T.pool before 0) k ≡ false) is a.fresh in
      (a.sound, (ms, subst (λ i. StandsMems T i End ms) (sym z) h.2, λ g. f (fresh, subst (λ ks. Fresh true ks (mem_names ms)) names g)))

  pub sofar_more : Sofar T top at before → Sofar T top next after
  sofar_more w k ns h = let s = w k ns h in one_more ns s.1.0 s.0 s.1.1 s.1.2

pub sofar_all : (T : Table) (top at : ℕ) (links : List Link) → (past_of T.nodes top ≤ length T.nodes → past_of T.nodes top ≤ at) → Sofar T top at links → ApartAt T top
sofar_all T top at links far w k ns h =
    let s = w k ns h in
    let z = far k in
    fresh_unrepeated true (mem_names ns) (s.1.2 (none s.1.0 s.1.1 z))
  where
    none : (ms : Mems) → StandsMems T at (past_of T.nodes top) ms → past_of T.nodes top ≤ at → Fresh true (names_from T.text T.pool links 0) (mem_names ms)
    none end g z = tt
    none (mem n x ms) g z = absurd (omega (arith, z, (head_of T at x g.1).some, forward_mems T (past_of T.nodes at) (past_of T.nodes top) ms g.2))

-- OF THE VALUE

module _ (T : Table) (apart : AllApart T) where
  mutual
    pub apart_value : (k at : ℕ) (t : Raw) → Stands T at t → Bounded false k t → Bounded true k t
    apart_value k at (null p) h b = b
    apart_value k at (scalar p s) h b = b
    apart_value k at (variable p n) h b = b
    apart_value k at (list p xs) h b = (b.0, apart_items (suc k) (at + 1) (past_of T.nodes at) xs h.1 b.1)
    apart_value k at (object p ms) h b = (
      b.0,
      apart at (omega (arith, h.0.some, h.0.inside)) h.0.says.kind h.0.inside ms h.1,
      apart_members (suc k) (at + 1) (past_of T.nodes at) ms h.1 b.2,
    )

    apart_items : (k i j : ℕ) (xs : Raws) → StandsAll T i j xs → BoundedAll false k xs → BoundedAll true k xs
    apart_items k i j nil h b = tt
    apart_items k i j (cons x xs) h b = (apart_value k i x h.0 b.0, apart_items k (past_of T.nodes i) j xs h.1 b.1)

    apart_members : (k i j : ℕ) (ms : Mems) → StandsMems T i j ms → BoundedMems false k ms → BoundedMems true k ms
    apart_members k i j end h b = tt
    apart_members k i j (mem n x ms) h b = (b.0, apart_value k i x h.1 b.1, apart_members k (past_of T.nodes i) j ms h.2 b.2)
