use Rattle.std.proofs.Common.{◌≡◌, ℕ, ◌<◌, Some, length, vec_items, sym, ◌∙◌, arith}
use Rattle.std.proofs.lemmas.Slice.Eq.{slice_eq-Decides}
use Rattle.std.proofs.lemmas.Bool.{both_ways}
use Rattle.names.specs.Bits.{name_hash}
use Rattle.names.specs.Index.{name_at, Sound, LeafTold}
use Rattle.names.proofs.Walk.{walk_start, walk_on, walk_ends, name_read, hash_read, child_read, no_child}
use Rattle.names.proofs.names.Names.leaf.Goals as goal
use Rattle.names.proofs.names.Names.leaf.Goals.{Joined-else-link-hash, After-child, else-link-hash-via-then-link-hash+else-eq, else-link-hash-via-else-link-hash}
use Rattle.std.proofs.lemmas.Bool.Decides.{Decides-eqb}

pub loop-holder-init : goal.loop-holder-init
loop-holder-init c = walk_start c.args.holder.text.now c.args.holder.pool.now (vec_items c.args.self.now.links) c.args.base c.args.hash c.args.name.now (omega arith)

pub returns-then-eq : goal.returns-then-eq
returns-then-eq c s e =
    let w = c.loop-holder.invariant in
    let read = name_read c.args.holder.text.now c.args.holder.pool.now (vec_items c.args.self.now.links) c.loop-holder.at c.index-link.result.now c.bytes.result.now
    w.within c.index-link.ensures c.bytes.ensures.stands (s.fits c.loop-holder.at w.from w.within) in
    record {
      k = c.loop-holder.at;
      from = w.from;
      within = w.within;
      named = sym read ∙ (slice_eq-Decides Decides-eqb _ _ _ c.eq.ensures).0 c.if-eq.true;
    }

-- the link that was read has another name
other : (c : Joined-else-link-hash) → Sound c.args.holder.text.now c.args.holder.pool.now (vec_items c.args.self.now.links) c.args.base → c.args.hash ≡ name_hash c.args.name.now
    → name_at c.args.holder.text.now c.args.holder.pool.now (vec_items c.args.self.now.links) c.loop-holder.at ≡ c.args.name.now → ⊥
other c s e same =
    let w = c.loop-holder.invariant in
    elim c.else-link-hash.branch [
      | else-link-hash-via-then-link-hash+else-eq v ↦
          let read = name_read c.args.holder.text.now c.args.holder.pool.now (vec_items c.args.self.now.links) c.loop-holder.at c.index-link.result.now v.bytes.result.now
          w.within c.index-link.ensures v.bytes.ensures.stands (s.fits c.loop-holder.at w.from w.within) in
          both_ways _ v.if-eq.false ((slice_eq-Decides Decides-eqb _ _ _ v.eq.ensures).1 (read ∙ same))
      | else-link-hash-via-else-link-hash v ↦
          v.if-link-hash.false (hash_read c.args.holder.text.now c.args.holder.pool.now (vec_items c.args.self.now.links) c.args.base c.loop-holder.at c.args.hash c.args.name.now c.index-link.result.now
          w.within c.index-link.ensures w.from s e same)
    ]

-- there is no child
ended : (c : After-child) → ((next : ℕ) → c.child.result ≡ Some next → c.loop-holder.at < next → next < length (vec_items c.args.self.now.links) → ⊥)
    → LeafTold c.args.holder.text.now c.args.holder.pool.now (vec_items c.args.self.now.links) c.args.base c.args.hash c.args.name.now (Some (c.loop-holder.at, c.bit-high.result))
ended c none =
    let w = c.loop-holder.invariant in (
      w.from,
      w.within,
      walk_ends c.bit-high.result w (other (goal.at.After-child c).Joined-else-link-hash) c.bit-high.ensures
          (no_child (vec_items c.args.self.now.links) c.loop-holder.at c.index-link.result.now c.bit-high.result c.child.result w.within c.index-link.ensures c.child.ensures none),
    )

same_some : {m n : ℕ} → Some m ≡ Some n → m ≡ n
same_some e = cc

pub returns-in_default : goal.returns-in_default
returns-in_default c = ended (goal.at.returns-in_default c).After-child (λ next e a b. omega (arith, same_some (sym c.in-Some.is ∙ e), c.if-next-len.false, c.len.ensures, c.args.self.now.links.ok.0))

pub returns-in_default-2 : goal.returns-in_default-2
returns-in_default-2 c = ended (goal.at.returns-in_default-2 c).After-child (λ next e a b. omega (arith, same_some (sym c.in-Some.is ∙ e), c.if-next-at.false))

pub returns-in_default-3 : goal.returns-in_default-3
returns-in_default-3 c = ended (goal.at.returns-in_default-3 c).After-child (λ next e a b. let n = sym c.in_default.is ∙ e in cc)

pub loop-holder-preserved : goal.loop-holder-preserved
loop-holder-preserved c =
    let w = c.loop-holder.invariant in
    walk_on c.in-Some.next w (other (goal.at.loop-holder-preserved c).Joined-else-link-hash)
    (child_read (vec_items c.args.self.now.links) c.loop-holder.at c.in-Some.next c.index-link.result.now c.bit-high.result _ c.child.result w.within c.index-link.ensures c.child.ensures c.in-Some.is c.bit-high.ensures
    c.if-next-at.true (omega (arith, c.if-next-len.true, c.len.ensures, c.args.self.now.links.ok.0)))
