use Rattle.std.proofs.Common.{◌≡◌, true, length, set, vec_items, sym, refl, subst, arith}
use Rattle.model.specs.Values.{Name, has}
use Rattle.names.specs.declared.names.Link.{Link}
use Rattle.names.specs.Parts.{bytes_of}
use Rattle.names.specs.Index.{names_from, Added}
use Rattle.names.proofs.Adding.{add_first, add_below, found_has}
use Rattle.names.proofs.names.Names.add.Goals as goal

pub returns-then-base-end : goal.returns-then-base-end
returns-then-base-end c within fits s =
    add_first c.args.holder.text.now c.args.holder.pool.now c.args.base (vec_items c.args.self.now.links) (vec_items c.push.new.self) _ c.bytes-bytes.result.now
    (omega (arith, c.if-base-end.true, c.len-end.ensures, c.args.self.now.links.ok.0)) c.in_ok-push.ensures.items fits (c.bytes-bytes.ensures.stands fits) c.hash_of-hash.ensures s

pub returns-in_default : goal.returns-in_default
returns-in_default c = (
  refl,
  λ fits s.
      subst (λ (n : Name). has (names_from c.args.holder.text.now c.args.holder.pool.now (vec_items c.args.self.now.links) c.args.base) n ≡ true) (c.bytes-bytes.ensures.stands fits)
      (found_has (c.in_default.ensures s c.hash_of-hash.ensures)),
)

pub returns : goal.returns
returns c within fits s =
    let told = c.in-Some.ensures in
    let end : c.len-end.result ≡ length (vec_items c.args.self.now.links) = omega (arith, c.len-end.ensures, c.args.self.now.links.ok.0) in
    let mid = vec_items c.push-2.new.self in
    subst (λ (l : Link). Added c.args.holder.text.now c.args.holder.pool.now c.args.base (vec_items c.args.self.now.links) (set mid c.in-Some.at l) (bytes_of c.args.holder.text.now c.args.holder.pool.now c.args.name)) (sym c.with_child.ensures)
    (add_below c.args.holder.text.now c.args.holder.pool.now c.args.base (vec_items c.args.self.now.links) mid _ c.index.result.now c.bytes-bytes.result.now c.in-Some.at c.len-end.result c.in-Some.high
    told.0 told.1 c.in_ok-push-2.ensures.items c.index.ensures end fits (c.bytes-bytes.ensures.stands fits) c.hash_of-hash.ensures s (told.2 s c.hash_of-hash.ensures))
