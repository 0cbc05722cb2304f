use Rattle.std.proofs.Common.{rules, ◌≡◌, Some, refl}
use Rattle.coercion.specs.declared.frames.Rest.TheVariants.{Single, Items, Members}
use Rattle.coercion.proofs.Nexts.{single_next, item_next, member_next}
use Rattle.coercion.proofs.walk.Walk.next.Goals as goal

pub returns-in-Some-Single-clause-told : goal.returns-in-Some-Single-clause-told
returns-in-Some-Single-clause-told g c D k p h x r f d =
    let s = c.args.self.now.source.now in
    let q : c.args.frame.now.inside.rest ≡ Some (Single c.in-Some-Single.at) = search rules in
    single_next (g.S.Source.stands s) (g.S.Source.items s) (g.S.Source.members s) (g.S.Source.named s) c.args.self.now.schema.now.fields.items D c.args.frame.now k p h f d
    c.in-Some-Single.at x _ _ (c.value.result, c.value.new.self) r q refl c.value.ensures.step c.value.ensures.frame

pub returns-in-Some-clause-told : goal.returns-in-Some-clause-told
returns-in-Some-clause-told g c D k p h x r f d =
    let s = c.args.self.now.source.now in
    let q : c.args.frame.now.inside.rest ≡ Some (Items c.in-Some-Items.span) = search rules in
    item_next (g.S.Source.stands s) (g.S.Source.items s) (g.S.Source.members s) (g.S.Source.named s) c.args.self.now.schema.now.fields.items D c.args.frame.now k p h f d
    c.in-Some-Items.span c.in-Some.span c.in-Some.at x _ _ (c.value-in-Some-Items.result, c.value-in-Some-Items.new.self) r q refl c.in-Some.ensures.item c.value-in-Some-Items.ensures.step c.value-in-Some-Items.ensures.frame

pub returns-in-Some-next-clause-told : goal.returns-in-Some-next-clause-told
returns-in-Some-next-clause-told g c D k p h x r f d =
    let s = c.args.self.now.source.now in
    let q : c.args.frame.now.inside.rest ≡ Some (Members c.in-Some-Members.span) = search rules in
    member_next (g.S.Source.stands s) (g.S.Source.items s) (g.S.Source.members s) (g.S.Source.named s) c.args.self.now.schema.now.fields.items D c.args.frame.now k p h f d
    c.in-Some-Members.span c.in-Some-next.span c.in-Some-next.at c.name-name.result x _ _ (c.value-in-Some-Members.result, c.value-in-Some-Members.new.self) r q refl c.in-Some-next.ensures.field c.name-name.ensures c.value-in-Some-Members.ensures.step c.value-in-Some-Members.ensures.frame
