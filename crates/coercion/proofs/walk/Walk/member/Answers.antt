use Rattle.std.proofs.Common.{rules, ◌≡◌}
use Rattle.coercion.proofs.Members.{member_here}
use Rattle.coercion.proofs.walk.Walk.member.Goals as goal

pub returns-in-Some : goal.returns-in-Some
returns-in-Some g c p ms ns h l m =
    let s = c.args.self.now.source.now in
    let e : c.name.result.now ≡ c.args.name.now = search rules in
    member_here (g.S.Source.named s) (g.S.Source.stands s) (g.S.Source.members s) ms c.args.name.now ns c.in-Some.at c.in-Some.rest c.name.result.now l
    (g.met.S.Source.laws.within s _ _ h).1 (c.in-Some.ensures.field ns m) c.name.ensures e
