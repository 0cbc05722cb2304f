use Rattle.std.proofs.Common.{rules, tests}
use Rattle.source.proofs.Standings.{found_by}
use Rattle.source.proofs.raw.Source.member.Goals as goal

pub returns : goal.returns
returns g c p ms h =
    found_by g.Self.Source.past g.Self.Source.named g.Self.Source.stands g.Self.Source.items g.Self.Source.members (λ v. v.source.now) (λ v. v.span)
    c.args.name.now c.args.self.now c.values.result c.find.new.self c.find.result c.find.ensures.ran c.values.ensures.source ms (c.values.ensures.fielded p ms h)
    (λ x k w n m. search (rules, tests)) (λ x k w. search (rules, tests))
