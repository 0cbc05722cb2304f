use Rattle.std.proofs.Common.{◌≡◌, ℕ, ◌+◌, length, Some, None, Option, refl, sym, ◌∙◌, subst, arith}
use mathlib.Core.Option.{none, some}
use Rattle.std.specs.Option.{is_some}
use Rattle.model.specs.Values.{Raw}
use Rattle.model.specs.Coercion.{member}
use Rattle.source.specs.Standing.{Found, is_there}
use Rattle.source.specs.Table.{table_of, Held, HeldMems}
use Rattle.source.proofs.nodes.Nodes.has_member.Goals as goal

found_there : (stands : ℕ → Raw → Type 0) (o : mathlib.Core.Option.Option Raw) (r : Option ℕ) → Found stands o r → is_some r ≡ is_there o
found_there stands none None h = refl
found_there stands none (Some c) h = absurd h
found_there stands (some x) None h = absurd h
found_there stands (some x) (Some c) h = refl

pub returns : goal.returns
returns c ms l h k =
    let T = table_of c.args.text.now c.args.self.now in
    let e : c.saturating_add.result ≡ c.args.object + 1 = omega (arith, c.saturating_add.ensures, c.len.ensures, c.len.type_inv, l) in
    let f : c.len.result ≡ length c.args.self.now.list.items = omega (arith, c.len.ensures) in
    let g = c.find.ensures.found ms (subst (λ i. HeldMems T (record { from = i; to = c.len.result }) ms) (sym e) (subst (λ j. HeldMems T (record { from = c.args.object + 1; to = j }) ms) (sym f) h)) in
    c.is_some.ensures ∙ found_there (Held T) _ c.find.result (subst (λ q. Found (Held T) (member ms q) c.find.result) (c.bytes.ensures.stands k) g)
