use Rattle.std.proofs.Common.{◌≡◌, ℕ, ◌∙◌, Some, None, Option, is_some, true, not, ap, refl, subst, arith}
use Rattle.std.proofs.Math.Option.{none, some}
use Rattle.model.specs.Values.{Raw}
use Rattle.text.specs.TokenGrammar.{equals}
use Rattle.reader.specs.Tokens.{Sight}
use Rattle.reader.specs.Reading.{got, is_mark}
use Rattle.source.specs.Table.{table_of, Stands}
use Rattle.schema.specs.Declarations.{ReadsLiteral, ReadsDefault}
use Rattle.schema.specs.Outcomes.{Gives, Maps}
use Rattle.schema.specs.Told.{sights, TokenIfAny}
use Rattle.schema.proofs.Seeing.{read_in, itself, after_eaten}
use Rattle.schema.proofs.declaration.default_value.Goals as goal

-- the literal after an `=`
default_read : (N : ℕ → Sight → Type 0) (i j k : ℕ) (y : Option ℕ) (t : Raw) → is_some y ≡ true → TokenIfAny N (is_mark equals) i (got j y) → ReadsLiteral N j (got k t) → ReadsDefault N i (got k (some t))
default_read N i j k (Some p) t e h r = after_eaten N (is_mark equals) (λ s. Maps some (ReadsLiteral N)) (Gives none) (got k (some t)) i j p h (got k t, r, refl)
default_read N i j k None t e h r = cc

pub returns-clause-told : goal.returns-clause-told
returns-clause-told c =
    let t = c.args.tokens.now in
    let u = c.eat.new.self in
    let v = c.literal.new.self in
    let x = c.in_ok-eat.ensures.told tt in
    let y = c.in_ok-literal.ensures.told in
    record {
      value = some y.value;
      reads = default_read (sights t) t.at u.at v.at c.in_ok-eat.field-0 y.value (c.is_none.ensures ∙ ap not c.if-is_none.false) (itself 0 (λ N. TokenIfAny N (is_mark equals)) t u _ _ x refl) (read_in ReadsLiteral t u u.at _ x.onward.0 y.reads);
      means = subst (λ text. Stands (table_of text c.literal.new.nodes) c.in_ok-literal.field-0 y.value) x.onward.0 y.means;
      onward = (y.onward.0 ∙ x.onward.0, omega (arith, y.onward.1, x.onward.1));
    }
