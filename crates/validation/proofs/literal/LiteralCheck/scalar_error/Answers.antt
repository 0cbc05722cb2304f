use Rattle.std.proofs.Common.{◌≡◌, ◌∙◌, sym, ap, subst, w32, rules}
use mir.Val.{SFits}
use Rattle.std.proofs.lemmas.Int.{to_z-of_z}
use Rattle.model.specs.Values.{scalar, whole, decimal, find}
use Rattle.model.specs.Checking.{wrong_scalar}
use Rattle.schema.specs.Documents.{schema_of}
use Rattle.source.specs.Heads.{scalar_text, scalar_exponent}
use Rattle.text.specs.NormalForm.{WholeForm}
use Rattle.validation.specs.Literals.{ErrorTold}
use Rattle.validation.proofs.Defined.{DefIs, def_is}
use Rattle.validation.proofs.Errors.{means}
use Rattle.validation.proofs.Shapes.{whole_is, decimal_is, string_is, boolean_is}
use Rattle.validation.proofs.literal.LiteralCheck.scalar_error.Goals as goal

pub returns-in-Whole : goal.returns-in-Whole
returns-in-Whole g c D n p s h e st k =
    let r = c.args.self.now.schema.now in
    let m = means r D c.args.base _ (subst (λ b. DefIs r D b (find (schema_of D) n)) (sym e) (def_is r D h n)) in
    let w = whole_is s (sym c.in-Whole.is ∙ k) in
    let t = c.text-text.ensures (scalar p s) st ∙ ap scalar_text w.1 in
    let l = subst (λ x. g.S.Source.stands c.args.self.now.source.now c.args.at (scalar p x)) w.1 st in
    let f = (g.met.S.Source.laws.within _ _ _ l).1.formed in
    subst (λ x. ErrorTold (wrong_scalar (find (schema_of D) n) x) c.whole_error.result) (ap whole t ∙ sym w.1) (c.whole_error.ensures _ m (subst WholeForm (sym t) f))

pub returns-in-Decimal : goal.returns-in-Decimal
returns-in-Decimal g c D n p s h e st k =
    let r = c.args.self.now.schema.now in
    let m = means r D c.args.base _ (subst (λ b. DefIs r D b (find (schema_of D) n)) (sym e) (def_is r D h n)) in
    let w = decimal_is s (sym c.in-Decimal.is ∙ k) in
    let t = c.text-text.ensures (scalar p s) st ∙ ap scalar_text w.1 in
    let l = subst (λ x. g.S.Source.stands c.args.self.now.source.now c.args.at (scalar p x)) w.1 st in
    let f = (g.met.S.Source.laws.within _ _ _ l).1.formed in
    let q = (c.scale.ensures (scalar p s) st).exponent ∙ ap scalar_exponent w.1 in
    let o : SFits w32 c.scale.result.exponent = search rules in
    let y = to_z-of_z w32 c.scale.result.exponent o in
    let z = rw y at c.decimal_error.ensures in
    let v : decimal (record { negative = w.0.negative; exponent = c.scale.result.exponent; digits = c.text-text.result.now }) ≡ decimal w.0 = (λ i. decimal (record { negative = w.0.negative; exponent = q i; digits = t i })) in
    subst (λ x. ErrorTold (wrong_scalar (find (schema_of D) n) x) c.decimal_error.result) (v ∙ sym w.1)
    (z (find (schema_of D) n) w.0.negative m (rw (q, t) f))

pub returns-in-String : goal.returns-in-String
returns-in-String g c D n p s h e st k =
    let r = c.args.self.now.schema.now in
    let m = means r D c.args.base _ (subst (λ b. DefIs r D b (find (schema_of D) n)) (sym e) (def_is r D h n)) in
    let w = string_is s (sym c.in-String.is ∙ k) in
    subst (λ x. ErrorTold (wrong_scalar (find (schema_of D) n) x) c.string_error.result) (sym w.1) (c.string_error.ensures _ w.0 m)

pub returns-in-Boolean : goal.returns-in-Boolean
returns-in-Boolean g c D n p s h e st k =
    let r = c.args.self.now.schema.now in
    let m = means r D c.args.base _ (subst (λ b. DefIs r D b (find (schema_of D) n)) (sym e) (def_is r D h n)) in
    let w = boolean_is s (sym c.in-Boolean.is ∙ k) in
    subst (λ x. ErrorTold (wrong_scalar (find (schema_of D) n) x) c.boolean_error.result) (sym w.1) (c.boolean_error.ensures _ w.0 m)
