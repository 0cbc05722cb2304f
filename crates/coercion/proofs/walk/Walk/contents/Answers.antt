use Rattle.std.proofs.Common.{sym, ◌∙◌, subst, ⊎_elim}
use Rattle.coercion.proofs.Contents.{seen_as, null_opens, variable_opens, boolean_opens, whole_opens, decimal_opens, string_opens, enum_opens, list_opens, object_opens}
use Rattle.coercion.proofs.walk.Walk.contents.Goals.{in-Null, in-Boolean, in-Whole, in-Decimal, in-String, in-List, in-Object}
use Rattle.coercion.proofs.walk.Walk.contents.Goals as goal

pub returns : goal.returns
returns g c D a t h k asks o =
    let S = g.S.Source.stands c.args.self.now.source.now in
    let I = g.S.Source.items c.args.self.now.source.now in
    let M = g.S.Source.members c.args.self.now.source.now in
    elim c.match-kind.branch [
      | in-Null w ↦ rw w.rest-is (⊎_elim (λ e. null_opens S I M D c.args.scalar a asks (seen_as _ t (sym e ∙ k))) (λ e. variable_opens S I M D c.args.scalar a asks (seen_as _ t (sym e ∙ k)) o) w.in-Null.is)
      | in-Boolean w ↦ rw w.rest-is (boolean_opens S I M D c.args.scalar a asks w.boolean.result (seen_as _ t (sym w.in-Boolean.is ∙ k)) (w.boolean.ensures t h))
      | in-Whole w ↦ rw w.rest-is (whole_opens S I M D c.args.scalar a asks c.text-text.result (seen_as _ t (sym w.in-Whole.is ∙ k)) (c.text-text.ensures t h))
      | in-Decimal w ↦ rw w.rest-is (decimal_opens S I M D c.args.scalar a asks w.scale.result c.text-text.result (seen_as _ t (sym w.in-Decimal.is ∙ k)) (g.met.S.Source.laws.within c.args.self.now.source.now c.args.at t h) (w.scale.ensures t h) (c.text-text.ensures t h))
      | in-String w ↦ rw w.rest-is (⊎_elim (λ e. string_opens S I M D c.args.scalar a asks c.text-text.result (seen_as _ t (sym e ∙ k)) (c.text-text.ensures t h)) (λ e. enum_opens S I M D c.args.scalar a asks c.text-text.result (seen_as _ t (sym e ∙ k)) (c.text-text.ensures t h)) w.in-String.is)
      | in-List w ↦ rw w.rest-is (list_opens S I M D c.args.scalar a asks w.inside.result (seen_as _ t (sym w.in-List.is ∙ k)) (λ p xs e. w.inside.ensures.listed p xs (subst (S c.args.at) e h)))
      | in-Object w ↦ rw w.rest-is (object_opens S I M D c.args.scalar a asks w.inside-in-Object.result (seen_as _ t (sym w.in-Object.is ∙ k)) (λ p ms e. w.inside-in-Object.ensures.fielded p ms (subst (S c.args.at) e h)))
    ]
