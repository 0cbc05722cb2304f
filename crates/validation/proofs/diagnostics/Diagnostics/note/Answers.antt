use Rattle.std.proofs.Common.{◌∷◌, [], ◌∙◌}
use Rattle.validation.specs.declared.diagnostic.Diagnostic.{Diagnostic}
use Rattle.validation.specs.Diagnosed.{finding_of}
use Rattle.validation.proofs.Notes.{noted_at, noted_past}
use Rattle.validation.proofs.diagnostics.Diagnostics.note.Goals as goal
use Rattle.validation.proofs.diagnostics.Diagnostics.note.Goals.{then-self, else-self}

pub returns : goal.returns
returns c =
    let a = c.args.self.now in
    let d : Diagnostic = record { kind = c.args.kind; place = c.args.place } in
    elim c.if-self.branch [
      | then-self w ↦ record {
        same = rw w.self-is;
        place = rw w.self-is (noted_at a.place.now a.total d);
        total = c.saturating_add-self.ensures ∙ (rw w.self-is);
      }
      | else-self w ↦ record {
        same = rw w.self-is;
        place = rw w.self-is (noted_past a.place.now a.total (finding_of d ∷ []) w.if-self.false);
        total = c.saturating_add-self.ensures ∙ (rw w.self-is);
      }
    ]
