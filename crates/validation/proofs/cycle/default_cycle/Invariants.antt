use Rattle.std.proofs.Common.{◌≡◌, ℕ, ◌<◌, ◌↔◌, true, vec_len}
use Rattle.model.specs.Cycles.{LeadsByNumber}
use Rattle.relation.specs.Relating.{leads}
use Rattle.schema.specs.Documents.{Document, schema_of}
use Rattle.schema.specs.Holds.{Holds}
use Rattle.validation.specs.Making.{NamesApart, Sourced}
use Rattle.validation.proofs.cycle.default_cycle.Given as goal

-- the rows before this one hold what their fields lead to
abbrev pub invariant-loop-row : goal.invariant-loop-row
invariant-loop-row l =
    (vec_len l.leads.rows ≡ vec_len l.initial.leads.rows)
    × ((D : Document) → Holds l.schema D → NamesApart D → Sourced D → (i j : ℕ) → leads l.leads.rows.items i j ≡ true ↔ (i < l.row) × LeadsByNumber (schema_of D) i j)
