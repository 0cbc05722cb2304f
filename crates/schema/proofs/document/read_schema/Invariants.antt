use Rattle.std.proofs.Common.{◌≡◌, ◌-◌, ◌≤◌, true, length}
use Rattle.text.specs.declared.language.Language.TheVariants.{Graphql}
use Rattle.reader.specs.Tokens.{Sights}
use Rattle.schema.specs.Counts.{Few}
use Rattle.schema.specs.Documents.{Document}
use Rattle.schema.specs.Holds.{HeldBy}
use Rattle.schema.specs.SchemaGrammar.{ends}
use Rattle.schema.specs.SchemaReading.{nothing, counted, ReadsDefinition}
use Rattle.schema.specs.SchemaTold.{counts, unknown}
use Rattle.schema.proofs.Listing.{Sofar}
use Rattle.schema.proofs.document.read_schema.Given as goal

abbrev pub invariant-loop-schema : goal.invariant-loop-schema
invariant-loop-schema l =
    (D : Document)
    × Sofar (Sights Graphql l.text) ends counted (ReadsDefinition (Sights Graphql l.text)) true nothing 0 true (counts l.schema) l.tokens.at D
    × HeldBy unknown l.schema D
    × (l.tokens.text.now ≡ l.text)
    × (l.schema.tree.text.now ≡ l.text)
    × (length l.text ≤ 65535)
    × Few l.schema

abbrev pub decreases-loop-schema : goal.decreases-loop-schema
decreases-loop-schema l = length l.tokens.text.now - l.tokens.at
