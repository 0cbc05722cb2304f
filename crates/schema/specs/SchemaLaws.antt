-- The laws of reading a schema.
use Rattle.std.specs.Prelude.{◌≡◌, ℕ, ◌≤◌, List, length}
use Rattle.text.specs.declared.language.Language.TheVariants.{Graphql}
use Rattle.reader.specs.Tokens.{TokenIs}
use Rattle.reader.specs.Reading.{Out, got}
use Rattle.schema.specs.SchemaGrammar.{DocumentAt}
use Rattle.schema.specs.Documents.{Definition, Document, types_in, directives_in}
use Rattle.schema.specs.ReadingLaws.{AllOf, DeclaredWithin}
use Rattle.schema.specs.SchemaReading.{inputs_of, arguments_of, values_in, inputs_in, arguments_in, ReadsSchema}

-- the types and defaults of a definition are within the limits
abbrev pub DefinitionWithin : Definition → Type 0
DefinitionWithin d = AllOf DeclaredWithin (inputs_of d) × AllOf DeclaredWithin (arguments_of d)

-- what is read is what the grammar has, with types and defaults within the limits
pub record SchemaStands : Type 0 where
  pub stands : (text : List ℕ) (e : ℕ) (D : Document) → ReadsSchema text (got e D) → DocumentAt (TokenIs Graphql text) e D × AllOf DefinitionWithin D

-- a document within the limits of its counts
pub record Within (D : Document) : Type 0 where
  pub types : length (types_in D) ≤ 256
  pub values : length (values_in D) ≤ 1024
  pub inputs : length (inputs_in D) ≤ 1024
  pub directives : length (directives_in D) ≤ 64
  pub arguments : length (arguments_in D) ≤ 256

pub record SchemaWithin : Type 0 where
  pub within : (text : List ℕ) (e : ℕ) (D : Document) → ReadsSchema text (got e D) → Within D

-- a text comes to one document, or to one fault
pub record OneSchema : Type 0 where
  pub outcome : (text : List ℕ) (o p : Out Document) → ReadsSchema text o → ReadsSchema text p → o ≡ p
