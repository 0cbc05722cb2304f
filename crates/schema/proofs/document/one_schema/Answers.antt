use Rattle.schema.proofs.SchemaLaws.{one_schema}
use Rattle.schema.proofs.SchemaLimits.{schema_within}
use Rattle.schema.proofs.SchemaStanding.{schema_stands}
use Rattle.schema.proofs.document.one_schema.Goals as goal

pub returns : goal.returns
returns c = record { once = one_schema; stands = schema_stands; within = schema_within }
