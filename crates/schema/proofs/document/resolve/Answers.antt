use Rattle.std.proofs.Common.{refl}
use Rattle.schema.proofs.Resolving.{schema_resolved}
use Rattle.schema.proofs.document.resolve.Goals as goal

pub returns-clause-holds : goal.returns-clause-holds
returns-clause-holds c D h = schema_resolved c.args.schema.now _ D c.as_slice.result.now c.as_slice-2.result.now c.as_slice.ensures.value c.as_slice-2.ensures.value refl refl refl refl c.resolve_in.ensures.held c.resolve_in-2.ensures.held h
