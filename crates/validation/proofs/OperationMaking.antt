-- From the tests of an operation to what its making comes to.
use Rattle.std.proofs.Common.{◌≡◌, ℕ, List, Option, Err, Result, sym, ap, ◌∙◌, subst}
use Rattle.text.specs.declared.fault.Fault.{Fault}
use Rattle.text.specs.declared.fault.Fault.TheVariants.{BadText, TooDeep, NoSpace, RepeatedName, LongNumber, NoMemory}
use Rattle.reader.specs.Reading.{got, fails}
use Rattle.reader.specs.Told.{Blames}
use Rattle.schema.specs.declared.operation.Operation.{Operation}
use Rattle.schema.specs.Documents.{Document, OperationDocument}
use Rattle.schema.specs.OperationReading.{ReadsOperation}
use Rattle.validation.specs.declared.fault.MakeFault.{MakeFault}
use Rattle.validation.specs.declared.fault.MakeFault.TheVariants.{Text}
use Rattle.validation.specs.Making.{FirstFault, RepeatedInOperationAt}
use Rattle.validation.specs.OperationMade.{MakesOperation, unread, no_memory}

pub operation_refused : (S : Document) (text : List ℕ) (f : Fault) → Blames f (λ g. ReadsOperation text (fails g)) → MakesOperation S text (Err (Text f))
operation_refused S text (BadText k) b = unread b
operation_refused S text (TooDeep k) b = unread b
operation_refused S text (NoSpace k) b = unread b
operation_refused S text (RepeatedName k) b = unread b
operation_refused S text (LongNumber k) b = unread b
operation_refused S text NoMemory b = no_memory

pub operation_wanting : (S : Document) (text : List ℕ) (r : Result Operation MakeFault) (f : Fault) → r ≡ Err (Text f) → f ≡ NoMemory → MakesOperation S text r
operation_wanting S text r f e m = subst (MakesOperation S text) (sym (e ∙ ap (λ g. Err (Text g)) m)) no_memory

pub operation_read_as : {text other : List ℕ} {e : ℕ} {D : OperationDocument} → other ≡ text → ReadsOperation text (got e D) → ReadsOperation other (got e D)
operation_read_as {e = e} {D = D} q r = subst (λ (t : List ℕ). ReadsOperation t (got e D)) (sym q) r

pub again_in : (text other : List ℕ) (D : OperationDocument) (q r : Option ℕ) → other ≡ text → q ≡ r → FirstFault (RepeatedInOperationAt other D) q → FirstFault (RepeatedInOperationAt text D) r
again_in text other D q r e z h = subst (λ t. FirstFault (RepeatedInOperationAt t D) r) e (subst (FirstFault (RepeatedInOperationAt other D)) z h)
