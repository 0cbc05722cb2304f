-- From the tests of a schema to what its making comes to.
use Rattle.std.proofs.Common.{◌≡◌, ℕ, List, None, Option, Err, Result, sym, ap, ◌∙◌, subst}
use Rattle.text.specs.declared.fault.Fault.{Fault}
use Rattle.text.specs.declared.fault.Fault.TheVariants.{BadText, TooDeep, NoSpace, RepeatedName, LongNumber, NoMemory}
use Rattle.reader.specs.Reading.{got, fails}
use Rattle.reader.specs.Told.{Blames}
use Rattle.schema.specs.declared.definition.Schema.{Schema}
use Rattle.schema.specs.Documents.{Document}
use Rattle.schema.specs.SchemaReading.{ReadsSchema}
use Rattle.validation.specs.declared.fault.MakeFault.TheVariants.{Text}
use Rattle.validation.specs.Making.{FirstFault, RepeatedNameAt, declared_again, UnknownAt, NotInputAt, NamesApart}
use Rattle.validation.specs.Made.{TypedSchema, MakesSchema, unread, no_memory}
use Rattle.validation.proofs.Apart.{names_apart}

pub refused : (text : List ℕ) (f : Fault) → Blames f (λ g. ReadsSchema text (fails g)) → MakesSchema text (Err (Text f))
refused text (BadText k) b = unread b
refused text (TooDeep k) b = unread b
refused text (NoSpace k) b = unread b
refused text (RepeatedName k) b = unread b
refused text (LongNumber k) b = unread b
refused text NoMemory b = no_memory

pub wanting : (text : List ℕ) (r : Result Schema _) (f : Fault) → r ≡ Err (Text f) → f ≡ NoMemory → MakesSchema text r
wanting text r f e m = subst (MakesSchema text) (sym (e ∙ ap (λ g. Err (Text g)) m)) no_memory

pub read_as : {text other : List ℕ} {e : ℕ} {D : Document} → other ≡ text → ReadsSchema text (got e D) → ReadsSchema other (got e D)
read_as {e = e} {D = D} q r = subst (λ (t : List ℕ). ReadsSchema t (got e D)) (sym q) r

pub first_in : (text other : List ℕ) (D : Document) (q r : Option ℕ) → other ≡ text → q ≡ r → FirstFault (RepeatedNameAt other D) q → FirstFault (RepeatedNameAt text D) r
first_in text other D q r e z h = subst (λ t. FirstFault (RepeatedNameAt t D) r) e (subst (FirstFault (RepeatedNameAt other D)) z h)

pub apart : {text : List ℕ} {D : Document} → FirstFault (RepeatedNameAt text D) None → NamesApart D
apart {text} {D} h = names_apart D (λ p t. h p (declared_again t))

pub passed : {text : List ℕ} {e : ℕ} {D : Document} → ReadsSchema text (got e D) → FirstFault (RepeatedNameAt text D) None → FirstFault (UnknownAt D) None → FirstFault (NotInputAt D) None → TypedSchema text D
passed {e = e} r n k i = record { end = e; reads = r; names = n; known = k; input = i }
