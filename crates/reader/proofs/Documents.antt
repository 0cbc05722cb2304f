-- A text that is one value: what reading it comes to, and what the grammar says of it.
use Rattle.std.proofs.Common.{◌≡◌, ℕ, true, List, sym, ◌∙◌, arith}
use Rattle.model.specs.Values.{Raw}
use Rattle.text.specs.declared.fault.Fault.{Fault}
use Rattle.text.specs.declared.language.Language.{Language}
use Rattle.source.specs.Table.{Table}
use Rattle.reader.specs.Tokens.{TokenIs, Sights}
use Rattle.reader.specs.Told.{Blames}
use Rattle.reader.specs.Document.{Writes, FirstFault, too_long, reading, Readable, Unreadable, ReadWhole, FaultWhole, whole_long, whole_read, OneReading}
use Rattle.reader.proofs.RdSights.{sure, one_sight, seen_is, sights_number}
use Rattle.reader.proofs.RdSame.{same_all}
use Rattle.reader.proofs.RdSound.{sound_all}
use Rattle.reader.proofs.RdAgree.{agree_all, refuses_all}
use Rattle.reader.proofs.RdLimits.{bounded_of, limits_of}
use Rattle.reader.proofs.RdReads.{writes_read, writes_once}
use Rattle.reader.proofs.Faults.{blames_map}

one_fault : (language : Language) (text : List ℕ) (f g : Fault) → FirstFault language text f → FirstFault language text g → f ≡ g
one_fault language text f g (too_long h e) (too_long k d) = e ∙ sym d
one_fault language text f g (too_long h e) (reading k r) = absurd (omega arith)
one_fault language text f g (reading h r) (too_long k d) = absurd (omega arith)
one_fault language text f g (reading h r) (reading k q) = let e = same_all (Sights language text) (one_sight language text) (sights_number language text) language true r q in cc

none_clean : (language : Language) (text : List ℕ) (t : Raw) (f : Fault) → Writes language text t → FirstFault language text f → ⊥
none_clean language text t f w (too_long h e) = omega (arith, w.short)
none_clean language text t f w (reading h r) = refuses_all (Sights language text) (TokenIs language text) (sure language text) (sights_number language text) language true r w.text_of (bounded_of 0 t w.within)

pub one_reading_lem : OneReading
one_reading_lem = record {
  outcome = λ language text distinct d o p r q. same_all (Sights language text) (one_sight language text) (sights_number language text) language distinct r q;
  fault = one_fault;
  clean = none_clean;
  value = writes_once;
  read = writes_read;
}

-- the value that was read is the one that the text writes
pub parsed : (language : Language) (text : List ℕ) (T : Table) → ReadWhole (record { language = language; distinct = true }) text T → Readable language text T
parsed language text T r =
    let s = sound_all (Sights language text) (TokenIs language text) (λ i b e x n. seen_is n) language true r.reads in
    let l = limits_of s.0.value 0 s.1 in
    record {
      tree = r.tree;
      writes = record { short = r.short; text_of = s.0; within = l };
      only = λ u w. let a = agree_all (Sights language text) (TokenIs language text) (sure language text) (sights_number language text) language true r.reads w.text_of (bounded_of 0 u w.within) in let e = a.1 in cc;
      stands = record { stands = r.stands; within = l };
    }

first_fault : (language : Language) (text : List ℕ) (f : Fault) → FaultWhole (record { language = language; distinct = true }) text f → FirstFault language text f
first_fault language text f (whole_long h e) = too_long h e
first_fault language text f (whole_read h r) = reading h r

pub unreadable : (language : Language) (text : List ℕ) (f : Fault) → Blames f (FaultWhole (record { language = language; distinct = true }) text) → Blames f (Unreadable language text)
unreadable language text =
    blames_map (FaultWhole (record { language = language; distinct = true }) text) (Unreadable language text)
    (λ g w. record { first = first_fault language text g w; none = λ u x. none_clean language text u g x (first_fault language text g w) })
