-- What a type's name stands for is the first row with the name.
use Rattle.std.proofs.Common.{◌≡◌, ℕ, zero, suc, ◌+◌, ◌<◌, ◌≢◌, true, false, List, [], ◌∷◌, map, length, get_or, Some, None, refl, ap, ◌∙◌, subst, ⊎_elim, arith}
use Rattle.std.proofs.lemmas.Bool.{cases_Bool, cond-true, cond-false}
use Rattle.model.specs.Values.{Name, same}
use Rattle.model.proofs.CoNames.{same_refl, same_true}
use Rattle.lookup.specs.First.{NotBefore, First}
use Rattle.schema.specs.declared.definition.TypeDef.{TypeDef}
use Rattle.schema.specs.declared.types.Base.TheVariants.{Unknown}
use Rattle.schema.specs.Holds.{type_row_of}
use Rattle.schema.specs.Rows.{base_of, base_among}

abbrev pub called : TypeDef → Name
called t = t.name.now

other : (m n : Name) → m ≢ n → same m n ≡ false
other m n h = ⊎_elim (λ e. absurd (h (same_true m n e))) (λ e. e) (cases_Bool (same m n))

-- a row before the first with the name says nothing
passed_row : (t : TypeDef) (ts : List TypeDef) (k : ℕ) (n : Name) → t.name.now ≢ n → base_among (map type_row_of (t ∷ ts)) k n ≡ base_among (map type_row_of ts) (suc k) n
passed_row t ts k n h = cond-false (same t.name.now n) (base_of t.kind k) (base_among (map type_row_of ts) (suc k) n) (other t.name.now n h)

later : (t : TypeDef) (ts : List TypeDef) (n : Name) (j : ℕ) → NotBefore (map called (t ∷ ts)) n (suc j) → NotBefore (map called ts) n j
later t ts n j h k l = h (suc k) (omega arith)

pub missing : (ts : List TypeDef) (k : ℕ) (n : Name) → NotBefore (map called ts) n (length (map called ts)) → base_among (map type_row_of ts) k n ≡ Unknown
missing [] k n h = refl
missing (t ∷ ts) k n h = passed_row t ts k n (h 0 (omega arith)) ∙ missing ts (suc k) n (later t ts n (length (map called ts)) h)

pub found : (ts : List TypeDef) (k i : ℕ) (n : Name) (d : TypeDef) → i < length (map called ts) → get_or (map called ts) i [] ≡ n → NotBefore (map called ts) n i → base_among (map type_row_of ts) k n ≡ base_of (get_or ts i d).kind (k + i)
found [] k i n d l e h = absurd (omega arith)
found (t ∷ ts) k zero n d l e h = cond-true (same t.name.now n) (base_of t.kind k) (base_among (map type_row_of ts) (suc k) n) (subst (λ m. same t.name.now m ≡ true) e (same_refl t.name.now)) ∙ ap (base_of t.kind) (omega arith)
found (t ∷ ts) k (suc i) n d l e h = passed_row t ts k n (h 0 (omega arith)) ∙ found ts (suc k) i n d (omega arith) e (later t ts n i h) ∙ ap (base_of (get_or ts i d).kind) (omega arith)

pub found_first : (ts us : List TypeDef) (i : ℕ) (n : Name) (d : TypeDef) → us ≡ ts → First (map called us) n (Some i) → base_among (map type_row_of ts) 0 n ≡ base_of (get_or ts i d).kind i
found_first ts us i n d e f =
    let g : First (map called ts) n (Some i) = subst (λ xs. First (map called xs) n (Some i)) e f in
    found ts 0 i n d g.0 g.1 g.2 ∙ ap (base_of (get_or ts i d).kind) (omega arith)

pub missing_all : (ts us : List TypeDef) (n : Name) → us ≡ ts → First (map called us) n None → base_among (map type_row_of ts) 0 n ≡ Unknown
missing_all ts us n e f = missing ts 0 n (subst (λ xs. First (map called xs) n None) e f)
