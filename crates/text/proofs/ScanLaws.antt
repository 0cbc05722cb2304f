-- The contract of a scan has one answer.
use Rattle.std.proofs.Common.{◌≡◌, ℕ, ◌+◌, ◌-◌, ◌<◌, ◌≤◌, ◌⊎◌, List, ◌++◌, length, take, drop, Ok, Err, sym, refl, ap, ◌∙◌, subst, inl, inr, ⊎_elim, append_assoc, arith}
use Rattle.std.proofs.lemmas.Bool.{cases_lt}
use Rattle.std.proofs.lemmas.List.{take-take, take-append-drop}
use Rattle.text.specs.declared.fault.Fault.{Fault}
use Rattle.text.specs.declared.fault.Fault.TheVariants.{BadText, TooDeep, NoSpace, RepeatedName, LongNumber, NoMemory}
use Rattle.text.specs.declared.number.NumberKind.{NumberKind}
use Rattle.text.specs.declared.number.State.{State}
use Rattle.text.specs.NumberMoves.{capped, exponent_in}
use Rattle.text.specs.NumberGrammar.{Number}
use Rattle.text.specs.NumberScan.{exponent_of, Begins, Longest, Found, Unfinished, Endless, FarScaled, ScanRefused, OneScan}
use Rattle.text.proofs.ScanRuns.{complete, same_state, Ends, zero_ends, int_ends, frac_ends, exp_ends}
use Rattle.text.specs.Cuts.{part}

-- what begins a number with more bytes does so without them
begins_less : (xs ys : List ℕ) → Begins (xs ++ ys) → Begins xs
begins_less xs ys b = record { rest = ys ++ b.rest; kind = b.kind; number = subst (λ l. Number l b.kind) (append_assoc xs ys b.rest) b.number }

begins_shorter : (xs : List ℕ) (m n : ℕ) → m ≤ n → Begins (take n xs) → Begins (take m xs)
begins_shorter xs m n h b = subst Begins (take-take m n xs h) (begins_less (take m (take n xs)) (drop m (take n xs)) (subst Begins (sym (take-append-drop m (take n xs))) b))

longer : {text : List ℕ} {at a : ℕ} (b : ℕ) → Longest text at a → Begins (part text at b) → a < b → b ≤ length text → ⊥
longer {text} {at} {a} b l x h w = l.stops (omega arith) (begins_shorter (drop at text) ((a + 1) - at) (b - at) (omega arith) x)

same_end : {text : List ℕ} {at a b : ℕ} → Longest text at a → Longest text at b → a ≡ b
same_end {a = a} {b} l m =
    ⊎_elim
    (λ h. absurd (longer b l m.begins h (omega (arith, l.forward, m.within))))
    (λ h. ⊎_elim (λ g. absurd (longer a m l.begins g (omega (arith, m.forward, l.within)))) (λ g. omega arith) (cases_lt b a))
    (cases_lt a b)

ends_kind : {s : State} {k l : NumberKind} → Ends s k → Ends s l → k ≡ l
ends_kind zero_ends zero_ends = refl
ends_kind int_ends int_ends = refl
ends_kind frac_ends frac_ends = refl
ends_kind exp_ends exp_ends = refl

-- a number has one kind, and its exponent one size, up to a million
one_reading : {xs : List ℕ} {k l : NumberKind} (a : Number xs k) (b : Number xs l) → (k ≡ l) × (capped (exponent_of a) ≡ capped (exponent_of b))
one_reading {l = l} a b =
    let c = complete a in
    let d = complete b in
    let same = same_state (sym d.1 ∙ c.1) in
    (ends_kind c.2 (subst (λ s. Ends s l) same d.2), sym c.3 ∙ ap exponent_in (sym same) ∙ d.3)

at_end : {text : List ℕ} {at a b : ℕ} {k l : NumberKind} → Longest text at a → Longest text at b → (x : Number (part text at a) k) (y : Number (part text at b) l) → (k ≡ l) × (capped (exponent_of x) ≡ capped (exponent_of y))
at_end {text} {at} {a} {b} {k} {l} p q =
    let P : ℕ → Type 0 = λ n. (x : Number (part text at a) k) (y : Number (part text at n) l) → (k ≡ l) × (capped (exponent_of x) ≡ capped (exponent_of y)) in
    subst P (same_end p q) (λ x y. one_reading x y)

no_number_else : {text : List ℕ} {at end : ℕ} {k : NumberKind} → Longest text at end → Number (part text at end) k → Unfinished text at → ⊥
no_number_else {text} {at} {k = k} l x u = u.no_number k (subst (λ e. Number (part text at e) k) (same_end l u.longest) x)

too_long : {text : List ℕ} {at end : ℕ} → Longest text at end → end ≤ at + 1000 → Endless text at → ⊥
too_long {at = at} l h e = longer (at + 1001) l e.begins (omega arith) (omega (arith, e.long))

found_same : {text : List ℕ} {at : ℕ} (r s : ℕ × NumberKind) → Found text at r.0 r.1 → Found text at s.0 s.1 → r ≡ s
found_same {text} {at} r s f g =
    let e = same_end f.longest g.longest in
    let k = (at_end f.longest g.longest f.number g.number).0 in
    λ i. (e i, k i)

found_long : {text : List ℕ} {at end : ℕ} {k : NumberKind} → Found text at end k → Endless text at ⊎ FarScaled text at → ⊥
found_long f (inl e) = too_long f.longest f.short e
found_long f (inr e) = let z = (at_end f.longest e.longest f.number e.number).1 in omega (arith, z, f.small, e.large)

bad_long : {text : List ℕ} {at : ℕ} → Unfinished text at → Endless text at ⊎ FarScaled text at → ⊥
bad_long u (inl e) = too_long u.longest u.short e
bad_long u (inr e) = no_number_else e.longest e.number u

found_refused : {text : List ℕ} {at : ℕ} (r : ℕ × NumberKind) (f : Fault) → Found text at r.0 r.1 → ScanRefused text at f → ⊥
found_refused r (BadText k) f g = no_number_else f.longest f.number g.1
found_refused r (LongNumber k) f g = found_long f g.1
found_refused r (TooDeep k) f g = g
found_refused r (NoSpace k) f g = g
found_refused r (RepeatedName k) f g = g
found_refused r NoMemory f g = g

refused_same : (text : List ℕ) (at : ℕ) (e f : Fault) → ScanRefused text at e → ScanRefused text at f → e ≡ f
refused_same text at (BadText j) (BadText k) f g = ap BadText (f.0 ∙ sym g.0)
refused_same text at (BadText j) (LongNumber k) f g = absurd (bad_long f.1 g.1)
refused_same text at (LongNumber j) (BadText k) f g = absurd (bad_long g.1 f.1)
refused_same text at (LongNumber j) (LongNumber k) f g = ap LongNumber (f.0 ∙ sym g.0)
refused_same text at (BadText j) (TooDeep k) f g = absurd g
refused_same text at (BadText j) (NoSpace k) f g = absurd g
refused_same text at (BadText j) (RepeatedName k) f g = absurd g
refused_same text at (BadText j) NoMemory f g = absurd g
refused_same text at (LongNumber j) (TooDeep k) f g = absurd g
refused_same text at (LongNumber j) (NoSpace k) f g = absurd g
refused_same text at (LongNumber j) (RepeatedName k) f g = absurd g
refused_same text at (LongNumber j) NoMemory f g = absurd g
refused_same text at (TooDeep j) e f g = absurd f
refused_same text at (NoSpace j) e f g = absurd f
refused_same text at (RepeatedName j) e f g = absurd f
refused_same text at NoMemory e f g = absurd f

pub scans_once : OneScan
scans_once text at (Ok r) (Ok s) f g = ap Ok (found_same r s f g)
scans_once text at (Ok r) (Err e) f g = absurd (found_refused r e f g)
scans_once text at (Err e) (Ok s) f g = absurd (found_refused s e g f)
scans_once text at (Err d) (Err e) f g = ap Err (refused_same text at d e f g)
