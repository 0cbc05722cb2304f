-- Numbers at the front of a list and in a text.
use Rattle.std.proofs.Common.{◌≡◌, ℕ, ◌+◌, ◌-◌, ◌<◌, ◌≤◌, ◌≢◌, ◌⊎◌, List, [], ◌∷◌, ◌++◌, length, get_or, take, drop, None, Ok, Err, sym, refl, ap, ◌∙◌, subst, inl, inr, ⊎_elim, append-nil, arith, length-append, length-drop}
use lib.Seq.{take-append_seam, drop-append_seam}
use Rattle.std.proofs.lemmas.Bool.{cases_lt}
use Rattle.std.proofs.lemmas.List.{drop-drop}
use Rattle.std.proofs.lemmas.Bool.Decides.{nat_tests}
use Rattle.text.specs.declared.fault.Fault.TheVariants.{BadText, TooDeep, NoSpace, RepeatedName, LongNumber, NoMemory}
use Rattle.text.specs.declared.fault.Fault.{Fault}
use Rattle.text.specs.declared.language.Language.{Language}
use Rattle.text.specs.declared.number.NumberKind.{NumberKind}
use Rattle.text.specs.declared.number.State.{State}
use Rattle.text.specs.NumberGrammar.{IsDigit, Optional, without, with, IsMinus, minus, IsInt, zero_int, int, Number}
use Rattle.text.specs.NumberMoves.{next}
use Rattle.text.specs.NumberScan.{Begins, Found, Unfinished, ScanRefused}
use Rattle.text.specs.TokenGrammar.{NotAhead, Numeral, NumberFirst, NumberGoesOn}
use Rattle.text.specs.TokenFound.{LongAt, NoToken, RefusedHere}
use Rattle.text.proofs.ScanRuns.{complete, refused, Ends, zero_ends, int_ends, frac_ends, exp_ends, part_more}
use Rattle.text.proofs.ScanLaws.{scans_once}
use Rattle.text.proofs.LexBase.{there, first, cut, length_part, front}
use Rattle.text.specs.Cuts.{part}

leading : {m i : List ℕ} → Optional IsMinus m → IsInt i → (l : List ℕ) → (b : ℕ) × (t : List ℕ) × (m ++ (i ++ l) ≡ b ∷ t) × NumberFirst b
leading without zero_int l = (48, l, refl, inr (omega arith, omega arith))
leading without (int {d} {ds} h k r) l = (d, ds ++ l, refl, inr (omega arith, omega arith))
leading {i = i} (with minus) w l = (45, i ++ l, refl, inl refl)

pub number_first : {ds : List ℕ} {k : NumberKind} → Number ds k → (b : ℕ) × (t : List ℕ) × (ds ≡ b ∷ t) × NumberFirst b
number_first n = let x = leading n.sign n.whole (n.f ++ n.e) in (x.0, x.1, n.spelled ∙ x.2, x.3)

pub number_some : {ds : List ℕ} {k : NumberKind} → Number ds k → 0 < length ds
number_some n = let x = number_first n in omega (arith, ap length x.2)

-- a list that begins with a number
pub numeral_first : {b : ℕ} {t ds : List ℕ} {k : NumberKind} (r : List ℕ) → Numeral ds k → b ∷ t ≡ ds ++ r → NumberFirst b
numeral_first {b} {t} {ds} r n e =
    let x = number_first n.number in
    let f : b ∷ t ≡ x.0 ∷ (x.1 ++ r) = e ∙ ap (λ l. l ++ r) x.2 in
    let g : x.0 ≡ b = cc in
    subst NumberFirst g x.3

pub nil_number : {ds : List ℕ} {k : NumberKind} (r : List ℕ) → Numeral ds k → [] ≡ ds ++ r → ⊥
nil_number {ds} r n e = omega (arith, ap length e, length-append ds r, number_some n.number)

-- what stands at the front of the list stands in the text
pub record Spelled (text : List ℕ) (at : ℕ) (ds r : List ℕ) (k : NumberKind) : Type 0 where
  pub found : Found text at (at + length ds) k
  pub is : part text at (at + length ds) ≡ ds
  pub then : drop (at + length ds) text ≡ r

pub number_found : (text : List ℕ) (at : ℕ) (ds r : List ℕ) (k : NumberKind) → Numeral ds k → drop at text ≡ ds ++ r → NotAhead (λ b. Begins (ds ++ b ∷ [])) r → Spelled text at ds r k
number_found text at ds r k n s a =
    let long : (at + length ds) - at ≡ length ds = omega arith in
    let p : part text at (at + length ds) ≡ ds = ap (λ m. take m (drop at text)) long ∙ ap (take (length ds)) s ∙ take-append_seam ds r in
    let d : drop (at + length ds) text ≡ r = sym (drop-drop (length ds) at text) ∙ ap (drop (length ds)) s ∙ drop-append_seam ds r in
    let size : length text - at ≡ length ds + length r = sym (length-drop at text) ∙ ap length s ∙ length-append ds r in
    let some = number_some n.number in
    let m : Numeral (part text at (at + length ds)) k = subst (λ l. Numeral l k) (sym p) n in
    record {
      found = record {
        some = omega arith;
        inside = omega arith;
        longest = record {
          forward = omega arith;
          within = omega arith;
          begins = record { rest = []; kind = k; number = subst (λ l. Number l k) (sym (append-nil (part text at (at + length ds)))) m.number };
          stops = λ h g. a (get_or text (at + length ds) 0) (drop ((at + length ds) + 1) text) (sym d ∙ there text (at + length ds) h)
              (subst Begins (part_more text at (at + length ds) (omega arith) h ∙ ap (λ l. l ++ get_or text (at + length ds) 0 ∷ []) p) g);
        };
        short = omega (arith, n.short);
        number = m.number;
        small = m.small;
      };
      is = p;
      then = d;
    }

pub found_numeral : {text : List ℕ} {at end : ℕ} {k : NumberKind} → Found text at end k → Numeral (part text at end) k
found_numeral {text} {at} {end} f = record {
  number = f.number;
  short = omega (arith, length_part text at end f.inside, f.short, f.some);
  small = f.small;
}

-- the number stops where no longer run begins one
pub found_stops : {text : List ℕ} {at end : ℕ} {k : NumberKind} → Found text at end k → NotAhead (λ b. Begins (part text at end ++ b ∷ [])) (drop end text)
found_stops {text} {at} {end} f b t e g =
    let x = first text end b t e in
    f.longest.stops x.0 (subst Begins (ap (λ n. part text at end ++ n ∷ []) (sym x.1) ∙ sym (part_more text at end (omega (arith, f.some)) x.0)) g)

-- two numbers that are found at one place are one
pub one_found : {text : List ℕ} {at i j : ℕ} {k l : NumberKind} → Found text at i k → Found text at j l → (i ≡ j) × (k ≡ l)
one_found {text} {at} {i} {j} {k} {l} f g =
    let e = scans_once text at (Ok (i, k)) (Ok (j, l)) f g in
    let p : ◌≡◌ {A = ℕ × NumberKind} (i, k) (j, l) = cc in
    (ap (λ x. x.0) p, ap (λ x. x.1) p)

pub found_long : {text : List ℕ} {at i : ℕ} {k : NumberKind} → Found text at i k → LongAt text at → ⊥
found_long {text} {at} {i} {k} f g =
    let e = scans_once text at (Ok (i, k)) (Err (LongNumber at)) f (refl, g) in
    let z : ◌≡◌ {A = ℕ} 0 1 = cc in omega arith

pub found_unfinished : {text : List ℕ} {at i : ℕ} {k : NumberKind} → Found text at i k → Unfinished text at → ⊥
found_unfinished {text} {at} {i} {k} f g =
    let e = scans_once text at (Ok (i, k)) (Err (BadText at)) f (refl, g) in
    let z : ◌≡◌ {A = ℕ} 0 1 = cc in omega arith

pub long_unfinished : {text : List ℕ} {at : ℕ} → LongAt text at → Unfinished text at → ⊥
long_unfinished {text} {at} f g =
    let e = scans_once text at (Err (LongNumber at)) (Err (BadText at)) (refl, f) (refl, g) in
    let z : ◌≡◌ {A = ℕ} 0 1 = cc in omega arith

-- the first byte of a long number
begins_there : (text : List ℕ) (at j b : ℕ) (u : List ℕ) → at ≤ j → part text at j ≡ b ∷ u → NumberFirst b → (at < length text) × NumberFirst (get_or text at 0)
begins_there text at j b u h e f = let x = first text at b (u ++ drop j text) (cut text at j h ∙ ap (λ l. l ++ drop j text) e) in (x.0, subst NumberFirst (sym x.1) f)

long_there : (text : List ℕ) (at : ℕ) → LongAt text at → (at < length text) × NumberFirst (get_or text at 0)
long_there text at (inl e) =
    let x = number_first e.begins.number in
    let some : 0 < length (part text at (at + 1001)) = omega (arith, length_part text at (at + 1001) (omega (arith, e.long))) in
    let y = front (part text at (at + 1001)) e.begins.rest some x.2 in
    begins_there text at (at + 1001) x.0 y.0 (omega arith) y.1 x.3
long_there text at (inr f) =
    let x = number_first f.number in
    begins_there text at f.end x.0 x.1 f.longest.forward x.2 x.3

pub long_first : (text : List ℕ) (at : ℕ) → LongAt text at → NumberFirst (get_or text at 0)
long_first text at l = (long_there text at l).1

pub long_inside : (text : List ℕ) (at : ℕ) → LongAt text at → at < length text
long_inside text at l = (long_there text at l).0

pub found_first : {text : List ℕ} {at end : ℕ} {k : NumberKind} → Found text at end k → NumberFirst (get_or text at 0)
found_first {text} {at} {end} f =
    let x = number_first f.number in
    (begins_there text at end x.0 x.1 f.longest.forward x.2 x.3).1

-- a refusal of the scanner is one of the token
pub scan_refused : (language : Language) (text : List ℕ) (at : ℕ) → (Unfinished text at → NoToken language text at) → (f : Fault) → ScanRefused text at f → RefusedHere language text at f
scan_refused language text at n (BadText k) r = (r.0, subst (NoToken language text) (sym r.0) (n r.1))
scan_refused language text at n (LongNumber k) r = (r.0, subst (LongAt text) (sym r.0) r.1)
scan_refused language text at n (TooDeep k) r = absurd r
scan_refused language text at n (NoSpace k) r = absurd r
scan_refused language text at n (RepeatedName k) r = absurd r
scan_refused language text at n NoMemory r = absurd r

-- in a state where a number ends, only these bytes lead on
dead : {s : State} {k : NumberKind} → Ends s k → (b : ℕ) → b ≢ 46 → b ≢ 101 → b ≢ 69 → (b < 48) ⊎ (57 < b) → next s b ≡ None
dead zero_ends b p e f (inl h) = grind (arith, nat_tests, p, e, f, h)
dead zero_ends b p e f (inr h) = grind (arith, nat_tests, p, e, f, h)
dead int_ends b p e f (inl h) = grind (arith, nat_tests, p, e, f, h)
dead int_ends b p e f (inr h) = grind (arith, nat_tests, p, e, f, h)
dead frac_ends b p e f (inl h) = grind (arith, nat_tests, p, e, f, h)
dead frac_ends b p e f (inr h) = grind (arith, nat_tests, p, e, f, h)
dead exp_ends b p e f (inl h) = grind (arith, nat_tests, p, e, f, h)
dead exp_ends b p e f (inr h) = grind (arith, nat_tests, p, e, f, h)

outside : (b : ℕ) → (IsDigit b → ⊥) → (b < 48) ⊎ (57 < b)
outside b n = ⊎_elim (λ h. inl h) (λ h. ⊎_elim (λ g. inr g) (λ g. absurd (n (h, g))) (cases_lt 57 b)) (cases_lt b 48)

-- what may not follow a number of GraphQL is what would make it longer
pub stops_number : {ds r : List ℕ} {k : NumberKind} → Number ds k → NotAhead NumberGoesOn r → NotAhead (λ b. Begins (ds ++ b ∷ [])) r
stops_number {ds} n q b t e g =
    let c = complete n in
    refused ds b c.0 c.1
    (dead c.2 b
    (λ x. q b t e (inr (inl x)))
    (λ x. q b t e (inr (inr (inr (inr (omega arith, omega arith))))))
    (λ x. q b t e (inr (inr (inr (inl (omega arith, omega arith))))))
    (outside b (λ x. q b t e (inl x))))
    g
