-- Whole numbers as decimals, and numbers that are worth the same.
use Rattle.std.proofs.Common.{◌≡◌, ℕ, zero, suc, ◌+◌, ◌-◌, ◌*◌, ◌^◌, ◌<◌, ◌≤◌, Bool, true, false, cond, eqb, ◌≢◌, List, [], ◌∷◌, ◌++◌, length, get_or, replicate, pos, sym, refl, ap, ◌∙◌, subst, inl, append-nil, mul-one, arith}
use Rattle.std.proofs.lemmas.Int.{ints}
use Rattle.std.proofs.lemmas.Bool.Decides.{nat_tests, Decides-eqb, not_from_Decides}
use Rattle.text.specs.NumberGrammar.{IsDigit, Digits, digit, zero_int, int}
use Rattle.text.specs.NumberWorth.{value, no_minus, one_minus, no_fraction, no_power, Writes}
use Rattle.text.specs.NormalForm.{Each, form_zero, form, WholeForm, whole_zero, whole_above, whole_below}
use Rattle.text.proofs.NormValues.{value-zeros, each_of, each_left, positive}
use Rattle.text.proofs.NormSettle.{below_some}
use Rattle.text.proofs.NormLaws.{forms_are_unique, wholes_are_unique, worth_is_equivalence}
use Rattle.model.specs.Values.{Dec}
use Rattle.model.specs.Numbers.{is_negative, digits_in, magnitude, add_front, trimmed, settled, decimal_of, NormalDec, SameDec}
use Rattle.model.specs.Likeness.{whole_dec}
use Rattle.model.specs.Laws.{WholeAsDecimal, SameNumber}

-- digits ds without the zeros at their end are ts
record Trim (ds ts : List ℕ) : Type 0 where
  zeros : ℕ
  all : ds ≡ ts ++ replicate zeros 48
  long : zeros + length ts ≡ length ds
  last : 0 < length ts → get_or ts (length ts - 1) 0 ≢ 48

trim_none : (d : ℕ) (ds : List ℕ) (b : Bool) → eqb d 48 ≡ b → Trim ds [] → Trim (d ∷ ds) (cond b [] (d ∷ []))
trim_none d ds true e t =
    let h = (Decides-eqb d 48).0 e in
    record { zeros = suc t.zeros; all = ap (λ k. k ∷ ds) h ∙ ap (λ l. 48 ∷ l) t.all; long = omega (arith, t.long); last = λ k. absurd (omega arith) }
trim_none d ds false e t = record { zeros = t.zeros; all = ap (λ l. d ∷ l) t.all; long = omega (arith, t.long); last = λ k. not_from_Decides (eqb d 48) (Decides-eqb d 48) e }

trim_front : (d : ℕ) (ds ts : List ℕ) → Trim ds ts → Trim (d ∷ ds) (add_front d ts)
trim_front d ds [] t = trim_none d ds (eqb d 48) refl t
trim_front d ds (c ∷ cs) t =
    let at : length (d ∷ c ∷ cs) - 1 ≡ suc (length (c ∷ cs) - 1) = omega arith in
    record { zeros = t.zeros; all = ap (λ l. d ∷ l) t.all; long = omega (arith, t.long); last = λ k e. t.last (omega arith) (subst (λ j. get_or (d ∷ c ∷ cs) j 0 ≡ 48) at e) }

trim : (ds : List ℕ) → Trim ds (trimmed ds)
trim [] = record { zeros = 0; all = refl; long = refl; last = λ k. absurd (omega arith) }
trim (d ∷ ds) = trim_front d ds (trimmed ds) (trim ds)

-- the decimal is in normal form, and worth the digits with their sign
abbrev Stands : Bool → List ℕ → Dec → Type 0
Stands n ds d = NormalDec d × SameDec (record { negative = n; exponent = pos 0; digits = ds }) d

only_zeros : (ds : List ℕ) (z : ℕ) → 0 < length ds → get_or ds 0 0 ≢ 48 → ds ≡ replicate z 48 → ⊥
only_zeros ds zero h f e = omega (arith, ap length e)
only_zeros ds (suc z) h f e = f (ap (λ l. get_or l 0 0) e)

-- digits with no zero first
stands : (n : Bool) (ds ts : List ℕ) → Each ds → 0 < length ds → get_or ds 0 0 ≢ 48 → Trim ds ts → Stands n ds (settled n ds ts)
stands n ds [] a h f t = absurd (only_zeros ds t.zeros h f t.all)
stands n ds (c ∷ cs) a h f t =
    let ts = c ∷ cs in
    let z = t.zeros in
    let some : 0 < length ts = omega arith in
    let each = each_left ts (replicate z 48) (subst Each t.all a) in
    let led : get_or ts 0 0 ≢ 48 = λ e. f (ap (λ l. get_or l 0 0) t.all ∙ e) in
    let worth_is : value ds ≡ value ts * 10 ^ z = ap value t.all ∙ value-zeros ts z in
    let up = positive ts each led some in
    let up-all = positive ds a f h in
    let far : length ds - length ts ≡ z = omega (arith, t.long) in (
      form each some led (t.last some),
      record {
        signs = below_some n (value ds) up-all ∙ sym (below_some n (value ts) up);
        amounts = record { k = 0; l = z; least = inl refl; level = omega (arith, ints, far); same = mul-one (value ds) ∙ worth_is };
      },
    )

first_digit : (n : Bool) (d : ℕ) (ds : List ℕ) → 49 ≤ d → d ≤ 57 → Digits ds → Stands n (d ∷ ds) (settled n (d ∷ ds) (trimmed (d ∷ ds)))
first_digit n d ds h k w =
    let i : IsDigit d = (omega arith, k) in
    stands n (d ∷ ds) (trimmed (d ∷ ds)) (each_of (digit i w)) (omega arith) (λ e. omega arith) (trim (d ∷ ds))

no_sign : (d : ℕ) → 49 ≤ d → eqb d 45 ≡ false
no_sign d h = grind (arith, nat_tests)

whole_go : {s : List ℕ} → WholeForm s → Stands (is_negative s) (digits_in s) (decimal_of s)
whole_go whole_zero = (form_zero, worth_is_equivalence.itself false 0 (pos 0))
whole_go (whole_above {d} {ds} h k w) =
    subst (λ b. Stands b (cond b ds (d ∷ ds)) (settled b (cond b ds (d ∷ ds)) (trimmed (cond b ds (d ∷ ds))))) (sym (no_sign d h)) (first_digit false d ds h k w)
whole_go (whole_below {d} {ds} h k w) = first_digit true d ds h k w

pub whole_as_decimal : WholeAsDecimal
whole_as_decimal s f = whole_go f

-- a decimal is its sign, exponent and digits
pub dec_same : (d e : Dec) → d.negative ≡ e.negative → d.exponent ≡ e.exponent → d.digits ≡ e.digits → d ≡ e
dec_same d e p q r = λ i. record { negative = p i; exponent = q i; digits = r i }

decimals_same : (d e : Dec) → NormalDec d → NormalDec e → SameDec d e → d ≡ e
decimals_same d e f g w =
    let r = forms_are_unique d.negative e.negative d.exponent e.exponent d.digits e.digits f g w in
    dec_same d e r.0 r.1 r.2

-- a whole number in normal form writes its digits with its sign
writes : {s : List ℕ} → WholeForm s → Writes s (is_negative s) (value (digits_in s)) (pos 0)
writes whole_zero = record { m = []; i = 48 ∷ []; f = []; e = []; ds = []; p = pos 0; sign = no_minus; whole = zero_int; part = no_fraction; power = no_power; spelled = refl; amounts = refl; scales = refl }
writes (whole_above {d} {ds} h k w) =
    subst (λ b. Writes (d ∷ ds) b (value (cond b ds (d ∷ ds))) (pos 0)) (sym (no_sign d h))
    (record { m = []; i = d ∷ ds; f = []; e = []; ds = []; p = pos 0; sign = no_minus; whole = int h k w; part = no_fraction; power = no_power; spelled = ap (λ l. d ∷ l) (sym (append-nil ds)); amounts = omega arith; scales = refl })
writes (whole_below {d} {ds} h k w) =
    record { m = 45 ∷ []; i = d ∷ ds; f = []; e = []; ds = []; p = pos 0; sign = one_minus; whole = int h k w; part = no_fraction; power = no_power; spelled = ap (λ l. 45 ∷ d ∷ l) (sym (append-nil ds)); amounts = omega arith; scales = refl }

wholes_same : (s t : List ℕ) → WholeForm s → WholeForm t → SameDec (whole_dec s) (whole_dec t) → s ≡ t
wholes_same s t f g w = wholes_are_unique s t (is_negative s) (is_negative t) (magnitude s) (magnitude t) (pos 0) (pos 0) f g (writes f) (writes g) w

pub same_number : SameNumber
same_number = (decimals_same, wholes_same, λ d. worth_is_equivalence.itself d.negative (value d.digits) d.exponent)
