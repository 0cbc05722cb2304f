-- The normal form of a number within the limits is within the limits.
use Rattle.std.proofs.Common.{◌≡◌, ℕ, zero, suc, ◌+◌, ◌-◌, ◌*◌, ◌^◌, ◌<◌, ◌≤◌, Bool, true, false, ◌≢◌, ◌⊎◌, List, [], ◌∷◌, ◌++◌, length, get_or, take, ℤ, pos, negsuc, ◌-ℤ◌, neg_ℤ, sym, refl, ap, ◌∙◌, subst, inl, inr, ⊎_elim, mul-le-mul_right, mul_assoc, one-mul, mul-one, mul_right_comm, arith, length-append, pow-add}
use native.Mathlib.Nat.{pow-succ', pow-le-pow_right}
use Rattle.std.proofs.lemmas.List.{take_more, take_all}
use Rattle.std.proofs.lemmas.Int.{ints}
use Rattle.std.proofs.lemmas.Bool.{cases_lt}
use Rattle.model.specs.Values.{Dec}
use Rattle.model.specs.Records.{ExponentFits}
use Rattle.model.specs.Limits.{DecLimits}
use Rattle.text.specs.declared.number.NumberKind.{NumberKind}
use Rattle.text.specs.NumberGrammar.{IsDigit, Digits, IsMark, Optional, without, with, IsMinus, minus, IsSign, sign_minus, sign_plus, IsFrac, frac, IsExp, exp, Number}
use Rattle.text.specs.NumberWorth.{after, value, Power, no_power, plain, more, less, Fraction, no_fraction, fraction, Minus, no_minus, one_minus, Writes, SameWorth}
use Rattle.text.specs.NumberScan.{size_in, exponent_of}
use Rattle.text.specs.NormalForm.{Each, Form, form_zero, form}
use Rattle.text.specs.TokenGrammar.{Numeral}
use Rattle.text.proofs.NormValues.{after-append, after_is, each_of}
use Rattle.text.proofs.NormCuts.{int_digits}
use Rattle.reader.specs.Grammar.{NormalOf}

-- digits write less than a one with a zero for each of them
digits_below : (v : ℕ) (ds : List ℕ) → Each ds → after v ds < suc v * 10 ^ length ds
digits_below v [] a = omega arith
digits_below v (d ∷ ds) a =
    let first = a 0 (omega arith) in
    let rest = digits_below (v * 10 + (d - 48)) ds (λ k h. a (suc k) (omega arith)) in
    let up : suc (v * 10 + (d - 48)) * 10 ^ length ds ≤ (suc v * 10) * 10 ^ length ds = mul-le-mul_right (10 ^ length ds) (omega arith) in
    let same : suc v * 10 ^ suc (length ds) ≡ (suc v * 10) * 10 ^ length ds = ap (λ n. suc v * n) (pow-succ' 10 (length ds)) ∙ sym (mul_assoc (suc v) 10 (10 ^ length ds)) in
    omega (arith, rest, up, same)

-- and not less than a one with a zero for each but the first, if that is no zero
digits_above : (ds : List ℕ) → Each ds → 0 < length ds → get_or ds 0 0 ≢ 48 → 10 ^ (length ds - 1) ≤ value ds
digits_above [] a h n = absurd (omega arith)
digits_above (d ∷ ds) a h n =
    let first = a 0 (omega arith) in
    let w = after_is (0 * 10 + (d - 48)) ds in
    let up : 1 * 10 ^ length ds ≤ (0 * 10 + (d - 48)) * 10 ^ length ds = mul-le-mul_right (10 ^ length ds) (omega arith) in
    let one = one-mul (10 ^ length ds) in
    let here : suc (length ds) - 1 ≡ length ds = omega arith in
    subst (λ k. 10 ^ k ≤ value (d ∷ ds)) (sym here) (omega (arith, w, up, one))

-- digits with no zero at the end write no multiple of ten
no_ten : (ds : List ℕ) (w : ℕ) → Each ds → 0 < length ds → get_or ds (length ds - 1) 0 ≢ 48 → value ds ≡ w * 10 → ⊥
no_ten ds w a h n e =
    let last = length ds - 1 in
    let whole : last + 1 ≡ length ds = omega arith in
    let apart : ds ≡ take last ds ++ get_or ds last 0 ∷ [] = sym (take_all (last + 1) ds (omega arith)) ∙ take_more ds last 0 (omega arith) in
    let v : value ds ≡ value (take last ds) * 10 + (get_or ds last 0 - 48) = ap value apart ∙ after-append 0 (take last ds) (get_or ds last 0 ∷ []) in
    let d = a last (omega arith) in
    omega (arith, v, d.0, d.1, n)

-- so what they write has no power of ten taken from it
no_more : (a k l : ℕ) (ds : List ℕ) → Each ds → 0 < length ds → get_or ds (length ds - 1) 0 ≢ 48 → (k ≡ 0) ⊎ (l ≡ 0) → a * 10 ^ k ≡ value ds * 10 ^ l → k ≡ 0
no_more a zero l ds e h n o z = refl
no_more a (suc k) l ds e h n o z = ⊎_elim
    (λ y. absurd (omega arith))
    (λ y.
    let one : value ds * 10 ^ l ≡ value ds = ap (λ i. value ds * 10 ^ i) y ∙ mul-one (value ds) in
    let ten : a * 10 ^ suc k ≡ (a * 10 ^ k) * 10 = ap (λ i. a * i) (pow-succ' 10 k) ∙ sym (mul_assoc a 10 (10 ^ k)) ∙ mul_right_comm a 10 (10 ^ k) in
    absurd (no_ten ds (a * 10 ^ k) e h n (sym one ∙ sym z ∙ ten)))
    o

-- the digits and the zeros left off are not more than the digits of the number
no_longer : (a l n : ℕ) (ds : List ℕ) → Each ds → 0 < length ds → get_or ds 0 0 ≢ 48 → a < 10 ^ n → a ≡ value ds * 10 ^ l → length ds + l ≤ n
no_longer a l n ds e h f b z = ⊎_elim
    (λ lt.
    let up : 10 ^ n ≤ 10 ^ ((length ds - 1) + l) = pow-le-pow_right (omega arith) (omega arith) in
    let both = pow-add 10 (length ds - 1) l in
    let low : 10 ^ (length ds - 1) * 10 ^ l ≤ value ds * 10 ^ l = mul-le-mul_right (10 ^ l) (digits_above ds e h f) in
    absurd (omega (arith, up, both, low, z, b)))
    (λ le. le)
    (cases_lt n (length ds + l))

-- what a number writes, with the size of its exponent
minus_of : {m : List ℕ} → Optional IsMinus m → (n : Bool) × Minus m n
minus_of without = (false, no_minus)
minus_of (with minus) = (true, one_minus)

fraction_of : {f : List ℕ} → Optional IsFrac f → (ds : List ℕ) × Fraction f ds × Digits ds × (length ds ≤ length f)
fraction_of without = ([], no_fraction, Digits.none, omega arith)
fraction_of (with (frac {d} {ds} a r)) = (d ∷ ds, fraction a r, Digits.digit a r, omega arith)

exp_of : {e d : ℕ} {s ds : List ℕ} → IsMark e → Optional IsSign s → IsDigit d → Digits ds → (p : ℤ) × Power (e ∷ (s ++ d ∷ ds)) p × ((p ≡ pos (value (d ∷ ds))) ⊎ (p ≡ neg_ℤ (pos (value (d ∷ ds)))))
exp_of {d = d} {ds = ds} m without a r = (pos (value (d ∷ ds)), plain m a r, inl refl)
exp_of {d = d} {ds = ds} m (with sign_plus) a r = (pos (value (d ∷ ds)), more m a r, inl refl)
exp_of {d = d} {ds = ds} m (with sign_minus) a r = (neg_ℤ (pos (value (d ∷ ds))), less m a r, inr refl)

power_of : {e : List ℕ} → (x : Optional IsExp e) → (p : ℤ) × Power e p × ((p ≡ pos (size_in x)) ⊎ (p ≡ neg_ℤ (pos (size_in x))))
power_of without = (pos 0, no_power, inl refl)
power_of (with (exp m s a r)) = exp_of m s a r

pub record Sized (text : List ℕ) (size : ℕ) : Type 0 where
  pub n : Bool
  pub a : ℕ
  pub s : ℤ
  pub p : ℤ
  places : ℕ
  pub writes : Writes text n a s
  pub power : writes.p ≡ p
  below : a < 10 ^ length text
  scales : s ≡ p -ℤ pos places
  few : places ≤ length text
  pub sizes : (p ≡ pos size) ⊎ (p ≡ neg_ℤ (pos size))

pub sized : {text : List ℕ} {kind : NumberKind} (x : Number text kind) → Sized text (exponent_of x)
sized {text} x =
    let n = minus_of x.sign in
    let f = fraction_of x.fraction in
    let p = power_of x.exponent in
    let long : length text ≡ length x.m + (length x.i + (length x.f + length x.e)) = ap length x.spelled ∙ length-append x.m (x.i ++ (x.f ++ x.e)) ∙ ap (λ k. length x.m + k) (length-append x.i (x.f ++ x.e) ∙ ap (λ k. length x.i + k) (length-append x.f x.e)) in
    let few = f.3 in
    let wholes = digits_below 0 x.i (each_of (int_digits x.whole)) in
    let parts = digits_below (value x.i) f.0 (each_of f.2) in
    let same = after_is (value x.i) f.0 in
    let one : value x.i < 10 ^ length x.i = omega (arith, wholes, one-mul (10 ^ length x.i)) in
    let up : suc (value x.i) * 10 ^ length f.0 ≤ 10 ^ length x.i * 10 ^ length f.0 = mul-le-mul_right (10 ^ length f.0) one in
    let both = pow-add 10 (length x.i) (length f.0) in
    let all : 10 ^ (length x.i + length f.0) ≤ 10 ^ length text = pow-le-pow_right (omega arith) (omega (arith, long, few)) in
    record {
      n = n.0;
      a = value x.i * 10 ^ length f.0 + value f.0;
      s = p.0 -ℤ pos (length f.0);
      p = p.0;
      places = length f.0;
      writes = record {
        m = x.m;
        i = x.i;
        f = x.f;
        e = x.e;
        ds = f.0;
        p = p.0;
        sign = n.1;
        whole = x.whole;
        part = f.1;
        power = p.1;
        spelled = x.spelled;
        amounts = refl;
        scales = refl;
      };
      power = refl;
      below = omega (arith, parts, same, up, both, all);
      scales = refl;
      few = omega (arith, long, few);
      sizes = p.2;
    }

-- an exponent near a written one fits four bytes
near_fits : (x s p : ℤ) (l n v : ℕ) → (p ≡ pos v) ⊎ (p ≡ neg_ℤ (pos v)) → v < 1000000 → n ≤ 1000 → l ≤ 1000 → s ≡ p -ℤ pos n → s -ℤ pos 0 ≡ x -ℤ pos l → ExponentFits x
near_fits (pos y) s p l n v o small h k e f = ⊎_elim (λ z. omega (arith, ints, z, e, f)) (λ z. omega (arith, ints, z, e, f)) o
near_fits (negsuc y) s p l n v o small h k e f = ⊎_elim (λ z. omega (arith, ints, z, e, f)) (λ z. omega (arith, ints, z, e, f)) o

form_limits : {neg : Bool} {x : ℤ} {ds : List ℕ} (text : List ℕ) (size : ℕ) → length text ≤ 1000 → size < 1000000 → (w : Sized text size) → Form neg x ds → SameWorth w.n w.a w.s neg (value ds) x → (length ds ≤ 1000) × ExponentFits x
form_limits text size short small w form_zero same = (omega arith, omega arith)
form_limits {x = x} {ds = ds} text size short small w (form each some led last) same =
    let q = same.amounts in
    let none = no_more w.a q.k q.l ds each some last q.least q.same in
    let worth : w.a ≡ value ds * 10 ^ q.l = sym (mul-one w.a) ∙ ap (λ i. w.a * 10 ^ i) (sym none) ∙ q.same in
    let long = no_longer w.a q.l (length text) ds each some led w.below worth in
    (omega arith, near_fits x w.s w.p q.l w.places size w.sizes small (omega (arith, w.few)) (omega arith) w.scales (subst (λ i. w.s -ℤ pos i ≡ x -ℤ pos q.l) none q.level))

pub dec_limits : {kind : NumberKind} (ds : List ℕ) (d : Dec) → Numeral ds kind → NormalOf ds d → DecLimits d
dec_limits ds d n x =
    let w = sized n.number in
    let r = form_limits ds (exponent_of n.number) n.short n.small w x.formed (x.worth w.n w.a w.s w.writes) in
    record { formed = x.formed; short = r.0; fits = r.1 }
