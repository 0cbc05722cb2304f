-- Digits that are compared byte by byte are compared by their worth.
use Rattle.std.proofs.Common.{◌≡◌, ℕ, zero, suc, ◌+◌, ◌-◌, ◌*◌, ◌^◌, ◌<◌, ◌≤◌, Bool, true, false, cond, not, ◌&&◌, take, drop, codes, eqb, leb, ◌⊎◌, inl, inr, List, [], ◌∷◌, ◌++◌, length, replicate, ℤ, pos, negsuc, nat_lt, nat_le, refl, sym, ap, ◌∙◌, subst, ⊎_elim, add-mul, eq-eqb, length-append, arith}
use native.Mathlib.Nat.{pow-succ'}
use Rattle.std.proofs.Math.Nat.{pow-le-pow_right, mul-le-mul_right}
use Rattle.std.proofs.lemmas.Bool.{cases_lt, cases_eq, lt-ltb, le-ltb, cond-true, cond-false, leb-true, eqb-true}
use Rattle.std.proofs.lemmas.Bool.Decides.{nat_tests}
use Rattle.std.proofs.lemmas.List.{length-replicate}
use Rattle.std.proofs.lemmas.Nat.{pow-add}
use Rattle.text.specs.NumberGrammar.{Digits, none, digit}
use Rattle.text.specs.NumberWorth.{value}
use Rattle.text.proofs.NormValues.{after_is, value-zeros}
use lib.Pointwise.{pointwise}
use Rattle.text.specs.NormalForm.{WholeForm, whole_zero, whole_above, whole_below}
use Rattle.model.specs.Numbers.{below_bound, float_bound, in_int}
use Rattle.schema.specs.Ranges.{Numeral, zero_numeral, numeral, comes_before, places_of}

and_parts : (a b : Bool) → (a && b) ≡ true → (a ≡ true) × (b ≡ true)
and_parts true b e = (refl, e)
and_parts false b e = absurd (let k : false ≡ true = e in cc)

-- two tests that say the same
pub tests_agree : (a b c d : ℕ) → (a < b → c < d) → (c < d → a < b) → nat_lt a b ≡ nat_lt c d
tests_agree a b c d to from = ⊎_elim
    (λ h. lt-ltb a b h ∙ sym (lt-ltb c d (to h)))
    (λ h. le-ltb a b h ∙ sym (⊎_elim (λ k. absurd (let l = from k in omega (arith, l, h))) (λ k. le-ltb c d k) (cases_lt c d)))
    (cases_lt a b)

ten : (n : ℕ) → 10 ^ suc n ≡ 10 * 10 ^ n
ten n = pow-succ' 10 n

tens : (a b : ℕ) → a ≤ b → 10 ^ a ≤ 10 ^ b
tens a b h = pow-le-pow_right {n = 10} (omega arith) h

-- the first digit by its place
head_value : (d : ℕ) (ds : List ℕ) → value (d ∷ ds) ≡ (d - 48) * 10 ^ length ds + value ds
head_value d ds =
    let e : 0 * 10 + (d - 48) ≡ d - 48 = omega arith in
    after_is (0 * 10 + (d - 48)) ds ∙ ap (λ k. k * 10 ^ length ds + value ds) e

pub value_below : (ds : List ℕ) → Digits ds → value ds < 10 ^ length ds
value_below [] h = omega arith
value_below (d ∷ ds) (digit x r) =
    let i = value_below ds r in
    let m : (d - 48) * 10 ^ length ds ≤ 9 * 10 ^ length ds = mul-le-mul_right (10 ^ length ds) (omega (arith, x.1)) in
    omega (arith, head_value d ds, i, m, ten (length ds))

pub value_above : (d : ℕ) (ds : List ℕ) → 49 ≤ d → 10 ^ length ds ≤ value (d ∷ ds)
value_above d ds h =
    let m : 1 * 10 ^ length ds ≤ (d - 48) * 10 ^ length ds = mul-le-mul_right (10 ^ length ds) (omega (arith, h)) in
    omega (arith, head_value d ds, m)

other : (x y : ℕ) → (x ≡ y → ⊥) → eqb x y ≡ false
other x y n = grind (arith, nat_tests)

-- a lesser first digit before whatever is below its place
less_by : (x y v w n a b : ℕ) → 48 ≤ x → x < y → v < n → a ≡ (x - 48) * n + v → b ≡ (y - 48) * n + w → a < b
less_by x y v w n a b l h k e f =
    let m : ((x - 48) + 1) * n ≤ (y - 48) * n = mul-le-mul_right n (omega (arith, l, h)) in
    let g = add-mul (x - 48) 1 n in
    omega (arith, k, e, f, m, g)

-- of as many digits
pub before_worth : (xs ys : List ℕ) → Digits xs → Digits ys → length xs ≡ length ys → comes_before xs ys ≡ nat_lt (value xs) (value ys)
before_worth [] [] h k e = refl
before_worth [] (y ∷ ys) h k e = absurd (omega (arith, e))
before_worth (x ∷ xs) [] h k e = absurd (omega (arith, e))
before_worth (x ∷ xs) (y ∷ ys) (digit a h) (digit b k) e =
    let l : length xs ≡ length ys = omega (arith, e) in
    let i = before_worth xs ys h k l in
    let p = head_value x xs in
    let q : value (y ∷ ys) ≡ (y - 48) * 10 ^ length xs + value ys = head_value y ys ∙ ap (λ n. (y - 48) * 10 ^ n + value ys) (sym l) in
    let v = value_below xs h in
    let w : value ys < 10 ^ length xs = subst (λ n. value ys < 10 ^ n) (sym l) (value_below ys k) in
    ⊎_elim
    (λ s. cond-true (eqb x y) (comes_before xs ys) (nat_lt x y) (eq-eqb x y s) ∙ (i ∙ (
    let m : (x - 48) * 10 ^ length xs ≡ (y - 48) * 10 ^ length xs = ap (λ d. (d - 48) * 10 ^ length xs) s in
    tests_agree (value xs) (value ys) (value (x ∷ xs)) (value (y ∷ ys)) (λ z. omega (arith, z, p, q, m)) (λ z. omega (arith, z, p, q, m)))))
    (λ s. cond-false (eqb x y) (comes_before xs ys) (nat_lt x y) (other x y s) ∙ tests_agree x y (value (x ∷ xs)) (value (y ∷ ys))
    (λ z. less_by x y (value xs) (value ys) (10 ^ length xs) _ _ a.0 z v p q)
    (λ z. ⊎_elim (λ u. u) (λ u. absurd (let g = less_by y x (value ys) (value xs) (10 ^ length xs) _ _ b.0 (⊎_elim (λ o. o) (λ o. absurd (s (omega (arith, o, u)))) (cases_lt y x)) w q p in omega (arith, g, z))) (cases_lt x y)))
    (cases_eq x y)

-- NUMERALS

pub digits_of : {e : ℤ} {ds : List ℕ} → Numeral e ds → Digits ds
digits_of zero_numeral = digit (omega arith, omega arith) none
digits_of (numeral a b r) = digit (omega (arith, a), b) r

-- a longer numeral is worth more
longer : {x y : ℤ} (ds es : List ℕ) → Numeral x ds → Numeral y es → length ds < length es → value ds < value es
longer ds (e ∷ es) g (numeral a b r) h =
    let p = value_below ds (digits_of g) in
    let q = value_above e es a in
    let t : 10 ^ length ds ≤ 10 ^ length es = tens (length ds) (length es) (omega (arith, h)) in
    omega (arith, p, q, t)
longer (d ∷ []) (e ∷ []) g zero_numeral h = absurd (omega (arith, h))
longer (d ∷ f ∷ ds) (e ∷ []) g zero_numeral h = absurd (omega (arith, h))
longer [] (e ∷ []) g zero_numeral h = elim g [ ]
longer ds [] g h z = elim h [ ]

pub length_worth : {x y : ℤ} (ds es : List ℕ) → Numeral x ds → Numeral y es → (length ds ≡ length es → ⊥) → nat_lt (length ds) (length es) ≡ nat_lt (value ds) (value es)
length_worth ds es g h n = tests_agree (length ds) (length es) (value ds) (value es)
    (λ z. longer ds es g h z)
    (λ z. ⊎_elim (λ u. u) (λ u. absurd (let k = longer es ds h g (⊎_elim (λ o. o) (λ o. absurd (n (omega (arith, o, u)))) (cases_lt (length es) (length ds))) in omega (arith, k, z))) (cases_lt (length ds) (length es)))

-- RANGES

abbrev all_digits : List ℕ → Bool
all_digits [] = true
all_digits (d ∷ ds) = leb 48 d && (leb d 57 && all_digits ds)

digits_by : (ds : List ℕ) → all_digits ds ≡ true → Digits ds
digits_by [] h = none
digits_by (d ∷ ds) h =
    let a = and_parts (leb 48 d) _ h in
    let b = and_parts (leb d 57) _ a.1 in
    digit (leb-true 48 d a.0, leb-true d 57 b.0) (digits_by ds b.1)

not_above : (a b : ℕ) → not (nat_lt a b) ≡ nat_le b a
not_above a b = grind (arith, nat_tests)

no_minus : (d : ℕ) (ds : List ℕ) → 49 ≤ d → pointwise eqb (take 1 (d ∷ ds)) (45 ∷ []) ≡ true → ⊥
no_minus d ds h e = let f = eqb-true d 45 (and_parts (eqb d 45) true e).0 in omega (arith, h, f)

greatest : Numeral (pos 0) (codes "2147483647")
greatest = numeral (omega arith) (omega arith) (digits_by (codes "147483647") refl)

least : Numeral (pos 0) (codes "2147483648")
least = numeral (omega arith) (omega arith) (digits_by (codes "147483648") refl)

pub int_below : (text ds : List ℕ) (r : Bool) → WholeForm text → pointwise eqb (take 1 text) (45 ∷ []) ≡ true → ds ≡ drop 1 text
    → (Numeral (pos 0) (codes "2147483648") → Numeral (pos 0) ds → r ≡ nat_lt 2147483648 (value ds)) → not r ≡ in_int text
int_below text ds r whole_zero e f g = absurd (let k : false ≡ true = e in cc)
int_below (d ∷ es) ds r (whole_above a b h) e f g = absurd (no_minus d es a e)
int_below text ds r (whole_below a b h) e f g =
    let n : Numeral (pos 0) ds = subst (Numeral (pos 0)) (sym f) (numeral a b h) in
    ap not (g least n) ∙ (not_above 2147483648 (value ds) ∙ ap (λ xs. nat_le (value xs) 2147483648) f)

pub int_above : (text : List ℕ) (r : Bool) → WholeForm text → pointwise eqb (take 1 text) (45 ∷ []) ≡ false
    → (Numeral (pos 0) (codes "2147483647") → Numeral (pos 0) text → r ≡ nat_lt 2147483647 (value text)) → not r ≡ in_int text
int_above text r whole_zero e g = ap not (g greatest zero_numeral)
int_above (d ∷ es) r (whole_above a b h) e g = ap not (g greatest (numeral a b h)) ∙ (not_above 2147483647 (value (d ∷ es)) ∙ ap (λ b. nat_le (value (cond b es (d ∷ es))) (cond b 2147483648 2147483647)) (sym (other d 45 (λ z. omega (arith, a, z)))))
int_above text r (whole_below a b h) e g = absurd (let k : true ≡ false = e in cc)

-- FLOATS

zeros_digits : (n : ℕ) → Digits (replicate n 48)
zeros_digits zero = none
zeros_digits (suc n) = digit (omega arith, omega arith) (zeros_digits n)

digits_join : {xs ys : List ℕ} → Digits xs → Digits ys → Digits (xs ++ ys)
digits_join none k = k
digits_join (digit a h) k = digit a (digits_join h k)

-- the last digit is no zero
abbrev sound_end : List ℕ → Bool
sound_end [] = false
sound_end (y ∷ []) = not (eqb y 48)
sound_end (y ∷ z ∷ zs) = sound_end (z ∷ zs)

over_zero : (y : ℕ) (b : Bool) → 48 ≤ y → (y ≡ 48 → b ≡ true) → cond (eqb 48 y) b (nat_lt 48 y) ≡ true
over_zero y b h f = ⊎_elim
    (λ e. cond-true (eqb 48 y) b (nat_lt 48 y) (eq-eqb 48 y (sym e)) ∙ f e)
    (λ n. cond-false (eqb 48 y) b (nat_lt 48 y) (other 48 y (λ e. n (sym e))) ∙ lt-ltb 48 y (omega (arith, h, n)))
    (cases_eq y 48)

under_zero : (x : ℕ) (b : Bool) → 48 ≤ x → b ≡ false → cond (eqb x 48) b (nat_lt x 48) ≡ false
under_zero x b h f = ⊎_elim
    (λ e. cond-true (eqb x 48) b (nat_lt x 48) (eq-eqb x 48 e) ∙ f)
    (λ n. cond-false (eqb x 48) b (nat_lt x 48) (other x 48 n) ∙ le-ltb x 48 h)
    (cases_eq x 48)

not_true : (b : Bool) → not b ≡ true → b ≡ false
not_true true e = cc
not_true false e = refl

zeros_before : (ys : List ℕ) → Digits ys → sound_end ys ≡ true → comes_before (replicate (length ys) 48) ys ≡ true
zeros_before [] h s = s
zeros_before (y ∷ []) (digit a h) s = over_zero y false a.0 (λ e. absurd (let f : true ≡ false = sym (eq-eqb y 48 e) ∙ not_true (eqb y 48) s in cc))
zeros_before (y ∷ z ∷ zs) (digit a h) s = over_zero y (comes_before (replicate (length (z ∷ zs)) 48) (z ∷ zs)) a.0 (λ e. zeros_before (z ∷ zs) h s)

none_before : (xs : List ℕ) (k : ℕ) → Digits xs → length xs ≡ k → comes_before xs (replicate k 48) ≡ false
none_before [] zero h e = refl
none_before [] (suc k) h e = absurd (omega (arith, e))
none_before (x ∷ xs) zero h e = refl
none_before (x ∷ xs) (suc k) (digit a h) e = under_zero x (comes_before xs (replicate k 48)) a.0 (none_before xs k h (omega (arith, e)))

-- zeros at the end change no comparison
pad_left : (xs ys : List ℕ) (e : ℕ) → Digits ys → length xs + e ≡ length ys → sound_end ys ≡ true → comes_before xs ys ≡ comes_before (xs ++ replicate e 48) ys
pad_left [] [] e h l s = absurd (let f : false ≡ true = s in cc)
pad_left [] (y ∷ ys) e h l s = let k : e ≡ length (y ∷ ys) = omega (arith, l) in sym (ap (λ n. comes_before (replicate n 48) (y ∷ ys)) k ∙ zeros_before (y ∷ ys) h s)
pad_left (x ∷ xs) [] e h l s = absurd (omega (arith, l))
pad_left (x ∷ []) (y ∷ []) zero h l s = refl
pad_left (x ∷ []) (y ∷ []) (suc e) h l s = absurd (omega (arith, l))
pad_left (x ∷ z ∷ xs) (y ∷ []) e h l s = absurd (omega (arith, l))
pad_left (x ∷ xs) (y ∷ z ∷ ys) e (digit a h) l s = ap (λ b. cond (eqb x y) b (nat_lt x y)) (pad_left xs (z ∷ ys) e h (omega (arith, l)) s)

pad_right : (xs ys : List ℕ) (k : ℕ) → Digits xs → length xs ≡ length ys + k → comes_before xs ys ≡ comes_before xs (ys ++ replicate k 48)
pad_right [] [] zero h l = refl
pad_right [] [] (suc k) h l = absurd (omega (arith, l))
pad_right (x ∷ xs) [] k h l = sym (none_before (x ∷ xs) k h (omega (arith, l)))
pad_right [] (y ∷ ys) k h l = absurd (omega (arith, l))
pad_right (x ∷ xs) (y ∷ ys) k (digit a h) l = ap (λ b. cond (eqb x y) b (nat_lt x y)) (pad_right xs ys k h (omega (arith, l)))

-- a numeral that is not zero
pub numeral_low : {x : ℤ} (ds : List ℕ) → Numeral x ds → (ds ≡ 48 ∷ []) × (x ≡ pos 0) ⊎ (10 ^ (length ds - 1) ≤ value ds)
numeral_low ds zero_numeral = inl (refl, refl)
numeral_low (d ∷ ds) (numeral a b h) = let e : length (d ∷ ds) - 1 ≡ length ds = omega arith in inr (subst (λ n. 10 ^ n ≤ value (d ∷ ds)) (sym e) (value_above d ds a))

-- the bound, which B is, has 309 digits
module _ (B : ℕ) (fb : List ℕ) (g : Numeral (pos 0) fb) (l : length fb ≡ 309) (s : sound_end fb ≡ true) (v : value fb ≡ B) where
  abbrev pub below : ℤ → ℕ → Bool
  below (pos e) w = nat_lt (w * 10 ^ e) B
  below (negsuc e) w = nat_lt w (B * 10 ^ suc e)

  low : 10 ^ 308 ≤ B
  low = ⊎_elim
      (λ z. absurd (let e : length fb ≡ 1 = ap length z.0 in omega (arith, e, l)))
      (λ z. subst (λ n. 10 ^ 308 ≤ n) v (subst (λ n. 10 ^ n ≤ value fb) (let e : length fb - 1 ≡ 308 = omega (arith, l) in e) z))
      (numeral_low fb g)

  high : B < 10 ^ 309
  high = subst (λ n. n < 10 ^ 309) v (subst (λ n. value fb < 10 ^ n) l (value_below fb (digits_of g)))

  raised : (ds : List ℕ) (e : ℕ) → Digits ds → value ds * 10 ^ e < 10 ^ (length ds + e)
  raised ds e h =
      let m : (value ds + 1) * 10 ^ e ≤ 10 ^ length ds * 10 ^ e = mul-le-mul_right (10 ^ e) (omega (arith, value_below ds h)) in
      let p = pow-add 10 (length ds) e in
      let q = add-mul (value ds) 1 (10 ^ e) in
      let o : 1 ≤ 10 ^ e = tens 0 e (omega arith) in
      omega (arith, m, p, q, o)

  positive_at : (ds : List ℕ) (e : ℕ) → Numeral (pos e) ds → length ds + e ≡ 309 → comes_before ds fb ≡ nat_lt (value ds * 10 ^ e) B
  positive_at ds e h k =
      let ls : length ds + e ≡ length fb = omega (arith, k, l) in
      let lz : length (ds ++ replicate e 48) ≡ length fb = omega (arith, k, l, length-append ds (replicate e 48), length-replicate {A = ℕ} e 48) in
      pad_left ds fb e (digits_of g) ls s
      ∙ (before_worth (ds ++ replicate e 48) fb (digits_join (digits_of h) (zeros_digits e)) (digits_of g) lz
      ∙ (ap (λ n. nat_lt n (value fb)) (value-zeros ds e) ∙ ap (nat_lt (value ds * 10 ^ e)) v))

  positive_off : (ds : List ℕ) (e : ℕ) → Numeral (pos e) ds → (length ds + e ≡ 309 → ⊥) → nat_lt (length ds + e) 309 ≡ nat_lt (value ds * 10 ^ e) B
  positive_off ds e h n = ⊎_elim
      (λ z. lt-ltb (length ds + e) 309 z ∙ sym (lt-ltb (value ds * 10 ^ e) B (
      let t : 10 ^ (length ds + e) ≤ 10 ^ 308 = tens (length ds + e) 308 (omega (arith, z)) in
      let r = raised ds e (digits_of h) in omega (arith, t, r, low))))
      (λ z. le-ltb (length ds + e) 309 z ∙ sym (le-ltb (value ds * 10 ^ e) B (⊎_elim
      (λ w. absurd (let a : length ds ≡ 1 = ap length w.0 in let b : e ≡ 0 = cc (w.1) in omega (arith, a, b, z)))
      (λ w.
      let m : 10 ^ (length ds - 1) * 10 ^ e ≤ value ds * 10 ^ e = mul-le-mul_right (10 ^ e) w in
      let p = pow-add 10 (length ds - 1) e in
      let t : 10 ^ 309 ≤ 10 ^ (length ds - 1 + e) = tens 309 (length ds - 1 + e) (omega (arith, z, n)) in
      omega (arith, m, p, t, high))
      (numeral_low ds h))))
      (cases_lt (length ds + e) 309)

  negative_at : (ds : List ℕ) (e : ℕ) → Numeral (negsuc e) ds → length ds - suc e ≡ 309 → comes_before ds fb ≡ nat_lt (value ds) (B * 10 ^ suc e)
  negative_at ds e h k =
      let ls : length ds ≡ length fb + suc e = omega (arith, k, l) in
      let lz : length ds ≡ length (fb ++ replicate (suc e) 48) = omega (arith, ls, length-append fb (replicate (suc e) 48), length-replicate {A = ℕ} (suc e) 48) in
      pad_right ds fb (suc e) (digits_of h) ls
      ∙ (before_worth ds (fb ++ replicate (suc e) 48) (digits_of h) (digits_join (digits_of g) (zeros_digits (suc e))) lz
      ∙ ap (nat_lt (value ds)) (value-zeros fb (suc e) ∙ ap (λ n. n * 10 ^ suc e) v))

  negative_off : (ds : List ℕ) (e : ℕ) → Numeral (negsuc e) ds → (length ds - suc e ≡ 309 → ⊥) → nat_lt (length ds - suc e) 309 ≡ nat_lt (value ds) (B * 10 ^ suc e)
  negative_off ds e h n = ⊎_elim
      (λ z. lt-ltb (length ds - suc e) 309 z ∙ sym (lt-ltb (value ds) (B * 10 ^ suc e) (
      let t : 10 ^ length ds ≤ 10 ^ (308 + suc e) = tens (length ds) (308 + suc e) (omega (arith, z)) in
      let p = pow-add 10 308 (suc e) in
      let m : 10 ^ 308 * 10 ^ suc e ≤ B * 10 ^ suc e = mul-le-mul_right (10 ^ suc e) low in
      let r = value_below ds (digits_of h) in omega (arith, t, p, m, r))))
      (λ z. le-ltb (length ds - suc e) 309 z ∙ sym (le-ltb (value ds) (B * 10 ^ suc e) (⊎_elim
      (λ w. absurd (cc (w.1)))
      (λ w.
      let t : 10 ^ (309 + suc e) ≤ 10 ^ (length ds - 1) = tens (309 + suc e) (length ds - 1) (omega (arith, z, n)) in
      let p = pow-add 10 309 (suc e) in
      let m : B * 10 ^ suc e ≤ 10 ^ 309 * 10 ^ suc e = mul-le-mul_right (10 ^ suc e) (omega (arith, high)) in
      omega (arith, t, p, m, w))
      (numeral_low ds h))))
      (cases_lt (length ds - suc e) 309)

  pub at_bound : (x : ℤ) (ds : List ℕ) (p : ℕ) → Numeral x ds → p ≡ places_of x (length ds) → p ≡ 309 → comes_before ds fb ≡ below x (value ds)
  at_bound (pos e) ds p h q k = positive_at ds e h (omega (arith, q, k))
  at_bound (negsuc e) ds p h q k = negative_at ds e h (omega (arith, q, k))

  pub off_bound : (x : ℤ) (ds : List ℕ) (p : ℕ) → Numeral x ds → p ≡ places_of x (length ds) → (p ≡ 309 → ⊥) → nat_lt p 309 ≡ below x (value ds)
  off_bound (pos e) ds p h q n =
      tests_agree p 309 (length ds + e) 309 (λ z. omega (arith, z, q)) (λ z. omega (arith, z, q)) ∙ positive_off ds e h (λ k. n (omega (arith, k, q)))
  off_bound (negsuc e) ds p h q n = ap (λ k. nat_lt k 309) q ∙ negative_off ds e h (λ k. n (omega (arith, k, q)))

-- 2 ^ 1024 - 2 ^ 970, by its digits
pub finite_at : (fb : List ℕ) → all_digits fb && sound_end fb ≡ true → Numeral (pos 0) fb → length fb ≡ 309 → value fb ≡ float_bound
    → (x : ℤ) (ds : List ℕ) (p : ℕ) → Numeral x ds → p ≡ places_of x (length ds) → p ≡ 309 → comes_before ds fb ≡ below_bound x (value ds)
finite_at fb t g l v (pos e) ds p = at_bound float_bound fb g l (and_parts (all_digits fb) (sound_end fb) t).1 v (pos e) ds p
finite_at fb t g l v (negsuc e) ds p = at_bound float_bound fb g l (and_parts (all_digits fb) (sound_end fb) t).1 v (negsuc e) ds p

pub finite_off : (fb : List ℕ) → all_digits fb && sound_end fb ≡ true → Numeral (pos 0) fb → length fb ≡ 309 → value fb ≡ float_bound
    → (x : ℤ) (ds : List ℕ) (p : ℕ) → Numeral x ds → p ≡ places_of x (length ds) → (p ≡ 309 → ⊥) → nat_lt p 309 ≡ below_bound x (value ds)
finite_off fb t g l v (pos e) ds p = off_bound float_bound fb g l (and_parts (all_digits fb) (sound_end fb) t).1 v (pos e) ds p
finite_off fb t g l v (negsuc e) ds p = off_bound float_bound fb g l (and_parts (all_digits fb) (sound_end fb) t).1 v (negsuc e) ds p

-- digits that begin with no zero, by tests
pub numeral_by : (d : ℕ) (ds : List ℕ) → leb 49 d && (leb d 57 && all_digits ds) ≡ true → Numeral (pos 0) (d ∷ ds)
numeral_by d ds h =
    let a = and_parts (leb 49 d) _ h in
    let b = and_parts (leb d 57) _ a.1 in
    numeral (leb-true 49 d a.0) (leb-true d 57 b.0) (digits_by ds b.1)
