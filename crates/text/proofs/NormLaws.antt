-- Laws of what numbers write, and of their normal forms.
use Rattle.std.proofs.Common.{◌≡◌, ℕ, zero, suc, ◌+◌, ◌-◌, ◌*◌, ◌^◌, ◌<◌, ◌≤◌, Bool, true, false, cond, eqb, ◌≢◌, List, [], ◌∷◌, ◌++◌, length, get_or, take, drop, replicate, ℤ, pos, ◌-ℤ◌, neg_ℤ, sym, refl, ap, ◌∙◌, subst, inl, inr, ⊎_elim, append-nil, mul_assoc, mul-pos, zero-mul, mul-one, mul_right_comm, arith, length-append, length-drop, pow-add}
use lib.Seq.{take-append_seam}
use native.Mathlib.Nat.{eq_of_mul-eq-mul_right, pow-succ'}
use Rattle.std.proofs.lemmas.Bool.{cases_lt}
use Rattle.std.proofs.lemmas.List.{take-append-drop, take_more, take_all, get_or-take, get_or-drop, length-take-le, get_or_append_left, length-replicate}
use Rattle.std.proofs.lemmas.Int.{ints}
use Rattle.text.specs.declared.number.NumberKind.TheVariants.{Whole}
use Rattle.text.specs.declared.decimal.Scale.{Scale}
use Rattle.text.specs.NumberGrammar.{IsDigit, Digits, digit, IsInt, zero_int, int, IsMark, Optional, without, with, IsMinus, minus, IsSign, sign_minus, sign_plus, IsFrac, frac, IsExp, exp, Number, kind_of}
use Rattle.text.specs.NumberWorth.{after, value, Power, no_power, plain, more, less, Fraction, no_fraction, fraction, Minus, no_minus, one_minus, Writes, Equal, SameWorth, below, NumbersWrite, WritersAreNumbers, WritesOnce, WorthIsEquivalence}
use Rattle.text.specs.NormalForm.{Each, Form, form_zero, form, Normal, FormsAreUnique, EqualNumbersEqualForms, EqualFormsEqualNumbers, WholesAreUnique, WholeForm, whole_zero, whole_above, whole_below, WholeOf, WholeNormal, OfWhole, Signs, Trimmed}
use Rattle.std.proofs.lemmas.List.{nil_from_length}
use Rattle.text.proofs.NormValues.{after-append, after-ge, value-zeros, each_of, each_left, by_minus, by_plus, by_other, by_nothing, positive}
use Rattle.text.proofs.NormCuts.{stops_power, stops_both, int_digits, head, tail, power_point, digits_cut, minus_first, minus_shorter, int_first}
use Rattle.text.proofs.NormSettle.{below_some, ten_pos, zero_same}

minus_cut : {m k : List ℕ} {n o : Bool} (r s : List ℕ) → Minus m n → Minus k o → get_or r 0 0 ≢ 45 → get_or s 0 0 ≢ 45 → m ++ r ≡ k ++ s → (n ≡ o) × (r ≡ s)
minus_cut r s no_minus no_minus a b e = (refl, e)
minus_cut r s no_minus one_minus a b e = absurd (a (ap (λ l. get_or l 0 0) e))
minus_cut r s one_minus no_minus a b e = absurd (b (sym (ap (λ l. get_or l 0 0) e)))
minus_cut r s one_minus one_minus a b e = (refl, ap tail e)

fraction_cut : {f g ds es x y : List ℕ} {p q : ℤ} → Fraction f ds → Fraction g es → Power x p → Power y q → f ++ x ≡ g ++ y → (ds ≡ es) × (x ≡ y)
fraction_cut no_fraction no_fraction u v e = (refl, e)
fraction_cut no_fraction (fraction d w) u v e = absurd (power_point u (ap head e))
fraction_cut (fraction d w) no_fraction u v e = absurd (power_point v (sym (ap head e)))
fraction_cut {x = x} {y = y} (fraction d w) (fraction c z) u v e = digits_cut x y (digit d w) (digit c z) (stops_power u) (stops_power v) (ap tail e)

power_once : {e : List ℕ} {p q : ℤ} → Power e p → Power e q → p ≡ q
power_once no_power b = by_nothing b
power_once (plain m d r) b = sym (by_other (λ r e. omega (arith, ap head e)) (λ r e. omega (arith, ap head e)) b).0
power_once (more m d r) b = sym (by_plus b).0
power_once (less m d r) b = sym (by_minus b).0

pub writes_once : WritesOnce
writes_once text n m a b s t v w =
    let x = minus_cut (v.i ++ (v.f ++ v.e)) (w.i ++ (w.f ++ w.e)) v.sign w.sign (int_first (v.f ++ v.e) v.whole) (int_first (w.f ++ w.e) w.whole) (sym v.spelled ∙ w.spelled) in
    let y = digits_cut (v.f ++ v.e) (w.f ++ w.e) (int_digits v.whole) (int_digits w.whole) (stops_both v.part v.power) (stops_both w.part w.power) x.1 in
    let z = fraction_cut v.part w.part v.power w.power y.1 in
    let p : v.p ≡ w.p = power_once (subst (λ l. Power l v.p) z.1 v.power) w.power in (
      x.0,
      v.amounts ∙ ap (λ l. value l * 10 ^ length v.ds + value v.ds) y.0 ∙ ap (λ l. value w.i * 10 ^ length l + value l) z.0 ∙ sym w.amounts,
      v.scales ∙ ap (λ k. k -ℤ pos (length v.ds)) p ∙ ap (λ l. w.p -ℤ pos (length l)) z.0 ∙ sym w.scales,
      p,
    )

-- the grammar's parts write something
minus_of : {m : List ℕ} → Optional IsMinus m → (n : Bool) × Minus m n
minus_of without = (false, no_minus)
minus_of (with minus) = (true, one_minus)

fraction_of : {f : List ℕ} → Optional IsFrac f → (ds : List ℕ) × Fraction f ds
fraction_of without = ([], no_fraction)
fraction_of (with (frac {d} {ds} a r)) = (d ∷ ds, fraction a r)

exp_of : {e d : ℕ} {s ds : List ℕ} → IsMark e → Optional IsSign s → IsDigit d → Digits ds → (p : ℤ) × Power (e ∷ (s ++ d ∷ ds)) p
exp_of {d = d} {ds = ds} m without a r = (pos (value (d ∷ ds)), plain m a r)
exp_of {d = d} {ds = ds} m (with sign_plus) a r = (pos (value (d ∷ ds)), more m a r)
exp_of {d = d} {ds = ds} m (with sign_minus) a r = (neg_ℤ (pos (value (d ∷ ds))), less m a r)

power_of : {e : List ℕ} → Optional IsExp e → (p : ℤ) × Power e p
power_of without = (pos 0, no_power)
power_of (with (exp m s a r)) = exp_of m s a r

pub numbers_write : NumbersWrite
numbers_write text kind x =
    let n = minus_of x.sign in
    let f = fraction_of x.fraction in
    let p = power_of x.exponent in
    record {
      negative = n.0;
      amount = value x.i * 10 ^ length f.0 + value f.0;
      scale = p.0 -ℤ pos (length f.0);
      writes = record {
        m = x.m;
        i = x.i;
        f = x.f;
        e = x.e;
        ds = f.0;
        p = p.0;
        sign = n.1;
        whole = x.whole;
        part = f.1;
        power = p.1;
        spelled = x.spelled;
        amounts = refl;
        scales = refl;
      };
    }

-- and what writes something is made of the grammar's parts
of_minus : {m : List ℕ} {n : Bool} → Minus m n → Optional IsMinus m
of_minus no_minus = without
of_minus one_minus = with minus

of_fraction : {f ds : List ℕ} → Fraction f ds → Optional IsFrac f
of_fraction no_fraction = without
of_fraction (fraction a r) = with (frac a r)

of_power : {e : List ℕ} {p : ℤ} → Power e p → Optional IsExp e
of_power no_power = without
of_power (plain m a r) = with (exp {s = []} m without a r)
of_power (more m a r) = with (exp {s = 43 ∷ []} m (with sign_plus) a r)
of_power (less m a r) = with (exp {s = 45 ∷ []} m (with sign_minus) a r)

pub writers_are_numbers : WritersAreNumbers
writers_are_numbers text x =
    let w = x.writes in
    record {
      kind = kind_of w.f w.e;
      number = record {
        m = w.m;
        i = w.i;
        f = w.f;
        e = w.e;
        sign = of_minus w.sign;
        whole = w.whole;
        fraction = of_fraction w.part;
        exponent = of_power w.power;
        spelled = w.spelled;
        kinds = refl;
      };
    }

-- equal at some common exponent is equal at the lesser
level_up : (a b k l : ℕ) → k ≤ l → a * 10 ^ k ≡ b * 10 ^ l → a ≡ b * 10 ^ (l - k)
level_up a b k l h e =
    let there : (l - k) + k ≡ l = omega arith in
    let one : b * 10 ^ l ≡ (b * 10 ^ (l - k)) * 10 ^ k = ap (λ n. b * 10 ^ n) (sym there) ∙ ap (λ n. b * n) (pow-add 10 (l - k) k) ∙ sym (mul_assoc b (10 ^ (l - k)) (10 ^ k)) in
    eq_of_mul-eq-mul_right (10 ^ k) (ten_pos k) a (b * 10 ^ (l - k)) (e ∙ one)

leveled : (a b k l : ℕ) (e f : ℤ) → e -ℤ pos k ≡ f -ℤ pos l → a * 10 ^ k ≡ b * 10 ^ l → Equal a e b f
leveled a b k l e f h s = ⊎_elim
    (λ lt. record { k = 0; l = l - k; least = inl refl; level = omega (arith, ints); same = mul-one a ∙ level_up a b k l (omega arith) s })
    (λ le. record { k = k - l; l = 0; least = inr refl; level = omega (arith, ints); same = sym (mul-one b ∙ level_up b a l k le (sym s)) })
    (cases_lt k l)

equal_itself : (a : ℕ) (e : ℤ) → Equal a e a e
equal_itself a e = record { k = 0; l = 0; least = inl refl; level = refl; same = refl }

equal_back : {a b : ℕ} {e f : ℤ} → Equal a e b f → Equal b f a e
equal_back x = record { k = x.l; l = x.k; least = ⊎_elim inr inl x.least; level = sym x.level; same = sym x.same }

equal_onward : {a b c : ℕ} {e f g : ℤ} → Equal a e b f → Equal b f c g → Equal a e c g
equal_onward {a} {b} {c} {e} {f} {g} x y =
    let one : a * 10 ^ (x.k + y.k) ≡ (b * 10 ^ x.l) * 10 ^ y.k = ap (λ n. a * n) (pow-add 10 x.k y.k) ∙ sym (mul_assoc a (10 ^ x.k) (10 ^ y.k)) ∙ ap (λ n. n * 10 ^ y.k) x.same in
    let two : (b * 10 ^ x.l) * 10 ^ y.k ≡ (c * 10 ^ y.l) * 10 ^ x.l = mul_right_comm b (10 ^ x.l) (10 ^ y.k) ∙ ap (λ n. n * 10 ^ x.l) y.same in
    let three : (c * 10 ^ y.l) * 10 ^ x.l ≡ c * 10 ^ (y.l + x.l) = mul_assoc c (10 ^ y.l) (10 ^ x.l) ∙ ap (λ n. c * n) (sym (pow-add 10 y.l x.l)) in
    let high = x.level in
    let low = y.level in
    leveled a c (x.k + y.k) (y.l + x.l) e g (omega (arith, ints, high, low)) (one ∙ two ∙ three)

pub same_back : {n m : Bool} {a b : ℕ} {e f : ℤ} → SameWorth n a e m b f → SameWorth m b f n a e
same_back x = record { signs = sym x.signs; amounts = equal_back x.amounts }

pub same_onward : {n m o : Bool} {a b c : ℕ} {e f g : ℤ} → SameWorth n a e m b f → SameWorth m b f o c g → SameWorth n a e o c g
same_onward x y = record { signs = x.signs ∙ y.signs; amounts = equal_onward x.amounts y.amounts }

pub worth_is_equivalence : WorthIsEquivalence
worth_is_equivalence = record {
  itself = λ n a e. record { signs = refl; amounts = equal_itself a e };
  back = same_back;
  onward = same_onward;
}

-- digits of one length that write the same are the same
same_length : (v w : ℕ) (xs ys : List ℕ) → Each xs → Each ys → length xs ≡ length ys → after v xs ≡ after w ys → (v ≡ w) × (xs ≡ ys)
same_length v w [] [] a b l e = (e, refl)
same_length v w [] (y ∷ ys) a b l e = absurd (omega arith)
same_length v w (x ∷ xs) [] a b l e = absurd (omega arith)
same_length v w (x ∷ xs) (y ∷ ys) a b l e =
    let r = same_length (v * 10 + (x - 48)) (w * 10 + (y - 48)) xs ys (λ k h. a (suc k) (omega arith)) (λ k h. b (suc k) (omega arith)) (omega arith) e in
    let first = a 0 (omega arith) in
    let other = b 0 (omega arith) in
    let here = r.0 in
    let same : x ≡ y = omega arith in
    (omega arith, λ k. same k ∷ r.1 k)

each_front : (n : ℕ) (xs : List ℕ) → n ≤ length xs → Each xs → Each (take n xs)
each_front n xs h e k l =
    let long : length (take n xs) ≡ n = length-take-le n xs h in
    subst IsDigit (sym (get_or-take n xs k 0 (omega arith))) (e k (omega arith))

each_back : (n : ℕ) (xs : List ℕ) → Each xs → Each (drop n xs)
each_back n xs e k l = subst IsDigit (sym (get_or-drop n xs k 0)) (e (n + k) (omega (arith, length-drop n xs)))

-- digits with no zero before them are not more than others that write the same
no_longer : (xs ys : List ℕ) → Each xs → Each ys → get_or ys 0 0 ≢ 48 → value xs ≡ value ys → length ys ≤ length xs
no_longer xs ys a b n e = ⊎_elim
    (λ lt.
    let d = length ys - length xs in
    let front = take d ys in
    let back = drop d ys in
    let long : length front ≡ d = length-take-le d ys (omega arith) in
    let far : length xs ≡ length back = omega (arith, length-drop d ys) in
    let all : value xs ≡ after (value front) back = e ∙ ap value (sym (take-append-drop d ys)) ∙ after-append 0 front back in
    let nothing = (same_length 0 (value front) xs back a (each_back d ys b) far all).0 in
    let up : 0 < value front = positive front (each_front d ys (omega arith) b) (λ h. n (sym (get_or-take d ys 0 0 (omega arith)) ∙ h)) (omega arith) in
    absurd (omega arith))
    (λ le. le)
    (cases_lt (length xs) (length ys))

-- so digits with no zero before them are told by what they write
value_tells : (xs ys : List ℕ) → Each xs → Each ys → get_or xs 0 0 ≢ 48 → get_or ys 0 0 ≢ 48 → value xs ≡ value ys → xs ≡ ys
value_tells xs ys a b m n e =
    let less-or-same = no_longer xs ys a b n e in
    let more-or-same = no_longer ys xs b a m (sym e) in
    (same_length 0 0 xs ys a b (omega arith) e).1

-- digits with no zero at the end write no multiple of ten
no_ten : (ds : List ℕ) (w : ℕ) → Each ds → 0 < length ds → get_or ds (length ds - 1) 0 ≢ 48 → value ds ≡ w * 10 → ⊥
no_ten ds w a h n e =
    let last = length ds - 1 in
    let whole : last + 1 ≡ length ds = omega arith in
    let apart : ds ≡ take last ds ++ get_or ds last 0 ∷ [] = sym (take_all (last + 1) ds (omega arith)) ∙ take_more ds last 0 (omega arith) in
    let v : value ds ≡ value (take last ds) * 10 + (get_or ds last 0 - 48) = ap value apart ∙ after-append 0 (take last ds) (get_or ds last 0 ∷ []) in
    let d = a last (omega arith) in
    omega (arith, v, d.0, d.1, n)

-- with the first exponent the lesser
one_form : (ds es : List ℕ) (x y : ℤ) (l : ℕ) → Each ds → 0 < length ds → get_or ds 0 0 ≢ 48 → get_or ds (length ds - 1) 0 ≢ 48 → Each es → get_or es 0 0 ≢ 48 → x -ℤ pos 0 ≡ y -ℤ pos l → value ds * 10 ^ 0 ≡ value es * 10 ^ l → (x ≡ y) × (ds ≡ es)
one_form ds es x y zero a h f g b n lev e = (omega (arith, ints, lev), value_tells ds es a b f n (omega arith))
one_form ds es x y (suc l) a h f g b n lev e =
    let ten : value es * 10 ^ suc l ≡ (value es * 10 ^ l) * 10 = ap (λ k. value es * k) (pow-succ' 10 l) ∙ sym (mul_assoc (value es) 10 (10 ^ l)) ∙ mul_right_comm (value es) 10 (10 ^ l) in
    absurd (no_ten ds (value es * 10 ^ l) a h g (sym (mul-one (value ds)) ∙ e ∙ ten))

never_zero : (k l : ℕ) (ds : List ℕ) → Each ds → 0 < length ds → get_or ds 0 0 ≢ 48 → 0 * 10 ^ k ≡ value ds * 10 ^ l → ⊥
never_zero k l ds a h n e =
    let up : 0 < value ds * 10 ^ l = mul-pos (positive ds a n h) (ten_pos l) in
    omega (arith, zero-mul (10 ^ k), e)

forms_go : {n m : Bool} {x y : ℤ} {ds es : List ℕ} → Form n x ds → Form m y es → SameWorth n (value ds) x m (value es) y → (n ≡ m) × (x ≡ y) × (ds ≡ es)
forms_go form_zero form_zero w = (refl, refl, refl)
forms_go {es = es} form_zero (form b k n o) w = absurd (never_zero w.amounts.k w.amounts.l es b k n w.amounts.same)
forms_go {ds = ds} (form a h f g) form_zero w = absurd (never_zero w.amounts.l w.amounts.k ds a h f (sym w.amounts.same))
forms_go {n} {m} {x} {y} {ds} {es} (form a h f g) (form b k o q) w =
    let q-e = w.amounts in
    let signs : n ≡ m = sym (below_some n (value ds) (positive ds a f h)) ∙ w.signs ∙ below_some m (value es) (positive es b o k) in
    let rest : (x ≡ y) × (ds ≡ es) = ⊎_elim
    (λ z. one_form ds es x y q-e.l a h f g b o (subst (λ i. x -ℤ pos i ≡ y -ℤ pos q-e.l) z q-e.level) (subst (λ i. value ds * 10 ^ i ≡ value es * 10 ^ q-e.l) z q-e.same))
    (λ z.
    let r = one_form es ds y x q-e.k b k o q a f (sym (subst (λ i. x -ℤ pos q-e.k ≡ y -ℤ pos i) z q-e.level)) (sym (subst (λ i. value ds * 10 ^ q-e.k ≡ value es * 10 ^ i) z q-e.same)) in
    (sym r.0, sym r.1))
    q-e.least in
    (signs, rest.0, rest.1)

pub forms_are_unique : FormsAreUnique
forms_are_unique n m x y ds es f g w = forms_go f g w

scale_same : (d e : Scale) → d.negative ≡ e.negative → d.exponent ≡ e.exponent → d ≡ e
scale_same d e p q = λ i. record { negative = p i; exponent = q i }

pub equal_numbers_equal_forms : EqualNumbersEqualForms
equal_numbers_equal_forms xs ys ds es d e n m a b s t x y v w z =
    let r = forms_go x.formed y.formed (same_onward (same_back (x.worth n a s v)) (same_onward z (y.worth m b t w))) in
    (scale_same d e r.0 r.1, r.2)

pub equal_forms_equal_numbers : EqualFormsEqualNumbers
equal_forms_equal_numbers xs ys ds d n m a b s t x y v w = same_onward (x.worth n a s v) (same_back (y.worth m b t w))

-- whole numbers
pub record WholeParts (text : List ℕ) : Type 0 where
  pub m : List ℕ
  pub i : List ℕ
  pub n : Bool
  pub sign : Minus m n
  pub whole : IsInt i
  pub spelled : text ≡ m ++ i

whole_kind : (f e : List ℕ) → Whole ≡ kind_of f e → f ++ e ≡ []
whole_kind [] [] h = refl
whole_kind [] (x ∷ xs) h = absurd (let z : ◌≡◌ {A = ℕ} 0 1 = cc in omega arith)
whole_kind (x ∷ xs) e h = absurd (let z : ◌≡◌ {A = ℕ} 0 1 = cc in omega arith)

pub whole_parts : {text : List ℕ} → Number text Whole → WholeParts text
whole_parts x =
    let s = minus_of x.sign in
    record {
      m = x.m;
      i = x.i;
      n = s.0;
      sign = s.1;
      whole = x.whole;
      spelled = x.spelled ∙ ap (λ l. x.m ++ (x.i ++ l)) (whole_kind x.f x.e x.kinds) ∙ ap (λ l. x.m ++ l) (append-nil x.i);
    }

pub whole_writes : {text : List ℕ} (x : WholeParts text) → Writes text x.n (value x.i) (pos 0)
whole_writes x = record {
  m = x.m;
  i = x.i;
  f = [];
  e = [];
  ds = [];
  p = pos 0;
  sign = x.sign;
  whole = x.whole;
  part = no_fraction;
  power = no_power;
  spelled = x.spelled ∙ ap (λ l. x.m ++ l) (sym (append-nil x.i));
  amounts = omega arith;
  scales = refl;
}

-- what a whole number writes is told by its parts
whole_tells : {text : List ℕ} (x : WholeParts text) (n : Bool) (a : ℕ) (s : ℤ) → Writes text n a s → (n ≡ x.n) × (a ≡ value x.i) × (s ≡ pos 0)
whole_tells {text} x n a s w = let o = writes_once text n x.n a (value x.i) s (pos 0) w (whole_writes x) in (o.0, o.1, o.2)

whole_kept : (text r : List ℕ) (x : WholeParts text) → Number text Whole → r ≡ text → WholeForm text → below x.n (value x.i) ≡ x.n → WholeNormal text r
whole_kept text r x y e f b = record {
  formed = subst WholeForm (sym e) f;
  number = subst (λ l. Number l Whole) (sym e) y;
  worth = λ n a s w.
      let o = whole_tells x n a s w in
      let here : below n a ≡ n = (λ k. below (o.0 k) (o.1 k)) ∙ b ∙ sym o.0 in
      subst (λ k. Writes r k a s) (sym here) (subst (λ l. Writes l n a s) (sym e) w);
}

zero_number : Number (48 ∷ []) Whole
zero_number = record { m = []; i = 48 ∷ []; f = []; e = []; sign = without; whole = zero_int; fraction = without; exponent = without; spelled = refl; kinds = refl }

whole_nothing : (text r : List ℕ) → r ≡ 48 ∷ [] → ((n : Bool) (a : ℕ) (s : ℤ) → Writes text n a s → (a ≡ 0) × (s ≡ pos 0)) → WholeNormal text r
unfolding whole_parts minus_of zero_number
whole_nothing text r e all = record {
  formed = subst WholeForm (sym e) whole_zero;
  number = subst (λ l. Number l Whole) (sym e) zero_number;
  worth = λ n a s w.
      let o = all n a s w in
      let zero-writes : Writes (48 ∷ []) false 0 (pos 0) = whole_writes (whole_parts zero_number) in
      let at : Writes r false 0 (pos 0) = subst (λ l. Writes l false 0 (pos 0)) (sym e) zero-writes in
      subst (λ k. Writes r k a s) (sym (ap (below n) o.0)) (subst (λ k. Writes r false a k) (sym o.1) (subst (λ k. Writes r false k (pos 0)) (sym o.0) at));
}

below_false : (a : ℕ) → below false a ≡ false
below_false a = let P : Bool → Type 0 = λ b. cond b false false ≡ false in elim (eqb a 0) as P [ true ↦ refl | false ↦ refl ]

int_positive : {d : ℕ} (ds : List ℕ) → 49 ≤ d → 0 < value (d ∷ ds)
int_positive {d} ds h = omega (arith, after-ge (0 * 10 + (d - 48)) ds)

whole_go : {m i : List ℕ} {n : Bool} (text r : List ℕ) → Number text Whole → WholeOf text r → Minus m n → IsInt i → text ≡ m ++ i → WholeNormal text r
whole_go text r y o no_minus zero_int e =
    let x : WholeParts text = record { m = []; i = 48 ∷ []; n = false; sign = no_minus; whole = zero_int; spelled = e } in
    whole_kept text r x y (o.other (λ h. omega (arith, ap length (sym e ∙ h)))) (subst WholeForm (sym e) whole_zero) refl
whole_go text r y o no_minus (int {d} {ds} h k w) e =
    let x : WholeParts text = record { m = []; i = d ∷ ds; n = false; sign = no_minus; whole = int h k w; spelled = e } in
    whole_kept text r x y (o.other (λ b. omega (arith, ap (λ l. get_or l 0 0) (sym e ∙ b)))) (subst WholeForm (sym e) (whole_above h k w)) (below_false (value (d ∷ ds)))
whole_go text r y o one_minus zero_int e =
    let x : WholeParts text = record { m = 45 ∷ []; i = 48 ∷ []; n = true; sign = one_minus; whole = zero_int; spelled = e } in
    whole_nothing text r (o.zero e) (λ n a s w. let t = whole_tells x n a s w in (t.1, t.2))
whole_go text r y o one_minus (int {d} {ds} h k w) e =
    let x : WholeParts text = record { m = 45 ∷ []; i = d ∷ ds; n = true; sign = one_minus; whole = int h k w; spelled = e } in
    whole_kept text r x y (o.other (λ b. omega (arith, ap (λ l. get_or l 1 0) (sym e ∙ b)))) (subst WholeForm (sym e) (whole_below h k w)) (below_some true (value (d ∷ ds)) (int_positive ds h))

pub whole_normal : (text r : List ℕ) → WholeOf text r → Number text Whole → WholeNormal text r
whole_normal text r o y = let x = whole_parts y in whole_go text r y o x.sign x.whole x.spelled

-- a whole number in normal form has a minus just where it is below zero
form_parts : {xs : List ℕ} → WholeForm xs → (x : WholeParts xs) × (below x.n (value x.i) ≡ x.n)
form_parts whole_zero = (record { m = []; i = 48 ∷ []; n = false; sign = no_minus; whole = zero_int; spelled = refl }, refl)
form_parts (whole_above {d} {ds} h k w) = (record { m = []; i = d ∷ ds; n = false; sign = no_minus; whole = int h k w; spelled = refl }, below_false (value (d ∷ ds)))
form_parts (whole_below {d} {ds} h k w) = (record { m = 45 ∷ []; i = d ∷ ds; n = true; sign = one_minus; whole = int h k w; spelled = refl }, below_some true (value (d ∷ ds)) (int_positive ds h))

int_tells : {i j : List ℕ} → IsInt i → IsInt j → value i ≡ value j → i ≡ j
int_tells zero_int zero_int e = refl
int_tells zero_int (int {d} {ds} h k w) e = absurd (omega (arith, int_positive ds h))
int_tells (int {d} {ds} h k w) zero_int e = absurd (omega (arith, int_positive ds h))
int_tells (int {d} {ds} h k w) (int {d = c} {ds = cs} g l v) e = value_tells (d ∷ ds) (c ∷ cs) (each_of (int_digits (int h k w))) (each_of (int_digits (int g l v))) (λ z. omega arith) (λ z. omega arith) e

minus_tells : {m k : List ℕ} {n : Bool} → Minus m n → Minus k n → m ≡ k
minus_tells no_minus no_minus = refl
minus_tells one_minus one_minus = refl

-- at one exponent equal amounts are the same
equal_amounts : (a b : ℕ) (e : ℤ) → Equal a e b e → a ≡ b
equal_amounts a b e x =
    let high = x.level in
    let both : x.k ≡ x.l = omega (arith, ints, high) in
    eq_of_mul-eq-mul_right (10 ^ x.l) (ten_pos x.l) a b (ap (λ k. a * 10 ^ k) (sym both) ∙ x.same)

pub wholes_are_unique : WholesAreUnique
wholes_are_unique xs ys n m a b s t f g v w z =
    let p = form_parts f in
    let q = form_parts g in
    let x = p.0 in
    let y = q.0 in
    let o = whole_tells x n a s v in
    let u = whole_tells y m b t w in
    let amounts : a ≡ b = equal_amounts a b (pos 0) (subst (λ k. Equal a k b (pos 0)) o.2 (subst (λ k. Equal a s b k) u.2 z.amounts)) in
    let values : value x.i ≡ value y.i = sym o.1 ∙ amounts ∙ u.1 in
    let signs : x.n ≡ y.n = sym ((λ k. below (o.0 k) (o.1 k)) ∙ p.1) ∙ z.signs ∙ (λ k. below (u.0 k) (u.1 k)) ∙ q.1 in
    let minuses : x.m ≡ y.m = minus_tells (subst (Minus x.m) signs x.sign) y.sign in
    let ints-same : x.i ≡ y.i = int_tells x.whole y.whole values in
    x.spelled ∙ ap (λ l. l ++ x.i) minuses ∙ ap (λ l. y.m ++ l) ints-same ∙ sym y.spelled

-- a whole number as a decimal
int_zero : {i : List ℕ} (z : ℕ) → IsInt i → i ≡ replicate z 48 → i ≡ 48 ∷ []
int_zero z zero_int e = refl
int_zero zero (int h k w) e = absurd (omega (arith, ap length e))
int_zero (suc z) (int h k w) e = absurd (omega (arith, ap head e))

int_some : {i : List ℕ} (ds : List ℕ) (z : ℕ) → IsInt i → i ≡ ds ++ replicate z 48 → 0 < length ds → get_or ds (length ds - 1) 0 ≢ 48 → get_or ds 0 0 ≢ 48
int_some ds z zero_int e h n =
    let long : 1 ≡ length ds + z = simp (length-append, length-replicate) at (ap length e) in
    let one : length ds - 1 ≡ 0 = omega arith in
    subst (λ k. get_or ds k 0 ≢ 48) one n
int_some ds z (int a b w) e h n = λ k. omega (arith, ap (λ l. get_or l 0 0) e, get_or_append_left ds (replicate z 48) 0 0 h, k)

int_not_minus : {i : List ℕ} → IsInt i → get_or i 0 0 ≢ 45
int_not_minus zero_int h = omega arith
int_not_minus (int a b r) h = omega arith

-- the digits after the minus
after_minus : (text : List ℕ) (neg : Bool) (digits : List ℕ) → Signs text neg digits → (x : WholeParts text) → (x.n ≡ neg) × (digits ≡ x.i)
after_minus text neg digits g x = minus_first g x.sign x.spelled (int_not_minus x.whole)

-- the digits stand in the text
digits_there : (text digits : List ℕ) (neg : Bool) → Signs text neg digits → drop (length text - length digits) text ≡ digits
digits_there text digits true g = let one : length text - length digits ≡ 1 = omega (arith, ap length g) in ap (λ k. drop k text) one ∙ ap (drop 1) g
digits_there text digits false g = let none : length text - length digits ≡ 0 = omega (arith, ap length g.0) in ap (λ k. drop k text) none ∙ sym g.0

-- those of them that are given back, but for zeros at the end
pub of_whole_told : (text digits ds zs : List ℕ) (neg : Bool) (d : Scale) → Signs text neg digits → digits ≡ ds ++ zs → length text ≤ 1000 → (Number text Whole → Normal text d ds) → OfWhole text d ds
of_whole_told text digits ds zs neg d g e h n =
    let from = length text - length digits in
    let size : from + length ds - from ≡ length ds = omega arith in
    record {
      from = from;
      to = from + length ds;
      forward = omega arith;
      within = omega (arith, ap length e, length-append ds zs, minus_shorter text digits neg g);
      stands = sym (ap (λ k. take k (drop from text)) size ∙ ap (take (length ds)) (digits_there text digits neg g ∙ e) ∙ take-append_seam ds zs);
      normal = λ l. n;
      long = λ l. absurd (omega arith);
    }

pub of_whole_zero : (text : List ℕ) (neg : Bool) (digits kept : List ℕ) → Signs text neg digits → Trimmed digits kept → length kept ≡ 0 → Number text Whole → Normal text (record { negative = false; exponent = pos 0 }) digits
of_whole_zero text neg digits kept g t e y =
    let x = whole_parts y in
    let u = after_minus text neg digits g x in
    let z = length digits - length kept in
    let zeros : x.i ≡ replicate z 48 = sym u.1 ∙ t.zeros ∙ ap (λ l. l ++ replicate z 48) (nil_from_length kept e) in
    let i-zero = int_zero z x.whole zeros in
    subst (Normal text (record { negative = false; exponent = pos 0 })) (sym (u.1 ∙ i-zero))
    (record { formed = form_zero; worth = λ n a s w. zero_same n a s ((whole_tells x n a s w).1 ∙ ap value i-zero) })

pub of_whole_some : (text : List ℕ) (neg : Bool) (digits ds : List ℕ) (p : ℤ) → Signs text neg digits → Trimmed digits ds → 0 < length ds → p ≡ pos (length digits - length ds) → Number text Whole → Normal text (record { negative = neg; exponent = p }) ds
of_whole_some text neg digits ds p g t some q y =
    let x = whole_parts y in
    let u = after_minus text neg digits g x in
    let z = length digits - length ds in
    let all : x.i ≡ ds ++ replicate z 48 = sym u.1 ∙ t.zeros in
    let ends = t.last some in
    let each = each_left ds (replicate z 48) (subst Each all (each_of (int_digits x.whole))) in
    let led = int_some ds z x.whole all some ends in
    let worth_is : value x.i ≡ value ds * 10 ^ z = ap value all ∙ value-zeros ds z in
    let up = positive ds each led some in
    let up-all : 0 < value x.i = subst (λ k. 0 < k) (sym worth_is) (mul-pos up (ten_pos z)) in
    record {
      formed = form each some led ends;
      worth = λ n a s w.
          let o = whole_tells x n a s w in
          let flat = o.2 in
          record {
            signs = below_some n a (omega (arith, o.1)) ∙ o.0 ∙ u.0 ∙ sym (below_some neg (value ds) up);
            amounts = record { k = 0; l = z; least = inl refl; level = omega (arith, ints, flat, q); same = mul-one a ∙ o.1 ∙ worth_is };
          };
    }
