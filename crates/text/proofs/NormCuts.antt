-- Where the runs of digits of a number end.
use Rattle.std.proofs.Common.{◌≡◌, ℕ, suc, ◌+◌, ◌<◌, ◌≤◌, Bool, Bor, true, false, ◌≢◌, List, [], ◌∷◌, ◌++◌, length, get_or, take, drop, ℤ, sym, refl, ap, ◌∙◌, subst, arith, length-append, length-drop}
use Rattle.std.proofs.lemmas.List.{take-append-drop, get_or-take, get_or-drop, length-take-le}
use Rattle.text.specs.NumberGrammar.{IsDigit, Digits, none, digit, IsInt, zero_int, int, IsMark, small_e, great_e}
use Rattle.text.specs.NumberWorth.{Power, no_power, plain, more, less, Fraction, no_fraction, fraction, Minus, no_minus, one_minus}
use Rattle.text.specs.NormalForm.{Each, DigitsFirst, Split, Signs}

-- the bytes begin with no digit
abbrev pub Stops : List ℕ → Type 0
Stops t = 0 < length t → IsDigit (get_or t 0 0) → ⊥

mark_stops : {e : ℕ} → IsMark e → IsDigit e → ⊥
mark_stops small_e d = omega arith
mark_stops great_e d = omega arith

pub stops_power : {e : List ℕ} {p : ℤ} → Power e p → Stops e
stops_power no_power h d = omega arith
stops_power (plain m a r) h d = mark_stops m d
stops_power (more m a r) h d = mark_stops m d
stops_power (less m a r) h d = mark_stops m d

pub stops_both : {f e ds : List ℕ} {p : ℤ} → Fraction f ds → Power e p → Stops (f ++ e)
stops_both no_fraction q h d = stops_power q h d
stops_both (fraction a r) q h d = omega arith

pub int_digits : {i : List ℕ} → IsInt i → Digits i
int_digits zero_int = digit (omega arith, omega arith) none
int_digits (int h k r) = digit (omega arith, omega arith) r

-- bytes of which each is a digit are digits
pub each_digits : (ds : List ℕ) → Each ds → Digits ds
each_digits [] e = none
each_digits (d ∷ ds) e = digit (e 0 (omega arith)) (each_digits ds (λ k h. e (suc k) (omega arith)))

-- the digits at the front of the text, where the first n bytes are digits and the next is none
pub run_first : (text : List ℕ) (n : ℕ) → n ≤ length text → ((k : ℕ) → k < n → IsDigit (get_or text k 0)) → (n < length text → IsDigit (get_or text n 0) → ⊥) → DigitsFirst text (take n text) (drop n text)
run_first text n h all stop =
    let here : get_or (drop n text) 0 0 ≡ get_or text n 0 = get_or-drop n text 0 0 ∙ ap (λ k. get_or text k 0) (let z : n + 0 ≡ n = omega arith in z) in
    record {
      spelled = sym (take-append-drop n text);
      each = λ k l. subst IsDigit (sym (get_or-take n text k 0 (omega (arith, length-take-le n text h)))) (all k (omega (arith, length-take-le n text h)));
      stops = λ l d. stop (omega (arith, length-drop n text)) (subst IsDigit here d);
    }

mark_apart : {e : ℕ} → IsMark e → e ≡ 46 → ⊥
mark_apart small_e d = omega arith
mark_apart great_e d = omega arith

abbrev pub head : List ℕ → ℕ
head [] = 0
head (x ∷ xs) = x

abbrev pub tail : List ℕ → List ℕ
tail [] = []
tail (x ∷ xs) = xs

pub power_point : {e : List ℕ} {p : ℤ} → Power e p → head e ≡ 46 → ⊥
power_point no_power h = omega arith
power_point (plain m a r) h = mark_apart m h
power_point (more m a r) h = mark_apart m h
power_point (less m a r) h = mark_apart m h

pub with_point : {f e ds : List ℕ} {p : ℤ} (ys : List ℕ) → Fraction f ds → Power e p → 46 ∷ ys ≡ f ++ e → Digits ds × (ys ≡ ds ++ e)
with_point ys no_fraction q h = absurd (power_point q (sym (ap head h)))
with_point ys (fraction a r) q h = (digit a r, ap tail h)

pub no_point : {f ds : List ℕ} (e xs : List ℕ) → Fraction f ds → ((r : List ℕ) → xs ≡ 46 ∷ r → ⊥) → xs ≡ f ++ e → (ds ≡ []) × (xs ≡ e)
no_point e xs no_fraction n h = (refl, h)
no_point e xs (fraction {d} {ds} a r) n h = absurd (n (d ∷ ds ++ e) h)

-- digits, and what follows with no digit first, are told apart
pub digits_cut : {i j : List ℕ} (t u : List ℕ) → Digits i → Digits j → Stops t → Stops u → i ++ t ≡ j ++ u → (i ≡ j) × (t ≡ u)
digits_cut t u none none s r e = (refl, e)
digits_cut t u none (digit d w) s r e = absurd (s (omega (arith, ap length e)) (subst IsDigit (sym (ap (λ l. get_or l 0 0) e)) d))
digits_cut t u (digit d w) none s r e = absurd (r (omega (arith, ap length e)) (subst IsDigit (ap (λ l. get_or l 0 0) e) d))
digits_cut t u (digit d w) (digit c v) s r e =
    let rest = digits_cut t u w v s r (ap tail e) in
    let same = ap head e in
    ((λ k. same k ∷ rest.0 k), rest.1)

-- the digits at the front are those that the grammar has there
pub run_cut : {text ds rest : List ℕ} (i t : List ℕ) → DigitsFirst text ds rest → text ≡ i ++ t → Digits i → Stops t → (ds ≡ i) × (rest ≡ t)
run_cut {text} {ds} {rest} i t d e w stop = digits_cut rest t (each_digits ds d.each) w d.stops stop (sym d.spelled ∙ e)

module _ (text : List ℕ) (whole rest : Bor (List ℕ)) (w : DigitsFirst text whole.now rest.now) where
  pub split_point : (places power : Bor (List ℕ)) (after : List ℕ) → rest.now ≡ 46 ∷ after → DigitsFirst after places.now power.now → Split text (record { whole = whole; places = places; power = power })
  split_point places power after b r = record {
    within = omega (arith, ap length w.spelled, length-append whole.now rest.now, ap length b, ap length r.spelled, length-append places.now power.now);
    wholes = w.each;
    fracs = r.each;
    found = λ i f e ds q h v a p.
        let c = run_cut i (f ++ e) w h (int_digits v) (stops_both a p) in
        let y = with_point after a p (sym b ∙ c.1) in
        let z = run_cut ds e r y.1 y.0 (stops_power p) in
        (c.0, z.0, z.1);
  }

  pub split_none : (places power : Bor (List ℕ)) → places.now ≡ [] → power.now ≡ rest.now → ((r : List ℕ) → rest.now ≡ 46 ∷ r → ⊥) → Split text (record { whole = whole; places = places; power = power })
  split_none places power o m n = record {
    within = omega (arith, ap length w.spelled, length-append whole.now rest.now, ap length o);
    wholes = w.each;
    fracs = λ k h. absurd (omega (arith, ap length o));
    found = λ i f e ds q h v a p.
        let c = run_cut i (f ++ e) w h (int_digits v) (stops_both a p) in
        let y = no_point e rest.now a n c.1 in
        (c.0, o ∙ sym y.0, m ∙ y.1);
  }

-- the text after its minus
pub minus_first : {text m r : List ℕ} {n neg : Bool} {rest : List ℕ} → Signs text neg rest → Minus m n → text ≡ m ++ r → get_or r 0 0 ≢ 45 → (n ≡ neg) × (rest ≡ r)
minus_first {neg = true} s one_minus e w = (refl, ap tail (sym s ∙ e))
minus_first {neg = true} s no_minus e w = absurd (w (sym (ap (λ l. get_or l 0 0) e) ∙ ap (λ l. get_or l 0 0) s))
minus_first {neg = false} s no_minus e w = (refl, s.0 ∙ e)
minus_first {r = r} {neg = false} s one_minus e w = absurd (s.1 r e)

pub minus_shorter : (text rest : List ℕ) (neg : Bool) → Signs text neg rest → length rest ≤ length text
minus_shorter text rest true s = omega (arith, ap length s)
minus_shorter text rest false s = omega (arith, ap length s.0)

pub int_first : {i : List ℕ} (t : List ℕ) → IsInt i → get_or (i ++ t) 0 0 ≢ 45
int_first t zero_int h = omega arith
int_first t (int a b r) h = omega arith
