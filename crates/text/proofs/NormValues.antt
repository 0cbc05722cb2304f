-- Laws of the value of digits.
use Rattle.std.proofs.Common.{◌≡◌, ℕ, zero, suc, ◌+◌, ◌-◌, ◌*◌, ◌^◌, ◌<◌, ◌≤◌, Bor, Option, None, Some, MatchOption, unwrap_or, true, false, ◌≢◌, List, [], ◌∷◌, ◌++◌, length, get_or, take, drop, replicate, ℤ, pos, neg_ℤ, sym, refl, ap, ◌∙◌, subst, mul_assoc, add-mul, append_assoc, take_all, arith, length-append, length-drop}
use native.Mathlib.Nat.{pow-succ'}
use Rattle.std.proofs.lemmas.List.{take_more, take-append-drop, drop-append-le, take-append-le, get_or_append_left, length-take-le}
use Rattle.text.specs.NumberGrammar.{IsDigit, Digits, none, digit}
use Rattle.text.specs.NumberWorth.{after, value, Power, no_power, plain, more, less}
use Rattle.text.specs.NormalForm.{Each, Held, Led, Grown}
use Rattle.text.proofs.LexBase.{gone}

pub after-append : (v : ℕ) (xs ys : List ℕ) → after v (xs ++ ys) ≡ after (after v xs) ys
after-append v [] ys = refl
after-append v (x ∷ xs) ys = after-append (v * 10 + (x - 48)) xs ys

pub after-ge : (v : ℕ) (ds : List ℕ) → v ≤ after v ds
after-ge v [] = omega arith
after-ge v (d ∷ ds) = omega (arith, after-ge (v * 10 + (d - 48)) ds)

-- v before ds stands as many places to the left as ds has
pub after_is : (v : ℕ) (ds : List ℕ) → after v ds ≡ v * 10 ^ length ds + value ds
after_is v [] = omega arith
after_is v (d ∷ ds) =
    let one = after_is (v * 10 + (d - 48)) ds in
    let two = after_is (0 * 10 + (d - 48)) ds in
    let three = add-mul (v * 10) (d - 48) (10 ^ length ds) in
    let four : v * 10 ^ suc (length ds) ≡ (v * 10) * 10 ^ length ds = ap (λ n. v * n) (pow-succ' 10 (length ds)) ∙ sym (mul_assoc v 10 (10 ^ length ds)) in
    omega (arith, one, two, three, four)

pub after-zeros : (v r : ℕ) → after v (replicate r 48) ≡ v * 10 ^ r
after-zeros v zero = omega arith
after-zeros v (suc r) =
    let one = after-zeros (v * 10 + (48 - 48)) r in
    let two : (v * 10) * 10 ^ r ≡ v * 10 ^ suc r = mul_assoc v 10 (10 ^ r) ∙ ap (λ n. v * n) (sym (pow-succ' 10 r)) in
    let three : v * 10 + (48 - 48) ≡ v * 10 = omega arith in
    one ∙ ap (λ n. n * 10 ^ r) three ∙ two

pub value-zeros : (ds : List ℕ) (r : ℕ) → value (ds ++ replicate r 48) ≡ value ds * 10 ^ r
value-zeros ds r = after-append 0 ds (replicate r 48) ∙ after-zeros (value ds) r

pub each_of : {ds : List ℕ} → Digits ds → Each ds
each_of none k h = absurd (omega arith)
each_of (digit d r) zero h = d
each_of (digit d r) (suc k) h = each_of r k (omega arith)

-- a front of digits writes no more than all
pub front_le : (ds : List ℕ) (n : ℕ) → value (take n ds) ≤ value ds
front_le ds n =
    let e : value ds ≡ after (value (take n ds)) (drop n ds) = ap value (sym (take-append-drop n ds)) ∙ after-append 0 (take n ds) (drop n ds) in
    omega (arith, e, after-ge (value (take n ds)) (drop n ds))

pub after_more : (v : ℕ) (xs : List ℕ) (i : ℕ) → i < length xs → after v (take (i + 1) xs) ≡ after v (take i xs) * 10 + (get_or xs i 0 - 48)
after_more v xs i h = ap (after v) (take_more xs i 0 h) ∙ after-append v (take i xs) (get_or xs i 0 ∷ [])

-- an exponent by the byte after its mark
pub by_minus : {e : ℕ} {xs : List ℕ} {p : ℤ} → Power (e ∷ 45 ∷ xs) p → (p ≡ neg_ℤ (pos (value xs))) × Each xs
by_minus (plain m d r) = absurd (omega arith)
by_minus (less m d r) = (refl, each_of (digit d r))

pub by_plus : {e : ℕ} {xs : List ℕ} {p : ℤ} → Power (e ∷ 43 ∷ xs) p → (p ≡ pos (value xs)) × Each xs
by_plus (plain m d r) = absurd (omega arith)
by_plus (more m d r) = (refl, each_of (digit d r))

pub by_other : {e : ℕ} {xs : List ℕ} {p : ℤ} → ((r : List ℕ) → xs ≡ 45 ∷ r → ⊥) → ((r : List ℕ) → xs ≡ 43 ∷ r → ⊥) → Power (e ∷ xs) p → (p ≡ pos (value xs)) × Each xs
by_other h k (plain m d r) = (refl, each_of (digit d r))
by_other h k (more {d = d} {ds} m x r) = absurd (k (d ∷ ds) refl)
by_other h k (less {d = d} {ds} m x r) = absurd (h (d ∷ ds) refl)

each_snoc : (ds : List ℕ) (d : ℕ) → Each ds → IsDigit d → Each (ds ++ d ∷ [])
each_snoc [] d e i k h = let z : k ≡ 0 = omega arith in subst (λ n. IsDigit (get_or (d ∷ []) n 0)) (sym z) i
each_snoc (x ∷ xs) d e i zero h = e 0 (omega arith)
each_snoc (x ∷ xs) d e i (suc k) h = each_snoc xs d (λ n l. e (suc n) (omega arith)) i k (omega arith)

-- one more digit, and the zeros that are left out
pub held_more : (ds : List ℕ) {v : ℕ} (d : ℕ) → Held ds v → IsDigit d → (ds ≡ [] → d ≢ 48) → Held (ds ++ d ∷ []) (v * 10 + (d - 48))
held_more [] d h i n = record { each = each_of (digit i none); led = n refl; worth = ap (λ k. k * 10 + (d - 48)) h.worth }
held_more (x ∷ xs) d h i n = record {
  each = λ k l. each_snoc (x ∷ xs) d h.each i k l;
  led = h.led;
  worth = after-append 0 (x ∷ xs) (d ∷ []) ∙ ap (λ k. k * 10 + (d - 48)) h.worth;
}

pub held_zero : {ds : List ℕ} {v : ℕ} → Held ds v → ds ≡ [] → Held ds (v * 10 + (48 - 48))
held_zero {ds} {v} h e =
    let z : v ≡ 0 = sym h.worth ∙ ap value e in
    let n : v ≡ v * 10 + (48 - 48) = omega arith in
    record { each = h.each; led = h.led; worth = h.worth ∙ n }

-- the sign and the digits of an exponent
pub led_minus : (text digits : List ℕ) → text ≡ 45 ∷ digits → Led text true digits
led_minus text digits b e p q = by_minus (subst (λ x. Power (e ∷ x) p) b q)

pub led_plus : (text digits : List ℕ) → text ≡ 43 ∷ digits → Led text false digits
led_plus text digits b e p q = by_plus (subst (λ x. Power (e ∷ x) p) b q)

pub led_other : (text : List ℕ) → ((r : List ℕ) → text ≡ 45 ∷ r → ⊥) → ((r : List ℕ) → text ≡ 43 ∷ r → ⊥) → Led text false text
led_other text a b e p q = by_other a b q

-- a plus, or no sign
pub led_rest : (text : Bor (List ℕ)) → ((r : List ℕ) → text.now ≡ 45 ∷ r → ⊥) → (r : Option (Bor (List ℕ))) → MatchOption r ((rest : List ℕ) → text.now ≢ 43 ∷ rest) (λ x. text.now ≡ 43 ∷ x.now) → Led text.now false (unwrap_or r text).now
led_rest text n None m = led_other text.now n m
led_rest text n (Some x) m = led_plus text.now x.now m

pub by_nothing : {p : ℤ} → Power [] p → pos 0 ≡ p
by_nothing no_power = refl

-- the turns of `add`
pub record Filled (base : ℕ) (before ds text : List ℕ) (i : ℕ) : Type 0 where
  pub kept : take base ds ≡ take base before
  pub more : length before ≤ length ds
  pub most : length ds ≤ length before + i
  pub held : (v : ℕ) → Held (drop base before) v → Each text → Held (drop base ds) (after v (take i text))

pub pushed : (base : ℕ) (before ds ds' text : List ℕ) (i : ℕ) → base ≤ length before → Filled base before ds text i → i < length text → ds' ≡ ds ++ get_or text i 0 ∷ [] → (drop base ds ≡ [] → get_or text i 0 ≢ 48) → Filled base before ds' text (i + 1)
pushed base before ds ds' text i b f l e n =
    let long : base ≤ length ds = omega (arith, f.more) in
    let grows : length ds' ≡ length ds + 1 = simp length-append at (ap length e) in
    let rest : drop base ds' ≡ drop base ds ++ get_or text i 0 ∷ [] = ap (drop base) e ∙ drop-append-le base ds (get_or text i 0 ∷ []) long in
    record {
      kept = ap (take base) e ∙ take-append-le base ds (get_or text i 0 ∷ []) long ∙ f.kept;
      more = omega (arith, f.more);
      most = omega (arith, f.most);
      held = λ v h a.
          let d = held_more (drop base ds) (get_or text i 0) (f.held v h a) (a i l) n in
          subst (λ x. Held x (after v (take (i + 1) text))) (sym rest) (subst (Held (drop base ds ++ get_or text i 0 ∷ [])) (sym (after_more v text i l)) d);
    }

pub skipped : (base : ℕ) (before ds ds' text : List ℕ) (i : ℕ) → Filled base before ds text i → i < length text → ds' ≡ ds → get_or text i 0 ≡ 48 → drop base ds ≡ [] → Filled base before ds' text (i + 1)
skipped base before ds ds' text i f l e b n =
    let same : length ds' ≡ length ds = ap length e in
    record {
      kept = ap (take base) e ∙ f.kept;
      more = omega (arith, f.more);
      most = omega (arith, f.most);
      held = λ v h a.
          let d = held_zero (f.held v h a) n in
          let m : after v (take (i + 1) text) ≡ after v (take i text) * 10 + (48 - 48) = after_more v text i l ∙ ap (λ x. after v (take i text) * 10 + (x - 48)) b in
          subst (λ x. Held x (after v (take (i + 1) text))) (ap (drop base) (sym e)) (subst (Held (drop base ds)) (sym m) d);
    }

pub filled_all : (base : ℕ) (before ds text : List ℕ) (i : ℕ) → Filled base before ds text i → i ≤ length text → take i text ≡ text → Grown base before ds text
filled_all base before ds text i f l e = record {
  kept = f.kept;
  more = f.more;
  most = omega (arith, f.most);
  held = λ v h a. subst (λ x. Held (drop base ds) (after v x)) e (f.held v h a);
}

pub nothing_past : (base : ℕ) (ds : List ℕ) → length ds ≤ base → drop base ds ≡ []
nothing_past base ds h = gone ds base h

pub something_past : (base : ℕ) (ds : List ℕ) → base < length ds → drop base ds ≡ [] → ⊥
something_past base ds h e = omega (arith, length-drop base ds, ap length e)

-- what is left after the zeros
pub held_none : Held [] 0
held_none = record { each = λ k h. absurd (omega arith); led = λ h. omega arith; worth = refl }

pub each_left : (xs ys : List ℕ) → Each (xs ++ ys) → Each xs
each_left xs ys e k h = subst IsDigit (get_or_append_left xs ys 0 k h) (e k (omega (arith, length-append xs ys)))

pub positive : (ds : List ℕ) → Each ds → get_or ds 0 0 ≢ 48 → 0 < length ds → 0 < value ds
positive [] e n h = absurd (omega arith)
positive (d ∷ ds) e n h = let i = e 0 (omega arith) in omega (arith, after-ge (0 * 10 + (d - 48)) ds, i.0)

pub record Left (ds : List ℕ) (zeros v : ℕ) : Type 0 where
  pub each : Each ds
  pub led : 0 < length ds → get_or ds 0 0 ≢ 48
  pub worth : v ≡ value ds * 10 ^ zeros

pub left : (all ds : List ℕ) (zeros v : ℕ) → Held all v → all ≡ ds ++ replicate zeros 48 → Left ds zeros v
left all ds zeros v h e = record {
  each = each_left ds (replicate zeros 48) (subst Each e h.each);
  led = λ l b. h.led (ap (λ x. get_or x 0 0) e ∙ get_or_append_left ds (replicate zeros 48) 0 0 l ∙ b);
  worth = sym h.worth ∙ ap value e ∙ value-zeros ds zeros;
}

-- what follows the rest of the digits are zeros
abbrev pub Trimming : List ℕ → List ℕ → Type 0
Trimming digits rest = digits ≡ rest ++ replicate (length digits - length rest) 48

pub trim_more : (digits rest : List ℕ) → Trimming digits rest → 1 ≤ length rest → get_or rest (length rest - 1) 0 ≡ 48 → Trimming digits (take (length rest - 1) rest)
trim_more digits rest t h b =
    let n = length rest - 1 in
    let front = take n rest in
    let zeros = length digits - length rest in
    let size : length front ≡ n = length-take-le n rest (omega arith) in
    let whole : take (n + 1) rest ≡ rest = take_all (n + 1) rest (omega arith) in
    let spelled : rest ≡ front ++ 48 ∷ [] = sym whole ∙ take_more rest n 0 (omega arith) ∙ ap (λ k. front ++ k ∷ []) b in
    let short : length rest ≤ length digits = omega (arith, ap length t, length-append rest (replicate zeros 48)) in
    let one : suc zeros ≡ length digits - length front = omega arith in
    t ∙ ap (λ l. l ++ replicate zeros 48) spelled ∙ append_assoc front (48 ∷ []) (replicate zeros 48) ∙ ap (λ k. front ++ replicate k 48) one
