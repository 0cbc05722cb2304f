-- From the parts of a number to its normal form.
use Rattle.std.proofs.Common.{◌≡◌, ℕ, zero, suc, ◌+◌, ◌-◌, ◌*◌, ◌^◌, ◌<◌, Bool, false, cond, eqb, ◌≢◌, List, [], ◌∷◌, ◌++◌, length, get_or, take, drop, replicate, ℤ, pos, negsuc, ◌+ℤ◌, ◌-ℤ◌, sym, refl, ap, ◌∙◌, subst, inl, inr, append-nil, mul-pos, zero-mul, mul-one, arith, length-drop}
use native.Mathlib.Nat.{pow-succ'}
use Rattle.std.proofs.lemmas.List.{take-take, take_all, take-append-drop, drop-take}
use lib.Seq.{take-append_seam}
use Rattle.std.proofs.lemmas.Int.{ints}
use Rattle.std.proofs.lemmas.Bool.Decides.{nat_tests}
use Rattle.text.specs.declared.decimal.Parts.{Parts}
use Rattle.text.specs.NumberWorth.{after, value, Writes, Equal, SameWorth, below}
use Rattle.text.specs.NormalForm.{Each, Signs, Split, Held, Grown, Trimmed, form_zero, form, Within, Added}
use Rattle.std.proofs.lemmas.List.{nil_from_length}
use Rattle.text.proofs.LexBase.{gone}
use Rattle.text.proofs.NormValues.{after_is, Left, left, positive, held_none}
use Rattle.text.proofs.NormCuts.{minus_first, int_first}

-- what the code has found is what the grammar has there
pub record Aligned (neg : Bool) (p : Parts) (n : Bool) (i ds e : List ℕ) : Type 0 where
  pub minus : neg ≡ n
  pub whole : p.whole.now ≡ i
  pub places : p.places.now ≡ ds
  pub power : p.power.now ≡ e

pub aligned : (text : List ℕ) (neg : Bool) (unsigned : List ℕ) (p : Parts) → Signs text neg unsigned → Split unsigned p → (n : Bool) (a : ℕ) (s : ℤ) (w : Writes text n a s) → Aligned neg p n w.i w.ds w.e
aligned text neg unsigned p g x n a s w =
    let u = minus_first g w.sign w.spelled (int_first (w.f ++ w.e) w.whole) in
    let y = x.found w.i w.f w.e w.ds w.p u.1 w.whole w.part w.power in
    record { minus = sym u.0; whole = y.0; places = y.1; power = y.2 }

-- the digits of both parts write the amount
pub amount_is : {text : List ℕ} {neg : Bool} {p : Parts} {n : Bool} {a : ℕ} {s : ℤ} (w : Writes text n a s) → Aligned neg p n w.i w.ds w.e → a ≡ after (after 0 p.whole.now) p.places.now
amount_is {p = p} w x = w.amounts ∙ sym (after_is (value w.i) w.ds) ∙ ap (λ l. after (value l) w.ds) (sym x.whole) ∙ ap (after (value p.whole.now)) (sym x.places)

zero_equal : (s : ℤ) → Equal 0 s 0 (pos 0)
zero_equal (pos n) = record { k = n; l = 0; least = inr refl; level = omega (arith, ints); same = zero-mul (10 ^ n) }
zero_equal (negsuc n) = record { k = 0; l = suc n; least = inl refl; level = omega (arith, ints); same = sym (zero-mul (10 ^ suc n)) }

pub zero_worth : (a : ℕ) (s : ℤ) (ds : List ℕ) → a ≡ 0 → ds ≡ 48 ∷ [] → Equal a s (value ds) (pos 0)
zero_worth a s ds z e = subst (λ b. Equal b s (value ds) (pos 0)) (sym z) (subst (λ l. Equal 0 s (value l) (pos 0)) (sym e) (zero_equal s))

pub zero_amount : (ds : List ℕ) (zeros v : ℕ) → Left ds zeros v → ds ≡ [] → v ≡ 0
zero_amount ds zeros v x e = x.worth ∙ ap (λ l. value l * 10 ^ zeros) e ∙ zero-mul (10 ^ zeros)

pub worth_is : (a v zeros places n : ℕ) (s p q x : ℤ) (ds : List ℕ) → a ≡ v → v ≡ value ds * 10 ^ zeros → s ≡ p -ℤ pos n → q ≡ p → places ≡ n → x ≡ (q -ℤ pos places) +ℤ pos zeros → Equal a s (value ds) x
worth_is a v zeros places n s p q x ds av vz sp qp pn xe = record {
  k = 0;
  l = zeros;
  least = inl refl;
  level = omega (arith, ints);
  same = mul-one a ∙ av ∙ vz;
}

pub below_some : (n : Bool) (a : ℕ) → 0 < a → below n a ≡ n
below_some n a h = let z : eqb a 0 ≡ false = grind (arith, nat_tests, h) in ap (λ b. cond b false n) z

pub ten_pos : (r : ℕ) → 0 < 10 ^ r
ten_pos zero = omega arith
ten_pos (suc r) = let e = pow-succ' 10 r in omega (arith, e, ten_pos r)

pub amount_positive : (ds : List ℕ) (z v : ℕ) → Left ds z v → 0 < length ds → 0 < v
amount_positive ds z v x h =
    let d = positive ds x.each (x.led h) h in
    let m : 0 < value ds * 10 ^ z = mul-pos d (ten_pos z) in
    omega (arith, x.worth)

-- what stands after both parts are added and the zeros at the end are taken away
pub record Settled (before ts : List ℕ) (base kept z v : ℕ) : Type 0 where
  pub size : length (drop base ts) ≡ kept
  pub added : ts ≡ before ++ drop base ts
  pub left : Left (drop base ts) z v
  pub last : 0 < kept → get_or (drop base ts) (length (drop base ts) - 1) 0 ≢ 48

pub settled : (before first second ts t u kept : List ℕ) (base zeros : ℕ) → base ≡ length before → Grown base before first t → Grown base first second u → Each t → Each u → Trimmed (drop base second) kept → ts ≡ take (base + length kept) second → zeros ≡ length second - base - length kept → Settled before ts base (length kept) zeros (after (after 0 t) u)
settled before first second ts t u kept base zeros b g h et eu r e z =
    let none : Held (drop base before) 0 = subst (λ x. Held x 0) (sym (gone before base (omega arith))) held_none in
    let is : drop base ts ≡ kept =
    ap (drop base) e ∙ drop-take base (length kept) second ∙ ap (take (length kept)) r.zeros ∙ take-append_seam kept (replicate (length (drop base second) - length kept) 48) in
    let zeros_is : length (drop base second) - length kept ≡ zeros = omega (arith, length-drop base second) in
    let front : take base ts ≡ before =
    ap (take base) e ∙ take-take base (base + length kept) second (omega arith) ∙ h.kept ∙ g.kept ∙ take_all base before (omega arith) in
    record {
      size = ap length is;
      added = sym (take-append-drop base ts) ∙ ap (λ l. l ++ drop base ts) front;
      left = left (drop base second) (drop base ts) zeros (after (after 0 t) u) (h.held (after 0 t) (g.held 0 none et) eu) (r.zeros ∙ ap (λ l. l ++ replicate (length (drop base second) - length kept) 48) (sym is) ∙ ap (λ k. drop base ts ++ replicate k 48) zeros_is);
      last = λ l. subst (λ x. get_or x (length x - 1) 0 ≢ 48) (sym is) (r.last l);
    }

-- the zero
pub zero_same : (n : Bool) (a : ℕ) (s : ℤ) → a ≡ 0 → SameWorth n a s false (value (48 ∷ [])) (pos 0)
zero_same n a s z = record { signs = ap (below n) z; amounts = zero_worth a s (48 ∷ []) z refl }

pub unadded : (before ts : List ℕ) (base kept z v : ℕ) → Settled before ts base kept z v → kept ≡ 0 → ts ≡ before
unadded before ts base kept z v x b =
    let none : drop base ts ≡ [] = nil_from_length (drop base ts) (omega (arith, x.size)) in
    x.added ∙ ap (λ l. before ++ l) none ∙ append-nil before

pub added_zero : (text before now ts : List ℕ) (base kept z v : ℕ) → Settled before ts base kept z v → kept ≡ 0 → now ≡ ts ++ 48 ∷ [] → Within text → ((n : Bool) (a : ℕ) (s : ℤ) → Writes text n a s → a ≡ v) → Added text before now (record { negative = false; exponent = pos 0 })
added_zero text before now ts base kept z v x b e w all =
    let none : drop base ts ≡ [] = nil_from_length (drop base ts) (omega (arith, x.size)) in
    let start = unadded before ts base kept z v x b in
    let nothing = zero_amount (drop base ts) z v x.left none in
    record {
      digits = 48 ∷ [];
      added = e ∙ ap (λ l. l ++ 48 ∷ []) start;
      normal = record { formed = form_zero; worth = λ n a s y. zero_same n a s (all n a s y ∙ nothing) };
      within = w;
    }

pub added_some : (text before ts : List ℕ) (base kept z v : ℕ) (neg : Bool) (x : ℤ) → Settled before ts base kept z v → 0 < kept → Within text → ((n : Bool) (a : ℕ) (s : ℤ) → Writes text n a s → (neg ≡ n) × (a ≡ v) × Equal a s (value (drop base ts)) x) → Added text before ts (record { negative = neg; exponent = x })
added_some text before ts base kept z v neg x q b w all =
    let some : 0 < length (drop base ts) = omega (arith, q.size) in
    let up : 0 < v = amount_positive (drop base ts) z v q.left some in
    let up-digits = positive (drop base ts) q.left.each (q.left.led some) some in
    record {
      digits = drop base ts;
      added = q.added;
      normal = record {
        formed = form q.left.each some (q.left.led some) (q.last b);
        worth = λ n a s y.
            let r = all n a s y in
            record {
              signs = below_some n a (omega (arith, r.1)) ∙ sym r.0 ∙ sym (below_some neg (value (drop base ts)) up-digits);
              amounts = r.2;
            };
      };
      within = w;
    }
