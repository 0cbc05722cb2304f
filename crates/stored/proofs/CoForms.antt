-- The forms of bodies, tested byte by byte.
use Rattle.std.proofs.Common.{◌≡◌, ℕ, zero, suc, ◌+◌, ◌-◌, ◌*◌, ◌^◌, ◌<◌, ◌≤◌, Bool, true, false, cond, eqb, ltb, ◌≢◌, List, [], ◌∷◌, ◌++◌, length, get_or, take, drop, ℤ, pos, negsuc, IsUtf8, Decides, Result, sym, refl, ap, ◌∙◌, subst, ⊎_elim, arith, length-drop}
use Rattle.std.proofs.lemmas.List.{take_all, get_or-drop}
use Rattle.std.proofs.lemmas.Bool.{false≢true, cases_lt, eqb-true, lt-ltb, le-ltb}
use Rattle.text.specs.NumberGrammar.{Digits, none, digit}
use Rattle.text.specs.NormalForm.{Each, Form, form_zero, form, WholeForm, whole_zero, whole_above, whole_below}
use Rattle.text.proofs.NormValues.{each_of}
use Rattle.model.specs.Values.{p_boolean, p_whole, p_decimal, p_string, Rec, r_null, r_plain, r_list, r_object}
use Rattle.model.specs.Records.{le32, twos, truth, ExponentFits}
use Rattle.model.specs.Limits.{WholeLimits}
use Rattle.record.specs.Kinds.{number_of}
use Rattle.record.specs.declared.kind.RecordKind.{RecordKind}
use Rattle.record.specs.declared.kind.RecordKind.TheVariants.{Null, Boolean, Whole, Decimal, String, List as ListKind, Object}
use Rattle.stored.specs.declared.content.Content.{Content}
use Rattle.stored.specs.declared.content.BodyError.{BodyError}
use Rattle.stored.specs.Contents.{BooleanForm, Positive, zero_body, DecimalForm, IsLeaf, Long, Senseless, ContentTold, leaf_of}
use Rattle.stored.proofs.FrLaws.{bytes_of}

-- BOOLEANS

pub boolean_form_lem : (b : List ℕ) → length b ≡ 1 → get_or b 0 0 ≤ 1 → BooleanForm b
boolean_form_lem [] l h = absurd (omega arith)
boolean_form_lem (zero ∷ []) l h = (false, refl)
boolean_form_lem (suc zero ∷ []) l h = (true, refl)
boolean_form_lem (suc (suc x) ∷ []) l h = absurd (omega arith)
boolean_form_lem (x ∷ y ∷ ys) l h = absurd (omega arith)

truth-small : (t : Bool) → truth t ≤ 1
truth-small true = omega arith
truth-small false = omega arith

pub boolean_told : (b : List ℕ) → length b ≡ 1 → get_or b 0 0 ≤ 1 → Decides true (BooleanForm b)
boolean_told b l h = (λ t. boolean_form_lem b l h, λ f. refl)

-- WHOLE NUMBERS

pub digits_from : (ds : List ℕ) → Each ds → Digits ds
digits_from [] e = none
digits_from (d ∷ ds) e = digit (e zero (omega arith)) (digits_from ds (λ k h. e (suc k) (omega arith)))

above_whole : (xs : List ℕ) → Positive xs → WholeForm xs
above_whole [] p = absurd (omega (arith, p.some))
above_whole (d ∷ ds) p =
    let i = p.each zero (omega arith) in
    let n = p.first in
    whole_above (omega arith) i.1 (digits_from ds (λ k h. p.each (suc k) (omega arith)))

below_whole : (xs : List ℕ) → Positive xs → WholeForm (45 ∷ xs)
below_whole [] p = absurd (omega (arith, p.some))
below_whole (d ∷ ds) p =
    let i = p.each zero (omega arith) in
    let n = p.first in
    whole_below (omega arith) i.1 (digits_from ds (λ k h. p.each (suc k) (omega arith)))

whole_above_back : {xs : List ℕ} → WholeForm xs → xs ≢ 48 ∷ [] → (0 < length xs → get_or xs 0 0 ≢ 45) → Positive xs
whole_above_back whole_zero n m = absurd (n refl)
whole_above_back (whole_above a b ds) n m = record { each = each_of (digit (omega arith, b) ds); some = omega arith; first = λ e. omega arith }
whole_above_back (whole_below a b ds) n m = absurd (m (omega arith) refl)

whole_below_back : {xs : List ℕ} → WholeForm (45 ∷ xs) → Positive xs
whole_below_back (whole_above a b ds) = absurd (omega arith)
whole_below_back (whole_below a b ds) = record { each = each_of (digit (omega arith, b) ds); some = omega arith; first = λ e. omega arith }

pub zero_told : (text : List ℕ) → length text ≡ 1 → get_or text 0 0 ≡ 48 → Decides true (WholeForm text)
zero_told [] l h = absurd (omega arith)
zero_told (x ∷ []) l h = rw h (λ t. whole_zero, λ w. refl)
zero_told (x ∷ y ∷ ys) l h = absurd (omega arith)

pub unsigned : (text : List ℕ) (r : Bool) → text ≢ 48 ∷ [] → (0 < length text → get_or text 0 0 ≢ 45) → Decides r (Positive text) → Decides r (WholeForm text)
unsigned text r n m d = (λ t. above_whole text (d.0 t), λ w. d.1 (whole_above_back w n m))

pub signed : (text : List ℕ) (r : Bool) → 0 < length text → get_or text 0 0 ≡ 45 → Decides r (Positive (take (length text - 1) (drop 1 text))) → Decides r (WholeForm text)
signed [] r h e d = absurd (omega arith)
signed (x ∷ xs) r h e d =
    let t : take (length (x ∷ xs) - 1) xs ≡ xs = take_all (length (x ∷ xs) - 1) xs (omega arith) in
    let p = subst (λ l. Decides r (Positive l)) t d in
    (λ y. rw e (below_whole xs (p.0 y)), λ w. p.1 (whole_below_back (subst (λ k. WholeForm (k ∷ xs)) e w)))

-- DECIMALS

-- the number that four bytes hold
abbrev signed_of : ℕ → ℤ
signed_of n = cond (ltb n 2147483648) (pos n) (negsuc (4294967295 - n))

twos-signed : (n : ℕ) → n < 2 ^ 32 → (twos (signed_of n) ≡ n) × ExponentFits (signed_of n)
twos-signed n h =
    ⊎_elim (λ l. rw (lt-ltb n 2147483648 l) (refl, l)) (λ l. rw (le-ltb n 2147483648 l) (omega arith, omega arith)) (cases_lt n 2147483648)

sign_of : (x : ℕ) → x ≤ 1 → (t : Bool) × (truth t ≡ x)
sign_of zero h = (false, refl)
sign_of (suc zero) h = (true, refl)
sign_of (suc (suc x)) h = absurd (omega arith)

five : (b : List ℕ) → 5 ≤ length b → b ≡ get_or b 0 0 ∷ get_or b 1 0 ∷ get_or b 2 0 ∷ get_or b 3 0 ∷ get_or b 4 0 ∷ drop 5 b
five [] h = absurd (omega arith)
five (p ∷ []) h = absurd (omega arith)
five (p ∷ q ∷ []) h = absurd (omega arith)
five (p ∷ q ∷ r ∷ []) h = absurd (omega arith)
five (p ∷ q ∷ r ∷ s ∷ []) h = absurd (omega arith)
five (p ∷ q ∷ r ∷ s ∷ t ∷ b) h = refl

decimal_zero : (b : List ℕ) → b ≡ zero_body → DecimalForm b
decimal_zero b e = record { dec = record { negative = false; exponent = pos 0; digits = 48 ∷ [] }; body = sym e; formed = form_zero; fits = omega arith }

last_is : (b : List ℕ) → 5 < length b → get_or (drop 5 b) (length (drop 5 b) - 1) 0 ≡ get_or b (length b - 1) 0
last_is b h =
    let l = length-drop 5 b in
    let e : 5 + (length (drop 5 b) - 1) ≡ length b - 1 = omega arith in
    get_or-drop 5 b (length (drop 5 b) - 1) 0 ∙ ap (λ k. get_or b k 0) e

decimal_some : (b : List ℕ) → 5 < length b → get_or b 0 0 ≤ 1 → get_or b (length b - 1) 0 ≢ 48 → ((k : ℕ) → get_or b k 0 < 256) → Positive (drop 5 b) → DecimalForm b
decimal_some b h s z small p =
    let sign = sign_of (get_or b 0 0) s in
    let n = get_or b 1 0 + get_or b 2 0 * 256 + get_or b 3 0 * 65536 + get_or b 4 0 * 16777216 in
    let q1 = small 1 in
    let q2 = small 2 in
    let q3 = small 3 in
    let q4 = small 4 in
    let le : n < 2 ^ 32 = omega arith in
    let x = twos-signed n le in
    let d = bytes_of (get_or b 1 0) (get_or b 2 0) (get_or b 3 0) (get_or b 4 0) n q1 q2 q3 q4 refl in
    let whole = five b (omega arith) in
    let d0 = d.0 in
    let d1 = d.1 in
    let d2 = d.2 in
    let d3 = d.3 in
    let t = sign.1 in
    let x0 = x.0 in
    record {
      dec = record { negative = sign.0; exponent = signed_of n; digits = drop 5 b };
      body = cc;
      formed = form p.each p.some p.first (λ e. z (sym (last_is b h) ∙ e));
      fits = x.1;
    }

-- what a decimal in normal form has, but zero
record Shaped (b : List ℕ) : Type 0 where
  long : 5 < length b
  sign : get_or b 0 0 ≤ 1
  last : get_or b (length b - 1) 0 ≢ 48
  digits : Positive (drop 5 b)

shaped : {n : Bool} {x : ℤ} {ds : List ℕ} → Form n x ds → (b : List ℕ) → truth n ∷ (le32 (twos x) ++ ds) ≡ b → b ≢ zero_body → Shaped b
shaped form_zero b e z = absurd (z (sym e))
shaped {n} {x} {ds} (form each some first last) b e z =
    let l = ap length e in
    let d : drop 5 b ≡ ds = ap (drop 5) (sym e) in
    let t = truth-small n in
    let s = ap (λ l. get_or l 0 0) e in
    let h : 5 < length b = omega arith in
    record {
      long = h;
      sign = omega arith;
      last = λ q. last (ap (λ l. get_or l (length l - 1) 0) (sym d) ∙ (last_is b h ∙ q));
      digits = subst Positive (sym d) (record { each = each; some = some; first = first });
    }

decimal_shaped : (b : List ℕ) → b ≢ zero_body → DecimalForm b → Shaped b
decimal_shaped b z f = shaped f.formed b f.body z

-- where the last digit is a zero, only zero is in normal form
pub zero_ended : (b : List ℕ) (r : Bool) → 5 < length b → get_or b (length b - 1) 0 ≡ 48 → Decides r (b ≡ zero_body) → Decides r (DecimalForm b)
zero_ended b true h last d = (λ t. decimal_zero b (d.0 t), λ f. refl)
zero_ended b false h last d = (λ t. decimal_zero b (d.0 t), λ f. absurd ((decimal_shaped b (λ e. false≢true (d.1 e)) f).last last))

pub decimal_told : (b : List ℕ) (r : Bool) → 5 ≤ length b → get_or b 0 0 ≤ 1 → (5 < length b → get_or b (length b - 1) 0 ≢ 48) → ((k : ℕ) → get_or b k 0 < 256) → Decides r (Positive (take (length b - 5) (drop 5 b))) → Decides r (DecimalForm b)
decimal_told b r h s last small d =
    let l = length-drop 5 b in
    let p = subst (λ ds. Decides r (Positive ds)) (take_all (length b - 5) (drop 5 b) (omega arith)) d in
    let z : b ≢ zero_body = λ e. last (let m = ap length e in omega arith) (ap (λ x. get_or x (length x - 1) 0) e) in (
      λ y.
          let q = p.0 y in
          let m = q.some in
          let n : 5 < length b = omega arith in
          decimal_some b n s (last n) small q,
      λ f. p.1 (decimal_shaped b z f).digits,
    )

-- KINDS

-- what a record that holds no others has for its body, by its kind
pub data Leafy (b : List ℕ) : ℕ → Type 0 where
  l_null : b ≡ [] → Leafy b 1
  l_boolean : BooleanForm b → Leafy b 2
  l_whole : WholeLimits b → Leafy b 3
  l_decimal : DecimalForm b → length b ≤ 1005 → Leafy b 4
  l_string : IsUtf8 b → Leafy b 5

pub leafy : (k : ℕ) (b : List ℕ) (r : Rec) → IsLeaf k b r → Leafy b k
leafy k b r_null h = subst (Leafy b) (sym h.0) (l_null h.1)
leafy k b (r_plain (p_boolean t)) h = subst (Leafy b) h.0 (l_boolean (t, h.1))
leafy k b (r_plain (p_whole s)) h = subst (Leafy b) h.0 (l_whole (subst WholeLimits h.1 h.2))
leafy k b (r_plain (p_decimal d)) h =
    let e = ap length h.1 in
    let s = h.2.short in
    subst (Leafy b) h.0 (l_decimal (record { dec = d; body = h.1; formed = h.2.formed; fits = h.2.fits }) (omega arith))
leafy k b (r_plain (p_string s)) h = subst (Leafy b) h.0 (l_string (subst IsUtf8 h.1 h.2))
leafy k b (r_list rs) h = absurd h
leafy k b (r_object ms) h = absurd h

by_null : {b : List ℕ} → Leafy b 1 → b ≡ []
by_null (l_null e) = e

by_boolean : {b : List ℕ} → Leafy b 2 → BooleanForm b
by_boolean (l_boolean f) = f

by_whole : {b : List ℕ} → Leafy b 3 → WholeLimits b
by_whole (l_whole w) = w

by_decimal : {b : List ℕ} → Leafy b 4 → DecimalForm b × (length b ≤ 1005)
by_decimal (l_decimal f h) = (f, h)

by_string : {b : List ℕ} → Leafy b 5 → IsUtf8 b
by_string (l_string u) = u

pub leafy_kind : {b : List ℕ} {k : ℕ} → Leafy b k → (1 ≤ k) × (k ≤ 5)
leafy_kind (l_null e) = (omega arith, omega arith)
leafy_kind (l_boolean f) = (omega arith, omega arith)
leafy_kind (l_whole w) = (omega arith, omega arith)
leafy_kind (l_decimal f h) = (omega arith, omega arith)
leafy_kind (l_string u) = (omega arith, omega arith)

not_long : (k : ℕ) (b : List ℕ) → k ≢ 3 → k ≢ 4 → Long k b → ⊥
not_long k b x y l = ⊎_elim (λ h. x h.0) (λ h. y h.0) l

-- a kind whose body is tested
told_leaf : (k : ℕ) (b : List ℕ) (good : Bool) (P : Type 0) → Decides good P → (P → (r : Rec) × IsLeaf k b r) → ((r : Rec) → IsLeaf k b r → P) → (Long k b → ⊥) → k ≤ 5 → ContentTold k b (leaf_of good)
told_leaf k b true P d f g l h = f (d.0 refl)
told_leaf k b false P d f g l h = record { no_leaf = λ r x. false≢true (d.1 (g r x)); not_long = l; no_list = λ e. omega arith; no_object = λ e. omega arith }

pub empty_decides : (b : List ℕ) (r : Bool) → r ≡ eqb (length b) 0 → Decides r (b ≡ [])
empty_decides [] r e = (λ t. refl, λ n. e)
empty_decides (x ∷ xs) r e = (λ t. absurd (let z = eqb-true (length (x ∷ xs)) 0 (sym e ∙ t) in omega arith), λ n. absurd (let z = ap length n in omega arith))

pub told_null : (b : List ℕ) (good : Bool) → Decides good (b ≡ []) → ContentTold 1 b (leaf_of good)
told_null b good d = told_leaf 1 b good (b ≡ []) d (λ e. (r_null, (refl, e))) (λ r x. by_null (leafy 1 b r x)) (not_long 1 b (λ e. omega arith) (λ e. omega arith)) (omega arith)

pub told_boolean : (b : List ℕ) (good : Bool) → Decides good (BooleanForm b) → ContentTold 2 b (leaf_of good)
told_boolean b good d = told_leaf 2 b good (BooleanForm b) d (λ f. (r_plain (p_boolean f.0), (refl, f.1, tt))) (λ r x. by_boolean (leafy 2 b r x)) (not_long 2 b (λ e. omega arith) (λ e. omega arith)) (omega arith)

pub told_whole : (b : List ℕ) (good : Bool) → length b ≤ 1000 → Decides good (WholeForm b) → ContentTold 3 b (leaf_of good)
told_whole b good h d =
    told_leaf 3 b good (WholeForm b) d
    (λ w. (r_plain (p_whole b), (refl, refl, record { formed = w; short = h })))
    (λ r x. (by_whole (leafy 3 b r x)).formed)
    (λ x. ⊎_elim (λ l. omega (arith, l.1)) (λ l. let e = l.0 in omega arith) x) (omega arith)

pub told_decimal : (b : List ℕ) (good : Bool) → length b ≤ 1005 → Decides good (DecimalForm b) → ContentTold 4 b (leaf_of good)
told_decimal b good h d =
    told_leaf 4 b good (DecimalForm b) d
    (λ f. let e = ap length f.body in (r_plain (p_decimal f.dec), (refl, f.body, record { formed = f.formed; short = omega arith; fits = f.fits })))
    (λ r x. (by_decimal (leafy 4 b r x)).0)
    (λ x. ⊎_elim (λ l. let e = l.0 in omega arith) (λ l. omega (arith, l.1)) x) (omega arith)

pub told_string : (b : List ℕ) (good : Bool) → Decides good (IsUtf8 b) → ContentTold 5 b (leaf_of good)
told_string b good d = told_leaf 5 b good (IsUtf8 b) d (λ u. (r_plain (p_string b), (refl, refl, u))) (λ r x. by_string (leafy 5 b r x)) (not_long 5 b (λ e. omega arith) (λ e. omega arith)) (omega arith)

pub told_other : (k : ℕ) (b : List ℕ) → (1 ≤ k → 8 ≤ k) → Senseless k b
told_other k b h = record {
  no_leaf = λ r x. let l = leafy_kind (leafy k b r x) in let g = h l.0 in omega (arith, l.1);
  not_long = not_long k b (λ e. let g = h (omega arith) in omega arith) (λ e. let g = h (omega arith) in omega arith);
  no_list = λ e. let g = h (omega arith) in omega arith;
  no_object = λ e. let g = h (omega arith) in omega arith;
}

pub told_unknown : (k : ℕ) (b : List ℕ) → ((q : RecordKind) → number_of q ≢ k) → Senseless k b
told_unknown k b h =
    let n1 = h Null in
    let n2 = h Boolean in
    let n3 = h Whole in
    let n4 = h Decimal in
    let n5 = h String in
    let n6 = h ListKind in
    let n7 = h Object in
    told_other k b (λ l. omega arith)

-- by the kind that the number is of
pub of_kind : {k : ℕ} {q s : RecordKind} {r t : Result Content BodyError} (b : List ℕ) → number_of q ≡ k → q ≡ s → r ≡ t → ContentTold (number_of s) b t → ContentTold k b r
of_kind {k} {t = t} b n e f x = subst (ContentTold k b) (sym f) (subst (λ m. ContentTold m b t) (ap number_of (sym e) ∙ n) x)
