-- The run of the scanner over bytes, against the grammar.
use Rattle.std.proofs.Common.{◌≡◌, ℕ, ◌+◌, ◌-◌, ◌*◌, ◌<◌, ◌≤◌, ◌⊎◌, List, [], ◌∷◌, ◌++◌, length, min, get_or, take, drop, Some, None, Ok, Err, Option, Result, sym, refl, ap, ◌∙◌, subst, inl, inr, ⊎_elim, append_assoc, append-nil, arith, length-drop}
use Rattle.std.proofs.lemmas.List.{take_more, take_rest, get_or-drop}
use Rattle.std.proofs.lemmas.Bool.Decides.{nat_tests}
use Rattle.std.proofs.lemmas.Bool.{cases_lt}
use Rattle.text.specs.declared.fault.Fault.{Fault}
use Rattle.text.specs.declared.fault.Fault.TheVariants.{BadText, TooDeep, NoSpace, RepeatedName, LongNumber, NoMemory}
use Rattle.text.specs.declared.number.NumberKind.{NumberKind}
use Rattle.text.specs.declared.number.NumberKind.TheVariants.{Whole, Decimal}
use Rattle.text.specs.declared.number.State.{State}
use Rattle.text.specs.declared.number.State.TheVariants.{Start, Minus, Zero, Int, Point, Frac, Exp, ExpSign, ExpDigits}
use Rattle.text.specs.NumberMoves.{next, marked, capped, kind_in, exponent_in, Finished}
use Rattle.text.specs.NumberGrammar.{IsDigit, Optional, without, with, Digits, none, digit, IsMinus, minus, IsSign, sign_minus, sign_plus, IsMark, small_e, great_e, IsInt, zero_int, int, IsFrac, frac, IsExp, exp, kind_of, Number}
use Rattle.text.specs.NumberWorth.{after as read_on}
use Rattle.text.specs.NumberScan.{size_in, exponent_of, Begins, Longest, Found, Unfinished, Endless, FarScaled, Scanned}
use Rattle.text.specs.Cuts.{part}
use Rattle.text.proofs.LexBase.{length_part}

abbrev pub after : Option State → ℕ → Option State
after None b = None
after (Some s) b = next s b

abbrev pub run : Option State → List ℕ → Option State
run o [] = o
run o (b ∷ bs) = run (after o b) bs

abbrev pub start : Option State
start = Some Start

pub run_append : (o : Option State) (xs ys : List ℕ) → run o (xs ++ ys) ≡ run (run o xs) ys
run_append o [] ys = refl
run_append o (x ∷ xs) ys = run_append (after o x) xs ys

pub run_none : (xs : List ℕ) → run None xs ≡ None
run_none [] = refl
run_none (x ∷ xs) = run_none xs

pub same_state : {s t : State} → ◌≡◌ {A = Option State} (Some s) (Some t) → s ≡ t
same_state e = cc

-- the states in which a number may end, with its kind, and those that an exponent may follow
pub data Ends : State → NumberKind → Type 0 where
  zero_ends : Ends Zero Whole
  int_ends : Ends Int Whole
  frac_ends : Ends Frac Decimal
  exp_ends : {v : ℕ} → Ends (ExpDigits v) Decimal

data Ready : State → NumberKind → Type 0 where
  zero_ready : Ready Zero Whole
  int_ready : Ready Int Whole
  frac_ready : Ready Frac Decimal

int_stays : (d : ℕ) → IsDigit d → next Int d ≡ Some Int
int_stays d h = grind (arith, nat_tests, h)

frac_stays : (d : ℕ) → IsDigit d → next Frac d ≡ Some Frac
frac_stays d h = grind (arith, nat_tests, h)

exp_stays : (v d : ℕ) → IsDigit d → next (ExpDigits v) d ≡ Some (ExpDigits (capped (v * 10 + (d - 48))))
exp_stays v d h = grind (arith, nat_tests, h)

point_digit : (d : ℕ) → IsDigit d → next Point d ≡ Some Frac
point_digit d h = grind (arith, nat_tests, h)

exp_digit : (d : ℕ) → IsDigit d → next Exp d ≡ Some (ExpDigits (d - 48))
exp_digit d h = grind (arith, nat_tests, h)

sign_digit : (d : ℕ) → IsDigit d → next ExpSign d ≡ Some (ExpDigits (d - 48))
sign_digit d h = grind (arith, nat_tests, h)

minus_lead : (d : ℕ) → 49 ≤ d → d ≤ 57 → next Minus d ≡ Some Int
minus_lead d h k = grind (arith, nat_tests, h, k)

start_lead : (d : ℕ) → 49 ≤ d → d ≤ 57 → next Start d ≡ Some Int
start_lead d h k = grind (arith, nat_tests, h, k)

-- the cap may be laid on before or after one more digit
pub cap_more : (v d : ℕ) → capped (capped v * 10 + d) ≡ capped (v * 10 + d)
cap_more v d = omega arith

-- a digit is below the cap
cap_digit : (d : ℕ) → IsDigit d → d - 48 ≡ capped (0 * 10 + (d - 48))
cap_digit d h = omega (arith, h)

int_digits : {ds : List ℕ} → Digits ds → run (Some Int) ds ≡ Some Int
int_digits none = refl
int_digits (digit {d} {ds} h r) = ap (λ o. run o ds) (int_stays d h) ∙ int_digits r

frac_digits : {ds : List ℕ} → Digits ds → run (Some Frac) ds ≡ Some Frac
frac_digits none = refl
frac_digits (digit {d} {ds} h r) = ap (λ o. run o ds) (frac_stays d h) ∙ frac_digits r

exp_digits : (v : ℕ) {ds : List ℕ} → Digits ds → run (Some (ExpDigits (capped v))) ds ≡ Some (ExpDigits (capped (read_on v ds)))
exp_digits v none = refl
exp_digits v (digit {d} {ds} h r) =
    ap (λ o. run o ds) (exp_stays (capped v) d h)
    ∙ ap (λ n. run (Some (ExpDigits n)) ds) (cap_more v (d - 48))
    ∙ exp_digits (v * 10 + (d - 48)) r

-- the run over an integer, with or without a minus before it
run_int : {m i : List ℕ} → Optional IsMinus m → IsInt i → (s : State) × (run start (m ++ i) ≡ Some s) × Ready s Whole
run_int without zero_int = (Zero, refl, zero_ready)
run_int without (int {d} {ds} h k r) = (Int, ap (λ o. run o ds) (start_lead d h k) ∙ int_digits r, int_ready)
run_int (with minus) zero_int = (Zero, refl, zero_ready)
run_int (with minus) (int {d} {ds} h k r) = (Int, ap (λ o. run o ds) (minus_lead d h k) ∙ int_digits r, int_ready)

run_frac : {s : State} {f : List ℕ} → Ready s Whole → Optional IsFrac f → (t : State) × (run (Some s) f ≡ Some t) × Ready t (kind_of f [])
run_frac {s} z without = (s, refl, z)
run_frac zero_ready (with (frac {d} {ds} h r)) = (Frac, ap (λ o. run o ds) (point_digit d h) ∙ frac_digits r, frac_ready)
run_frac int_ready (with (frac {d} {ds} h r)) = (Frac, ap (λ o. run o ds) (point_digit d h) ∙ frac_digits r, frac_ready)

ready_ends : {s : State} {k : NumberKind} → Ready s k → Ends s k
ready_ends zero_ready = zero_ends
ready_ends int_ready = int_ends
ready_ends frac_ready = frac_ends

marks : {s : State} {k : NumberKind} {e : ℕ} → Ready s k → IsMark e → next s e ≡ Some Exp
marks zero_ready small_e = refl
marks zero_ready great_e = refl
marks int_ready small_e = refl
marks int_ready great_e = refl
marks frac_ready small_e = refl
marks frac_ready great_e = refl

-- the digits of an exponent, after a state that the first of them leads on from
power_digits : (s : State) {d : ℕ} {ds : List ℕ} → next s d ≡ Some (ExpDigits (d - 48)) → IsDigit d → Digits ds → run (Some s) (d ∷ ds) ≡ Some (ExpDigits (capped (read_on 0 (d ∷ ds))))
power_digits s {d} {ds} e h r = ap (λ o. run o ds) (e ∙ ap (λ n. Some (ExpDigits n)) (cap_digit d h)) ∙ exp_digits (0 * 10 + (d - 48)) r

power : {s ds : List ℕ} {d : ℕ} → Optional IsSign s → IsDigit d → Digits ds → run (Some Exp) (s ++ d ∷ ds) ≡ Some (ExpDigits (capped (read_on 0 (d ∷ ds))))
power {d = d} without h r = power_digits Exp (exp_digit d h) h r
power {d = d} (with sign_minus) h r = power_digits ExpSign (sign_digit d h) h r
power {d = d} (with sign_plus) h r = power_digits ExpSign (sign_digit d h) h r

decimal : (f : List ℕ) (x : ℕ) (xs : List ℕ) → Decimal ≡ kind_of f (x ∷ xs)
decimal [] x xs = refl
decimal (y ∷ f) x xs = refl

ready_size : {s : State} {k : NumberKind} → Ready s k → exponent_in s ≡ 0
ready_size zero_ready = refl
ready_size int_ready = refl
ready_size frac_ready = refl

run_exp : {s : State} (f : List ℕ) {e : List ℕ} → Ready s (kind_of f []) → (x : Optional IsExp e) → (t : State) × (run (Some s) e ≡ Some t) × Ends t (kind_of f e) × (exponent_in t ≡ capped (size_in x))
run_exp {s} f z without = (s, refl, ready_ends z, ready_size z)
run_exp f z (with (exp {e} {d} {s = g} {ds} a b h r)) = (ExpDigits (capped (read_on 0 (d ∷ ds))), ap (λ o. run o (g ++ d ∷ ds)) (marks z a) ∙ power b h r, subst (Ends (ExpDigits (capped (read_on 0 (d ∷ ds))))) (decimal f e (g ++ d ∷ ds)) exp_ends, refl)

-- the run over a number ends in a state in which one may, with the size of its exponent
pub complete : {xs : List ℕ} {k : NumberKind} → (n : Number xs k) → (t : State) × (run start xs ≡ Some t) × Ends t k × (exponent_in t ≡ capped (exponent_of n))
complete {xs} {k} n =
    let a = run_int n.sign n.whole in
    let b = run_frac a.2 n.fraction in
    let c = run_exp n.f b.2 n.exponent in (
      c.0,
      ap (run start) (n.spelled ∙ sym (append_assoc n.m n.i (n.f ++ n.e)))
          ∙ run_append start (n.m ++ n.i) (n.f ++ n.e)
          ∙ ap (λ o. run o (n.f ++ n.e)) a.1
          ∙ run_append (Some a.0) n.f n.e
          ∙ ap (λ o. run o n.e) b.1
          ∙ c.1,
      subst (Ends c.0) (sym n.kinds) c.2,
      c.3,
    )

-- a byte that leads to no state continues no number
pub refused : (xs : List ℕ) (b : ℕ) (s : State) → run start xs ≡ Some s → next s b ≡ None → Begins (xs ++ b ∷ []) → ⊥
refused xs b s r n g =
    let c = complete g.number in
    let dead : run start ((xs ++ b ∷ []) ++ g.rest) ≡ None =
    run_append start (xs ++ b ∷ []) g.rest
    ∙ ap (λ o. run o g.rest) (run_append start xs (b ∷ []) ∙ ap (λ o. run o (b ∷ [])) r ∙ n)
    ∙ run_none g.rest in
    let both : ◌≡◌ {A = Option State} (Some c.0) None = sym c.1 ∙ dead in
    let z : ◌≡◌ {A = ℕ} 0 1 = cc in omega arith

-- what a byte can do in each state
move_lead : (b : ℕ) (t : State) → next Minus b ≡ Some t → ((b ≡ 48) × (t ≡ Zero)) ⊎ ((49 ≤ b) × (b ≤ 57) × (t ≡ Int))
move_lead b t e = grind (arith, nat_tests, e)

move_start : (b : ℕ) (t : State) → next Start b ≡ Some t → ((b ≡ 45) × (t ≡ Minus)) ⊎ (next Minus b ≡ Some t)
move_start b t e = grind (arith, nat_tests, e)

move_mark : (b : ℕ) (t : State) → marked b ≡ Some t → ((b ≡ 101) ⊎ (b ≡ 69)) × (t ≡ Exp)
move_mark b t e = grind (arith, nat_tests, e)

move_zero : (b : ℕ) (t : State) → next Zero b ≡ Some t → ((b ≡ 46) × (t ≡ Point)) ⊎ (marked b ≡ Some t)
move_zero b t e = grind (arith, nat_tests, e)

move_int : (b : ℕ) (t : State) → next Int b ≡ Some t → (IsDigit b × (t ≡ Int)) ⊎ (next Zero b ≡ Some t)
move_int b t e = grind (arith, nat_tests, e)

move_point : (b : ℕ) (t : State) → next Point b ≡ Some t → IsDigit b × (t ≡ Frac)
move_point b t e = grind (arith, nat_tests, e)

move_frac : (b : ℕ) (t : State) → next Frac b ≡ Some t → (IsDigit b × (t ≡ Frac)) ⊎ (marked b ≡ Some t)
move_frac b t e = grind (arith, nat_tests, e)

move_sign : (b : ℕ) (t : State) → next ExpSign b ≡ Some t → IsDigit b × (t ≡ ExpDigits (b - 48))
move_sign b t e = grind (arith, nat_tests, e)

move_exp : (b : ℕ) (t : State) → next Exp b ≡ Some t → (IsDigit b × (t ≡ ExpDigits (b - 48))) ⊎ (((b ≡ 43) ⊎ (b ≡ 45)) × (t ≡ ExpSign))
move_exp b t e = grind (arith, nat_tests, e)

move_power : (v b : ℕ) (t : State) → next (ExpDigits v) b ≡ Some t → IsDigit b × (t ≡ ExpDigits (capped (v * 10 + (b - 48))))
move_power v b t e = grind (arith, nat_tests, e)

exponent_mark : {b : ℕ} → (b ≡ 101) ⊎ (b ≡ 69) → IsMark b
exponent_mark (inl e) = subst IsMark (sym e) small_e
exponent_mark (inr e) = subst IsMark (sym e) great_e

exponent_sign : {b : ℕ} → (b ≡ 43) ⊎ (b ≡ 45) → IsSign (b ∷ [])
exponent_sign (inl e) = subst (λ b. IsSign (b ∷ [])) (sym e) sign_plus
exponent_sign (inr e) = subst (λ b. IsSign (b ∷ [])) (sym e) sign_minus

-- one more digit at the end
snoc : {ds : List ℕ} {d : ℕ} → Digits ds → IsDigit d → Digits (ds ++ d ∷ [])
snoc none h = digit h none
snoc (digit g r) h = digit g (snoc r h)

read_more : (v : ℕ) (ds : List ℕ) (b : ℕ) → read_on v (ds ++ b ∷ []) ≡ read_on v ds * 10 + (b - 48)
read_more v [] b = refl
read_more v (d ∷ ds) b = read_more (v * 10 + (d - 48)) ds b

-- what the bytes so far are, in each state
pub data Derived : State → List ℕ → Type 0 where
  at_start : Derived Start []
  at_minus : Derived Minus (45 ∷ [])
  at_zero : {xs m : List ℕ} → Optional IsMinus m → xs ≡ m ++ 48 ∷ [] → Derived Zero xs
  at_int : {xs m ds : List ℕ} {d : ℕ} → Optional IsMinus m → 49 ≤ d → d ≤ 57 → Digits ds → xs ≡ m ++ d ∷ ds → Derived Int xs
  at_point : {xs m i : List ℕ} → Optional IsMinus m → IsInt i → xs ≡ m ++ (i ++ 46 ∷ []) → Derived Point xs
  at_frac : {xs m i ds : List ℕ} {d : ℕ} → Optional IsMinus m → IsInt i → IsDigit d → Digits ds → xs ≡ m ++ (i ++ 46 ∷ d ∷ ds) → Derived Frac xs
  at_exp : {xs m i f : List ℕ} {e : ℕ} → Optional IsMinus m → IsInt i → Optional IsFrac f → IsMark e → xs ≡ m ++ (i ++ (f ++ e ∷ [])) → Derived Exp xs
  at_sign : {xs m i f s : List ℕ} {e : ℕ} → Optional IsMinus m → IsInt i → Optional IsFrac f → IsMark e → IsSign s → xs ≡ m ++ (i ++ (f ++ e ∷ s)) → Derived ExpSign xs
  at_digits : {v : ℕ} {xs m i f s ds : List ℕ} {e d : ℕ} → Optional IsMinus m → IsInt i → Optional IsFrac f → IsMark e → Optional IsSign s → IsDigit d → Digits ds → xs ≡ m ++ (i ++ (f ++ e ∷ (s ++ d ∷ ds))) → v ≡ capped (read_on 0 (d ∷ ds)) → Derived (ExpDigits v) xs

grow_lead : {m : List ℕ} (b : ℕ) (t : State) → Optional IsMinus m → next Minus b ≡ Some t → Derived t (m ++ b ∷ [])
grow_lead b t o e =
    ⊎_elim
    (λ p. rw (p.0, p.1) (at_zero o refl))
    (λ p. rw p.2 (at_int o p.0 p.1 none refl))
    (move_lead b t e)

grow_mark : {xs m i f : List ℕ} (b : ℕ) (t : State) → Optional IsMinus m → IsInt i → Optional IsFrac f → xs ≡ m ++ (i ++ f) → marked b ≡ Some t → Derived t (xs ++ b ∷ [])
grow_mark b t o i f q e = let p = move_mark b t e in rw p.1 (at_exp o i f (exponent_mark p.0) (ap (λ l. l ++ b ∷ []) q ∙ simp append_assoc))

grow_zero : {xs m i : List ℕ} (b : ℕ) (t : State) → Optional IsMinus m → IsInt i → xs ≡ m ++ i → next Zero b ≡ Some t → Derived t (xs ++ b ∷ [])
grow_zero {xs} {m} {i} b t o n q e =
    ⊎_elim
    (λ p. rw (p.0, p.1) (at_point o n (ap (λ l. l ++ 46 ∷ []) q ∙ simp append_assoc)))
    (λ p. grow_mark b t o n without (q ∙ ap (λ l. m ++ l) (sym (append-nil i))) p)
    (move_zero b t e)

-- the size of an exponent with one more digit
more_size : (v b d : ℕ) (ds : List ℕ) → v ≡ capped (read_on 0 (d ∷ ds)) → capped (v * 10 + (b - 48)) ≡ capped (read_on 0 (d ∷ (ds ++ b ∷ [])))
more_size v b d ds e = ap (λ n. capped (n * 10 + (b - 48))) e ∙ cap_more (read_on 0 (d ∷ ds)) (b - 48) ∙ ap capped (sym (read_more 0 (d ∷ ds) b))

-- one more byte
pub grow : {s : State} {xs : List ℕ} (b : ℕ) (t : State) → Derived s xs → next s b ≡ Some t → Derived t (xs ++ b ∷ [])
grow b t at_start e = ⊎_elim (λ p. rw (p.0, p.1) at_minus) (λ p. grow_lead b t without p) (move_start b t e)
grow b t at_minus e = grow_lead b t (with minus) e
grow b t (at_zero o q) e = grow_zero b t o zero_int q e
grow b t (at_int o h k r q) e =
    ⊎_elim
    (λ p. rw p.1 (at_int o h k (snoc r p.0) (ap (λ l. l ++ b ∷ []) q ∙ simp append_assoc)))
    (λ p. grow_zero b t o (int h k r) q p)
    (move_int b t e)
grow b t (at_point o i q) e = let p = move_point b t e in rw p.1 (at_frac o i p.0 none (ap (λ l. l ++ b ∷ []) q ∙ simp append_assoc))
grow b t (at_frac o i h r q) e =
    ⊎_elim
    (λ p. rw p.1 (at_frac o i h (snoc r p.0) (ap (λ l. l ++ b ∷ []) q ∙ simp append_assoc)))
    (λ p. grow_mark b t o i (with (frac h r)) q p)
    (move_frac b t e)
grow b t (at_exp o i f a q) e =
    ⊎_elim
    (λ p. rw p.1 (at_digits o i f a without p.0 none (ap (λ l. l ++ b ∷ []) q ∙ simp append_assoc) (cap_digit b p.0)))
    (λ p. rw p.1 (at_sign o i f a (exponent_sign p.0) (ap (λ l. l ++ b ∷ []) q ∙ simp append_assoc)))
    (move_exp b t e)
grow b t (at_sign o i f a s q) e = let p = move_sign b t e in rw p.1 (at_digits o i f a (with s) p.0 none (ap (λ l. l ++ b ∷ []) q ∙ simp append_assoc) (cap_digit b p.0))
grow b t (at_digits {v} {ds = ds} {d = d} o i f a s h r q w) e = let p = move_power v b t e in rw p.1 (at_digits o i f a s h (snoc r p.0) (ap (λ l. l ++ b ∷ []) q ∙ simp append_assoc) (more_size v b d ds w))

-- a number of that kind, whose exponent is that large, up to a million
pub record Told (xs : List ℕ) (k : NumberKind) (v : ℕ) : Type 0 where
  pub number : Number xs k
  pub size : v ≡ capped (exponent_of number)

pub sound : {s : State} {xs : List ℕ} {k : NumberKind} → Derived s xs → Ends s k → Told xs k (exponent_in s)
sound at_start n = elim n [ ]
sound at_minus n = elim n [ ]
sound (at_point o i q) n = elim n [ ]
sound (at_exp o i f a q) n = elim n [ ]
sound (at_sign o i f a s q) n = elim n [ ]
sound (at_zero {m = m} o q) zero_ends = record { number = record { m = m; i = 48 ∷ []; f = []; e = []; sign = o; whole = zero_int; fraction = without; exponent = without; spelled = q; kinds = refl }; size = refl }
sound (at_int {m = m} {ds} {d} o h k r q) int_ends = record { number = record { m = m; i = d ∷ ds; f = []; e = []; sign = o; whole = int h k r; fraction = without; exponent = without; spelled = q ∙ ap (λ l. m ++ d ∷ l) (sym (append-nil ds)); kinds = refl }; size = refl }
sound (at_frac {m = m} {i} {ds} {d} o w h r q) frac_ends = record { number = record { m = m; i = i; f = 46 ∷ d ∷ ds; e = []; sign = o; whole = w; fraction = with (frac h r); exponent = without; spelled = q ∙ ap (λ l. m ++ (i ++ 46 ∷ d ∷ l)) (sym (append-nil ds)); kinds = refl }; size = refl }
sound (at_digits {m = m} {i} {f} {s} {ds} {e} {d} o w c a g h r q z) exp_ends = record { number = record { m = m; i = i; f = f; e = e ∷ (s ++ d ∷ ds); sign = o; whole = w; fraction = c; exponent = with (exp a g h r); spelled = q; kinds = decimal f e (s ++ d ∷ ds) }; size = z }

ended : {s : State} {xs : List ℕ} {k : NumberKind} → Derived s xs → Ends s k → Begins xs
ended {xs = xs} {k} d e = record { rest = []; kind = k; number = subst (λ l. Number l k) (sym (append-nil xs)) (sound d e).number }

one_more : {s t : State} {xs : List ℕ} {k : NumberKind} (b : ℕ) → Derived s xs → next s b ≡ Some t → Ends t k → Begins xs
one_more {t = t} {k = k} b d e n = record { rest = b ∷ []; kind = k; number = (sound (grow b t d e) n).number }

pub begun : (s : State) (xs : List ℕ) → Derived s xs → Begins xs
begun Start xs d = one_more 48 d refl zero_ends
begun Minus xs d = one_more 48 d refl zero_ends
begun Zero xs d = ended d zero_ends
begun Int xs d = ended d int_ends
begun Point xs d = one_more 48 d refl frac_ends
begun Frac xs d = ended d frac_ends
begun Exp xs d = one_more 48 d refl exp_ends
begun ExpSign xs d = one_more 48 d refl exp_ends
begun (ExpDigits v) xs d = ended d exp_ends

pub ends_in : (s : State) (k : NumberKind) → Ends s k → kind_in s ≡ Some k
ends_in s k zero_ends = refl
ends_in s k int_ends = refl
ends_in s k frac_ends = refl
ends_in s k exp_ends = refl

no_kind : (k : NumberKind) → ◌≡◌ {A = Option NumberKind} None (Some k) → ⊥
no_kind k e = let z : ◌≡◌ {A = ℕ} 0 1 = cc in omega arith

pub in_ends : (s : State) (k : NumberKind) → kind_in s ≡ Some k → Ends s k
in_ends Start k e = absurd (no_kind k e)
in_ends Minus k e = absurd (no_kind k e)
in_ends Zero k e = let z : k ≡ Whole = cc in rw z zero_ends
in_ends Int k e = let z : k ≡ Whole = cc in rw z int_ends
in_ends Point k e = absurd (no_kind k e)
in_ends Frac k e = let z : k ≡ Decimal = cc in rw z frac_ends
in_ends Exp k e = absurd (no_kind k e)
in_ends ExpSign k e = absurd (no_kind k e)
in_ends (ExpDigits v) k e = let z : k ≡ Decimal = cc in rw z exp_ends

-- the bytes from `at` to `end` were taken, and the scanner is at s
pub record Reached (text : List ℕ) (at end : ℕ) (s : State) : Type 0 where
  pub forward : at ≤ end
  pub within : end - at ≤ length text - at
  pub short : end ≤ at + 1000
  pub ran : run start (part text at end) ≡ Some s
  pub derived : Derived s (part text at end)

-- and no further byte is taken
pub record Rested (text : List ℕ) (at end : ℕ) (s : State) : Type 0 where
  pub reached : Reached text at end s
  pub stop : end < length text → next s (get_or text end 0) ≡ None

part_none : (text : List ℕ) (i : ℕ) → part text i i ≡ []
part_none text i = let z : i - i ≡ 0 = omega arith in ap (λ n. take n (drop i text)) z

pub part_more : (text : List ℕ) (i j : ℕ) → i ≤ j → j < length text → part text i (j + 1) ≡ part text i j ++ get_or text j 0 ∷ []
part_more text i j h l =
    let inside : j - i < length (drop i text) = omega (arith, length-drop i text) in
    let one : (j + 1) - i ≡ (j - i) + 1 = omega arith in
    let there : i + (j - i) ≡ j = omega arith in
    ap (λ n. take n (drop i text)) one
    ∙ take_more (drop i text) (j - i) 0 inside
    ∙ ap (λ b. part text i j ++ b ∷ []) (get_or-drop i text (j - i) 0 ∙ ap (λ n. get_or text n 0) there)

-- the bytes from `at` on, which the scan goes over
pub byte_there : (text : List ℕ) (at here i : ℕ) → here ≡ min at (length text) → i < length (part text here (length text)) → (at + i < length text) × (get_or (part text here (length text)) i 0 ≡ get_or text (at + i) 0)
byte_there text at here i e h =
    let size = length_part text here (length text) (omega arith) in
    let same : here ≡ at = omega (arith, size) in
    (omega (arith, size), ap (λ l. get_or l i 0) (take_rest text here) ∙ get_or-drop here text i 0 ∙ ap (λ n. get_or text (n + i) 0) same)

pub all_gone : (text : List ℕ) (at here : ℕ) → here ≡ min at (length text) → at + length (part text here (length text)) < length text → ⊥
all_gone text at here e h = omega (arith, length_part text here (length text) (omega arith))

pub begin : (text : List ℕ) (at : ℕ) → Reached text at at Start
begin text at = record {
  forward = omega arith;
  within = omega arith;
  short = omega arith;
  ran = ap (run start) (part_none text at);
  derived = subst (Derived Start) (sym (part_none text at)) at_start;
}

module _ {text : List ℕ} {at end : ℕ} {s : State} (r : Reached text at end s) where
  pub onward : (t : State) → end < length text → next s (get_or text end 0) ≡ Some t → end - at < 1000 → Reached text at (end + 1) t
  onward t l e short =
      let more = part_more text at end r.forward l in record {
        forward = omega (arith, r.forward);
        within = omega arith;
        short = omega arith;
        ran = ap (run start) more ∙ run_append start (part text at end) (get_or text end 0 ∷ []) ∙ ap (λ o. run o (get_or text end 0 ∷ [])) r.ran ∙ e;
        derived = subst (Derived t) (sym more) (grow (get_or text end 0) t r.derived e);
      }

  pub endless : (t : State) → end < length text → next s (get_or text end 0) ≡ Some t → 1000 ≤ end - at → Endless text at
  endless t l e long =
      let more = part_more text at end r.forward l in
      let full : end + 1 ≡ at + 1001 = omega (arith, r.short, r.forward) in
      record {
        long = omega (arith, r.short);
        begins = subst Begins (sym more ∙ ap (part text at) full) (begun t (part text at end ++ get_or text end 0 ∷ []) (grow (get_or text end 0) t r.derived e));
      }

  -- in a state in which a number ends a byte was taken
  moved : {k : NumberKind} → kind_in s ≡ Some k → at < end
  moved {k} i =
      ⊎_elim
      (λ h. h)
      (λ h.
      let z : end - at ≡ 0 = omega arith in
      let same = same_state (sym (ap (λ n. run start (take n (drop at text))) z) ∙ r.ran) in
      absurd (no_kind k (ap kind_in same ∙ i)))
      (cases_lt at end)

module _ {text : List ℕ} {at end : ℕ} {s : State} (q : Rested text at end s) where
  stopped : Longest text at end
  stopped = let r = q.reached in record {
    forward = r.forward;
    within = r.within;
    begins = begun s (part text at end) r.derived;
    stops = λ l b. refused (part text at end) (get_or text end 0) s r.ran (q.stop l) (subst Begins (part_more text at end r.forward l) b);
  }

  pub found : {k : NumberKind} → kind_in s ≡ Some k → exponent_in s < 1000000 → Found text at end k
  found {k} i l =
      let r = q.reached in
      let t = sound r.derived (in_ends s k i) in
      let some = moved r i in
      record { some = some; inside = omega (arith, r.within); longest = stopped; short = r.short; number = t.number; small = omega (arith, t.size) }

  pub far_scaled : {k : NumberKind} → kind_in s ≡ Some k → 1000000 ≤ exponent_in s → FarScaled text at
  far_scaled {k} i l =
      let t = sound q.reached.derived (in_ends s k i) in
      record { end = end; kind = k; longest = stopped; short = q.reached.short; number = t.number; large = omega (arith, t.size) }

  pub unfinished : kind_in s ≡ None → Unfinished text at
  unfinished o = record {
    end = end;
    longest = stopped;
    short = q.reached.short;
    no_number = λ k x.
        let c = complete x in
        no_kind k (sym o ∙ ends_in s k (subst (λ q. Ends q k) (same_state (sym c.1 ∙ q.reached.ran)) c.2));
  }

pub settled : {text : List ℕ} {at end : ℕ} (s : State) → Rested text at end s → (r : Result (ℕ × NumberKind) Fault) → Finished s at end r → Scanned text at r
settled {text} {at} s q (Ok r) f = subst (λ n. Found text at n r.1) (sym f.0) (found q f.1 f.2)
settled s q (Err (BadText k)) f = (f.0, unfinished q f.1)
settled s q (Err (LongNumber k)) f = (f.0, inr (far_scaled q f.1.1 f.2))
settled s q (Err (TooDeep k)) f = absurd f
settled s q (Err (NoSpace k)) f = absurd f
settled s q (Err (RepeatedName k)) f = absurd f
settled s q (Err NoMemory) f = absurd f
