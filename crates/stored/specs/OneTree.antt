-- One tree stands at a cursor, within the limits of a source.
use Rattle.std.specs.Prelude.{◌≡◌, ℕ, zero, suc, ◌+◌, ◌≤◌, List, ◌∷◌, length, refl}
use Rattle.std.proofs.Common.{sym, ap, subst, ◌∙◌, arith}
use Rattle.model.specs.Values.{Name, Plain, p_boolean, p_whole, p_decimal, p_string, Rec, Recs, Rmems, r_null, r_plain, r_list, r_object, r_nil, r_cons, r_end, r_mem, Raw}
use Rattle.model.specs.Back.{Distinct, as_scalar}
use Rattle.model.specs.Records.{kind, body, encode, framed, Fits, FitsAll, FitsMems}
use Rattle.model.specs.Limits.{RecLimits, RecLimitsAll, RecLimitsMems, RawLimits, RawLimitsAll, RawLimitsMems, mem_names, rec_names, ScalarLimits, PlainLimits}
use Rattle.model.proofs.ByteLaws.{encode_injective}
use Rattle.source.specs.Standing.{Lawful}
use Rattle.source.proofs.Standings.{limits_less}
use Rattle.stored.specs.Frames.{past, Framed}
use Rattle.stored.specs.Cursors.{shown, shown_all, shown_mems, Leads, at_root, at_item, at_member, Held}
use Rattle.stored.specs.OneFrame.{one_framed, inside}

pub kind_small : (r : Rec) → (1 ≤ kind r) × (kind r ≤ 7)
kind_small r_null = (omega arith, omega arith)
kind_small (r_plain (p_boolean t)) = (omega arith, omega arith)
kind_small (r_plain (p_whole s)) = (omega arith, omega arith)
kind_small (r_plain (p_decimal d)) = (omega arith, omega arith)
kind_small (r_plain (p_string s)) = (omega arith, omega arith)
kind_small (r_list rs) = (omega arith, omega arith)
kind_small (r_object ms) = (omega arith, omega arith)

-- what is within the limits fits its bytes
mutual
  pub limits_fit : (k : ℕ) (r : Rec) → RecLimits k r → Fits r
  limits_fit k r_null l = tt
  limits_fit k (r_plain (p_boolean b)) l = tt
  limits_fit k (r_plain (p_whole s)) l = tt
  limits_fit k (r_plain (p_decimal d)) l = l.1.fits
  limits_fit k (r_plain (p_string s)) l = tt
  limits_fit k (r_list rs) l = limits_fit_all (suc k) rs l.1
  limits_fit k (r_object ms) l = limits_fit_mems (suc k) ms l.2

  limits_fit_all : (k : ℕ) (rs : Recs) → RecLimitsAll k rs → FitsAll rs
  limits_fit_all k r_nil l = tt
  limits_fit_all k (r_cons r rs) l = (limits_fit k r l.0, limits_fit_all k rs l.1)

  pub limits_fit_mems : (k : ℕ) (ms : Rmems) → RecLimitsMems k ms → FitsMems ms
  limits_fit_mems k r_end l = tt
  limits_fit_mems k (r_mem n r ms) l = (limits_fit k r l.1, limits_fit_mems k ms l.2)

-- ONE TREE

one_record : {bytes : List ℕ} {i : ℕ} (r s : Rec) → length bytes ≤ 65536 → Fits r → Fits s → Framed bytes i (length bytes) (kind r) (body r) → Framed bytes i (length bytes) (kind s) (body s) → r ≡ s
one_record r s n f g x y =
    let e = one_framed x y in
    let l = inside x in
    let m = inside y in
    encode_injective.0 r s f g (omega arith) (omega arith) (ap (λ b. framed (kind r) b) e.1 ∙ ap (λ k. framed k (body s)) e.0)

record Same (p q f g : ℕ) (r s : Rec) : Type 0 where
  places : p ≡ q
  froms : f ≡ g
  values : r ≡ s

one_target : {bytes : List ℕ} {at p q f g : ℕ} {r s : Rec} → length bytes ≤ 65536 → Fits r → Fits s → Leads bytes at p f r → Leads bytes at q g s → Same p q f g r s
one_target n a b (at_root {ms = ms} e w) (at_root {ms = ks} h v) =
    record { places = refl; froms = refl; values = ap r_object (encode_injective.1 ms ks a b (let l = ap length w in omega arith) (let l = ap length v in omega arith) (w ∙ sym v)) }
one_target n a b (at_root e w) (at_item y) = absurd (let l = inside y in omega arith)
one_target n a b (at_root e w) (at_member y v z) = absurd (let l = inside y in omega arith)
one_target n a b (at_item x) (at_root h v) = absurd (let l = inside x in omega arith)
one_target {r = r} {s} n a b (at_item x) (at_item y) = record { places = refl; froms = refl; values = one_record r s n a b x y }
one_target {r = r} n a b (at_item x) (at_member y v z) = absurd (let e = (one_framed x y).0 in let k = kind_small r in omega (arith, k.1))
one_target n a b (at_member x w u) (at_root h v) = absurd (let l = inside x in omega arith)
one_target {s = s} n a b (at_member x w u) (at_item y) = absurd (let e = (one_framed x y).0 in let k = kind_small s in omega (arith, k.1))
one_target {bytes} {at} {p} {q} {r = r} {s} n a b (at_member x w u) (at_member y v z) =
    let e : p ≡ q = sym w ∙ ap (past at) (one_framed x y).1 ∙ v in
    record { places = e; froms = ap (λ k. k + 6) e; values = one_record r s n a b (subst (λ k. Framed bytes k (length bytes) (kind r) (body r)) e u) z }

pub one_held : (bytes : List ℕ) (at : ℕ) (t u : Raw) → Held bytes at t → Held bytes at u → t ≡ u
one_held bytes at t u a b =
    let e = one_target a.short (limits_fit a.depth a.value a.within) (limits_fit b.depth b.value b.within) a.leads b.leads in
    sym a.shows ∙ (λ i. shown (e.places i) (e.froms i) (e.values i)) ∙ b.shows

-- THE LIMITS

plain_limits : (x : Plain) → PlainLimits x → ScalarLimits (as_scalar x)
plain_limits (p_boolean b) l = tt
plain_limits (p_whole s) l = l
plain_limits (p_decimal d) l = l
plain_limits (p_string s) l = l

names_shown : (i : ℕ) (ms : Rmems) → mem_names (shown_mems i ms) ≡ rec_names ms
names_shown i r_end = refl
names_shown i (r_mem n r ms) = ap (λ (ns : List Name). n ∷ ns) (names_shown (past i n + length (encode r)) ms)

mutual
  limits_shown : (k p f : ℕ) (r : Rec) → RecLimits k r → RawLimits k (shown p f r)
  limits_shown k p f r_null l = l
  limits_shown k p f (r_plain x) l = (l.0, plain_limits x l.1)
  limits_shown k p f (r_list rs) l = (l.0, limits_shown_all (suc k) f rs l.1)
  limits_shown k p f (r_object ms) l = (l.0, subst Distinct (sym (names_shown f ms)) l.1, limits_shown_mems (suc k) f ms l.2)

  limits_shown_all : (k i : ℕ) (rs : Recs) → RecLimitsAll k rs → RawLimitsAll k (shown_all i rs)
  limits_shown_all k i r_nil l = tt
  limits_shown_all k i (r_cons r rs) l = (limits_shown k i (i + 6) r l.0, limits_shown_all k (i + length (encode r)) rs l.1)

  limits_shown_mems : (k i : ℕ) (ms : Rmems) → RecLimitsMems k ms → RawLimitsMems k (shown_mems i ms)
  limits_shown_mems k i r_end l = tt
  limits_shown_mems k i (r_mem n r ms) l = (l.0, limits_shown k (past i n) (past i n + 6) r l.1, limits_shown_mems k (past i n + length (encode r)) ms l.2)

limits_none : (d : ℕ) (t : Raw) → RawLimits d t → RawLimits 0 t
limits_none zero t h = h
limits_none (suc d) t h = limits_none d t (limits_less d t h)

held_limits : (bytes : List ℕ) (at : ℕ) (t : Raw) → Held bytes at t → RawLimits 0 t
held_limits bytes at t h = subst (RawLimits 0) h.shows (limits_none h.depth _ (limits_shown h.depth h.place h.from h.value h.within))

pub lawful : {S : Type 0} (bytes : S → List ℕ) → Lawful (λ (s : S). Held (bytes s))
lawful bytes = record { one = λ s. one_held (bytes s); within = λ s. held_limits (bytes s) }
