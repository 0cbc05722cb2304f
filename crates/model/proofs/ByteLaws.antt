-- The bytes of records: their number, and that they are told apart.
use Rattle.std.proofs.Common.{◌≡◌, ℕ, ◌/◌, ◌%◌, ◌^◌, ◌<◌, Bool, true, false, List, [], ◌∷◌, ◌++◌, length, ℤ, pos, negsuc, sym, refl, ap, ◌∙◌, ap₂, arith}
use Rattle.std.proofs.lemmas.List.{length-append}
use Rattle.model.specs.Values.{Name, Dec, Plain, p_boolean, p_whole, p_decimal, p_string, Rec, Recs, Rmems, r_null, r_plain, r_list, r_object, r_nil, r_cons, r_end, r_mem}
use Rattle.model.specs.Records.{le32, framed, twos, truth, plain_kind, plain_body, kind, body, encode, encode_all, encode_mems, plain_size, size, size_all, size_mems, ExponentFits, PlainFits, Fits, FitsAll, FitsMems, Decodes, DecodesSheet}
use Rattle.model.specs.Laws.{EncodeInjective, SizeIsLength, DecodesOnce}
use Rattle.model.proofs.NumLaws.{dec_same}

-- SIZES

plain_size_lem : (x : Plain) → length (plain_body x) ≡ plain_size x
plain_size_lem (p_boolean b) = refl
plain_size_lem (p_whole s) = refl
plain_size_lem (p_decimal d) = omega arith
plain_size_lem (p_string s) = refl

mutual
  size_is : (r : Rec) → length (encode r) ≡ size r
  size_is r_null = refl
  size_is (r_plain x) = omega (arith, plain_size_lem x)
  size_is (r_list rs) = omega (arith, size-all rs)
  size_is (r_object ms) = omega (arith, size-mems ms)

  size-all : (rs : Recs) → length (encode_all rs) ≡ size_all rs
  size-all r_nil = refl
  size-all (r_cons r rs) =
      let l = length-append (body r) (encode_all rs) in
      let one = size_is r in
      let rest = size-all rs in
      omega arith

  size-mems : (ms : Rmems) → length (encode_mems ms) ≡ size_mems ms
  size-mems r_end = refl
  size-mems (r_mem n r ms) =
      let k = length-append n (encode r ++ encode_mems ms) in
      let l = length-append (body r) (encode_mems ms) in
      let one = size_is r in
      let rest = size-mems ms in
      omega arith

pub size-is_length : SizeIsLength
size-is_length = (size_is, size-mems)

-- BYTES ARE TOLD APART

le32-same : (m n : ℕ) → m < 2 ^ 32 → n < 2 ^ 32 → m % 256 ≡ n % 256 → m / 256 % 256 ≡ n / 256 % 256 → m / 65536 % 256 ≡ n / 65536 % 256 → m / 16777216 % 256 ≡ n / 16777216 % 256 → m ≡ n
le32-same m n a b p q r s = omega arith

le32-inj : (m n : ℕ) → m < 2 ^ 32 → n < 2 ^ 32 → le32 m ≡ le32 n → m ≡ n
le32-inj m n a b e =
    let p : m % 256 ≡ n % 256 = cc in
    let q : m / 256 % 256 ≡ n / 256 % 256 = cc in
    let r : m / 65536 % 256 ≡ n / 65536 % 256 = cc in
    let s : m / 16777216 % 256 ≡ n / 16777216 % 256 = cc in
    le32-same m n a b p q r s

none_some : {a : ℕ} {b : List ℕ} → [] ≡ a ∷ b → ⊥
none_some e = let z : ◌≡◌ {A = ℕ} 0 1 = cc in omega arith

-- lists of one length are told from what follows them
split : (a b x y : List ℕ) → length a ≡ length b → a ++ x ≡ b ++ y → (a ≡ b) × (x ≡ y)
split [] [] x y l e = (refl, e)
split [] (b ∷ bs) x y l e = absurd (omega arith)
split (a ∷ cs) [] x y l e = absurd (omega arith)
split (a ∷ cs) (b ∷ bs) x y l e =
    let f : cs ++ x ≡ bs ++ y = cc in
    let h : a ≡ b = cc in
    let p = split cs bs x y (omega arith) f in
    (ap₂ (λ (u : ℕ) (us : List ℕ). u ∷ us) h p.0, p.1)

-- a framed body is told from what follows it
framed-inj : (k l : ℕ) (a b x y : List ℕ) → length a < 2 ^ 32 → length b < 2 ^ 32 → framed k a ++ x ≡ framed l b ++ y → (k ≡ l) × (a ≡ b) × (x ≡ y)
framed-inj k l a b x y s t e =
    let h : le32 (length a) ≡ le32 (length b) = cc in
    let f : a ++ x ≡ b ++ y = cc in
    let p = split a b x y (le32-inj _ _ s t h) f in
    let q : k ≡ l = cc in
    (q, p.0, p.1)

truth-inj : (a b : Bool) → truth a ≡ truth b → a ≡ b
truth-inj true true e = refl
truth-inj true false e = absurd (omega arith)
truth-inj false true e = absurd (omega arith)
truth-inj false false e = refl

twos-below : (x : ℤ) → ExponentFits x → twos x < 2 ^ 32
twos-below (pos n) f = omega arith
twos-below (negsuc n) f = omega arith

twos-inj : (x y : ℤ) → ExponentFits x → ExponentFits y → twos x ≡ twos y → x ≡ y
twos-inj (pos m) (pos n) f g e = ap pos e
twos-inj (pos m) (negsuc n) f g e = absurd (omega arith)
twos-inj (negsuc m) (pos n) f g e = absurd (omega arith)
twos-inj (negsuc m) (negsuc n) f g e = let h : m ≡ n = omega arith in ap negsuc h

-- the sign, the exponent and the digits of a decimal are told from its body
dec_inj : (d e : Dec) → ExponentFits d.exponent → ExponentFits e.exponent → plain_body (p_decimal d) ≡ plain_body (p_decimal e) → d ≡ e
dec_inj d e f g h =
    let a : truth d.negative ≡ truth e.negative = cc in
    let b : le32 (twos d.exponent) ≡ le32 (twos e.exponent) = cc in
    let c : d.digits ≡ e.digits = cc in
    let t = le32-inj (twos d.exponent) (twos e.exponent) (twos-below d.exponent f) (twos-below e.exponent g) b in
    dec_same d e (truth-inj d.negative e.negative a) (twos-inj d.exponent e.exponent f g t) c

plain_same : (x y : Plain) → PlainFits x → PlainFits y → plain_kind x ≡ plain_kind y → plain_body x ≡ plain_body y → x ≡ y
plain_same (p_boolean a) (p_boolean b) f g k e = let h : truth a ≡ truth b = cc in ap p_boolean (truth-inj a b h)
plain_same (p_boolean a) (p_whole t) f g k e = absurd (omega arith)
plain_same (p_boolean a) (p_decimal d) f g k e = absurd (omega arith)
plain_same (p_boolean a) (p_string t) f g k e = absurd (omega arith)
plain_same (p_whole s) (p_boolean b) f g k e = absurd (omega arith)
plain_same (p_whole s) (p_whole t) f g k e = ap p_whole e
plain_same (p_whole s) (p_decimal d) f g k e = absurd (omega arith)
plain_same (p_whole s) (p_string t) f g k e = absurd (omega arith)
plain_same (p_decimal c) (p_boolean b) f g k e = absurd (omega arith)
plain_same (p_decimal c) (p_whole t) f g k e = absurd (omega arith)
plain_same (p_decimal c) (p_decimal d) f g k e = ap p_decimal (dec_inj c d f g e)
plain_same (p_decimal c) (p_string t) f g k e = absurd (omega arith)
plain_same (p_string s) (p_boolean b) f g k e = absurd (omega arith)
plain_same (p_string s) (p_whole t) f g k e = absurd (omega arith)
plain_same (p_string s) (p_decimal d) f g k e = absurd (omega arith)
plain_same (p_string s) (p_string t) f g k e = ap p_string e

plain_kind_lem : (x : Plain) → (1 < plain_kind x) × (plain_kind x < 6)
plain_kind_lem (p_boolean b) = (omega arith, omega arith)
plain_kind_lem (p_whole s) = (omega arith, omega arith)
plain_kind_lem (p_decimal d) = (omega arith, omega arith)
plain_kind_lem (p_string s) = (omega arith, omega arith)

-- the parts of what is short are short
short_all : (r : Rec) (rs : Recs) → length (encode_all (r_cons r rs)) < 2 ^ 32 → (length (body r) < 2 ^ 32) × (length (encode_all rs) < 2 ^ 32)
short_all r rs h = let l = length-append (body r) (encode_all rs) in (omega arith, omega arith)

short_mems : (n : Name) (r : Rec) (ms : Rmems) → length (encode_mems (r_mem n r ms)) < 2 ^ 32 → (length n < 2 ^ 32) × (length (body r) < 2 ^ 32) × (length (encode_mems ms) < 2 ^ 32)
short_mems n r ms h =
    let k = length-append n (encode r ++ encode_mems ms) in
    let l = length-append (body r) (encode_mems ms) in
    (omega arith, omega arith, omega arith)

mutual
  body_same : (r s : Rec) → Fits r → Fits s → length (body r) < 2 ^ 32 → length (body s) < 2 ^ 32 → kind r ≡ kind s → body r ≡ body s → r ≡ s
  body_same r_null r_null f g a b k e = refl
  body_same r_null (r_plain y) f g a b k e = absurd (omega (arith, plain_kind_lem y))
  body_same r_null (r_list ss) f g a b k e = absurd (omega arith)
  body_same r_null (r_object ns) f g a b k e = absurd (omega arith)
  body_same (r_plain x) r_null f g a b k e = absurd (omega (arith, plain_kind_lem x))
  body_same (r_plain x) (r_plain y) f g a b k e = ap r_plain (plain_same x y f g k e)
  body_same (r_plain x) (r_list ss) f g a b k e = absurd (omega (arith, plain_kind_lem x))
  body_same (r_plain x) (r_object ns) f g a b k e = absurd (omega (arith, plain_kind_lem x))
  body_same (r_list rs) r_null f g a b k e = absurd (omega arith)
  body_same (r_list rs) (r_plain y) f g a b k e = absurd (omega (arith, plain_kind_lem y))
  body_same (r_list rs) (r_list ss) f g a b k e = ap r_list (all_same rs ss f g a b e)
  body_same (r_list rs) (r_object ns) f g a b k e = absurd (omega arith)
  body_same (r_object ms) r_null f g a b k e = absurd (omega arith)
  body_same (r_object ms) (r_plain y) f g a b k e = absurd (omega (arith, plain_kind_lem y))
  body_same (r_object ms) (r_list ss) f g a b k e = absurd (omega arith)
  body_same (r_object ms) (r_object ns) f g a b k e = ap r_object (mems_same ms ns f g a b e)

  all_same : (rs ss : Recs) → FitsAll rs → FitsAll ss → length (encode_all rs) < 2 ^ 32 → length (encode_all ss) < 2 ^ 32 → encode_all rs ≡ encode_all ss → rs ≡ ss
  all_same r_nil r_nil f g a b e = refl
  all_same r_nil (r_cons s ss) f g a b e = absurd (none_some e)
  all_same (r_cons r rs) r_nil f g a b e = absurd (none_some (sym e))
  all_same (r_cons r rs) (r_cons s ss) f g a b e =
      let h = short_all r rs a in
      let j = short_all s ss b in
      let p = framed-inj (kind r) (kind s) (body r) (body s) (encode_all rs) (encode_all ss) h.0 j.0 e in
      ap₂ r_cons (body_same r s f.0 g.0 h.0 j.0 p.0 p.1) (all_same rs ss f.1 g.1 h.1 j.1 p.2)

  mems_same : (ms ns : Rmems) → FitsMems ms → FitsMems ns → length (encode_mems ms) < 2 ^ 32 → length (encode_mems ns) < 2 ^ 32 → encode_mems ms ≡ encode_mems ns → ms ≡ ns
  mems_same r_end r_end f g a b e = refl
  mems_same r_end (r_mem n s ns) f g a b e = absurd (none_some e)
  mems_same (r_mem m r ms) r_end f g a b e = absurd (none_some (sym e))
  mems_same (r_mem m r ms) (r_mem n s ns) f g a b e =
      let h = short_mems m r ms a in
      let j = short_mems n s ns b in
      let q = framed-inj 8 8 m n (encode r ++ encode_mems ms) (encode s ++ encode_mems ns) h.0 j.0 e in
      let p = framed-inj (kind r) (kind s) (body r) (body s) (encode_mems ms) (encode_mems ns) h.1 j.1 q.2 in
      let names = q.1 in
      let one = body_same r s f.0 g.0 h.1 j.1 p.0 p.1 in
      let rest = mems_same ms ns f.1 g.1 h.2 j.2 p.2 in
      cc

rec_same : (r s : Rec) → Fits r → Fits s → length (encode r) < 2 ^ 32 → length (encode s) < 2 ^ 32 → encode r ≡ encode s → r ≡ s
rec_same r s f g a b e =
    let h : length (body r) < 2 ^ 32 = omega arith in
    let j : length (body s) < 2 ^ 32 = omega arith in
    let p = framed-inj (kind r) (kind s) (body r) (body s) [] [] h j (ap (λ l. l ++ []) e) in
    body_same r s f g h j p.0 p.1

pub encode_injective : EncodeInjective
encode_injective = (rec_same, mems_same)

-- DECODING

decodes_one : (bytes : List ℕ) (r s : Rec) → length bytes < 2 ^ 32 → Decodes bytes r → Decodes bytes s → r ≡ s
decodes_one bytes r s h a b =
    let p = ap length a.bytes_are in
    let q = ap length b.bytes_are in
    rec_same r s a.fits b.fits (omega arith) (omega arith) (a.bytes_are ∙ sym b.bytes_are)

decodes_sheet : (bytes : List ℕ) (ms ns : Rmems) → length bytes < 2 ^ 32 → DecodesSheet bytes ms → DecodesSheet bytes ns → ms ≡ ns
decodes_sheet bytes ms ns h a b =
    let p = ap length a.bytes_are in
    let q = ap length b.bytes_are in
    mems_same ms ns a.fits b.fits (omega arith) (omega arith) (a.bytes_are ∙ sym b.bytes_are)

pub decodes_once : DecodesOnce
decodes_once = (λ r f. record { fits = f; bytes_are = refl }, decodes_one, λ ms f. record { fits = f; bytes_are = refl }, decodes_sheet)
