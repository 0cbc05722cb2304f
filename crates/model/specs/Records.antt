-- The bytes of records and of sheets.
use Rattle.std.specs.Prelude.{◌≡◌, ℕ, ◌+◌, ◌-◌, ◌/◌, ◌%◌, ◌<◌, Bool, true, false, List, [], ◌∷◌, ◌++◌, length, ℤ, pos, negsuc}
use Rattle.model.specs.Values.{Plain, p_boolean, p_whole, p_decimal, p_string, Rec, Recs, Rmems, r_null, r_plain, r_list, r_object, r_nil, r_cons, r_end, r_mem}

-- four bytes, the least significant first
abbrev pub le32 : ℕ → List ℕ
le32 n = (n % 256) ∷ (n / 256 % 256) ∷ (n / 65536 % 256) ∷ (n / 16777216 % 256) ∷ []

-- a record: body length, kind (two bytes), body
abbrev pub framed : ℕ → List ℕ → List ℕ
framed k b = le32 (length b) ++ (k ∷ 0 ∷ b)

-- two's complement in four bytes
abbrev pub twos : ℤ → ℕ
twos (pos n) = n
twos (negsuc n) = 4294967295 - n

abbrev pub truth : Bool → ℕ
truth true = 1
truth false = 0

abbrev pub plain_kind : Plain → ℕ
plain_kind (p_boolean b) = 2
plain_kind (p_whole s) = 3
plain_kind (p_decimal d) = 4
plain_kind (p_string s) = 5

abbrev pub plain_body : Plain → List ℕ
plain_body (p_boolean b) = truth b ∷ []
plain_body (p_whole s) = s
plain_body (p_decimal d) = truth d.negative ∷ (le32 (twos d.exponent) ++ d.digits)
plain_body (p_string s) = s

-- the kinds: 1 null, 2 boolean, 3 whole, 4 decimal, 5 string, 6 list, 7 object; 8 is a member's name
abbrev pub kind : Rec → ℕ
kind r_null = 1
kind (r_plain x) = plain_kind x
kind (r_list rs) = 6
kind (r_object ms) = 7

abbrev mutual
  pub body : Rec → List ℕ
  body r_null = []
  body (r_plain x) = plain_body x
  body (r_list rs) = encode_all rs
  body (r_object ms) = encode_mems ms

  pub encode_all : Recs → List ℕ
  encode_all r_nil = []
  encode_all (r_cons r rs) = framed (kind r) (body r) ++ encode_all rs

  pub encode_mems : Rmems → List ℕ
  encode_mems r_end = []
  encode_mems (r_mem n r ms) = framed 8 n ++ (framed (kind r) (body r) ++ encode_mems ms)

-- the bytes of a record; a sheet's are `encode_mems` of its members
abbrev pub encode : Rec → List ℕ
encode r = framed (kind r) (body r)

-- how many bytes a record takes
abbrev pub plain_size : Plain → ℕ
plain_size (p_boolean b) = 1
plain_size (p_whole s) = length s
plain_size (p_decimal d) = 5 + length d.digits
plain_size (p_string s) = length s

abbrev mutual
  pub size : Rec → ℕ
  size r_null = 6
  size (r_plain x) = 6 + plain_size x
  size (r_list rs) = 6 + size_all rs
  size (r_object ms) = 6 + size_mems ms

  pub size_all : Recs → ℕ
  size_all r_nil = 0
  size_all (r_cons r rs) = size r + size_all rs

  pub size_mems : Rmems → ℕ
  size_mems r_end = 0
  size_mems (r_mem n r ms) = (6 + length n) + (size r + size_mems ms)

-- the exponent of a decimal fits four bytes
abbrev pub ExponentFits : ℤ → Type 0
ExponentFits (pos n) = n < 2147483648
ExponentFits (negsuc n) = n < 2147483648

abbrev pub PlainFits : Plain → Type 0
PlainFits (p_boolean b) = Unit {0}
PlainFits (p_whole s) = Unit {0}
PlainFits (p_decimal d) = ExponentFits d.exponent
PlainFits (p_string s) = Unit {0}

-- every exponent of a record fits
abbrev mutual
  pub Fits : Rec → Type 0
  Fits r_null = Unit {0}
  Fits (r_plain x) = PlainFits x
  Fits (r_list rs) = FitsAll rs
  Fits (r_object ms) = FitsMems ms

  pub FitsAll : Recs → Type 0
  FitsAll r_nil = Unit {0}
  FitsAll (r_cons r rs) = Fits r × FitsAll rs

  pub FitsMems : Rmems → Type 0
  FitsMems r_end = Unit {0}
  FitsMems (r_mem n r ms) = Fits r × FitsMems ms

-- the bytes are a record's, or a sheet's
pub record Decodes (bytes : List ℕ) (r : Rec) : Type 0 where
  pub fits : Fits r
  pub bytes_are : encode r ≡ bytes

pub record DecodesSheet (bytes : List ℕ) (ms : Rmems) : Type 0 where
  pub fits : FitsMems ms
  pub bytes_are : encode_mems ms ≡ bytes
