-- What the grammar gives, bounded, is within the limits of a source; and a source's values are bounded.
use Rattle.std.proofs.Common.{◌≡◌, ℕ, suc, ◌<◌, ◌≤◌, true, List, [], ◌∷◌, length, drop, IsUtf8, IsAscii, refl, ap, ◌∙◌, subst, ⊎_elim, arith}
use mathlib.Core.Option.{some}
use lib.Utf8.{scalar as is_scalar, scalars, encode, encodes, low_scalar}
use Rattle.std.proofs.lemmas.Str.Ascii.{IsAscii-nil, IsAscii-cons}
use Rattle.std.proofs.lemmas.Str.{IsUtf8-from_ascii}
use Rattle.std.proofs.lemmas.Bool.{cases_Bool, and_from, le-leb, lt-ltb, le-ltb, cond-false}
use Rattle.model.specs.Values.{Name, Raw, Raws, Mems, null, scalar, variable, list, object, nil, cons, end, mem, same as same_name}
use Rattle.model.specs.Limits.{NameLimits, WholeLimits, RawLimits, RawLimitsAll, RawLimitsMems}
use Rattle.model.proofs.CoNames.{same_true}
use Rattle.text.specs.declared.language.Language.{Language}
use Rattle.text.specs.declared.language.Language.TheVariants.{Json, Graphql}
use Rattle.text.specs.declared.number.NumberKind.TheVariants.{Whole, Decimal}
use Rattle.text.specs.NormalForm.{WholeOf}
use Rattle.text.specs.StringGrammar.{Utf8Char, utf8, Hex4, hex4, Low, low, Code, lone, pair, Short, quote, backslash, slash, backspace, form_feed, line_feed, carriage_return, tab, Escape, short, unicode, Char, unescaped, escape, Run, none, more}
use Rattle.text.specs.TokenGrammar.{Lexical, a_name, a_string, Numeral, LiteralName, false_name, null_name, true_name, NameStart, NameContinue, NameRest, name_ends, name_goes, TokenOf, json_literal, json_string, graphql_name, graphql_empty, graphql_string}
use Rattle.text.proofs.NormLaws.{whole_normal}
use Rattle.reader.specs.Tokens.{TokenIs}
use Rattle.reader.specs.Grammar.{Leaf, l_null, l_true, l_false, l_symbol, l_whole, l_decimal, l_string, name_of, Value, g_leaf, g_variable, g_list, g_object, Values, g_nil, g_values, SomeValues, g_last, g_more, Members, g_end, g_members, SomeMembers, g_last_member, g_more_members, Member, g_member}
use Rattle.reader.specs.Reading.{Bounded, BoundedAll, BoundedMems}
use Rattle.reader.proofs.RdSights.{token_numeral}
use Rattle.reader.proofs.RdDecimals.{dec_limits}

mutual
  pub bounded_of : (k : ℕ) (t : Raw) → RawLimits k t → Bounded true k t
  bounded_of k (null at) h = h
  bounded_of k (scalar at s) h = h.0
  bounded_of k (variable at n) h = h.0
  bounded_of k (list at xs) h = (h.0, bounded_all (suc k) xs h.1)
  bounded_of k (object at ms) h = (h.0, h.1, bounded_mems (suc k) ms h.2)

  pub bounded_all : (k : ℕ) (xs : Raws) → RawLimitsAll k xs → BoundedAll true k xs
  bounded_all k nil h = tt
  bounded_all k (cons x xs) h = (bounded_of k x h.0, bounded_all k xs h.1)

  pub bounded_mems : (k : ℕ) (ms : Mems) → RawLimitsMems k ms → BoundedMems true k ms
  bounded_mems k end h = tt
  bounded_mems k (mem n x ms) h = (h.0.short, bounded_of k x h.1, bounded_mems k ms h.2)

-- names
start_ascii : (b : ℕ) → NameStart b → b < 128
start_ascii b h = ⊎_elim (λ e. omega arith) (λ g. ⊎_elim (λ e. omega (arith, e)) (λ e. omega (arith, e)) g) h

continue_ascii : (b : ℕ) → NameContinue b → b < 128
continue_ascii b h = ⊎_elim (λ e. start_ascii b e) (λ e. omega (arith, e)) h

rest_ascii : {bs : List ℕ} → NameRest bs → IsAscii bs
rest_ascii name_ends = IsAscii-nil
rest_ascii (name_goes {b} {bs} h r) = IsAscii-cons b bs (continue_ascii b h) (rest_ascii r)

literal_limits : {w : List ℕ} → LiteralName w → NameLimits w
unfolding encode
literal_limits false_name = record { short = omega arith; utf8 = (102 ∷ 97 ∷ 108 ∷ 115 ∷ 101 ∷ [], (refl, refl)) }
literal_limits null_name = record { short = omega arith; utf8 = (110 ∷ 117 ∷ 108 ∷ 108 ∷ [], (refl, refl)) }
literal_limits true_name = record { short = omega arith; utf8 = (116 ∷ 114 ∷ 117 ∷ 101 ∷ [], (refl, refl)) }

pub token_name : (language : Language) (xs w r : List ℕ) → TokenOf language xs (a_name w) r → NameLimits w
token_name Json xs w r (json_literal l e) = literal_limits l
token_name Graphql xs w r (graphql_name {b} {bs = bs} s c e a h) = record { short = h; utf8 = IsUtf8-from_ascii (b ∷ bs) (IsAscii-cons b bs (start_ascii b s) (rest_ascii c)) }

-- the characters of a string
high_scalar : (c : ℕ) → 57344 ≤ c → c < 1114112 → is_scalar c ≡ true
high_scalar c h l = cond-false _ true _ (le-ltb c 55296 (omega arith)) ∙ and_from _ _ (le-leb 57344 c h) (lt-ltb c 1114112 l)

hex_below : {xs r : List ℕ} {u : ℕ} → Hex4 xs u r → u < 65536
hex_below (hex4 a b c d) = omega arith

low_in : {xs r : List ℕ} {v : ℕ} → Low xs v r → (56320 ≤ v) × (v ≤ 57343)
low_in (low h i) = (omega (arith, i), omega (arith, i))

code_scalar : {xs r : List ℕ} {c : ℕ} → Code xs c r → is_scalar c ≡ true
code_scalar {c = c} (lone h o) = ⊎_elim (λ l. low_scalar c l) (λ l. high_scalar c (omega arith) (omega (arith, hex_below h))) o
code_scalar {c = c} (pair {u = u} {v = v} h i l) = let k = low_in l in high_scalar c (omega arith) (omega (arith, i))

short_scalar : {letter c : ℕ} → Short letter c → is_scalar c ≡ true
short_scalar quote = refl
short_scalar backslash = refl
short_scalar slash = refl
short_scalar backspace = refl
short_scalar form_feed = refl
short_scalar line_feed = refl
short_scalar carriage_return = refl
short_scalar tab = refl

utf8_scalar : {xs r : List ℕ} {c : ℕ} → Utf8Char xs c r → is_scalar c ≡ true
utf8_scalar (utf8 s e) = s

escape_scalar : {xs r : List ℕ} {c : ℕ} → Escape xs c r → is_scalar c ≡ true
escape_scalar (short s) = short_scalar s
escape_scalar (unicode c) = code_scalar c

char_scalar : {language : Language} {xs r : List ℕ} {c : ℕ} → Char language xs c r → is_scalar c ≡ true
char_scalar (unescaped u h) = utf8_scalar u
char_scalar (escape e) = escape_scalar e

run_scalars : {language : Language} {xs cs r : List ℕ} → Run language xs cs r → scalars cs ≡ true
run_scalars none = refl
run_scalars (more {cs = cs} {c = c} h r) = and_from (is_scalar c) (scalars cs) (char_scalar h) (run_scalars r)

pub token_scalars : (language : Language) (xs cs r : List ℕ) → TokenOf language xs (a_string cs) r → scalars cs ≡ true
token_scalars Json xs cs r (json_string h) = run_scalars h
token_scalars Graphql xs cs r (graphql_empty h) = refl
token_scalars Graphql xs cs r (graphql_string h) = run_scalars h

token_text : (language : Language) (xs cs bs r : List ℕ) → TokenOf language xs (a_string cs) r → encodes cs ≡ bs → IsUtf8 bs
token_text language xs cs bs r h e = (cs, (token_scalars language xs cs r h, e))

-- whole numbers
whole_short : (ds r : List ℕ) → WholeOf ds r → length ds ≤ 1000 → length r ≤ 1000
whole_short ds r o h = ⊎_elim
    (λ e. omega (arith, ap length (o.zero (same_true ds (45 ∷ 48 ∷ []) e))))
    (λ e. let no : ds ≡ 45 ∷ 48 ∷ [] → ⊥ = λ z. let y : same_name ds (45 ∷ 48 ∷ []) ≡ true = ap (λ (l : List ℕ). same_name l (45 ∷ 48 ∷ [])) z in let w : ◌≡◌ {A = ℕ} 0 1 = cc in omega arith in omega (arith, ap length (o.other no)))
    (cases_Bool (same_name ds (45 ∷ 48 ∷ [])))

pub whole_limits : (ds r : List ℕ) → Numeral ds Whole → WholeOf ds r → WholeLimits r
whole_limits ds r n o = record { formed = (whole_normal ds r o n.number).formed; short = whole_short ds r o n.short }

leaf_limits : {s : ℕ} {x : Lexical} {t : Raw} (language : Language) (xs r : List ℕ) → TokenOf language xs x r → Leaf s x t → (k : ℕ) → Bounded true k t → RawLimits k t
leaf_limits language xs r a (l_null e) k b = b
leaf_limits language xs r a (l_true e) k b = (b, tt)
leaf_limits language xs r a (l_false e) k b = (b, tt)
leaf_limits language xs r a (l_symbol {w} p q z) k b = (b, (token_name language xs w r a).utf8)
leaf_limits language xs r a (l_whole {ds} {r = w} o) k b = (b, whole_limits ds w (token_numeral language xs r ds Whole a) o)
leaf_limits language xs r a (l_decimal {ds} {d} n) k b = (b, dec_limits ds d (token_numeral language xs r ds Decimal a) n)
leaf_limits language xs r a (l_string {cs} {bs} e) k b = (b, token_text language xs cs bs r a e)

-- the name of a member
member_name_lem : (language : Language) (xs r : List ℕ) (x : Lexical) (n : Name) → TokenOf language xs x r → name_of language x ≡ some n → length n ≤ 127 → NameLimits n
member_name_lem Json xs r (a_string cs) n a e h = let z : encodes cs ≡ n = cc in record { short = h; utf8 = token_text Json xs cs n r a z }
member_name_lem Graphql xs r (a_name w) n a e h = let z : w ≡ n = cc in subst NameLimits z (token_name Graphql xs w r a)
member_name_lem Json xs r _ n a e h = let z : ◌≡◌ {A = ℕ} 0 1 = cc in absurd (omega arith)
member_name_lem Graphql xs r _ n a e h = let z : ◌≡◌ {A = ℕ} 0 1 = cc in absurd (omega arith)

-- over whatever tells which tokens stand
module _ (T : ℕ → ℕ → ℕ → Lexical → Type 0) (language : Language) (token : (i s e : ℕ) (x : Lexical) → T i s e x → (xs : List ℕ) × (r : List ℕ) × TokenOf language xs x r) where
  mutual
    limits : {i j : ℕ} {t : Raw} → Value T language i j t → (k : ℕ) → Bounded true k t → RawLimits k t
    limits {i} {j} (g_leaf {s = s} {x = x} a l) k b = let r = token i s j x a in leaf_limits language r.0 r.1 r.2 l k b
    limits {j = j} (g_variable {e = e} {b = s} {w = w} a n) k b = let r = token e s j (a_name w) n in (b, token_name language r.0 w r.1 r.2)
    limits (g_list a v) k b = (b.0, all_limits v (suc k) b.1)
    limits (g_object a v) k b = (b.0, b.1, mems_limits v (suc k) b.2)

    all_limits : {i j : ℕ} {xs : Raws} → Values T language i j xs → (k : ℕ) → BoundedAll true k xs → RawLimitsAll k xs
    all_limits (g_nil a) k b = tt
    all_limits (g_values v) k b = some_limits v k b

    some_limits : {i j : ℕ} {xs : Raws} → SomeValues T language i j xs → (k : ℕ) → BoundedAll true k xs → RawLimitsAll k xs
    some_limits (g_last v a) k b = (limits v k b.0, tt)
    some_limits (g_more v a r) k b = (limits v k b.0, some_limits r k b.1)

    mems_limits : {i j : ℕ} {ms : Mems} → Members T language i j ms → (k : ℕ) → BoundedMems true k ms → RawLimitsMems k ms
    mems_limits (g_end a) k b = tt
    mems_limits (g_members v) k b = some_mems_limits v k b

    some_mems_limits : {i j : ℕ} {ms : Mems} → SomeMembers T language i j ms → (k : ℕ) → BoundedMems true k ms → RawLimitsMems k ms
    some_mems_limits (g_last_member v a) k b = let m = mem_limits v k b.0 b.1 in (m.0, m.1, tt)
    some_mems_limits (g_more_members v a r) k b = let m = mem_limits v k b.0 b.1 in (m.0, m.1, some_mems_limits r k b.2)

    mem_limits : {i j : ℕ} {n : Name} {t : Raw} → Member T language i j n t → (k : ℕ) → length n ≤ 127 → Bounded true k t → NameLimits n × RawLimits k t
    mem_limits {i} (g_member {s = s} {e = e} {x = x} {n = n} a h c v) k l b = let r = token i s e x a in (member_name_lem language r.0 r.1 x n r.2 h l, limits v k b)

standing : (language : Language) (text : List ℕ) (i s e : ℕ) (x : Lexical) → TokenIs language text i s e x → (xs : List ℕ) × (r : List ℕ) × TokenOf language xs x r
standing language text i s e x h = (drop s text, drop e text, h.reads)

pub limits_of : {language : Language} {text : List ℕ} {i j : ℕ} {t : Raw} → Value (TokenIs language text) language i j t → (k : ℕ) → Bounded true k t → RawLimits k t
limits_of {language} {text} v k b = limits (TokenIs language text) language (standing language text) v k b
