-- Escapes, and the characters of a string.
use Rattle.std.proofs.Common.{◌≡◌, ℕ, ◌+◌, ◌<◌, ◌≤◌, ◌≢◌, Bool, true, false, List, ◌∷◌, ◌++◌, length, get_or, drop, Some, None, Option, sym, refl, ap, ◌∙◌, subst, ⊎_elim, arith, length-drop}
use lib.Utf8.{encode, low_scalar}
use Rattle.std.specs.Bool.{MatchBool, then_some}
use Rattle.std.proofs.lemmas.Str.{encode_ascii}
use Rattle.text.specs.declared.language.Language.{Language}
use Rattle.text.specs.declared.language.Language.TheVariants.{Json, Graphql}
use Rattle.text.specs.StringGrammar.{Utf8Char, utf8, Code, Short, quote, backslash, slash, backspace, form_feed, line_feed, carriage_return, tab, Escape, short, unicode, Unescaped, Char, unescaped, escape}
use Rattle.text.specs.StringDecode.{Exactly, Nothing, Told}
use Rattle.text.proofs.StrUtf8.{drop_more, utf8_same}
use Rattle.text.proofs.StrCodes.{code_same}

not_short : {c d : ℕ} → Short c d → c ≢ 34 → c ≢ 92 → c ≢ 47 → c ≢ 98 → c ≢ 102 → c ≢ 110 → c ≢ 114 → c ≢ 116 → ⊥
not_short quote h _ _ _ _ _ _ _ = h refl
not_short backslash _ h _ _ _ _ _ _ = h refl
not_short slash _ _ h _ _ _ _ _ = h refl
not_short backspace _ _ _ h _ _ _ _ = h refl
not_short form_feed _ _ _ _ h _ _ _ = h refl
not_short line_feed _ _ _ _ _ h _ _ = h refl
not_short carriage_return _ _ _ _ _ _ h _ = h refl
not_short tab _ _ _ _ _ _ _ h = h refl

short_same : {c d e : ℕ} → Short c d → Short c e → d ≡ e
short_same quote quote = refl
short_same backslash backslash = refl
short_same slash slash = refl
short_same backspace backspace = refl
short_same form_feed form_feed = refl
short_same line_feed line_feed = refl
short_same carriage_return carriage_return = refl
short_same tab tab = refl

no_u : {d : ℕ} → Short 117 d → ⊥
no_u s = elim s [ ]

-- an escape by its first byte
by_u : {t r : List ℕ} {c : ℕ} → Escape (117 ∷ t) c r → Code t c r
by_u (short s) = absurd (no_u s)
by_u (unicode c) = c

by_letter : {b c : ℕ} {t r : List ℕ} → b ≢ 117 → Escape (b ∷ t) c r → Short b c × (t ≡ r)
by_letter n (short s) = (s, refl)
by_letter n (unicode c) = absurd (n refl)

pub escape_same : {xs r t : List ℕ} {c d : ℕ} → Escape xs c r → Escape xs d t → (c ≡ d) × (r ≡ t)
escape_same (short s) (short z) = (short_same s z, refl)
escape_same (short s) (unicode c) = absurd (no_u s)
escape_same (unicode c) (short s) = absurd (no_u s)
escape_same (unicode c) (unicode d) = code_same c d

some : {xs r : List ℕ} {c : ℕ} → Escape xs c r → 0 < length xs
some (short s) = omega arith
some (unicode c) = omega arith

module _ (text : List ℕ) (at : ℕ) where
  pub escape_end : length text ≤ at → Nothing Escape text at
  escape_end h y r e = omega (arith, some e, length-drop at text)

  module _ (h : at < length text) where
    here_is : (b : ℕ) → get_or text at 0 ≡ b → drop at text ≡ b ∷ drop (at + 1) text
    here_is b e = drop_more text at (at + 1) h refl ∙ ap (λ n. n ∷ drop (at + 1) text) e

    pub escape_short : {b c : ℕ} → get_or text at 0 ≡ b → Short b c → Exactly Escape text at c (at + 1)
    escape_short {b} {c} e s =
        let x : Escape (drop at text) c (drop (at + 1) text) = subst (λ l. Escape l c (drop (at + 1) text)) (sym (here_is b e)) (short s) in
        record { forward = omega arith; within = omega arith; reads = x; only = λ y r z. escape_same x z }

    pub escape_u : get_or text at 0 ≡ 117 → (o : Option (ℕ × ℕ)) → Told Code text (at + 1) o → Told Escape text at o
    escape_u e None n = λ y r x. n y r (by_u (subst (λ l. Escape l y r) (here_is 117 e) x))
    escape_u e (Some p) w =
        let x : Escape (drop at text) p.0 (drop p.1 text) = subst (λ l. Escape l p.0 (drop p.1 text)) (sym (here_is 117 e)) (unicode w.reads) in
        record { forward = omega (arith, w.forward); within = w.within; reads = x; only = λ y r z. escape_same x z }

    pub escape_other : (b : ℕ) → get_or text at 0 ≡ b → b ≢ 34 → b ≢ 92 → b ≢ 47 → b ≢ 98 → b ≢ 102 → b ≢ 110 → b ≢ 114 → b ≢ 116 → b ≢ 117 → Nothing Escape text at
    escape_other b e n1 n2 n3 n4 n5 n6 n7 n8 n9 y r x = not_short (by_letter n9 (subst (λ l. Escape l y r) (here_is b e) x)).0 n1 n2 n3 n4 n5 n6 n7 n8

-- what stands in a string as it is, is no quotation mark and no backslash
no_mark : (language : Language) → Unescaped language 34 → ⊥
no_mark Json o = ⊎_elim (λ i. omega arith) (λ p. ⊎_elim (λ i. omega arith) (λ i. omega arith) p) o
no_mark Graphql o = o.1 refl

pub no_backslash : (language : Language) → Unescaped language 92 → ⊥
no_backslash Json o = ⊎_elim (λ i. omega arith) (λ p. ⊎_elim (λ i. omega arith) (λ i. omega arith) p) o
no_backslash Graphql o = o.2 refl

-- a byte of ASCII is a character
ascii : (b : ℕ) (t : List ℕ) → b < 128 → Utf8Char (b ∷ t) b t
ascii b t h = utf8 (low_scalar b (omega arith)) (ap (λ l. l ++ t) (sym (encode_ascii b h)))

spelled : {xs r : List ℕ} {b : ℕ} → b ≡ 92 → Utf8Char xs b r → xs ≡ 92 ∷ r
spelled {r = r} e (utf8 s f) = f ∙ ap (λ n. encode n ++ r) e ∙ ap (λ l. l ++ r) (encode_ascii 92 (omega arith))

module _ {language : Language} where
  pub char_same : {xs r t : List ℕ} {c d : ℕ} → Char language xs c r → Char language xs d t → (c ≡ d) × (r ≡ t)
  char_same (unescaped u o) (unescaped v p) = utf8_same u v
  char_same (unescaped u o) (escape {xs} e) = absurd (no_backslash language (subst (Unescaped language) (utf8_same u (ascii 92 xs (omega arith))).0 o))
  char_same (escape {xs} e) (unescaped u o) = absurd (no_backslash language (subst (Unescaped language) (utf8_same u (ascii 92 xs (omega arith))).0 o))
  char_same (escape e) (escape f) = escape_same e f

  pub no_quote : {t r : List ℕ} {c : ℕ} → Char language (34 ∷ t) c r → ⊥
  no_quote {t} (unescaped u o) = no_mark language (subst (Unescaped language) (utf8_same u (ascii 34 t (omega arith))).0 o)

  -- the first character, as it stands
  first : {xs r : List ℕ} {c : ℕ} → Char language xs c r → (b : ℕ) × (ys : List ℕ) × Utf8Char xs b ys
  first (unescaped {r = r} {c} u o) = (c, r, u)
  first (escape {xs} e) = (92, xs, ascii 92 xs (omega arith))

  pub by_backslash : {t r : List ℕ} {c : ℕ} → Char language (92 ∷ t) c r → Escape t c r
  by_backslash {t} (unescaped u o) = absurd (no_backslash language (subst (Unescaped language) (utf8_same u (ascii 92 t (omega arith))).0 o))
  by_backslash (escape e) = e

  by_raw : {xs ys r : List ℕ} {b c : ℕ} → Utf8Char xs b ys → b ≢ 92 → Char language xs c r → Unescaped language b
  by_raw {b = b} u n (unescaped v o) = subst (Unescaped language) (sym (utf8_same u v).0) o
  by_raw u n (escape {xs} e) = absurd (n (utf8_same u (ascii 92 xs (omega arith))).0)

-- a character of a string by the character that stands first
module _ (language : Language) (text : List ℕ) (at : ℕ) where
  pub char_none : Nothing Utf8Char text at → Nothing (Char language) text at
  char_none n y r c = let f = first c in n f.0 f.1 f.2

  module _ {b end : ℕ} (x : Exactly Utf8Char text at b end) where
    pub char_escape : b ≡ 92 → (o : Option (ℕ × ℕ)) → Told Escape text end o → Told (Char language) text at o
    char_escape e None n = λ y r c. n y r (by_backslash (subst (λ l. Char language l y r) (spelled e x.reads) c))
    char_escape e (Some p) w =
        let c : Char language (drop at text) p.0 (drop p.1 text) = subst (λ l. Char language l p.0 (drop p.1 text)) (sym (spelled e x.reads)) (escape w.reads) in
        record { forward = omega (arith, x.forward, w.forward); within = w.within; reads = c; only = λ y r z. char_same c z }

    pub char_settled : b ≢ 92 → (raw : Bool) → MatchBool raw (Unescaped language b) (Unescaped language b → ⊥) → Told (Char language) text at (then_some raw (b, end))
    char_settled n true o = record { forward = x.forward; within = x.within; reads = unescaped x.reads o; only = λ y r z. char_same (unescaped x.reads o) z }
    char_settled n false o = λ y r c. o (by_raw x.reads n c)
