-- What GraphQL ignores.
use Rattle.std.proofs.Common.{◌≡◌, ℕ, ◌+◌, ◌<◌, ◌≤◌, ◌≢◌, Bool, true, false, List, [], ◌∷◌, ◌++◌, length, get_or, drop, Some, None, Option, sym, refl, ap, ◌∙◌, subst, ⊎_elim, arith, length-append}
use lib.Utf8.{encode}
use Rattle.std.specs.Bool.{MatchBool, then_some}
use Rattle.std.proofs.lemmas.Str.{char_from_byte, length-encode, len_utf8_bounds}
use Rattle.text.specs.StringGrammar.{Utf8Char, utf8, LineTerminator}
use Rattle.text.specs.StringDecode.{Exactly}
use Rattle.text.specs.TokenGrammar.{CommentCode, CommentChar, comment_char_rule, CommentRest, comment_ends, comment_breaks, comment_goes, Comment, number_sign, IgnoredByte, ByteOrderMark, GraphqlIgnored, unicode_bom, ignored_byte_rule, ignored_comment}
use Rattle.text.specs.TokenFound.{StepAt, StepTold}
use Rattle.text.proofs.StrUtf8.{utf8_same}
use Rattle.text.proofs.LexBase.{there, gone}

mark_bytes : encode 65279 ≡ 239 ∷ 187 ∷ 191 ∷ []
unfolding encode
mark_bytes = refl

encode-some : (c : ℕ) → 0 < length (encode c)
encode-some c = omega (arith, length-encode c, (len_utf8_bounds c).0)

pub ignored_not_mark : {b : ℕ} → IgnoredByte b → b ≡ 239 → ⊥
ignored_not_mark w e = grind (arith, w, e)

ignored_not_sign : {b : ℕ} → IgnoredByte b → b ≡ 35 → ⊥
ignored_not_sign w e = grind (arith, w, e)

-- characters by their first byte
pub some_char : {xs r : List ℕ} {c : ℕ} → Utf8Char xs c r → 0 < length xs
some_char {xs} {r} {c} (utf8 s e) = omega (arith, ap length e, length-append (encode c) r, encode-some c)

pub low_char : {b c : ℕ} {t r : List ℕ} → b < 128 → Utf8Char (b ∷ t) c r → c ≡ b
low_char {b} {c} {t} {r} h (utf8 s e) = char_from_byte (b ∷ t) r c e h (omega arith)

pub mark_first : {b : ℕ} {t r : List ℕ} → ByteOrderMark (b ∷ t) r → b ≡ 239
mark_first {b} {t} {r} (utf8 s e) = let f : b ∷ t ≡ 239 ∷ 187 ∷ 191 ∷ r = e ∙ ap (λ l. l ++ r) mark_bytes in cc

-- one character of a comment
pub by_char : {xs r s : List ℕ} {c : ℕ} → Utf8Char xs c r → CommentChar xs s → (r ≡ s) × CommentCode c
by_char {c = c} u (comment_char_rule v d) = let z = utf8_same v u in (sym z.1, subst CommentCode z.0 d)

pub char_told : (text : List ℕ) (i j c : ℕ) → Exactly Utf8Char text i c j → (stands : Bool) → MatchBool stands (CommentCode c) (CommentCode c → ⊥) → StepTold CommentChar text i (then_some stands j)
char_told text i j c x true d = record {
  forward = x.forward;
  within = x.within;
  reads = comment_char_rule x.reads d;
  only = λ r q. (by_char x.reads q).0;
}
char_told text i j c x false n = λ r q. n (by_char x.reads q).1

-- a comment
pub by_sign : {t r : List ℕ} → Comment (35 ∷ t) r → CommentRest t r
by_sign (number_sign c) = c

by_goes : {b : ℕ} {t ys r : List ℕ} → (LineTerminator b → ⊥) → ((s : List ℕ) → CommentChar (b ∷ t) s → ys ≡ s) → CommentRest (b ∷ t) r → CommentRest ys r
by_goes n o (comment_breaks l) = absurd (n l)
by_goes {r = r} n o (comment_goes {ys = zs} j k) = subst (λ l. CommentRest l r) (sym (o zs j)) k

by_none : {b : ℕ} {t r : List ℕ} → (LineTerminator b → ⊥) → ((s : List ℕ) → CommentChar (b ∷ t) s → ⊥) → CommentRest (b ∷ t) r → ⊥
by_none n o (comment_breaks l) = n l
by_none n o (comment_goes {ys = zs} j k) = o zs j

pub nil_char : {r : List ℕ} → CommentChar [] r → ⊥
nil_char (comment_char_rule u d) = omega (arith, some_char u)

pub by_end : {r : List ℕ} → CommentRest [] r → [] ≡ r
by_end comment_ends = refl
by_end (comment_goes j k) = absurd (nil_char j)

pub line_char : {b : ℕ} {t r : List ℕ} → LineTerminator b → CommentChar (b ∷ t) r → ⊥
line_char {b} l (comment_char_rule {c = c} u d) = d.1 (subst LineTerminator (sym (low_char (⊎_elim (λ e. omega arith) (λ e. omega arith) l) u)) l)

pub by_break : {b : ℕ} {t r : List ℕ} → LineTerminator b → CommentRest (b ∷ t) r → b ∷ t ≡ r
by_break l (comment_breaks m) = refl
by_break l (comment_goes j k) = absurd (line_char l j)

-- the comment that begins at `at` goes on here
pub record CommentSofar (text : List ℕ) (at here : ℕ) : Type 0 where
  pub forward : at < here
  pub within : here ≤ length text
  pub onward : (r : List ℕ) → CommentRest (drop here text) r → Comment (drop at text) r
  pub back : (r : List ℕ) → Comment (drop at text) r → CommentRest (drop here text) r

pub comment_start : (text : List ℕ) (at : ℕ) → at < length text → get_or text at 0 ≡ 35 → CommentSofar text at (at + 1)
comment_start text at h b =
    let o = there text at h ∙ ap (λ n. n ∷ drop (at + 1) text) b in
    record {
      forward = omega arith;
      within = omega arith;
      onward = λ r c. subst (λ l. Comment l r) (sym o) (number_sign c);
      back = λ r c. by_sign (subst (λ l. Comment l r) o c);
    }

module _ {text : List ℕ} {at here : ℕ} (s : CommentSofar text at here) where
  pub comment_more : (next : ℕ) → here < length text → (LineTerminator (get_or text here 0) → ⊥) → StepAt CommentChar text here next → CommentSofar text at next
  comment_more next h n p =
      let o = there text here h in
      record {
        forward = omega (arith, s.forward, p.forward);
        within = p.within;
        onward = λ r c. s.onward r (comment_goes p.reads c);
        back = λ r c. by_goes n (λ z j. p.only z (subst (λ l. CommentChar l z) (sym o) j)) (subst (λ l. CommentRest l r) o (s.back r c));
      }

  pub comment_broken : here < length text → (LineTerminator (get_or text here 0) → ⊥) → ((r : List ℕ) → CommentChar (drop here text) r → ⊥) → (r : List ℕ) → Comment (drop at text) r → ⊥
  comment_broken h n p r c =
      let o = there text here h in
      by_none n (λ z j. p z (subst (λ l. CommentChar l z) (sym o) j)) (subst (λ l. CommentRest l r) o (s.back r c))

  pub comment_done : length text ≤ here → StepAt Comment text at here
  comment_done h =
      let g = gone text here h in
      record {
        forward = s.forward;
        within = s.within;
        reads = s.onward (drop here text) (subst (λ l. CommentRest l l) (sym g) comment_ends);
        only = λ r c. g ∙ by_end (subst (λ l. CommentRest l r) g (s.back r c));
      }

  pub comment_line : here < length text → LineTerminator (get_or text here 0) → StepAt Comment text at here
  comment_line h b =
      let o = there text here h in
      record {
        forward = s.forward;
        within = s.within;
        reads = s.onward (drop here text) (subst (λ l. CommentRest l l) (sym o) (comment_breaks b));
        only = λ r c. o ∙ by_break b (subst (λ l. CommentRest l r) o (s.back r c));
      }

-- one thing that is ignored, by its first byte
nil_ignored : {r : List ℕ} → GraphqlIgnored [] r → ⊥
nil_ignored (unicode_bom u) = omega (arith, some_char u)
nil_ignored (ignored_comment c) = elim c [ ]

comment_first : {b : ℕ} {t r : List ℕ} → Comment (b ∷ t) r → b ≡ 35
comment_first (number_sign c) = refl

pub by_byte : {b : ℕ} {t r : List ℕ} → IgnoredByte b → GraphqlIgnored (b ∷ t) r → t ≡ r
by_byte w (unicode_bom u) = let e = mark_first u in absurd (ignored_not_mark w e)
by_byte w (ignored_byte_rule v) = refl
by_byte w (ignored_comment c) = let e = comment_first c in absurd (ignored_not_sign w e)

pub by_comment : {t r : List ℕ} → GraphqlIgnored (35 ∷ t) r → Comment (35 ∷ t) r
by_comment (unicode_bom u) = let e = mark_first u in absurd (omega arith)
by_comment (ignored_byte_rule v) = absurd (ignored_not_sign v refl)
by_comment (ignored_comment c) = c

by_bom : {t r : List ℕ} → GraphqlIgnored (239 ∷ t) r → ByteOrderMark (239 ∷ t) r
by_bom (unicode_bom u) = u
by_bom (ignored_byte_rule v) = absurd (ignored_not_mark v refl)
by_bom (ignored_comment c) = let e = comment_first c in absurd (omega arith)

by_other : {b : ℕ} {t r : List ℕ} → (IgnoredByte b → ⊥) → b ≢ 35 → b ≢ 239 → GraphqlIgnored (b ∷ t) r → ⊥
by_other n p q (unicode_bom u) = q (mark_first u)
by_other n p q (ignored_byte_rule v) = n v
by_other n p q (ignored_comment c) = p (comment_first c)

module _ (text : List ℕ) (i : ℕ) where
  pub ignored_end : length text ≤ i → (r : List ℕ) → GraphqlIgnored (drop i text) r → ⊥
  ignored_end h r q = nil_ignored (subst (λ l. GraphqlIgnored l r) (gone text i h) q)

  module _ (h : i < length text) where
    pub ignored_one : IgnoredByte (get_or text i 0) → StepAt GraphqlIgnored text i (i + 1)
    ignored_one w = record {
      forward = omega arith;
      within = omega arith;
      reads = subst (λ l. GraphqlIgnored l (drop (i + 1) text)) (sym (there text i h)) (ignored_byte_rule w);
      only = λ r q. by_byte w (subst (λ l. GraphqlIgnored l r) (there text i h) q);
    }

    pub ignored_none : (IgnoredByte (get_or text i 0) → ⊥) → get_or text i 0 ≢ 35 → get_or text i 0 ≢ 239 → (r : List ℕ) → GraphqlIgnored (drop i text) r → ⊥
    ignored_none n p q r g = by_other n p q (subst (λ l. GraphqlIgnored l r) (there text i h) g)

    is_comment : get_or text i 0 ≡ 35 → (r : List ℕ) → GraphqlIgnored (drop i text) r → Comment (drop i text) r
    is_comment b r q =
        let o = there text i h ∙ ap (λ n. n ∷ drop (i + 1) text) b in
        subst (λ l. Comment l r) (sym o) (by_comment (subst (λ l. GraphqlIgnored l r) o q))

    only_mark : get_or text i 0 ≡ 239 → (r : List ℕ) → GraphqlIgnored (drop i text) r → ByteOrderMark (drop i text) r
    only_mark b r q =
        let o = there text i h ∙ ap (λ n. n ∷ drop (i + 1) text) b in
        subst (λ l. ByteOrderMark l r) (sym o) (by_bom (subst (λ l. GraphqlIgnored l r) o q))

    pub comment_told : get_or text i 0 ≡ 35 → (o : Option ℕ) → StepTold Comment text i o → StepTold GraphqlIgnored text i o
    comment_told b None n = λ r q. n r (is_comment b r q)
    comment_told b (Some j) p = record { forward = p.forward; within = p.within; reads = ignored_comment p.reads; only = λ r q. p.only r (is_comment b r q) }

    pub mark_told : get_or text i 0 ≡ 239 → (o : Option ℕ) → StepTold ByteOrderMark text i o → StepTold GraphqlIgnored text i o
    mark_told b None n = λ r q. n r (only_mark b r q)
    mark_told b (Some j) p = record { forward = p.forward; within = p.within; reads = unicode_bom p.reads; only = λ r q. p.only r (only_mark b r q) }
