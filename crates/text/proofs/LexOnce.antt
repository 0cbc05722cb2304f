-- What is ignored at the front of a list leads to one place, and one token at most stands there.
use Rattle.std.proofs.Common.{◌≡◌, ℕ, ◌≤◌, List, [], ◌∷◌, ◌++◌, length, drop, sym, refl, ap, ◌∙◌, subst, arith, length-append}
use lib.Utf8.{encode}
use Rattle.text.specs.declared.language.Language.{Language}
use Rattle.text.specs.declared.language.Language.TheVariants.{Json, Graphql}
use Rattle.text.specs.declared.number.NumberKind.{NumberKind}
use Rattle.text.specs.NumberScan.{Begins}
use Rattle.text.specs.StringGrammar.{Utf8Char, utf8, Run, none, more, Reads}
use Rattle.text.specs.TokenGrammar.{Lexical, a_name, a_number, a_string, Numeral, NotAhead, Skips, skipped, skip, JsonIgnored, white_space_rule, LiteralName, false_name, null_name, true_name, JsonToken, json_end, json_mark, json_literal, json_number, json_string, CommentChar, comment_char_rule, CommentRest, comment_ends, comment_breaks, comment_goes, number_sign, GraphqlIgnored, unicode_bom, ignored_byte_rule, ignored_comment, GraphqlToken, graphql_end, graphql_mark, graphql_spread, graphql_name, graphql_number, graphql_empty, graphql_string, Ignored, TokenOf}
use Rattle.text.specs.Cuts.{part}
use Rattle.text.proofs.StrUtf8.{utf8_same}
use Rattle.text.proofs.StrChars.{char_same, no_quote}
use Rattle.text.proofs.LexNumber.{number_first, number_found, one_found, stops_number}
use Rattle.text.proofs.LexIgnored.{mark_first, by_char, by_sign, nil_char, by_end, line_char, by_break, ignored_not_mark, by_byte, by_comment}
use Rattle.text.proofs.LexJson.{by_nil as json_nil, by_mark as json_by_mark, by_quote as json_quote, by_number as json_by_number, by_literal, append_same}
use Rattle.text.proofs.LexGraphql.{by_nil as graphql_nil, by_mark as graphql_by_mark, by_point, by_name, by_number as graphql_by_number, by_quote as graphql_quote, one_run}

-- WHAT IS IGNORED

char_once : {xs r s : List ℕ} → CommentChar xs r → CommentChar xs s → r ≡ s
char_once (comment_char_rule u d) j = (by_char u j).0

comment_once : {xs r s : List ℕ} → CommentRest xs r → CommentRest xs s → r ≡ s
comment_once comment_ends k = by_end k
comment_once (comment_breaks l) k = by_break l k
comment_once (comment_goes j q) comment_ends = absurd (nil_char j)
comment_once (comment_goes j q) (comment_breaks l) = absurd (line_char l j)
comment_once {s = s} (comment_goes j q) (comment_goes i k) = comment_once q (subst (λ l. CommentRest l s) (char_once i j) k)

graphql_once : {xs r s : List ℕ} → GraphqlIgnored xs r → GraphqlIgnored xs s → r ≡ s
graphql_once (unicode_bom u) (unicode_bom v) = (utf8_same u v).1
graphql_once (unicode_bom u) (ignored_byte_rule w) = absurd (ignored_not_mark w (mark_first u))
graphql_once (unicode_bom u) (ignored_comment (number_sign c)) = absurd (let e = mark_first u in omega arith)
graphql_once (ignored_byte_rule w) q = by_byte w q
graphql_once (ignored_comment (number_sign c)) q = comment_once c (by_sign (by_comment q))

json_once : {xs r s : List ℕ} → JsonIgnored xs r → JsonIgnored xs s → r ≡ s
json_once (white_space_rule w) (white_space_rule v) = refl

ignored_once : (language : Language) (xs r s : List ℕ) → Ignored language xs r → Ignored language xs s → r ≡ s
ignored_once Json xs r s i j = json_once i j
ignored_once Graphql xs r s i j = graphql_once i j

pub skips_once : (language : Language) {xs r s : List ℕ} → Skips (Ignored language) xs r → ((u : List ℕ) → Ignored language r u → ⊥) → Skips (Ignored language) xs s → ((u : List ℕ) → Ignored language s u → ⊥) → r ≡ s
skips_once language skipped n skipped m = refl
skips_once language skipped n (skip {ys = ys} j k) m = absurd (n ys j)
skips_once language (skip {ys = ys} i k) n skipped m = absurd (m ys i)
skips_once language {s = s} (skip i k) n (skip j l) m = skips_once language k n (subst (λ q. Skips (Ignored language) q s) (ignored_once language _ _ _ j i) l) m

-- and nothing grows
char_less : {xs r : List ℕ} {c : ℕ} → Utf8Char xs c r → length r ≤ length xs
char_less {xs} {r} {c} (utf8 s e) = omega (arith, ap length e, length-append (encode c) r)

comment_less : {xs r : List ℕ} → CommentRest xs r → length r ≤ length xs
comment_less comment_ends = omega arith
comment_less (comment_breaks l) = omega arith
comment_less (comment_goes (comment_char_rule u d) k) = omega (arith, char_less u, comment_less k)

ignored_less : (language : Language) (xs r : List ℕ) → Ignored language xs r → length r ≤ length xs
ignored_less Json xs r (white_space_rule w) = omega arith
ignored_less Graphql xs r (unicode_bom u) = char_less u
ignored_less Graphql xs r (ignored_byte_rule w) = omega arith
ignored_less Graphql xs r (ignored_comment (number_sign c)) = omega (arith, comment_less c)

pub skips_less : (language : Language) {xs r : List ℕ} → Skips (Ignored language) xs r → length r ≤ length xs
skips_less language skipped = omega arith
skips_less language (skip i k) = omega (arith, ignored_less language _ _ i, skips_less language k)

-- TOKENS

string_once : (language : Language) {xs cs ds r s : List ℕ} → Reads language xs cs r → Reads language xs ds s → (cs ≡ ds) × (r ≡ s)
string_once language none none = (refl, refl)
string_once language none (more d l) = absurd (no_quote d)
string_once language (more c k) none = absurd (no_quote c)
string_once language {s = s} (more {cs = cs} {c = c} a k) (more {cs = ds} {c = d} b l) =
    let e = char_same b a in
    let f = string_once language k (subst (λ q. Run language q ds (34 ∷ s)) e.1 l) in
    (ap (λ n. n ∷ cs) (sym e.0) ∙ ap (λ q. d ∷ q) f.0, f.1)

-- numbers at the front of one list
numbers_once : {xs ds es r s : List ℕ} {k l : NumberKind} → Numeral ds k → xs ≡ ds ++ r → NotAhead (λ b. Begins (ds ++ b ∷ [])) r → Numeral es l → xs ≡ es ++ s → NotAhead (λ b. Begins (es ++ b ∷ [])) s → (a_number k ds ≡ a_number l es) × (r ≡ s)
numbers_once {xs} {ds} {es} {r} {s} {k} {l} n e a m f b =
    let p = number_found xs 0 ds r k n e a in
    let q = number_found xs 0 es s l m f b in
    let o = one_found p.found q.found in
    (ap (a_number k) (sym p.is ∙ ap (λ i. part xs 0 i) o.0 ∙ q.is) ∙ ap (λ i. a_number i es) o.1, sym p.then ∙ ap (λ i. drop i xs) o.0 ∙ q.then)

literal_once : {xs w r s : List ℕ} {y : Lexical} → LiteralName w → xs ≡ w ++ r → JsonToken xs y s → (a_name w ≡ y) × (r ≡ s)
literal_once {s = s} {y} false_name e q = let z = by_literal false_name refl (subst (λ l. JsonToken l y s) e q) in (z.1, append_same (102 ∷ 97 ∷ 108 ∷ 115 ∷ 101 ∷ []) z.0)
literal_once {s = s} {y} null_name e q = let z = by_literal null_name refl (subst (λ l. JsonToken l y s) e q) in (z.1, append_same (110 ∷ 117 ∷ 108 ∷ 108 ∷ []) z.0)
literal_once {s = s} {y} true_name e q = let z = by_literal true_name refl (subst (λ l. JsonToken l y s) e q) in (z.1, append_same (116 ∷ 114 ∷ 117 ∷ 101 ∷ []) z.0)

json_token : {xs r s : List ℕ} {x y : Lexical} → JsonToken xs x r → JsonToken xs y s → (x ≡ y) × (r ≡ s)
json_token json_end q = json_nil q
json_token (json_mark m) q = json_by_mark m q
json_token (json_literal w e) q = literal_once w e q
json_token {s = s} {y = y} (json_number {r = r} n e a) q =
    let f = number_first n.number in
    let o = e ∙ ap (λ l. l ++ r) f.2 in
    let z = json_by_number f.3 (subst (λ l. JsonToken l y s) o q) in
    let w = numbers_once n e a z.2 (o ∙ z.3) z.4 in
    (w.0 ∙ z.5, w.1)
json_token (json_string k) q = let z = json_quote q in let w = string_once Json k z.1 in (ap a_string w.0 ∙ z.2, w.1)

graphql_token : {xs r s : List ℕ} {x y : Lexical} → GraphqlToken xs x r → GraphqlToken xs y s → (x ≡ y) × (r ≡ s)
graphql_token graphql_end q = graphql_nil q
graphql_token (graphql_mark m) q = graphql_by_mark m q
graphql_token {s = s} (graphql_spread {r = r}) q =
    let z = by_point q in
    let f : 46 ∷ 46 ∷ 46 ∷ r ≡ 46 ∷ 46 ∷ 46 ∷ s = z.1 in
    let g : r ≡ s = cc in
    (z.0, g)
graphql_token (graphql_name {b = b} f p e a l) q =
    let z = by_name f q in
    let y = one_run p a z.1 z.3 (sym e ∙ z.2) in
    (ap (λ l. a_name (b ∷ l)) y.0 ∙ z.5, y.1)
graphql_token {s = s} {y = y} (graphql_number {r = r} n e a) q =
    let f = number_first n.number in
    let o = e ∙ ap (λ l. l ++ r) f.2 in
    let z = graphql_by_number f.3 (subst (λ l. GraphqlToken l y s) o q) in
    let w = numbers_once n e (stops_number n.number a) z.2 (o ∙ z.3) (stops_number z.2.number z.4) in
    (w.0 ∙ z.5, w.1)
graphql_token (graphql_empty n) q = let z = graphql_quote q in let w = string_once Graphql none z.1 in (ap a_string w.0 ∙ z.2, w.1)
graphql_token (graphql_string k) q = let z = graphql_quote q in let w = string_once Graphql k z.1 in (ap a_string w.0 ∙ z.2, w.1)

pub token_once : (language : Language) (xs r s : List ℕ) (x y : Lexical) → TokenOf language xs x r → TokenOf language xs y s → (x ≡ y) × (r ≡ s)
token_once Json xs r s x y p q = json_token p q
token_once Graphql xs r s x y p q = graphql_token p q
