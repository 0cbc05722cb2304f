-- The tokens of JSON by their first byte.
use Rattle.std.proofs.Common.{◌≡◌, ℕ, ◌+◌, ◌-◌, ◌<◌, ◌≤◌, Bool, ◌≢◌, ◌⊎◌, List, [], ◌∷◌, ◌++◌, length, get_or, take, drop, sym, refl, ap, ◌∙◌, subst, inl, inr, ⊎_elim, arith}
use lib.Seq.{take-append_seam}
use Rattle.std.proofs.lemmas.Bool.{cases_lt}
use Rattle.text.specs.declared.language.Language.TheVariants.{Json}
use Rattle.text.specs.declared.number.NumberKind.{NumberKind}
use Rattle.text.specs.NumberScan.{Begins, Found, Unfinished}
use Rattle.text.specs.StringGrammar.{Reads}
use Rattle.text.specs.StringDecode.{Scanned, Nothing}
use Rattle.text.specs.TokenGrammar.{NotAhead, Numeral, NumberFirst, Mark, Lexical, a_mark, a_name, a_number, a_string, the_end, WhiteSpace, JsonIgnored, white_space_rule, Structural, begin_array, begin_object, end_array, end_object, name_separator, value_separator, LiteralName, false_name, null_name, true_name, JsonToken, json_end, json_mark, json_literal, json_number, json_string}
use Rattle.text.specs.TokenFound.{View, v_mark, v_name, v_number, v_text, v_end, Holds, StepAt, TokenAt, NoToken, LongAt}
use Rattle.text.proofs.LexBase.{there, gone, cut}
use Rattle.text.proofs.LexNumber.{numeral_first, nil_number, number_found, found_numeral, found_stops, one_found, found_long, found_unfinished, long_unfinished, long_first, long_inside, found_first}
use Rattle.text.specs.Cuts.{part}

-- white space
space_here : {b : ℕ} {t r : List ℕ} → JsonIgnored (b ∷ t) r → WhiteSpace b × (t ≡ r)
space_here (white_space_rule w) = (w, refl)

nil_no_space : {r : List ℕ} → JsonIgnored [] r → ⊥
nil_no_space i = elim i [ ]

pub space_step : (text : List ℕ) (i : ℕ) → i < length text → WhiteSpace (get_or text i 0) → StepAt JsonIgnored text i (i + 1)
space_step text i h w = record {
  forward = omega arith;
  within = omega arith;
  reads = subst (λ l. JsonIgnored l (drop (i + 1) text)) (sym (there text i h)) (white_space_rule w);
  only = λ r j. (space_here (subst (λ l. JsonIgnored l r) (there text i h) j)).1;
}

pub space_stops : (text : List ℕ) (i : ℕ) → (i < length text → WhiteSpace (get_or text i 0) → ⊥) → (r : List ℕ) → JsonIgnored (drop i text) r → ⊥
space_stops text i n r j = ⊎_elim
    (λ h. n h (space_here (subst (λ l. JsonIgnored l r) (there text i h) j)).0)
    (λ h. nil_no_space (subst (λ l. JsonIgnored l r) (gone text i h) j))
    (cases_lt i (length text))

-- structural characters
abbrev IsStructural : ℕ → Type 0
IsStructural b = (b ≡ 91) ⊎ ((b ≡ 123) ⊎ ((b ≡ 93) ⊎ ((b ≡ 125) ⊎ ((b ≡ 58) ⊎ (b ≡ 44)))))

is_structural : {b : ℕ} {m : Mark} → Structural b m → IsStructural b
is_structural begin_array = inl refl
is_structural begin_object = inr (inl refl)
is_structural end_array = inr (inr (inl refl))
is_structural end_object = inr (inr (inr (inl refl)))
is_structural name_separator = inr (inr (inr (inr (inl refl))))
is_structural value_separator = inr (inr (inr (inr (inr refl))))

one_structural : {b : ℕ} {m n : Mark} → Structural b m → Structural b n → m ≡ n
one_structural begin_array begin_array = refl
one_structural begin_object begin_object = refl
one_structural end_array end_array = refl
one_structural end_object end_object = refl
one_structural name_separator name_separator = refl
one_structural value_separator value_separator = refl

-- literal names
abbrev IsLetter : ℕ → Type 0
IsLetter b = (b ≡ 102) ⊎ ((b ≡ 110) ⊎ (b ≡ 116))

begins_literal : {b : ℕ} {t w : List ℕ} (r : List ℕ) → LiteralName w → b ∷ t ≡ w ++ r → IsLetter b
begins_literal r false_name e = inl (cc)
begins_literal r null_name e = inr (inl (cc))
begins_literal r true_name e = inr (inr (cc))

nil_literal : {w : List ℕ} (r : List ℕ) → LiteralName w → [] ≡ w ++ r → ⊥
nil_literal r false_name e = omega (arith, ap length e)
nil_literal r null_name e = omega (arith, ap length e)
nil_literal r true_name e = omega (arith, ap length e)

pub literal_some : {w : List ℕ} → LiteralName w → 0 < length w
literal_some false_name = omega arith
literal_some null_name = omega arith
literal_some true_name = omega arith

-- classes of bytes that have none in common
structural_number : (b : ℕ) → IsStructural b → NumberFirst b → ⊥
structural_number b s n = grind (arith, s, n)

structural_letter : (b : ℕ) → IsStructural b → IsLetter b → ⊥
structural_letter b s n = grind (arith, s, n)

number_letter : (b : ℕ) → NumberFirst b → IsLetter b → ⊥
number_letter b s n = grind (arith, s, n)

quote_structural : IsStructural 34 → ⊥
quote_structural s = grind (arith, s)

quote_letter : IsLetter 34 → ⊥
quote_letter s = grind (arith, s)

quote_number : NumberFirst 34 → ⊥
quote_number s = grind (arith, s)

-- a token by its first byte
pub by_nil : {x : Lexical} {r : List ℕ} → JsonToken [] x r → (the_end ≡ x) × ([] ≡ r)
by_nil json_end = (refl, refl)
by_nil (json_literal {r = r} w e) = absurd (nil_literal r w e)
by_nil (json_number {r = r} n e l) = absurd (nil_number r n e)

pub by_mark : {b : ℕ} {t r : List ℕ} {x : Lexical} {m : Mark} → Structural b m → JsonToken (b ∷ t) x r → (a_mark m ≡ x) × (t ≡ r)
by_mark s (json_mark q) = (ap a_mark (one_structural s q), refl)
by_mark {b} s (json_literal {r = r} w e) = absurd (structural_letter b (is_structural s) (begins_literal r w e))
by_mark {b} s (json_number {r = r} n e l) = absurd (structural_number b (is_structural s) (numeral_first r n e))
by_mark s (json_string q) = absurd (quote_structural (is_structural s))

pub by_quote : {t r : List ℕ} {x : Lexical} → JsonToken (34 ∷ t) x r → (cs : List ℕ) × Reads Json t cs r × (a_string cs ≡ x)
by_quote (json_mark q) = absurd (quote_structural (is_structural q))
by_quote (json_literal {r = r} w e) = absurd (quote_letter (begins_literal r w e))
by_quote (json_number {r = r} n e l) = absurd (quote_number (numeral_first r n e))
by_quote (json_string {cs = cs} q) = (cs, q, refl)

pub by_number : {b : ℕ} {t r : List ℕ} {x : Lexical} → NumberFirst b → JsonToken (b ∷ t) x r → (k : NumberKind) × (ds : List ℕ) × Numeral ds k × (b ∷ t ≡ ds ++ r) × NotAhead (λ a. Begins (ds ++ a ∷ [])) r × (a_number k ds ≡ x)
by_number {b} f (json_mark q) = absurd (structural_number b (is_structural q) f)
by_number {b} f (json_literal {r = r} w e) = absurd (number_letter b f (begins_literal r w e))
by_number f (json_number {ds = ds} {kind = k} n e l) = (k, ds, n, e, l, refl)
by_number f (json_string q) = absurd (quote_number f)

-- a literal name is told by its first letter
one_literal : {b : ℕ} {t v w : List ℕ} (r : List ℕ) → LiteralName v → LiteralName w → b ≡ get_or v 0 0 → b ∷ t ≡ w ++ r → v ≡ w
one_literal r false_name false_name e f = refl
one_literal r false_name null_name e f = let z : ◌≡◌ {A = ℕ} 102 110 = cc in absurd (omega arith)
one_literal r false_name true_name e f = let z : ◌≡◌ {A = ℕ} 102 116 = cc in absurd (omega arith)
one_literal r null_name false_name e f = let z : ◌≡◌ {A = ℕ} 110 102 = cc in absurd (omega arith)
one_literal r null_name null_name e f = refl
one_literal r null_name true_name e f = let z : ◌≡◌ {A = ℕ} 110 116 = cc in absurd (omega arith)
one_literal r true_name false_name e f = let z : ◌≡◌ {A = ℕ} 116 102 = cc in absurd (omega arith)
one_literal r true_name null_name e f = let z : ◌≡◌ {A = ℕ} 116 110 = cc in absurd (omega arith)
one_literal r true_name true_name e f = refl

is_letter : {b : ℕ} {w : List ℕ} → LiteralName w → b ≡ get_or w 0 0 → IsLetter b
is_letter false_name e = inl e
is_letter null_name e = inr (inl e)
is_letter true_name e = inr (inr e)

pub by_literal : {b : ℕ} {t r v : List ℕ} {x : Lexical} → LiteralName v → b ≡ get_or v 0 0 → JsonToken (b ∷ t) x r → (b ∷ t ≡ v ++ r) × (a_name v ≡ x)
by_literal {b} v g (json_mark q) = absurd (structural_letter b (is_structural q) (is_letter v g))
by_literal {r = r} v g (json_literal w e) = let s = one_literal r v w g e in (e ∙ ap (λ l. l ++ r) (sym s), ap a_name s)
by_literal {b} {r = r} v g (json_number n e l) = absurd (number_letter b (numeral_first r n e) (is_letter v g))
by_literal v g (json_string q) = absurd (quote_letter (is_letter v g))

by_other : {b : ℕ} {t r : List ℕ} {x : Lexical} → ((m : Mark) → Structural b m → ⊥) → b ≢ 34 → (NumberFirst b → ⊥) → (IsLetter b → ⊥) → JsonToken (b ∷ t) x r → ⊥
by_other s q f l (json_mark {m = m} p) = s m p
by_other {r = r} s q f l (json_literal w e) = l (begins_literal r w e)
by_other {r = r} s q f l (json_number n e a) = f (numeral_first r n e)
by_other s q f l (json_string p) = q refl

pub append_same : (xs : List ℕ) {ys zs : List ℕ} → xs ++ ys ≡ xs ++ zs → ys ≡ zs
append_same [] e = e
append_same (x ∷ xs) {ys} {zs} e = let f : x ∷ (xs ++ ys) ≡ x ∷ (xs ++ zs) = e in let g : xs ++ ys ≡ xs ++ zs = cc in append_same xs g

-- the tokens in a text
module _ (text : List ℕ) (i : ℕ) where
  pub end_here : length text ≤ i → i ≤ length text → TokenAt Json text i i v_end
  end_here h k =
      let g = gone text i h in
      record {
        token = the_end;
        within = k;
        reads = subst (λ l. JsonToken l the_end l) (sym g) json_end;
        only = λ x r q. let z = by_nil (subst (λ l. JsonToken l x r) g q) in (z.0, g ∙ z.1);
        holds = (refl, omega arith);
      }

  pub mark_here : (m : Mark) (view : View) → i < length text → Structural (get_or text i 0) m → view ≡ v_mark m → TokenAt Json text i (i + 1) view
  mark_here m view h s v = record {
    token = a_mark m;
    within = omega arith;
    reads = subst (λ l. JsonToken l (a_mark m) (drop (i + 1) text)) (sym (there text i h)) (json_mark s);
    only = λ x r q. by_mark s (subst (λ l. JsonToken l x r) (there text i h) q);
    holds = subst (λ w. Holds Json text i (i + 1) w (a_mark m)) (sym v) refl;
  }

  pub string_here : (j : ℕ) (plain : Bool) → i < length text → get_or text i 0 ≡ 34 → Scanned Json text (i + 1) j plain → TokenAt Json text i j (v_text (part text (i + 1) (j - 1)) plain)
  string_here j plain h b s =
      let o = there text i h ∙ ap (λ n. n ∷ drop (i + 1) text) b in
      record {
        token = a_string s.chars;
        within = s.stands.within;
        reads = subst (λ l. JsonToken l (a_string s.chars) (drop j text)) (sym o) (json_string s.stands.reads);
        only = λ x r q. let z = by_quote (subst (λ l. JsonToken l x r) o q) in let y = s.stands.only z.0 r z.1 in (ap a_string y.0 ∙ z.2, y.1);
        holds = (refl, (s.chars, refl, record { scanned = s; same = refl }));
      }

  no_long : (NumberFirst (get_or text i 0) → ⊥) → LongAt text i → ⊥
  no_long n l = n (long_first text i l)

  pub no_string : i < length text → get_or text i 0 ≡ 34 → Nothing (Reads Json) text (i + 1) → NoToken Json text i
  no_string h b n =
      let o = there text i h ∙ ap (λ n. n ∷ drop (i + 1) text) b in
      record {
        none = λ x r q. let z = by_quote (subst (λ l. JsonToken l x r) o q) in n z.0 r z.1;
        not_long = no_long (λ f. quote_number (subst NumberFirst b f));
      }

  pub number_here : (j : ℕ) (k : NumberKind) (view : View) → Found text i j k → view ≡ v_number k (part text i j) → TokenAt Json text i j view
  number_here j k view f v =
      let h : i < length text = omega (arith, f.some, f.inside) in
      let o = there text i h in
      record {
        token = a_number k (part text i j);
        within = f.inside;
        reads = json_number (found_numeral f) (cut text i j f.longest.forward) (found_stops f);
        only = λ x r q.
            let z = by_number (found_first f) (subst (λ l. JsonToken l x r) o q) in
            let s = number_found text i z.1 r z.0 z.2 (o ∙ z.3) z.4 in
            let e = one_found f s.found in (
              ap (λ n. a_number k (part text i n)) e.0 ∙ ap (a_number k) s.is ∙ ap (λ n. a_number n z.1) e.1 ∙ z.5,
              ap (λ n. drop n text) e.0 ∙ s.then,
            );
        holds = subst (λ w. Holds Json text i j w (a_number k (part text i j))) (sym v) (refl, refl);
      }

  pub no_number : i < length text → NumberFirst (get_or text i 0) → Unfinished text i → NoToken Json text i
  no_number h b u =
      let o = there text i h in
      record {
        none = λ x r q.
            let z = by_number b (subst (λ l. JsonToken l x r) o q) in
            found_unfinished (number_found text i z.1 r z.0 z.2 (o ∙ z.3) z.4).found u;
        not_long = λ l. long_unfinished l u;
      }

  module _ (word : List ℕ) (h : i < length text) (w : LiteralName word) (b : get_or text i 0 ≡ get_or word 0 0) where
    pub literal_here : drop i text ≡ word ++ drop (i + length word) text → i + length word ≤ length text → TokenAt Json text i (i + length word) (v_name (part text i (i + length word)))
    literal_here e k =
        let o = there text i h in
        let long : (i + length word) - i ≡ length word = omega arith in
        let p : part text i (i + length word) ≡ word = ap (λ m. take m (drop i text)) long ∙ ap (take (length word)) e ∙ take-append_seam word (drop (i + length word) text) in
        record {
          token = a_name word;
          within = k;
          reads = json_literal w e;
          only = λ x r q.
              let z = by_literal w b (subst (λ l. JsonToken l x r) o q) in
              (z.1, append_same word (sym e ∙ o ∙ z.0));
          holds = (ap a_name (sym p), refl);
        }

    pub no_literal : ((r : List ℕ) → drop i text ≡ word ++ r → ⊥) → NoToken Json text i
    no_literal n =
        let o = there text i h in
        record {
          none = λ x r q. let z = by_literal w b (subst (λ l. JsonToken l x r) o q) in n r (o ∙ z.0);
          not_long = no_long (λ f. number_letter (get_or text i 0) f (is_letter w b));
        }

  pub no_token : i < length text → ((m : Mark) → Structural (get_or text i 0) m → ⊥) → get_or text i 0 ≢ 34 → (NumberFirst (get_or text i 0) → ⊥) → get_or text i 0 ≢ 116 → get_or text i 0 ≢ 102 → get_or text i 0 ≢ 110 → NoToken Json text i
  no_token h s q f t a n = record {
    none = λ x r p. by_other s q f (⊎_elim a (⊎_elim n t)) (subst (λ l. JsonToken l x r) (there text i h) p);
    not_long = no_long f;
  }

  -- a long number is no token
  pub json_long : (x : Lexical) (r : List ℕ) → JsonToken (drop i text) x r → LongAt text i → ⊥
  json_long x r q l =
      let o = there text i (long_inside text i l) in
      let z = by_number (long_first text i l) (subst (λ s. JsonToken s x r) o q) in
      found_long (number_found text i z.1 r z.0 z.2 (o ∙ z.3) z.4).found l
