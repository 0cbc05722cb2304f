-- The tokens of GraphQL by their first byte.
use Rattle.std.proofs.Common.{◌≡◌, ℕ, suc, ◌+◌, ◌-◌, ◌<◌, ◌≤◌, Bool, ◌≢◌, ◌⊎◌, List, [], ◌∷◌, ◌++◌, length, get_or, take, drop, sym, refl, ap, ◌∙◌, subst, inl, inr, arith}
use Rattle.text.specs.declared.language.Language.TheVariants.{Graphql}
use Rattle.text.specs.declared.number.NumberKind.{NumberKind}
use Rattle.text.specs.NumberScan.{Found, Unfinished}
use Rattle.text.specs.StringGrammar.{Char, unescaped, none, more, Reads}
use Rattle.text.specs.StringDecode.{Scanned, Nothing}
use Rattle.text.specs.TokenGrammar.{NotAhead, Numeral, NumberFirst, NumberGoesOn, Mark, spread, Lexical, a_mark, a_name, a_number, a_string, the_end, NameStart, NameContinue, NameRest, name_ends, name_goes, Punctuator, p_bang, p_dollar, p_ampersand, p_open_paren, p_close_paren, p_colon, p_equals, p_at_sign, p_open_bracket, p_close_bracket, p_open_brace, p_pipe, p_close_brace, GraphqlToken, graphql_end, graphql_mark, graphql_spread, graphql_name, graphql_number, graphql_empty, graphql_string}
use Rattle.text.specs.TokenFound.{NameEnd, View, v_mark, v_name, v_number, v_text, v_end, Holds, TokenAt, NoToken, LongAt}
use Rattle.text.proofs.ScanRuns.{part_more}
use Rattle.text.proofs.LexBase.{there, gone, first, cut, length_part, not_ahead}
use Rattle.text.proofs.LexNumber.{numeral_first, nil_number, number_found, found_numeral, one_found, found_long, found_unfinished, long_unfinished, long_first, long_inside, found_first, stops_number}
use Rattle.text.proofs.LexIgnored.{low_char}
use Rattle.text.specs.Cuts.{part}

-- punctuators
abbrev IsPunctuator : ℕ → Type 0
IsPunctuator b = (b ≡ 33) ⊎ ((b ≡ 36) ⊎ ((b ≡ 38) ⊎ ((b ≡ 40) ⊎ ((b ≡ 41) ⊎ ((b ≡ 58) ⊎ ((b ≡ 61) ⊎ ((b ≡ 64) ⊎ ((b ≡ 91) ⊎ ((b ≡ 93) ⊎ ((b ≡ 123) ⊎ ((b ≡ 124) ⊎ (b ≡ 125))))))))))))

is_punctuator : {b : ℕ} {m : Mark} → Punctuator b m → IsPunctuator b
is_punctuator p_bang = inl refl
is_punctuator p_dollar = inr (inl refl)
is_punctuator p_ampersand = inr (inr (inl refl))
is_punctuator p_open_paren = inr (inr (inr (inl refl)))
is_punctuator p_close_paren = inr (inr (inr (inr (inl refl))))
is_punctuator p_colon = inr (inr (inr (inr (inr (inl refl)))))
is_punctuator p_equals = inr (inr (inr (inr (inr (inr (inl refl))))))
is_punctuator p_at_sign = inr (inr (inr (inr (inr (inr (inr (inl refl)))))))
is_punctuator p_open_bracket = inr (inr (inr (inr (inr (inr (inr (inr (inl refl))))))))
is_punctuator p_close_bracket = inr (inr (inr (inr (inr (inr (inr (inr (inr (inl refl)))))))))
is_punctuator p_open_brace = inr (inr (inr (inr (inr (inr (inr (inr (inr (inr (inl refl))))))))))
is_punctuator p_pipe = inr (inr (inr (inr (inr (inr (inr (inr (inr (inr (inr (inl refl)))))))))))
is_punctuator p_close_brace = inr (inr (inr (inr (inr (inr (inr (inr (inr (inr (inr (inr refl)))))))))))

one_punctuator : {b : ℕ} {m n : Mark} → Punctuator b m → Punctuator b n → m ≡ n
one_punctuator p_bang p_bang = refl
one_punctuator p_dollar p_dollar = refl
one_punctuator p_ampersand p_ampersand = refl
one_punctuator p_open_paren p_open_paren = refl
one_punctuator p_close_paren p_close_paren = refl
one_punctuator p_colon p_colon = refl
one_punctuator p_equals p_equals = refl
one_punctuator p_at_sign p_at_sign = refl
one_punctuator p_open_bracket p_open_bracket = refl
one_punctuator p_close_bracket p_close_bracket = refl
one_punctuator p_open_brace p_open_brace = refl
one_punctuator p_pipe p_pipe = refl
one_punctuator p_close_brace p_close_brace = refl

-- classes of bytes that have none in common
mark_name : (b : ℕ) → IsPunctuator b → NameStart b → ⊥
mark_name b p q = grind (arith, p, q)

mark_no_number : (b : ℕ) → IsPunctuator b → NumberFirst b → ⊥
mark_no_number b p q = grind (arith, p, q)

mark_quote : IsPunctuator 34 → ⊥
mark_quote p = grind (arith, p)

mark_point : IsPunctuator 46 → ⊥
mark_point p = grind (arith, p)

name_number : (b : ℕ) → NameStart b → NumberFirst b → ⊥
name_number b p q = grind (arith, p, q)

name_quote : NameStart 34 → ⊥
name_quote p = grind (arith, p)

name_point : NameStart 46 → ⊥
name_point p = grind (arith, p)

number_quote : NumberFirst 34 → ⊥
number_quote p = grind (arith, p)

number_point : NumberFirst 46 → ⊥
number_point p = grind (arith, p)

-- a token by its first byte
pub by_nil : {x : Lexical} {r : List ℕ} → GraphqlToken [] x r → (the_end ≡ x) × ([] ≡ r)
by_nil graphql_end = (refl, refl)
by_nil (graphql_number {r = r} n e l) = absurd (nil_number r n e)

pub by_mark : {b : ℕ} {t r : List ℕ} {x : Lexical} {m : Mark} → Punctuator b m → GraphqlToken (b ∷ t) x r → (a_mark m ≡ x) × (t ≡ r)
by_mark s (graphql_mark q) = (ap a_mark (one_punctuator s q), refl)
by_mark s graphql_spread = absurd (mark_point (is_punctuator s))
by_mark {b} s (graphql_name f p e a l) = absurd (mark_name b (is_punctuator s) f)
by_mark {b} s (graphql_number {r = r} n e l) = absurd (mark_no_number b (is_punctuator s) (numeral_first r n e))
by_mark s (graphql_empty n) = absurd (mark_quote (is_punctuator s))
by_mark s (graphql_string q) = absurd (mark_quote (is_punctuator s))

pub by_point : {t r : List ℕ} {x : Lexical} → GraphqlToken (46 ∷ t) x r → (a_mark spread ≡ x) × (46 ∷ t ≡ 46 ∷ 46 ∷ 46 ∷ r)
by_point (graphql_mark q) = absurd (mark_point (is_punctuator q))
by_point graphql_spread = (refl, refl)
by_point (graphql_name f p e a l) = absurd (name_point f)
by_point (graphql_number {r = r} n e l) = absurd (number_point (numeral_first r n e))

pub by_name : {b : ℕ} {t r : List ℕ} {x : Lexical} → NameStart b → GraphqlToken (b ∷ t) x r → (bs : List ℕ) × NameRest bs × (t ≡ bs ++ r) × NotAhead NameContinue r × (length (b ∷ bs) ≤ 127) × (a_name (b ∷ bs) ≡ x)
by_name {b} s (graphql_mark q) = absurd (mark_name b (is_punctuator q) s)
by_name s graphql_spread = absurd (name_point s)
by_name s (graphql_name {bs = bs} f p e a l) = (bs, p, e, a, l, refl)
by_name {b} s (graphql_number {r = r} n e l) = absurd (name_number b s (numeral_first r n e))
by_name s (graphql_empty n) = absurd (name_quote s)
by_name s (graphql_string q) = absurd (name_quote s)

pub by_number : {b : ℕ} {t r : List ℕ} {x : Lexical} → NumberFirst b → GraphqlToken (b ∷ t) x r → (k : NumberKind) × (ds : List ℕ) × Numeral ds k × (b ∷ t ≡ ds ++ r) × NotAhead NumberGoesOn r × (a_number k ds ≡ x)
by_number {b} s (graphql_mark q) = absurd (mark_no_number b (is_punctuator q) s)
by_number s graphql_spread = absurd (number_point s)
by_number {b} s (graphql_name f p e a l) = absurd (name_number b f s)
by_number s (graphql_number {ds = ds} {kind = k} n e l) = (k, ds, n, e, l, refl)
by_number s (graphql_empty n) = absurd (number_quote s)
by_number s (graphql_string q) = absurd (number_quote s)

pub by_quote : {t r : List ℕ} {x : Lexical} → GraphqlToken (34 ∷ t) x r → (cs : List ℕ) × Reads Graphql t cs r × (a_string cs ≡ x)
by_quote (graphql_mark q) = absurd (mark_quote (is_punctuator q))
by_quote (graphql_name f p e a l) = absurd (name_quote f)
by_quote (graphql_number {r = r} n e l) = absurd (number_quote (numeral_first r n e))
by_quote (graphql_empty n) = ([], none, refl)
by_quote (graphql_string {cs = cs} {c = c} q) = (c ∷ cs, q, refl)

by_other : {b : ℕ} {t r : List ℕ} {x : Lexical} → ((m : Mark) → Punctuator b m → ⊥) → (NameStart b → ⊥) → (NumberFirst b → ⊥) → b ≢ 34 → b ≢ 46 → GraphqlToken (b ∷ t) x r → ⊥
by_other p n f q d (graphql_mark {m = m} z) = p m z
by_other p n f q d graphql_spread = d refl
by_other p n f q d (graphql_name s w e a l) = n s
by_other {r = r} p n f q d (graphql_number m e l) = f (numeral_first r m e)
by_other p n f q d (graphql_empty m) = q refl
by_other p n f q d (graphql_string m) = q refl

-- no character of a string is a quotation mark
quote_char : {t r : List ℕ} {c : ℕ} → Char Graphql (34 ∷ t) c r → ⊥
quote_char (unescaped u h) = h.1 (low_char (omega arith) u)

no_run : {t r cs : List ℕ} {c : ℕ} → Reads Graphql (34 ∷ t) (c ∷ cs) r → ⊥
no_run (more d k) = quote_char d

-- three quotation marks
by_block : {t r : List ℕ} {x : Lexical} → GraphqlToken (34 ∷ 34 ∷ 34 ∷ t) x r → ⊥
by_block (graphql_mark q) = mark_quote (is_punctuator q)
by_block (graphql_name f p e a l) = name_quote f
by_block (graphql_number {r = r} n e l) = number_quote (numeral_first r n e)
by_block {t} (graphql_empty n) = n 34 t refl refl
by_block (graphql_string q) = no_run q

by_empty : {xs r : List ℕ} → Reads Graphql xs [] r → xs ≡ 34 ∷ r
by_empty none = refl

-- a name is one run
pub one_run : {us vs r s : List ℕ} → NameRest us → NotAhead NameContinue r → NameRest vs → NotAhead NameContinue s → us ++ r ≡ vs ++ s → (us ≡ vs) × (r ≡ s)
one_run name_ends m name_ends n e = (refl, e)
one_run {s = s} name_ends m (name_goes {b} {bs} h q) n e = absurd (m b (bs ++ s) e h)
one_run {r = r} (name_goes {b} {bs} h p) m name_ends n e = absurd (n b (bs ++ r) (sym e) h)
one_run {r = r} {s} (name_goes {b = a} {bs = us} g p) m (name_goes {b} {bs = vs} h q) n e =
    let f : a ∷ (us ++ r) ≡ b ∷ (vs ++ s) = e in
    let i : a ≡ b = cc in
    let j : us ++ r ≡ vs ++ s = cc in
    let k = one_run p m q n j in
    let l : us ≡ vs = k.0 in
    let z : a ∷ us ≡ b ∷ vs = cc in
    (z, k.1)

pub name_snoc : {bs : List ℕ} {b : ℕ} → NameRest bs → NameContinue b → NameRest (bs ++ b ∷ [])
name_snoc name_ends h = name_goes h name_ends
name_snoc (name_goes g r) h = name_goes g (name_snoc r h)

-- the name that begins at start goes on here
pub record NameSofar (text : List ℕ) (start here : ℕ) : Type 0 where
  pub forward : start < here
  pub within : here ≤ length text
  pub rest : NameRest (part text (start + 1) here)

pub name_start : (text : List ℕ) (start : ℕ) → start < length text → NameSofar text start (start + 1)
name_start text start h =
    let z : (start + 1) - (start + 1) ≡ 0 = omega arith in
    record { forward = omega arith; within = omega arith; rest = subst NameRest (sym (ap (λ n. take n (drop (start + 1) text)) z)) name_ends }

pub name_more : {text : List ℕ} {start here : ℕ} → NameSofar text start here → here < length text → NameContinue (get_or text here 0) → NameSofar text start (here + 1)
name_more {text} {start} {here} s h b = record {
  forward = omega (arith, s.forward);
  within = omega arith;
  rest = subst NameRest (sym (part_more text (start + 1) here (omega (arith, s.forward)) h)) (name_snoc s.rest b);
}

pub name_done : {text : List ℕ} {start here : ℕ} → NameSofar text start here → (here < length text → NameContinue (get_or text here 0) → ⊥) → NameEnd text start here
name_done {text} {start} {here} s a = record { forward = s.forward; within = s.within; rest = s.rest; stops = not_ahead NameContinue text here a }

-- the tokens in a text
module _ (text : List ℕ) (i : ℕ) where
  no_long : (NumberFirst (get_or text i 0) → ⊥) → LongAt text i → ⊥
  no_long n l = n (long_first text i l)

  pub end_here : length text ≤ i → i ≤ length text → TokenAt Graphql text i i v_end
  end_here h k =
      let g = gone text i h in
      record {
        token = the_end;
        within = k;
        reads = subst (λ l. GraphqlToken l the_end l) (sym g) graphql_end;
        only = λ x r q. let z = by_nil (subst (λ l. GraphqlToken l x r) g q) in (z.0, g ∙ z.1);
        holds = (refl, omega arith);
      }

  pub mark_here : (m : Mark) (view : View) → i < length text → Punctuator (get_or text i 0) m → view ≡ v_mark m → TokenAt Graphql text i (i + 1) view
  mark_here m view h s v = record {
    token = a_mark m;
    within = omega arith;
    reads = subst (λ l. GraphqlToken l (a_mark m) (drop (i + 1) text)) (sym (there text i h)) (graphql_mark s);
    only = λ x r q. by_mark s (subst (λ l. GraphqlToken l x r) (there text i h) q);
    holds = subst (λ w. Holds Graphql text i (i + 1) w (a_mark m)) (sym v) refl;
  }

  pub spread_here : drop i text ≡ 46 ∷ 46 ∷ 46 ∷ drop (i + 3) text → i + 3 ≤ length text → TokenAt Graphql text i (i + 3) (v_mark spread)
  spread_here e k = record {
    token = a_mark spread;
    within = k;
    reads = subst (λ l. GraphqlToken l (a_mark spread) (drop (i + 3) text)) (sym e) graphql_spread;
    only = λ x r q.
        let z = by_point (subst (λ l. GraphqlToken l x r) e q) in
        let f : 46 ∷ 46 ∷ 46 ∷ drop (i + 3) text ≡ 46 ∷ 46 ∷ 46 ∷ r = z.1 in
        let g : drop (i + 3) text ≡ r = cc in
        (z.0, g);
    holds = refl;
  }

  pub no_spread : i < length text → get_or text i 0 ≡ 46 → ((r : List ℕ) → drop i text ≡ 46 ∷ 46 ∷ 46 ∷ r → ⊥) → NoToken Graphql text i
  no_spread h b n =
      let o = there text i h ∙ ap (λ n. n ∷ drop (i + 1) text) b in
      record {
        none = λ x r q. let z = by_point (subst (λ l. GraphqlToken l x r) o q) in n r (o ∙ z.1);
        not_long = no_long (λ f. number_point (subst NumberFirst b f));
      }

  module _ (j : ℕ) (b : NameStart (get_or text i 0)) (s : NameEnd text i j) where
    here : i < length text
    here = omega (arith, s.forward, s.within)

    rest_is : drop (i + 1) text ≡ part text (i + 1) j ++ drop j text
    rest_is = cut text (i + 1) j (omega (arith, s.forward))

    whole : part text i j ≡ get_or text i 0 ∷ part text (i + 1) j
    whole =
        let k : j - i ≡ suc (j - (i + 1)) = omega (arith, s.forward) in
        ap (λ n. take n (drop i text)) k ∙ ap (take (suc (j - (i + 1)))) (there text i here)

    size : length (get_or text i 0 ∷ part text (i + 1) j) ≡ j - i
    size = ap length (sym whole) ∙ length_part text i j s.within

    pub name_here : j ≤ i + 127 → TokenAt Graphql text i j (v_name (part text i j))
    name_here k = record {
      token = a_name (get_or text i 0 ∷ part text (i + 1) j);
      within = s.within;
      reads = subst (λ l. GraphqlToken l (a_name (get_or text i 0 ∷ part text (i + 1) j)) (drop j text)) (sym (there text i here)) (graphql_name b s.rest rest_is s.stops (omega (arith, size)));
      only = λ x r q.
          let z = by_name b (subst (λ l. GraphqlToken l x r) (there text i here) q) in
          let y = one_run s.rest s.stops z.1 z.3 (sym rest_is ∙ z.2) in
          (ap (λ l. a_name (get_or text i 0 ∷ l)) y.0 ∙ z.5, y.1);
      holds = (ap a_name (sym whole), refl);
    }

    pub long_name : 127 < j - i → NoToken Graphql text i
    long_name k = record {
      none = λ x r q.
          let z = by_name b (subst (λ l. GraphqlToken l x r) (there text i here) q) in
          let y = one_run s.rest s.stops z.1 z.3 (sym rest_is ∙ z.2) in
          omega (arith, size, ap length y.0, z.4);
      not_long = no_long (λ f. name_number (get_or text i 0) b f);
    }

  pub number_here : (j : ℕ) (k : NumberKind) (view : View) → Found text i j k → (j < length text → NumberGoesOn (get_or text j 0) → ⊥) → view ≡ v_number k (part text i j) → TokenAt Graphql text i j view
  number_here j k view f a v =
      let h : i < length text = omega (arith, f.some, f.inside) in
      let o = there text i h in
      record {
        token = a_number k (part text i j);
        within = f.inside;
        reads = graphql_number (found_numeral f) (cut text i j f.longest.forward) (not_ahead NumberGoesOn text j a);
        only = λ x r q.
            let z = by_number (found_first f) (subst (λ l. GraphqlToken l x r) o q) in
            let s = number_found text i z.1 r z.0 z.2 (o ∙ z.3) (stops_number z.2.number z.4) in
            let e = one_found f s.found in (
              ap (λ n. a_number k (part text i n)) e.0 ∙ ap (a_number k) s.is ∙ ap (λ n. a_number n z.1) e.1 ∙ z.5,
              ap (λ n. drop n text) e.0 ∙ s.then,
            );
        holds = subst (λ w. Holds Graphql text i j w (a_number k (part text i j))) (sym v) (refl, refl);
      }

  pub no_number : i < length text → NumberFirst (get_or text i 0) → Unfinished text i → NoToken Graphql text i
  no_number h b u =
      let o = there text i h in
      record {
        none = λ x r q.
            let z = by_number b (subst (λ l. GraphqlToken l x r) o q) in
            found_unfinished (number_found text i z.1 r z.0 z.2 (o ∙ z.3) (stops_number z.2.number z.4)).found u;
        not_long = λ l. long_unfinished l u;
      }

  pub number_goes_on : (j : ℕ) (k : NumberKind) → Found text i j k → j < length text → NumberGoesOn (get_or text j 0) → NoToken Graphql text i
  number_goes_on j k f l g =
      let h : i < length text = omega (arith, f.some, f.inside) in
      let o = there text i h in
      record {
        none = λ x r q.
            let z = by_number (found_first f) (subst (λ l. GraphqlToken l x r) o q) in
            let s = number_found text i z.1 r z.0 z.2 (o ∙ z.3) (stops_number z.2.number z.4) in
            let e = one_found f s.found in
            z.4 (get_or text j 0) (drop (j + 1) text) (sym (ap (λ n. drop n text) e.0 ∙ s.then) ∙ there text j l) g;
        not_long = λ m. found_long f m;
      }

  -- a string, by whether it has a character
  reads_string : (cs : List ℕ) (j : ℕ) → drop i text ≡ 34 ∷ drop (i + 1) text → ((r : List ℕ) → drop i text ≡ 34 ∷ 34 ∷ 34 ∷ r → ⊥) → Reads Graphql (drop (i + 1) text) cs (drop j text) → GraphqlToken (drop i text) (a_string cs) (drop j text)
  reads_string [] j o n q =
      let e = by_empty q in
      subst (λ l. GraphqlToken l (a_string []) (drop j text)) (sym (o ∙ ap (λ l. 34 ∷ l) e))
      (graphql_empty (λ b t f g. n t (o ∙ ap (λ l. 34 ∷ l) (e ∙ ap (λ l. 34 ∷ l) (f ∙ ap (λ m. m ∷ t) g)))))
  reads_string (c ∷ cs) j o n q = subst (λ l. GraphqlToken l (a_string (c ∷ cs)) (drop j text)) (sym o) (graphql_string q)

  pub string_here : (j : ℕ) (plain : Bool) → i < length text → get_or text i 0 ≡ 34 → ((r : List ℕ) → drop i text ≡ 34 ∷ 34 ∷ 34 ∷ r → ⊥) → Scanned Graphql text (i + 1) j plain → TokenAt Graphql text i j (v_text (part text (i + 1) (j - 1)) plain)
  string_here j plain h b n s =
      let o = there text i h ∙ ap (λ n. n ∷ drop (i + 1) text) b in
      record {
        token = a_string s.chars;
        within = s.stands.within;
        reads = reads_string s.chars j o n s.stands.reads;
        only = λ x r q. let z = by_quote (subst (λ l. GraphqlToken l x r) o q) in let y = s.stands.only z.0 r z.1 in (ap a_string y.0 ∙ z.2, y.1);
        holds = (refl, (s.chars, refl, record { scanned = s; same = refl }));
      }

  pub no_string : i < length text → get_or text i 0 ≡ 34 → Nothing (Reads Graphql) text (i + 1) → NoToken Graphql text i
  no_string h b n =
      let o = there text i h ∙ ap (λ n. n ∷ drop (i + 1) text) b in
      record {
        none = λ x r q. let z = by_quote (subst (λ l. GraphqlToken l x r) o q) in n z.0 r z.1;
        not_long = no_long (λ f. number_quote (subst NumberFirst b f));
      }

  pub no_block : (r : List ℕ) → drop i text ≡ 34 ∷ 34 ∷ 34 ∷ r → NoToken Graphql text i
  no_block t e = record {
    none = λ x r q. by_block (subst (λ l. GraphqlToken l x r) e q);
    not_long = no_long (λ f. number_quote (subst NumberFirst (first text i 34 (34 ∷ 34 ∷ t) e).1 f));
  }

  pub no_token : i < length text → ((m : Mark) → Punctuator (get_or text i 0) m → ⊥) → (NameStart (get_or text i 0) → ⊥) → (NumberFirst (get_or text i 0) → ⊥) → get_or text i 0 ≢ 34 → get_or text i 0 ≢ 46 → NoToken Graphql text i
  no_token h p n f q d = record {
    none = λ x r z. by_other p n f q d (subst (λ l. GraphqlToken l x r) (there text i h) z);
    not_long = no_long f;
  }

  -- a long number is no token
  pub graphql_long : (x : Lexical) (r : List ℕ) → GraphqlToken (drop i text) x r → LongAt text i → ⊥
  graphql_long x r q l =
      let o = there text i (long_inside text i l) in
      let z = by_number (long_first text i l) (subst (λ s. GraphqlToken s x r) o q) in
      found_long (number_found text i z.1 r z.0 z.2 (o ∙ z.3) (stops_number z.2.number z.4)).found l
