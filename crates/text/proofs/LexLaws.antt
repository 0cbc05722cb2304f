-- The contract of the functions that find a token has one answer.
use Rattle.std.proofs.Common.{◌≡◌, ℕ, Bool, true, false, List, drop, Ok, Err, sym, refl, ap, ◌∙◌, subst, arith}
use Rattle.text.specs.declared.fault.Fault.TheVariants.{BadText, TooDeep, NoSpace, RepeatedName, LongNumber, NoMemory}
use Rattle.text.specs.declared.language.Language.{Language}
use Rattle.text.specs.declared.language.Language.TheVariants.{Json, Graphql}
use Rattle.text.specs.declared.token.Lexeme.{Lexeme}
use Rattle.text.specs.StringDecode.{Scanned}
use Rattle.text.specs.TokenGrammar.{Lexical, a_mark, a_number, TokenOf}
use Rattle.text.specs.TokenFound.{View, v_mark, v_name, v_number, v_text, v_end, view_of, Holds, Skipped, TokenAt, LongAt, NoToken, found, refused, outcome_of, TokenTold, OneToken}
use Rattle.text.proofs.LexBase.{same_place}
use Rattle.text.proofs.LexJson.{json_long}
use Rattle.text.proofs.LexGraphql.{graphql_long}

-- what is ignored leads to one place
one_start : {language : Language} {text : List ℕ} {at i j : ℕ} → Skipped language text at i → Skipped language text at j → i ≡ j
one_start {text = text} {i = i} {j} s t = same_place text i j s.within t.within (s.only (drop j text) t.leads t.stops)

-- a string is plain, or it is not
one_plain : {language : Language} {text : List ℕ} {i j : ℕ} (p q : Bool) → Scanned language text i j p → Scanned language text i j q → p ≡ q
one_plain true true s t = refl
one_plain false false s t = refl
one_plain true false s t = let e = t.escaped refl in absurd (s.clear refl e.0 e.1 e.2 e.3)
one_plain false true s t = let e = s.escaped refl in absurd (t.clear refl e.0 e.1 e.2 e.3)

clash : {A : Type 0} → ◌≡◌ {A = ℕ} 0 1 → A
clash z = absurd (omega arith)

-- the program's token is one
one_view : (language : Language) (text : List ℕ) (i j : ℕ) (v w : View) (x : Lexical) → Holds language text i j v x → Holds language text i j w x → v ≡ w
one_view language text i j (v_mark m) (v_mark n) x h g = let e : a_mark m ≡ a_mark n = sym h ∙ g in let z : m ≡ n = cc in ap v_mark z
one_view language text i j (v_mark m) (v_name t) x h g = let e = sym (h) ∙ g.0 in let z : ◌≡◌ {A = ℕ} 0 1 = cc in clash z
one_view language text i j (v_mark m) (v_number l t) x h g = let e = sym (h) ∙ g.0 in let z : ◌≡◌ {A = ℕ} 0 1 = cc in clash z
one_view language text i j (v_mark m) (v_text t q) x h g = let e = sym (h) ∙ g.1.1 in let z : ◌≡◌ {A = ℕ} 0 1 = cc in clash z
one_view language text i j (v_mark m) v_end x h g = let e = sym (h) ∙ g.0 in let z : ◌≡◌ {A = ℕ} 0 1 = cc in clash z
one_view language text i j (v_name s) (v_mark n) x h g = let e = sym h.0 ∙ g in let z : ◌≡◌ {A = ℕ} 0 1 = cc in clash z
one_view language text i j (v_name s) (v_name t) x h g = ap v_name (h.1 ∙ sym g.1)
one_view language text i j (v_name s) (v_number l t) x h g = let e = sym h.0 ∙ g.0 in let z : ◌≡◌ {A = ℕ} 0 1 = cc in clash z
one_view language text i j (v_name s) (v_text t q) x h g = let e = sym h.0 ∙ g.1.1 in let z : ◌≡◌ {A = ℕ} 0 1 = cc in clash z
one_view language text i j (v_name s) v_end x h g = let e = sym h.0 ∙ g.0 in let z : ◌≡◌ {A = ℕ} 0 1 = cc in clash z
one_view language text i j (v_number k s) (v_mark n) x h g = let e = sym h.0 ∙ g in let z : ◌≡◌ {A = ℕ} 0 1 = cc in clash z
one_view language text i j (v_number k s) (v_name t) x h g = let e = sym h.0 ∙ g.0 in let z : ◌≡◌ {A = ℕ} 0 1 = cc in clash z
one_view language text i j (v_number k s) (v_number l t) x h g = let e : a_number k s ≡ a_number l t = sym h.0 ∙ g.0 in let y : k ≡ l = cc in let z : s ≡ t = cc in ap (λ n. v_number n s) y ∙ ap (v_number l) z
one_view language text i j (v_number k s) (v_text t q) x h g = let e = sym h.0 ∙ g.1.1 in let z : ◌≡◌ {A = ℕ} 0 1 = cc in clash z
one_view language text i j (v_number k s) v_end x h g = let e = sym h.0 ∙ g.0 in let z : ◌≡◌ {A = ℕ} 0 1 = cc in clash z
one_view language text i j (v_text s p) (v_mark n) x h g = let e = sym h.1.1 ∙ g in let z : ◌≡◌ {A = ℕ} 0 1 = cc in clash z
one_view language text i j (v_text s p) (v_name t) x h g = let e = sym h.1.1 ∙ g.0 in let z : ◌≡◌ {A = ℕ} 0 1 = cc in clash z
one_view language text i j (v_text s p) (v_number l t) x h g = let e = sym h.1.1 ∙ g.0 in let z : ◌≡◌ {A = ℕ} 0 1 = cc in clash z
one_view language text i j (v_text s p) (v_text t q) x h g = ap (λ r. v_text r p) (h.0 ∙ sym g.0) ∙ ap (v_text t) (one_plain p q h.1.2.scanned g.1.2.scanned)
one_view language text i j (v_text s p) v_end x h g = let e = sym h.1.1 ∙ g.0 in let z : ◌≡◌ {A = ℕ} 0 1 = cc in clash z
one_view language text i j v_end (v_mark n) x h g = let e = sym h.0 ∙ g in let z : ◌≡◌ {A = ℕ} 0 1 = cc in clash z
one_view language text i j v_end (v_name t) x h g = let e = sym h.0 ∙ g.0 in let z : ◌≡◌ {A = ℕ} 0 1 = cc in clash z
one_view language text i j v_end (v_number l t) x h g = let e = sym h.0 ∙ g.0 in let z : ◌≡◌ {A = ℕ} 0 1 = cc in clash z
one_view language text i j v_end (v_text t q) x h g = let e = sym h.0 ∙ g.1.1 in let z : ◌≡◌ {A = ℕ} 0 1 = cc in clash z
one_view language text i j v_end v_end x h g = refl

one_token_at : (language : Language) (text : List ℕ) (i j k : ℕ) (v w : View) → TokenAt language text i j v → TokenAt language text i k w → (j ≡ k) × (v ≡ w)
one_token_at language text i j k v w s t =
    let o = s.only t.token (drop k text) t.reads in
    let e = same_place text j k s.within t.within o.1 in
    (e, one_view language text i k v w t.token (subst (Holds language text i k v) o.0 (subst (λ n. Holds language text i n v s.token) e s.holds)) t.holds)

same_found : (language : Language) (text : List ℕ) (at : ℕ) (l m : Lexeme) → TokenTold language text at (Ok l) → TokenTold language text at (Ok m) → outcome_of (Ok l) ≡ outcome_of (Ok m)
same_found language text at l m s t =
    let a = one_start s.0 t.0 in
    let o = one_token_at language text m.start l.end m.end (view_of l.token) (view_of m.token) (subst (λ n. TokenAt language text n l.end (view_of l.token)) a s.1) t.1 in
    ap (λ n. found n l.end (view_of l.token)) a ∙ ap (λ n. found m.start n (view_of l.token)) o.0 ∙ ap (found m.start m.end) o.1

-- where a long number begins, no token stands
long_token : (language : Language) (text : List ℕ) (i : ℕ) (x : Lexical) (r : List ℕ) → TokenOf language (drop i text) x r → LongAt text i → ⊥
long_token Json text i x r q l = json_long text i x r q l
long_token Graphql text i x r q l = graphql_long text i x r q l

-- a token and no token
none_found : (language : Language) (text : List ℕ) (at k : ℕ) (l : Lexeme) → TokenTold language text at (Ok l) → Skipped language text at k → NoToken language text k → ⊥
none_found language text at k l s t n =
    let a = one_start s.0 t in
    n.none s.1.token (drop l.end text) (subst (λ i. TokenOf language (drop i text) s.1.token (drop l.end text)) a s.1.reads)

none_long : (language : Language) (text : List ℕ) (at j k : ℕ) → Skipped language text at j → NoToken language text j → Skipped language text at k → LongAt text k → ⊥
none_long language text at j k s n t l = n.not_long (subst (LongAt text) (one_start t s) l)

long_found : (language : Language) (text : List ℕ) (at k : ℕ) (l : Lexeme) → TokenTold language text at (Ok l) → Skipped language text at k → LongAt text k → ⊥
long_found language text at k l s t g =
    let a = one_start s.0 t in
    long_token language text l.start s.1.token (drop l.end text) s.1.reads (subst (LongAt text) (sym a) g)

pub one_token : OneToken
one_token language text at (Ok l) (Ok m) s t = same_found language text at l m s t
one_token language text at (Ok l) (Err (BadText k)) s t = absurd (none_found language text at k l s t.0 t.1)
one_token language text at (Ok l) (Err (LongNumber k)) s t = absurd (long_found language text at k l s t.0 t.1)
one_token language text at (Err (BadText j)) (Ok m) s t = absurd (none_found language text at j m t s.0 s.1)
one_token language text at (Err (BadText j)) (Err (BadText k)) s t = ap (λ n. refused (BadText n)) (one_start s.0 t.0)
one_token language text at (Err (BadText j)) (Err (LongNumber k)) s t = absurd (none_long language text at j k s.0 s.1 t.0 t.1)
one_token language text at (Err (LongNumber j)) (Ok m) s t = absurd (long_found language text at j m t s.0 s.1)
one_token language text at (Err (LongNumber j)) (Err (BadText k)) s t = absurd (none_long language text at k j t.0 t.1 s.0 s.1)
one_token language text at (Err (LongNumber j)) (Err (LongNumber k)) s t = ap (λ n. refused (LongNumber n)) (one_start s.0 t.0)
one_token language text at (Err (TooDeep j)) r s t = absurd s
one_token language text at (Err (NoSpace j)) r s t = absurd s
one_token language text at (Err (RepeatedName j)) r s t = absurd s
one_token language text at (Err NoMemory) r s t = absurd s
one_token language text at (Ok l) (Err (TooDeep j)) s t = absurd t
one_token language text at (Ok l) (Err (NoSpace j)) s t = absurd t
one_token language text at (Ok l) (Err (RepeatedName j)) s t = absurd t
one_token language text at (Ok l) (Err NoMemory) s t = absurd t
one_token language text at (Err (BadText i)) (Err (TooDeep j)) s t = absurd t
one_token language text at (Err (BadText i)) (Err (NoSpace j)) s t = absurd t
one_token language text at (Err (BadText i)) (Err (RepeatedName j)) s t = absurd t
one_token language text at (Err (BadText i)) (Err NoMemory) s t = absurd t
one_token language text at (Err (LongNumber i)) (Err (TooDeep j)) s t = absurd t
one_token language text at (Err (LongNumber i)) (Err (NoSpace j)) s t = absurd t
one_token language text at (Err (LongNumber i)) (Err (RepeatedName j)) s t = absurd t
one_token language text at (Err (LongNumber i)) (Err NoMemory) s t = absurd t
