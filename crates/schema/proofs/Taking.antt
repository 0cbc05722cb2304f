-- The next token, passed or left.
use Rattle.std.proofs.Common.{◌≡◌, ℕ, ◌≤◌, Bool, true, false, List, length, Some, None, Result, IfOk, sym, refl, ap, ◌∙◌, subst, arith, true≢false, Bor}
use Rattle.std.proofs.Math.Option.{some, none}
use Rattle.std.proofs.lemmas.Bool.Decides.{Decides-eqb}
use Rattle.std.proofs.lemmas.Slice.Eq.{slice_eq-Decides}
use Rattle.std.proofs.lemmas.Bool.{cond-true, cond-false, false_from_ne_true}
use Rattle.model.specs.Values.{Name}
use Rattle.model.proofs.CoNames.{same_true, same_refl}
use Rattle.text.specs.contracts.token.TokenPartialEq.TheImpl as token_eq
use Rattle.text.specs.declared.fault.Fault.{Fault}
use Rattle.text.specs.declared.fault.Fault.TheVariants.{BadText}
use Rattle.text.specs.declared.language.Language.TheVariants.{Graphql}
use Rattle.text.specs.declared.token.Lexeme.{Lexeme}
use Rattle.text.specs.declared.token.Token.{Token}
use Rattle.text.specs.declared.token.Token.TheVariants.{Bang, Dollar, Ampersand, OpenParen, CloseParen, Spread, Colon, Equals, At, OpenBracket, CloseBracket, OpenBrace, Pipe, CloseBrace, Comma, Name as NameToken, Number, Text, End}
use Rattle.text.specs.Places.{Placed, is_end}
use Rattle.text.specs.TokenGrammar.{bang, dollar, ampersand, open_paren, close_paren, spread, colon, equals, at_sign, open_bracket, close_bracket, open_brace, pipe, close_brace, comma, Lexical, a_name, the_end}
use Rattle.text.specs.TokenFound.{View, v_mark, v_name, v_text, v_end, view_of, Holds, TokenTold}
use Rattle.reader.specs.Tokens.{sees}
use Rattle.reader.specs.Reading.{got, fails, is_mark}
use Rattle.reader.specs.Told.{Lexed, Looks, LookTold}
use Rattle.reader.proofs.Leaves.{look_of}
use Rattle.reader.proofs.RdSame.{no_both}
use Rattle.reader.proofs.TokenKinds.{marked, unmarked}
use Rattle.schema.specs.declared.tokens.Name.{Name as NameOf}
use Rattle.schema.specs.declared.tokens.Tokens.{Tokens}
use Rattle.schema.specs.Holds.{label_of}
use Rattle.schema.specs.Outcomes.{Takes, Chosen, any_name, accepted}
use Rattle.schema.specs.SchemaGrammar.{ends}
use Rattle.schema.specs.SchemaReading.{is_word}
use Rattle.schema.specs.Told.{Read, Itself, Labels, sights, Spelled, is_token, the_token, TokenIfAny}

-- what the cursor looks at
pub looked : (t : Tokens) (r : Result Lexeme Fault) → TokenTold Graphql t.text.now t.at r → IfOk r (λ l. Placed (length t.text.now) t.at l.start l.end (is_end l.token)) → LookTold Graphql t.text.now t.at r
looked t r a b = look_of Graphql t.text.now t.at r a b

pub chosen_yes : (b : Bool) (P Q : Type 0) → b ≡ true → P → Chosen b P Q
chosen_yes b P Q h p = subst (λ (c : Bool). Chosen c P Q) (sym h) p

pub chosen_no : (b : Bool) (P Q : Type 0) → b ≡ false → Q → Chosen b P Q
chosen_no b P Q h q = subst (λ (c : Bool). Chosen c P Q) (sym h) q

-- names that are equal, and the end of the text
equal_name : (a b : Bor (List ℕ)) → token_eq.ghosts.eq (NameToken a) (NameToken b) ≡ true → a.now ≡ b.now
equal_name a b h = (slice_eq-Decides Decides-eqb a.now b.now _ refl).0 h

other_name : (a b : Bor (List ℕ)) → token_eq.ghosts.eq (NameToken a) (NameToken b) ≡ false → a.now ≡ b.now → ⊥
other_name a b h e = no_both ((slice_eq-Decides Decides-eqb a.now b.now _ refl).1 e) h

equal_named : (a : Token) (b : Bor (List ℕ)) → token_eq.ghosts.eq a (NameToken b) ≡ true → view_of a ≡ v_name b.now
equal_named (NameToken a) b h = ap v_name (equal_name a b h)
equal_named _ b h = absurd (true≢false (sym h))

other_named : (a : Token) (b : Bor (List ℕ)) → token_eq.ghosts.eq a (NameToken b) ≡ false → view_of a ≡ v_name b.now → ⊥
other_named (NameToken a) b h e = other_name a b h cc
other_named _ b h e = cc

equal_end : (a : Token) → token_eq.ghosts.eq a End ≡ true → view_of a ≡ v_end
equal_end End h = refl
equal_end _ h = absurd (true≢false (sym h))

other_end : (a : Token) → token_eq.ghosts.eq a End ≡ false → view_of a ≡ v_end → ⊥
other_end End h e = absurd (true≢false h)
other_end _ h e = cc

-- what the program's token is, where the grammar's is a name or the end
name_there : (text : List ℕ) (i j : ℕ) (v : View) (x : Lexical) (w : Name) → Holds Graphql text i j v x → x ≡ a_name w → v ≡ v_name w
name_there text i j (v_name s) x w h e = let d = sym h.0 ∙ e in cc
name_there text i j (v_text s p) x w h e = let d = sym h.1.1 ∙ e in cc
name_there text i j (v_mark m) x w h e = let d = sym h ∙ e in cc
name_there text i j _ x w h e = let d = sym h.0 ∙ e in cc

end_there : (text : List ℕ) (i j : ℕ) (v : View) (x : Lexical) → Holds Graphql text i j v x → x ≡ the_end → v ≡ v_end
end_there text i j v_end x h e = refl
end_there text i j (v_text s p) x h e = let d = sym h.1.1 ∙ e in cc
end_there text i j (v_mark m) x h e = let d = sym h ∙ e in cc
end_there text i j _ x h e = let d = sym h.0 ∙ e in cc

word_is : (w : Name) (x : Lexical) → is_word w x ≡ true → x ≡ a_name w
word_is w (a_name n) h = ap a_name (sym (same_true w n h))
word_is w _ h = absurd (true≢false (sym h))

end_is : (x : Lexical) → ends x ≡ true → x ≡ the_end
end_is the_end h = refl
end_is _ h = absurd (true≢false (sym h))

-- a token of the program is the wanted one
pub token_same : {text : List ℕ} {l : Lexeme} (k : Lexed Graphql text l) (b : Token) → Spelled (view_of b) → token_eq.ghosts.eq l.token b ≡ true → is_token (view_of b) k.token ≡ true
token_same {text} {l} k (NameToken w) s e =
    let h = subst (λ v. Holds Graphql text l.start l.end v k.token) (equal_named l.token w e) k.holds in
    ap (is_word w.now) h.0 ∙ same_refl w.now
token_same {text} {l} k End s e = ap ends (subst (λ v. Holds Graphql text l.start l.end v k.token) (equal_end l.token e) k.holds).0
token_same k (Number w j) s e = absurd s
token_same k (Text w p) s e = absurd s
token_same k Bang s e = ap (is_mark bang) (marked k Bang bang refl e)
token_same k Dollar s e = ap (is_mark dollar) (marked k Dollar dollar refl e)
token_same k Ampersand s e = ap (is_mark ampersand) (marked k Ampersand ampersand refl e)
token_same k OpenParen s e = ap (is_mark open_paren) (marked k OpenParen open_paren refl e)
token_same k CloseParen s e = ap (is_mark close_paren) (marked k CloseParen close_paren refl e)
token_same k Spread s e = ap (is_mark spread) (marked k Spread spread refl e)
token_same k Colon s e = ap (is_mark colon) (marked k Colon colon refl e)
token_same k Equals s e = ap (is_mark equals) (marked k Equals equals refl e)
token_same k At s e = ap (is_mark at_sign) (marked k At at_sign refl e)
token_same k OpenBracket s e = ap (is_mark open_bracket) (marked k OpenBracket open_bracket refl e)
token_same k CloseBracket s e = ap (is_mark close_bracket) (marked k CloseBracket close_bracket refl e)
token_same k OpenBrace s e = ap (is_mark open_brace) (marked k OpenBrace open_brace refl e)
token_same k Pipe s e = ap (is_mark pipe) (marked k Pipe pipe refl e)
token_same k CloseBrace s e = ap (is_mark close_brace) (marked k CloseBrace close_brace refl e)
token_same k Comma s e = ap (is_mark comma) (marked k Comma comma refl e)

-- or it is not
pub token_other : {text : List ℕ} {l : Lexeme} (k : Lexed Graphql text l) (b : Token) → Spelled (view_of b) → token_eq.ghosts.eq l.token b ≡ false → is_token (view_of b) k.token ≡ false
token_other {text} {l} k (NameToken w) s e = false_from_ne_true (is_word w.now k.token) (λ h. other_named l.token w e (name_there text l.start l.end (view_of l.token) k.token w.now k.holds (word_is w.now k.token h)))
token_other {text} {l} k End s e = false_from_ne_true (ends k.token) (λ h. other_end l.token e (end_there text l.start l.end (view_of l.token) k.token k.holds (end_is k.token h)))
token_other k (Number w j) s e = absurd s
token_other k (Text w p) s e = absurd s
token_other k Bang s e = unmarked k Bang bang refl e
token_other k Dollar s e = unmarked k Dollar dollar refl e
token_other k Ampersand s e = unmarked k Ampersand ampersand refl e
token_other k OpenParen s e = unmarked k OpenParen open_paren refl e
token_other k CloseParen s e = unmarked k CloseParen close_paren refl e
token_other k Spread s e = unmarked k Spread spread refl e
token_other k Colon s e = unmarked k Colon colon refl e
token_other k Equals s e = unmarked k Equals equals refl e
token_other k At s e = unmarked k At at_sign refl e
token_other k OpenBracket s e = unmarked k OpenBracket open_bracket refl e
token_other k CloseBracket s e = unmarked k CloseBracket close_bracket refl e
token_other k OpenBrace s e = unmarked k OpenBrace open_brace refl e
token_other k Pipe s e = unmarked k Pipe pipe refl e
token_other k CloseBrace s e = unmarked k CloseBrace close_brace refl e
token_other k Comma s e = unmarked k Comma comma refl e

-- the token looked at is the wanted one, or is not
module _ (t new : Tokens) (l : Lexeme) (k : Looks Graphql t.text.now t.at l) (b : Token) (h : Spelled (view_of b)) where
  abbrev x : Lexical
  x = k.lexed.token

  pub expected : token_eq.ghosts.eq l.token b ≡ true → t.at ≤ length t.text.now → new.text.now ≡ t.text.now → new.at ≡ l.end → Read 0 (λ N. Takes N (the_token (view_of b))) Itself t new l.start
  expected e w s a = record {
    value = l.start;
    reads = (
      sees l.start l.end x,
      k.seen,
      ap (accepted l.start l.end) (cond-true (is_token (view_of b) x) (some l.start) none (token_same k.lexed b h e)) ∙ ap (λ j. got j l.start) (sym a),
    );
    means = refl;
    onward = (s, omega (arith, k.onward w, k.lexed.ordered, a));
  }

  pub missed : token_eq.ghosts.eq l.token b ≡ false → Takes (sights t) (the_token (view_of b)) t.at (fails (BadText l.start))
  missed e = (sees l.start l.end x, k.seen, ap (accepted l.start l.end) (cond-false (is_token (view_of b) x) (some l.start) none (token_other k.lexed b h e)))

  pub eaten : token_eq.ghosts.eq l.token b ≡ true → t.at ≤ length t.text.now → new.text.now ≡ t.text.now → new.at ≡ l.end → Read 0 (λ N. TokenIfAny N (is_token (view_of b))) Itself t new (Some l.start)
  eaten e w s a = record {
    value = Some l.start;
    reads = (
      sees l.start l.end x,
      k.seen,
      chosen_yes (is_token (view_of b) x) _ _ (token_same k.lexed b h e) (ap (λ j. got j (Some l.start)) (sym a)),
    );
    means = refl;
    onward = (s, omega (arith, k.onward w, k.lexed.ordered, a));
  }

  pub left : token_eq.ghosts.eq l.token b ≡ false → Read 0 (λ N. TokenIfAny N (is_token (view_of b))) Itself t t None
  left e = record {
    value = None;
    reads = (sees l.start l.end x, k.seen, chosen_no (is_token (view_of b) x) _ _ (token_other k.lexed b h e) refl);
    means = refl;
    onward = (refl, omega arith);
  }

-- a name
pub named_token : (t new : Tokens) (l : Lexeme) (k : Looks Graphql t.text.now t.at l) (w : Bor (List ℕ)) (n : NameOf) → l.token ≡ NameToken w → n ≡ record { name = w; place = l.start } → t.at ≤ length t.text.now → new.text.now ≡ t.text.now → new.at ≡ l.end → Read 1 (λ N. Takes N any_name) Labels t new n
named_token t new l k w n e d i s a =
    let h : k.lexed.token ≡ a_name w.now = (subst (λ v. Holds Graphql t.text.now l.start l.end (view_of v) k.lexed.token) e k.lexed.holds).0 in
    record {
      value = record { name = w.now; place = l.start };
      reads = (sees l.start l.end k.lexed.token, k.seen, ap (λ x. accepted l.start l.end (any_name l.start x)) h ∙ ap (λ j. got j (record { name = w.now; place = l.start })) (sym a));
      means = ap label_of d;
      onward = (s, omega (arith, k.onward i, k.lexed.some (ap is_end e), a));
    }

no_name : (s i j : ℕ) (text : List ℕ) (t : Token) (x : Lexical) → ((w : Bor (List ℕ)) → t ≡ NameToken w → ⊥) → Holds Graphql text i j (view_of t) x → any_name s x ≡ none
no_name s i j text (NameToken w) x n h = absurd (n w refl)
no_name s i j text (Number w k) x n h = ap (any_name s) h.0
no_name s i j text (Text w p) x n h = ap (any_name s) h.1.1
no_name s i j text End x n h = ap (any_name s) h.0
no_name s i j text _ x n h = ap (any_name s) h

pub no_name_token : (t : Tokens) (l : Lexeme) (k : Looks Graphql t.text.now t.at l) → ((w : Bor (List ℕ)) → l.token ≡ NameToken w → ⊥) → Takes (sights t) any_name t.at (fails (BadText l.start))
no_name_token t l k n = (sees l.start l.end k.lexed.token, k.seen, ap (accepted l.start l.end) (no_name l.start l.start l.end t.text.now l.token k.lexed.token n k.lexed.holds))
