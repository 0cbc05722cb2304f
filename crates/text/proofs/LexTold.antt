-- What is found from a place on.
use Rattle.std.proofs.Common.{◌≡◌, ℕ, ◌+◌, ◌-◌, ◌<◌, ◌≤◌, Bool, List, ◌++◌, length, drop, Ok, Err, Result, sym, refl, subst, arith}
use Rattle.text.specs.declared.fault.Fault.{Fault}
use Rattle.text.specs.declared.fault.Fault.TheVariants.{BadText, TooDeep, NoSpace, RepeatedName, LongNumber, NoMemory}
use Rattle.text.specs.declared.language.Language.{Language}
use Rattle.text.specs.declared.token.Lexeme.{Lexeme}
use Rattle.text.specs.declared.token.Token.{Token}
use Rattle.text.specs.declared.token.Token.TheVariants.{End}
use Rattle.text.specs.Places.{Placed, is_end}
use Rattle.text.specs.declared.number.NumberKind.{NumberKind}
use Rattle.text.specs.NumberScan.{Found, Unfinished}
use Rattle.text.specs.StringGrammar.{Reads}
use Rattle.text.specs.StringDecode.{Scanned, Nothing}
use Rattle.text.specs.TokenGrammar.{Mark}
use Rattle.text.specs.TokenFound.{View, v_mark, v_number, v_text, v_end, view_of, Skipped, TokenAt, NoToken, TokenHere, FoundHere, NumeralTold, QuotedTold, SpelledTold, TokenTold}
use Rattle.text.specs.Cuts.{part}
use Rattle.text.proofs.LexNumber.{scan_refused}
use Rattle.text.proofs.LexBase.{torn, begins_fits}

pub told : (language : Language) (text : List ℕ) (at start : ℕ) (r : Result Lexeme Fault) → Skipped language text at start → TokenHere language text start r → TokenTold language text at r
told language text at start (Ok l) s h = (subst (Skipped language text at) (sym h.0) s, h.1)
told language text at start (Err (BadText k)) s h = (subst (Skipped language text at) (sym h.0) s, h.1)
told language text at start (Err (LongNumber k)) s h = (subst (Skipped language text at) (sym h.0) s, h.1)
told language text at start (Err (TooDeep k)) s h = absurd h
told language text at start (Err (NoSpace k)) s h = absurd h
told language text at start (Err (RepeatedName k)) s h = absurd h
told language text at start (Err NoMemory) s h = absurd h

pub stands_placed : (size start end : ℕ) (last : Bool) → start < end → end ≤ size → Placed size start start end last
stands_placed size start end last h k = record { onward = λ a. omega arith; ordered = omega arith; within = k; some = λ e. h }

-- a token that some bytes are, and none
module _ (language : Language) (text : List ℕ) (i : ℕ) where
  pub found_here : (l : Lexeme) → l.start ≡ i → TokenAt language text i l.end (view_of l.token) → i < l.end → FoundHere language text i (Ok l)
  found_here l e t h =
      let P : ℕ → Type 0 = λ k. TokenAt language text k l.end (view_of l.token) in
      let Q : ℕ → Type 0 = λ k. Placed (length text) i k l.end (is_end l.token) in
      record { found = (e, subst P (sym e) t); placed = subst Q (sym e) (stands_placed (length text) i l.end (is_end l.token) h t.within) }

  pub end_here : i ≤ length text → TokenAt language text i i v_end → FoundHere language text i (Ok record { token = End; start = i; end = i })
  end_here h t = record {
    found = (refl, t);
    placed = record { onward = λ h. omega arith; ordered = omega arith; within = h; some = λ e. absurd (torn refl e) };
  }

  pub none_here : NoToken language text i → FoundHere language text i (Err (BadText i))
  none_here n = record { found = (refl, n); placed = tt }

  pub numeral_told : ((j : ℕ) (k : NumberKind) (view : View) → Found text i j k → view ≡ v_number k (part text i j) → TokenAt language text i j view) → (Unfinished text i → NoToken language text i)
      → (r : Result Lexeme Fault) → NumeralTold text i r → FoundHere language text i r
  numeral_told h n (Ok l) t = let f = t.1.1 in found_here l t.0 (h l.end t.1.0 (view_of l.token) f t.1.2) f.some
  numeral_told h n (Err f) t = record { found = scan_refused language text i n f t; placed = tt }

  pub quoted_told : ((j : ℕ) (plain : Bool) → Scanned language text (i + 1) j plain → TokenAt language text i j (v_text (part text (i + 1) (j - 1)) plain)) → (Nothing (Reads language) text (i + 1) → NoToken language text i)
      → (r : Result Lexeme Fault) → QuotedTold language text i r → FoundHere language text i r
  quoted_told h n (Ok l) t =
      let s = t.1.1 in
      let P : View → Type 0 = TokenAt language text i l.end in
      found_here l t.0 (subst P (sym t.1.2) (h l.end t.1.0 s)) (omega (arith, s.stands.forward))
  quoted_told h n (Err f) t = subst (λ (g : Fault). FoundHere language text i (Err g)) (sym t.0) (none_here (n t.1))

  pub spelled_told : (word : List ℕ) (token : Token) → 0 < length word → (drop i text ≡ word ++ drop (i + length word) text → i + length word ≤ length text → TokenAt language text i (i + length word) (view_of token)) → (((r : List ℕ) → drop i text ≡ word ++ r → ⊥) → NoToken language text i)
      → (r : Result Lexeme Fault) → SpelledTold text i word token r → FoundHere language text i r
  spelled_told word token h t n (Ok l) s = rw s.0 (found_here _ refl (t s.1 (begins_fits text word i h s.1)) (omega arith))
  spelled_told word token h t n (Err f) s = subst (λ (g : Fault). FoundHere language text i (Err g)) (sym s.0) (none_here (n s.1))

-- a byte that is a mark
pub one_mark : (R : ℕ → Mark → Type 0) {b k : ℕ} {m : Mark} → b ≡ k → R k m → (n : Mark) × R b n × (v_mark m ≡ v_mark n)
one_mark R {m = m} e r = (m, subst (λ (n : ℕ). R n m) (sym e) r, refl)
