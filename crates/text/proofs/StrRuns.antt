-- Strings: characters in a row.
use Rattle.std.proofs.Common.{◌≡◌, ℕ, ◌+◌, ◌-◌, ◌*◌, ◌<◌, ◌≤◌, Bool, true, false, not, ◌&&◌, eqb, ◌≢◌, ◌⊎◌, List, [], ◌∷◌, ◌++◌, length, get_or, take, drop, sym, refl, ap, ◌∙◌, subst, ⊎_elim, append_assoc, append-nil, arith, length-append, length-drop, get_or-drop}
use lib.Seq.{take-append_seam}
use lib.Utf8.{encode, encodes}
use Rattle.std.proofs.lemmas.List.{drop_all}
use Rattle.std.proofs.lemmas.Str.{encodes-append, inside_one}
use Rattle.std.proofs.lemmas.Bool.Decides.{nat_tests}
use Rattle.text.specs.declared.language.Language.{Language}
use Rattle.text.specs.StringGrammar.{utf8, Hex4, hex4, Low, low, Code, lone, pair, Escape, short, unicode, Unescaped, Char, unescaped, escape, Run, none, more, Reads}
use Rattle.text.specs.StringDecode.{Exactly, Nothing, Scanned, Decoded, Broken, Extended}
use Rattle.text.proofs.StrUtf8.{drop_more, no_utf8}
use Rattle.text.proofs.StrChars.{char_same, no_quote, no_backslash}

-- what stands at the front depends only on its own bytes, which are p
record Own {X : Type 0} (R : List ℕ → X → List ℕ → Type 0) (xs : List ℕ) (x : X) (r : List ℕ) : Type 0 where
  p : List ℕ
  is : xs ≡ p ++ r
  again : (s : List ℕ) → R (p ++ s) x s

hex_own : {xs r : List ℕ} {u : ℕ} → Hex4 xs u r → Own Hex4 xs u r
hex_own (hex4 {a} {b} {c} {d} h i j k) = record { p = a ∷ b ∷ c ∷ d ∷ []; is = refl; again = λ s. hex4 h i j k }

low_own : {xs r : List ℕ} {u : ℕ} → Low xs u r → Own Low xs u r
low_own (low h i) = let o = hex_own h in record { p = 92 ∷ 117 ∷ o.p; is = ap (λ l. 92 ∷ 117 ∷ l) o.is; again = λ s. low (o.again s) i }

code_own : {xs r : List ℕ} {c : ℕ} → Code xs c r → Own Code xs c r
code_own (lone h i) = let o = hex_own h in record { p = o.p; is = o.is; again = λ s. lone (o.again s) i }
code_own (pair {r = r} {u} {v} h i l) =
    let o = hex_own h in
    let m = low_own l in
    record {
      p = o.p ++ m.p;
      is = o.is ∙ ap (λ k. o.p ++ k) m.is ∙ sym (append_assoc o.p m.p r);
      again = λ s. subst (λ k. Code k (65536 + (u - 55296) * 1024 + (v - 56320)) s) (sym (append_assoc o.p m.p s)) (pair (o.again (m.p ++ s)) i (m.again s));
    }

escape_own : {xs r : List ℕ} {c : ℕ} → Escape xs c r → Own Escape xs c r
escape_own (short {letter} s) = record { p = letter ∷ []; is = refl; again = λ t. short s }
escape_own (unicode c) = let o = code_own c in record { p = 117 ∷ o.p; is = ap (λ l. 117 ∷ l) o.is; again = λ s. unicode (o.again s) }

-- no character stands at the front
abbrev Stops : Language → List ℕ → Type 0
Stops language s = (c : ℕ) (t : List ℕ) → Char language s c t → ⊥

module _ {language : Language} where
  char_own : {xs r : List ℕ} {c : ℕ} → Char language xs c r → Own (Char language) xs c r
  char_own (unescaped {c = c} (utf8 s e) o) = record { p = encode c; is = e; again = λ t. unescaped (utf8 s refl) o }
  char_own (escape e) = let o = escape_own e in record { p = 92 ∷ o.p; is = ap (λ l. 92 ∷ l) o.is; again = λ s. escape (o.again s) }

  run_own : {xs cs r : List ℕ} → Run language xs cs r → Own (Run language) xs cs r
  run_own none = record { p = []; is = refl; again = λ s. none }
  run_own (more {cs = cs} {r} {c} d x) =
      let o = char_own d in
      let q = run_own x in
      record {
        p = o.p ++ q.p;
        is = o.is ∙ ap (λ k. o.p ++ k) q.is ∙ sym (append_assoc o.p q.p r);
        again = λ s. subst (λ k. Run language k (c ∷ cs) s) (sym (append_assoc o.p q.p s)) (more (o.again (q.p ++ s)) (q.again s));
      }

  run_more : {xs ys zs cs : List ℕ} {c : ℕ} → Run language xs cs ys → Char language ys c zs → Run language xs (cs ++ c ∷ []) zs
  run_more none d = more d none
  run_more (more e x) d = more e (run_more x d)

  -- where no more characters can be read, a run has no choice
  back : {xs ys s cs ds : List ℕ} → Stops language s → Run language xs cs ys → Run language xs ds s → (zs : List ℕ) × Run language ys zs s × (cs ++ zs ≡ ds)
  back {ds = ds} stop none x = (ds, x, refl)
  back stop (more {ys = ys} {c = c} d x) none = absurd (stop c ys d)
  back {s = s} stop (more {ys = ys} {cs = cs} {c = c} d x) (more {cs = es} {c = b} e y) =
      let same = char_same d e in
      let o = back stop x (subst (λ l. Run language l es s) (sym same.1) y) in
      (o.0, o.1, (λ i. same.0 i ∷ o.2 i))

  stopped : {ys s zs : List ℕ} → Stops language ys → Run language ys zs s → ([] ≡ zs) × (ys ≡ s)
  stopped stop none = (refl, refl)
  stopped stop (more {ys = ys} {c = c} d x) = absurd (stop c ys d)

  nil_stops : Stops language []
  nil_stops c t (unescaped u o) = no_utf8 u

  quote_stops : (r : List ℕ) → Stops language (34 ∷ r)
  quote_stops r c t d = no_quote d

  run_some : {xs cs r : List ℕ} → Run language xs cs (34 ∷ r) → 0 < length xs
  run_some {r = r} x = let o = run_own x in omega (arith, ap length o.is, length-append o.p (34 ∷ r))

  -- a character that begins with no backslash stands as it is
  as_is : {b c : ℕ} {t r : List ℕ} → b ≢ 92 → Char language (b ∷ t) c r → (b ∷ t ≡ encode c ++ r) × (c ≢ 92)
  as_is n (unescaped (utf8 s e) o) = (e, λ q. no_backslash language (subst (Unescaped language) q o))
  as_is n (escape e) = absurd (n refl)

flag_set : (p : Bool) (b : ℕ) → (p && not (eqb b 92)) ≡ true → (p ≡ true) × (b ≢ 92)
flag_set p b e = grind (arith, nat_tests)

flag_clear : (p : Bool) (b : ℕ) → (p && not (eqb b 92)) ≡ false → (p ≡ false) ⊎ (b ≡ 92)
flag_clear p b e = grind (arith, nat_tests)

before_or_after : (k n : ℕ) → (k < n) ⊎ (n ≤ k)
before_or_after k n = grind (arith, nat_tests)

cut : (xs p r : List ℕ) (n : ℕ) → xs ≡ p ++ r → length p ≡ n → take n xs ≡ p
cut xs p r n e l = ap (take n) e ∙ subst (λ k. take k (p ++ r) ≡ p) l (take-append_seam p r)

-- ---- decoding: the characters before `at` were read and added
pub record Adding (language : Language) (raw : List ℕ) (at : ℕ) (before now : List ℕ) : Type 0 where
  pub chars : List ℕ
  pub within : at ≤ length raw
  pub run : Run language raw chars (drop at raw)
  pub held : now ≡ before ++ encodes chars

pub add_start : (language : Language) (raw before : List ℕ) → Adding language raw 0 before before
add_start language raw before = record { chars = []; within = omega arith; run = none; held = sym (append-nil before) }

module _ {language : Language} {raw : List ℕ} {at : ℕ} {before now : List ℕ} (s : Adding language raw at before now) where
  pub add_more : {c end : ℕ} {after : List ℕ} → Exactly (Char language) raw at c end → after ≡ now ++ encode c → Adding language raw end before after
  add_more {c} x e = record {
    chars = s.chars ++ c ∷ [];
    within = x.within;
    run = run_more s.run x.reads;
    held =
        e ∙ ap (λ l. l ++ encode c) s.held ∙ append_assoc before (encodes s.chars) (encode c)
        ∙ ap (λ l. before ++ l) (ap (λ l. encodes s.chars ++ l) (sym (append-nil (encode c))) ∙ sym (encodes-append s.chars (c ∷ [])));
  }

  pub add_all : length raw ≤ at → Decoded language raw before now
  add_all h =
      let r : Run language raw s.chars [] = subst (Run language raw s.chars) (drop_all at raw h) s.run in
      record {
        chars = s.chars;
        writes = r;
        only = λ cs x.
            let b = back nil_stops r x in
            sym (append-nil s.chars) ∙ ap (λ l. s.chars ++ l) (stopped nil_stops b.1).0 ∙ b.2;
        added = s.held;
      }

  pub add_bad : at < length raw → Nothing (Char language) raw at → Broken language raw at
  add_bad h n =
      let o = run_own s.run in
      let l : length o.p ≡ at = omega (arith, ap length o.is, length-append o.p (drop at raw), length-drop at raw) in
      record {
        chars = s.chars;
        within = h;
        front = subst (λ k. Run language k s.chars []) (append-nil o.p ∙ sym (cut raw o.p (drop at raw) at o.is l)) (o.again []);
        stops = n;
        refused = λ cs x.
            let b = back nil_stops s.run x in
            omega (arith, ap length (stopped n b.1).1, length-drop at raw);
      }

  pub so_far : Extended before now
  so_far = record { more = encodes s.chars; is = s.held }

-- ---- scanning: the characters before `next` were read
pub record Scanning (language : Language) (text : List ℕ) (at next : ℕ) (plain : Bool) : Type 0 where
  pub chars : List ℕ
  pub forward : at ≤ next
  pub run : Run language (drop at text) chars (drop next text)
  pub clear : plain ≡ true → (k : ℕ) → at ≤ k → k < next → get_or text k 0 ≢ 92
  pub escaped : plain ≡ false → (k : ℕ) × (at ≤ k) × (k < next) × (get_or text k 0 ≡ 92)
  pub same : plain ≡ true → drop at text ≡ encodes chars ++ drop next text

pub scan_start : (language : Language) (text : List ℕ) (at : ℕ) → Scanning language text at at true
scan_start language text at = record {
  chars = [];
  forward = omega arith;
  run = none;
  clear = λ e k l h. absurd (omega arith);
  escaped = λ e. absurd (let z : ◌≡◌ {A = ℕ} 0 1 = cc in omega arith);
  same = λ e. refl;
}

module _ {language : Language} {text : List ℕ} {at next : ℕ} {plain : Bool} (s : Scanning language text at next plain) (h : next < length text) where
  here : drop next text ≡ get_or text next 0 ∷ drop (next + 1) text
  here = drop_more text next (next + 1) h refl

  module _ {c end : ℕ} (x : Exactly (Char language) text next c end) where
    shown : get_or text next 0 ≢ 92 → (drop next text ≡ encode c ++ drop end text) × (c ≢ 92)
    shown n = let a = as_is n (subst (λ l. Char language l c (drop end text)) here x.reads) in (here ∙ a.0, a.1)

    no_escape : get_or text next 0 ≢ 92 → (k : ℕ) → next ≤ k → k < end → get_or text k 0 ≢ 92
    no_escape n k a b q =
        let t = shown n in
        let e : next + (k - next) ≡ k = omega arith in
        let g : get_or (drop next text) (k - next) 0 ≡ 92 = get_or-drop next text (k - next) 0 ∙ ap (λ j. get_or text j 0) e ∙ q in
        let l : k - next < length (encode c) = omega (arith, ap length t.0, length-append (encode c) (drop end text), length-drop next text, length-drop end text, x.within) in
        t.1 (inside_one c (drop end text) (drop next text) (k - next) t.0 l (omega arith) ∙ g)

    pub scan_more : Scanning language text at end (plain && not (eqb (get_or text next 0) 92))
    scan_more = record {
      chars = s.chars ++ c ∷ [];
      forward = omega (arith, s.forward, x.forward);
      run = run_more s.run x.reads;
      clear = λ e k a b. ⊎_elim (λ l. s.clear (flag_set plain (get_or text next 0) e).0 k a l) (λ l. no_escape (flag_set plain (get_or text next 0) e).1 k l b) (before_or_after k next);
      escaped = λ e. ⊎_elim
          (λ f. let p = s.escaped f in (p.0, p.1, omega (arith, p.2, x.forward), p.3))
          (λ q. (next, s.forward, x.forward, q)) (flag_clear plain (get_or text next 0) e);
      same = λ e.
          s.same (flag_set plain (get_or text next 0) e).0 ∙ ap (λ l. encodes s.chars ++ l) (shown (flag_set plain (get_or text next 0) e).1).0 ∙ sym (append_assoc (encodes s.chars) (encode c) (drop end text))
          ∙ ap (λ l. l ++ drop end text) (ap (λ l. encodes s.chars ++ l) (sym (append-nil (encode c))) ∙ sym (encodes-append s.chars (c ∷ [])));
    }

  pub scan_ends : get_or text next 0 ≡ 34 → Scanned language text at (next + 1) plain
  scan_ends q =
      let r : Run language (drop at text) s.chars (34 ∷ drop (next + 1) text) = subst (Run language (drop at text) s.chars) (here ∙ ap (λ n. n ∷ drop (next + 1) text) q) s.run in
      let o = run_own s.run in
      let l : length o.p ≡ next + 1 - 1 - at = omega (arith, ap length o.is, length-append o.p (drop next text), length-drop next text, length-drop at text, s.forward) in
      record {
        chars = s.chars;
        stands = record {
          forward = omega (arith, s.forward);
          within = omega arith;
          reads = r;
          only = λ cs t x.
              let b = back (quote_stops t) r x in
              let p = stopped (quote_stops (drop (next + 1) text)) b.1 in
              let e = p.1 in
              (sym (append-nil s.chars) ∙ ap (λ k. s.chars ++ k) p.0 ∙ b.2, (cc));
        };
        inside = subst (λ k. Run language k s.chars []) (append-nil o.p ∙ sym (cut (drop at text) o.p (drop next text) (next + 1 - 1 - at) o.is l)) (o.again []);
        clear = λ e k a b. s.clear e k a (omega arith);
        escaped = λ e. let p = s.escaped e in (p.0, p.1, omega (arith, p.2), p.3);
        same = λ e.
            cut (drop at text) (encodes s.chars) (drop next text) (next + 1 - 1 - at) (s.same e)
            (omega (arith, ap length (s.same e), length-append (encodes s.chars) (drop next text), length-drop next text, length-drop at text, s.forward));
      }

  pub scan_bad : get_or text next 0 ≢ 34 → Nothing (Char language) text next → Nothing (Reads language) text at
  scan_bad q n cs t x =
      let b = back (quote_stops t) s.run x in
      let e : get_or text next 0 ∷ drop (next + 1) text ≡ 34 ∷ t = sym here ∙ (stopped n b.1).1 in
      q (cc)

pub scan_unended : {language : Language} {text : List ℕ} {at next : ℕ} {plain : Bool} → Scanning language text at next plain → length text ≤ next → Nothing (Reads language) text at
scan_unended {text = text} {next = next} s h cs t x = let b = back (quote_stops t) s.run x in omega (arith, run_some b.1, length-drop next text)
