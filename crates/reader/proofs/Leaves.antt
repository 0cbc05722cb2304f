-- Tokens, and the nodes of values that are one token.
use Rattle.std.proofs.Common.{◌≡◌, ℕ, ◌+◌, ◌-◌, ◌≤◌, true, List, [], ◌∷◌, ◌++◌, length, take, drop, IfOk, Ok, Err, Option, Result, sym, refl, ap, ◌∙◌, subst, ⊎_elim, append-nil, arith, length-append}
use Rattle.std.proofs.lemmas.Bool.{cases_Bool}
use Rattle.std.proofs.lemmas.Int.{ints}
use Rattle.std.proofs.lemmas.List.{drop_at, drop-drop, take_all}
use Rattle.model.specs.Values.{Raw, same, place_of}
use Rattle.model.proofs.CoNames.{same_true}
use Rattle.text.specs.declared.fault.Fault.{Fault}
use Rattle.text.specs.declared.language.Language.{Language}
use Rattle.text.specs.declared.number.NumberKind.{NumberKind}
use Rattle.text.specs.declared.token.Lexeme.{Lexeme}
use Rattle.text.specs.Cuts.{part}
use Rattle.text.specs.Places.{Placed, is_end}
use Rattle.text.specs.NormalForm.{WholeOf, Beyond, long, great}
use Rattle.text.specs.TokenGrammar.{Numeral}
use Rattle.text.specs.TokenFound.{TokenTold}
use Rattle.text.proofs.LexBase.{cut, length_part}
use Rattle.names.specs.declared.part.Part.{Part}
use Rattle.names.specs.declared.part.Part.TheVariants.{Pool}
use Rattle.names.specs.Parts.{PartFits, MayFit, bytes_of, bytes_if_any}
use Rattle.source.specs.declared.nodes.Content.{Content}
use Rattle.source.specs.Contents.{kind_in, flag_in, negative_in, exponent_in, text_in}
use Rattle.source.specs.Heads.{kind_of, flag_of, negative_of, exponent_of, text_of}
use Rattle.source.specs.Nodes.{headed}
use Rattle.reader.specs.Told.{LookTold, NodeFor}
use Rattle.reader.proofs.RdDecimals.{sized}

pub look_of : (language : Language) (text : List ℕ) (at : ℕ) (r : Result Lexeme Fault) → TokenTold language text at r → IfOk r (λ l. Placed (length text) at l.start l.end (is_end l.token)) → LookTold language text at r
look_of language text at (Ok l) t p = record {
  lexed = record { token = t.1.token; reads = t.1.reads; holds = t.1.holds; ordered = p.ordered; within = t.1.within; some = p.some };
  seen = record { skipped = t.0; within = t.1.within; reads = t.1.reads; only = t.1.only };
  onward = p.onward;
}
look_of language text at (Err f) t p = t

-- a numeral is not too long to have a normal form
pub not_beyond : {ds : List ℕ} {k : NumberKind} → Numeral ds k → Beyond ds → ⊥
not_beyond n (long h) = omega (arith, n.short)
not_beyond n (great h g) =
    let w = sized n.number in
    let b = g w.n w.a w.s w.writes in
    ⊎_elim (λ e. omega (arith, ints, b, w.power, e, n.small)) (λ e. omega (arith, ints, b, w.power, e, n.small)) w.sizes

-- the node of a value with nothing below it
pub node_for : (text before after : List ℕ) (c : Content) (s : ℕ) (t : Raw) → kind_in c ≡ kind_of t → s ≡ place_of t → flag_in c ≡ flag_of t → negative_in c ≡ negative_of t → exponent_in c ≡ exponent_of t
    → MayFit text after (text_in c) → bytes_if_any text after (text_in c) ≡ text_of t → (added : List ℕ) → after ≡ before ++ added → (name : Option Part) → NodeFor text before after name t (headed c s name)
node_for text before after c s t ek es ef en ex fits is added grown name = record {
  says = record { kind = ek; place = es; flag = ef; negative = en; exponent = ex; fits = fits; text = is };
  named = refl;
  size = refl;
  more = added;
  grown = grown;
}

-- the same, where the pool stays
pub bare_node : (text pool : List ℕ) (c : Content) (s : ℕ) (t : Raw) → kind_in c ≡ kind_of t → s ≡ place_of t → flag_in c ≡ flag_of t → negative_in c ≡ negative_of t → exponent_in c ≡ exponent_of t
    → MayFit text pool (text_in c) → bytes_if_any text pool (text_in c) ≡ text_of t → (name : Option Part) → NodeFor text pool pool name t (headed c s name)
bare_node text pool c s t ek es ef en ex fits is = node_for text pool pool c s t ek es ef en ex fits is [] (sym (append-nil pool))

-- what was added to a pool is a part of it
pub pool_part : (text before added after : List ℕ) (i j : ℕ) → after ≡ before ++ added → i ≡ length before → j ≡ length after → PartFits text after (Pool i j) × (bytes_of text after (Pool i j) ≡ added)
pool_part text before added after i j g e f =
    let l = ap length g ∙ length-append before added in (
      (omega (arith, l, e, f), omega (arith, f)),
      ap (λ x. part x i j) g ∙ ap (λ k. take (j - k) (drop k (before ++ added))) e
          ∙ ap (λ n. take n (drop (length before) (before ++ added))) (let d : j - length before ≡ length added = omega (arith, l, f) in d)
          ∙ ap (take (length added)) (drop_at before added (length before) refl) ∙ take_all (length added) added (omega arith),
    )

-- the zero of -0
minus_zero : (text r : List ℕ) (i j : ℕ) → i ≤ j → j ≤ length text → part text i j ≡ 45 ∷ 48 ∷ [] → r ≡ 48 ∷ [] → part text (j - length r) j ≡ r
minus_zero text r i j h l e z =
    let n : j ≡ i + 2 = omega (arith, ap length e, length_part text i j l) in
    let c : drop i text ≡ (45 ∷ 48 ∷ []) ++ drop j text = cut text i j h ∙ ap (λ x. x ++ drop j text) e in
    let d : drop (i + 1) text ≡ 48 ∷ drop j text = sym (drop-drop 1 i text) ∙ ap (drop 1) c in
    let m : j - length r ≡ i + 1 = omega (arith, ap length z) in
    let k : j - (i + 1) ≡ 1 = omega arith in
    ap (λ q. part text q j) m ∙ ap (λ q. take q (drop (i + 1) text)) k ∙ ap (take 1) d ∙ sym z

-- a whole number's normal form ends where the number does
pub whole_part : (text ds r : List ℕ) (i j : ℕ) → i ≤ j → j ≤ length text → ds ≡ part text i j → WholeOf ds r → part text (j - length r) j ≡ r
whole_part text ds r i j h l e w = ⊎_elim
    (λ b. let z = same_true ds (45 ∷ 48 ∷ []) b in minus_zero text r i j h l (sym e ∙ z) (w.zero z))
    (λ b. let z : r ≡ ds = w.other (λ z. let x : ◌≡◌ {A = ℕ} 0 1 = let y = sym b ∙ subst (λ (q : List ℕ). same q (45 ∷ 48 ∷ []) ≡ true) (sym z) refl in cc in omega arith) in
    let n : j - length r ≡ i = omega (arith, ap length z, ap length e, length_part text i j l) in
    ap (λ k. part text k j) n ∙ sym e ∙ sym z)
    (cases_Bool (same ds (45 ∷ 48 ∷ [])))
