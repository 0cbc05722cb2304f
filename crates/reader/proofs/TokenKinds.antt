-- What a token is, as the grammar sees it.
use Rattle.std.proofs.Common.{◌≡◌, ◌≢◌, ℕ, ◌<◌, ◌≤◌, true, false, List, [], length, Option, sym, refl, ap, ◌∙◌, subst, arith}
use Rattle.std.proofs.lemmas.Grind.{common_steps}
use Rattle.std.proofs.lemmas.Bool.{cond-true, cond-false, false_from_ne_true}
use Rattle.model.specs.Values.{Raw, list, object, variable, nil, end, place_of}
use Rattle.text.specs.declared.fault.Fault.TheVariants.{BadText}
use Rattle.text.specs.declared.language.Language.{Language}
use Rattle.text.specs.declared.language.Language.TheVariants.{Json, Graphql}
use Rattle.text.specs.contracts.token.TokenPartialEq.TheImpl as token_eq
use Rattle.text.specs.declared.token.Lexeme.{Lexeme}
use Rattle.text.specs.declared.token.Token.{Token}
use Rattle.text.specs.declared.token.Token.TheVariants.{Name, Number, Text, End}
use Rattle.text.specs.Places.{is_end}
use Rattle.text.specs.TokenGrammar.{Mark, dollar, open_bracket, open_brace, comma, Lexical, a_mark, the_end}
use Rattle.text.specs.TokenFound.{View, v_mark, v_text, v_end, view_of, Holds}
use Rattle.names.specs.declared.part.Part.{Part}
use Rattle.source.specs.declared.nodes.Node.{Node}
use Rattle.source.specs.declared.raw.Kind.TheVariants.{Variable, List as ListKind, Object}
use Rattle.source.specs.declared.nodes.Content.{Content}
use Rattle.source.specs.declared.nodes.Content.TheVariants.{List as ListContent, Object as ObjectContent, Variable as VariableContent}
use Rattle.source.specs.Contents.{kind_in}
use Rattle.source.specs.Heads.{kind_of}
use Rattle.source.specs.Table.{Table, Says}
use Rattle.reader.specs.Manner.{Manner}
use Rattle.reader.specs.Tokens.{sees, blind, Seen}
use Rattle.reader.specs.Grammar.{Leaf, l_null}
use Rattle.reader.specs.Reading.{fails, Starts, starts_leaf, starts_list, starts_object, starts_variable, is_mark, turn, done, again, halts, as_variable, after_all}
use Rattle.reader.specs.Told.{Lexed, Begun, Opened, bare}
use Rattle.reader.proofs.Beginning.{begins_not}
use Rattle.reader.proofs.RdSound.{mark_is, is_mark_lem}
use Rattle.reader.proofs.Tables.{says_bare}

-- a token that is not the end has a length
goes : (t : Token) → (view_of t ≡ v_end → ⊥) → is_end t ≡ false
goes End n = absurd (n refl)
goes _ n = refl

-- a token of the program is a mark, or is not, by whether it is equal to that mark
equal_mark : (a b : Token) (m : Mark) → token_eq.ghosts.eq a b ≡ true → view_of b ≡ v_mark m → view_of a ≡ v_mark m
equal_mark a b m e h = grind (arith, common_steps)

other_mark : (a b : Token) (m : Mark) → token_eq.ghosts.eq a b ≡ false → view_of b ≡ v_mark m → view_of a ≡ v_mark m → ⊥
other_mark a b m e h v = grind (arith, common_steps)

-- and the token of the grammar with it
view_there : (language : Language) (text : List ℕ) (i j : ℕ) (v : View) (x : Lexical) (m : Mark) → Holds language text i j v x → x ≡ a_mark m → v ≡ v_mark m
view_there language text i j (v_mark k) x m h e = let d = sym h ∙ e in cc
view_there language text i j (v_text s p) x m h e = let d = sym h.1.1 ∙ e in cc
view_there language text i j _ x m h e = let d = sym h.0 ∙ e in cc

module _ {language : Language} {text : List ℕ} {l : Lexeme} (k : Lexed language text l) (b : Token) (m : Mark) (h : view_of b ≡ v_mark m) where
  pub marked : token_eq.ghosts.eq l.token b ≡ true → k.token ≡ a_mark m
  marked e = subst (λ (v : View). Holds language text l.start l.end v k.token) (equal_mark l.token b m e h) k.holds

  pub mark_some : token_eq.ghosts.eq l.token b ≡ true → l.start < l.end
  mark_some e = k.some (goes l.token (λ n. let d = sym (equal_mark l.token b m e h) ∙ n in cc))

  pub unmarked : token_eq.ghosts.eq l.token b ≡ false → is_mark m k.token ≡ false
  unmarked e = false_from_ne_true (is_mark m k.token) (λ t. other_mark l.token b m e h (view_there language text l.start l.end (view_of l.token) k.token m k.holds (mark_is m k.token t)))

-- how it goes on, by the token
pub turn_closes : (language : Language) (close : Mark) (j s e : ℕ) (x : Lexical) → x ≡ a_mark close → turn language close j (sees s e x) ≡ done e
turn_closes Json close j s e x h = cond-true (is_mark close x) _ _ (ap (is_mark close) h ∙ is_mark_lem close)
turn_closes Graphql close j s e x h = cond-true (is_mark close x) _ _ (ap (is_mark close) h ∙ is_mark_lem close)

pub turn_goes : (close : Mark) (j s e : ℕ) (x : Lexical) → is_mark close x ≡ false → turn Graphql close j (sees s e x) ≡ again j
turn_goes close j s e x h = cond-false (is_mark close x) _ _ h

pub turn_comma : (close : Mark) (j s e : ℕ) (x : Lexical) → is_mark close x ≡ false → x ≡ a_mark comma → turn Json close j (sees s e x) ≡ again e
turn_comma close j s e x h k = cond-false (is_mark close x) _ _ h ∙ cond-true (is_mark comma x) _ _ (ap (is_mark comma) k)

pub turn_bad : (close : Mark) (j s e : ℕ) (x : Lexical) → is_mark close x ≡ false → is_mark comma x ≡ false → turn Json close j (sees s e x) ≡ halts (BadText s)
turn_bad close j s e x h k = cond-false (is_mark close x) _ _ h ∙ cond-false (is_mark comma x) _ _ k

pub turn_blind : (language : Language) (close : Mark) (j : ℕ) (f : Rattle.text.specs.declared.fault.Fault.Fault) → turn language close j (blind f) ≡ halts f
turn_blind Json close j f = refl
turn_blind Graphql close j f = refl

-- what begins a value is not the end of the text
start_some : {language : Language} {text : List ℕ} {l : Lexeme} (k : Lexed language text l) {s : ℕ} {u : Raw} → Starts s k.token u → l.start < l.end
start_some {language} {text} {l} k s = k.some (goes l.token (λ n. begins_not the_end (subst (λ (v : View). Holds language text l.start l.end v k.token) n k.holds).0 refl s))

-- what follows a dollar sign, where it is no name
pub no_variable : (language : Language) (text : List ℕ) (i j : ℕ) (x : Lexical) (t : Token) (s b e : ℕ) → ((w : denote.Ref.Bor (List ℕ)) → t ≡ Name w → ⊥) → Holds language text i j (view_of t) x → as_variable s (sees b e x) ≡ fails (BadText b)
no_variable language text i j x (Name w) s b e n h = absurd (n w refl)
no_variable language text i j x (Number w k) s b e n h = ap (λ y. as_variable s (sees b e y)) h.0
no_variable language text i j x (Text w p) s b e n h = ap (λ y. as_variable s (sees b e y)) h.1.1
no_variable language text i j x End s b e n h = ap (λ y. as_variable s (sees b e y)) h.0
no_variable language text i j x _ s b e n h = ap (λ y. as_variable s (sees b e y)) h

-- what begins, by the kind of its node: a value of one token is neither a list, an object nor a variable
leaf_apart : {s : ℕ} {x : Lexical} {t : Raw} → Leaf s x t → (kind_of t ≢ ListKind) × (kind_of t ≢ Object) × (kind_of t ≢ Variable)
leaf_apart (l_null e) = ((λ k. cc), (λ k. cc), (λ k. cc))
leaf_apart _ = ((λ k. cc), (λ k. cc), (λ k. cc))

pub opens_list : {s : ℕ} {x : Lexical} {t : Raw} → Starts s x t → kind_of t ≡ ListKind → (x ≡ a_mark open_bracket) × (t ≡ list s nil)
opens_list (starts_leaf l) e = absurd ((leaf_apart l).0 e)
opens_list starts_list e = (refl, refl)
opens_list starts_object e = cc
opens_list starts_variable e = cc

pub opens_object : {s : ℕ} {x : Lexical} {t : Raw} → Starts s x t → kind_of t ≡ Object → (x ≡ a_mark open_brace) × (t ≡ object s end)
opens_object (starts_leaf l) e = absurd ((leaf_apart l).1 e)
opens_object starts_list e = cc
opens_object starts_object e = (refl, refl)
opens_object starts_variable e = cc

pub opens_variable : {s : ℕ} {x : Lexical} {t : Raw} → Starts s x t → kind_of t ≡ Variable → (x ≡ a_mark dollar) × (t ≡ variable s [])
opens_variable (starts_leaf l) e = absurd ((leaf_apart l).2 e)
opens_variable starts_list e = cc
opens_variable starts_object e = cc
opens_variable starts_variable e = (refl, refl)

-- and by its content
list_content : (c : Content) → kind_in c ≡ ListKind → c ≡ ListContent
list_content ListContent e = refl
list_content _ e = cc

object_content : (c : Content) → kind_in c ≡ Object → c ≡ ObjectContent
object_content ObjectContent e = refl
object_content _ e = cc

variable_content : (c : Content) → kind_in c ≡ Variable → (p : Part) × (c ≡ VariableContent p)
variable_content (VariableContent p) e = (p, refl)
variable_content _ e = cc

pub is_leaf : {s : ℕ} {x : Lexical} {t : Raw} (c : Content) → Starts s x t → kind_in c ≡ kind_of t → (c ≡ ListContent → ⊥) → (c ≡ ObjectContent → ⊥) → ((p : Part) → c ≡ VariableContent p → ⊥) → Leaf s x t
is_leaf c (starts_leaf l) e f g h = l
is_leaf c starts_list e f g h = absurd (f (list_content c e))
is_leaf c starts_object e f g h = absurd (g (object_content c e))
is_leaf c starts_variable e f g h = let v = variable_content c e in absurd (h v.0 v.1)

-- where a value begins, it goes on
pub begun_goes : {language : Language} {text : List ℕ} {at : ℕ} {before after : List ℕ} {name : Option Part} {l : Lexeme} {n : Node} → at ≤ length text → Begun language text at before after name l n → at < l.end
begun_goes h b =
    let k = b.looks.lexed in
    omega (arith, b.looks.onward h, start_some k b.starts.starts)

-- a list, an object or a variable that begins
pub opened_as : (m : Manner) {text : List ℕ} {at : ℕ} {before after : List ℕ} {name : Option Part} {l : Lexeme} {n : Node} (T : Table) (mark : Lexical) (t u : Raw) → T.text ≡ text → T.pool ≡ after → at ≤ length text → (b : Begun m.language text at before after name l n) → b.looks.lexed.token ≡ mark → b.starts.tree ≡ t → place_of t ≡ l.start → ((k : ℕ) → k ≡ l.start → t ≡ u) → Opened m text at l.end mark u T name n
opened_as m {text} {at} {before} {after} {l = l} {n} T mark t u et ep h b em e p f =
    let place = b.starts.node.says.place ∙ ap place_of e ∙ p in
    record {
      start = l.start;
      seen = subst (λ (x : Lexical). Seen m.language text at l.start l.end x) em b.looks.seen;
      forward = begun_goes h b;
      place = place;
      says = subst (Says T n) (e ∙ f n.place place) (says_bare {T = bare text after} {U = T} (sym et) (sym ep) b.starts.node.says);
      named = b.starts.node.named;
      size = b.starts.node.size;
    }

-- what follows the value of a text, where it is not the end
pub not_last : (language : Language) (text : List ℕ) (i j : ℕ) (x : Lexical) (v : View) (u : Raw) (b e : ℕ) → (v ≡ v_end → ⊥) → Holds language text i j v x → after_all u (sees b e x) ≡ fails (BadText b)
not_last language text i j x (v_mark m) u b e n h = ap (λ y. after_all u (sees b e y)) h
not_last language text i j x (v_text s p) u b e n h = ap (λ y. after_all u (sees b e y)) h.1.1
not_last language text i j x v_end u b e n h = absurd (n refl)
not_last language text i j x _ u b e n h = ap (λ y. after_all u (sees b e y)) h.0
