-- The values that tokens begin.
use Rattle.std.proofs.Common.{◌≡◌, ℕ, Bool, true, false, List, Ok, Err, Option, Result, sym, refl, ap, ◌∙◌, subst, true≢false}
use Rattle.model.specs.Values.{Raw}
use Rattle.text.specs.declared.fault.Fault.{Fault}
use Rattle.text.specs.declared.fault.Fault.TheVariants.{BadText, NoMemory}
use Rattle.text.specs.declared.language.Language.{Language}
use Rattle.text.specs.declared.number.NumberKind.{NumberKind}
use Rattle.text.specs.declared.token.Lexeme.{Lexeme}
use Rattle.text.specs.declared.token.Token.{Token}
use Rattle.text.specs.declared.token.Token.TheVariants.{Dollar, OpenBracket, OpenBrace, Name, Number, Text, End}
use Rattle.text.specs.TokenGrammar.{dollar, open_bracket, open_brace, Lexical, a_mark, the_end}
use Rattle.text.specs.TokenFound.{view_of, Holds}
use Rattle.names.specs.declared.part.Part.{Part}
use Rattle.source.specs.declared.nodes.Content.{Content}
use Rattle.source.specs.Nodes.{headed}
use Rattle.reader.specs.Manner.{Manner}
use Rattle.reader.specs.Tokens.{Sights, blind}
use Rattle.reader.specs.Grammar.{Leaf, l_null}
use Rattle.reader.specs.Reading.{fails, Starts, starts_leaf, Reads, r_blind, r_none}
use Rattle.reader.specs.Told.{Blames, Lexed, LeafContent, LeafTold, NodeFor, StartContent, StartTold, Looks}

-- a token as its variant
pub holds_as : {language : Language} {text : List ℕ} {l : Lexeme} (k : Lexed language text l) (t : Token) → l.token ≡ t → Holds language text l.start l.end (view_of t) k.token
holds_as {language} {text} {l} k t e = subst (λ (u : Token). Holds language text l.start l.end (view_of u) k.token) e k.holds

pub start_node : {text before after : List ℕ} {start : ℕ} {x y : Lexical} {c : Content} {t : Raw} → x ≡ y → Starts start y t → ((name : Option Part) → NodeFor text before after name t (headed c start name)) → StartContent text before after start x c
start_node {start = start} {t = t} e s n = λ name. record { tree = t; starts = subst (λ (z : Lexical). Starts start z t) (sym e) s; node = n name }

pub leaf_start : {text before after : List ℕ} {start : ℕ} {x y : Lexical} {c : Content} → x ≡ y → LeafContent text before after start y c → StartContent text before after start x c
leaf_start {start = start} e l = λ name. let a = l name in record { tree = a.tree; starts = subst (λ (z : Lexical). Starts start z a.tree) (sym e) (starts_leaf a.leaf); node = a.node }

pub no_memory : (text before after : List ℕ) (start : ℕ) (x : Lexical) (f : Fault) → f ≡ NoMemory → StartTold text before after start x (Err f)
no_memory text before after start x f e = subst (λ (g : Fault). StartTold text before after start x (Err g)) (sym e) tt

pub leaf_told : (text before after : List ℕ) (start : ℕ) (x y : Lexical) (r : Result Content Fault) → x ≡ y → LeafTold text before after start y r → StartTold text before after start x r
leaf_told text before after start x y (Ok c) e l = leaf_start e l
leaf_told text before after start x y (Err f) e l = no_memory text before after start x f l

-- the tokens that begin a value
abbrev beginning : Lexical → Bool
beginning (a_mark dollar) = true
beginning (a_mark open_bracket) = true
beginning (a_mark open_brace) = true
beginning (a_mark m) = false
beginning the_end = false
beginning _ = true

leaf_begins : {s : ℕ} {x : Lexical} {t : Raw} → Leaf s x t → beginning x ≡ true
leaf_begins (l_null e) = refl
leaf_begins _ = refl

starts_begins : {s : ℕ} {x : Lexical} {t : Raw} → Starts s x t → beginning x ≡ true
starts_begins (starts_leaf l) = leaf_begins l
starts_begins _ = refl

pub begins_not : {s : ℕ} {x : Lexical} {t : Raw} (y : Lexical) → x ≡ y → beginning y ≡ false → Starts s x t → ⊥
begins_not y e f s = true≢false (sym (starts_begins s) ∙ ap beginning e ∙ f)

-- a token of the program that begins none
pub no_start : (language : Language) (text : List ℕ) (i j s : ℕ) (x : Lexical) (t : Token) → (t ≡ Dollar → ⊥) → (t ≡ OpenBracket → ⊥) → (t ≡ OpenBrace → ⊥) → ((w : denote.Ref.Bor (List ℕ)) → t ≡ Name w → ⊥) → ((w : denote.Ref.Bor (List ℕ)) (k : NumberKind) → t ≡ Number w k → ⊥) → ((w : denote.Ref.Bor (List ℕ)) (p : Bool) → t ≡ Text w p → ⊥)
    → Holds language text i j (view_of t) x → (u : Raw) → Starts s x u → ⊥
no_start language text i j s x Dollar a b c d e f h u st = a refl
no_start language text i j s x OpenBracket a b c d e f h u st = b refl
no_start language text i j s x OpenBrace a b c d e f h u st = c refl
no_start language text i j s x (Name w) a b c d e f h u st = d w refl
no_start language text i j s x (Number w k) a b c d e f h u st = e w k refl
no_start language text i j s x (Text w p) a b c d e f h u st = f w p refl
no_start language text i j s x End a b c d e f h u st = begins_not the_end h.0 refl st
no_start language text i j s x _ a b c d e f h u st = begins_not _ h refl st

-- the faults that a value may begin with, whatever the depth
module _ (m : Manner) (text : List ℕ) (at : ℕ) where
  pub blamed_blind : (f : Fault) → Sights m.language text at (blind f) → Blames f (λ g. (d : ℕ) → Reads (Sights m.language text) m.language m.distinct d at (fails g))
  blamed_blind NoMemory s = tt
  blamed_blind _ s = λ d. r_blind s

  pub blamed_none : (l : Lexeme) (k : Looks m.language text at l) (f : Fault) → Blames f (λ g. (g ≡ BadText l.start) × ((t : Raw) → Starts l.start k.lexed.token t → ⊥)) → Blames f (λ g. (d : ℕ) → Reads (Sights m.language text) m.language m.distinct d at (fails g))
  blamed_none l k NoMemory h = tt
  blamed_none l k _ h = λ d. subst (λ (g : Fault). Reads (Sights m.language text) m.language m.distinct d at (fails g)) (sym h.0) (r_none k.seen h.1)
