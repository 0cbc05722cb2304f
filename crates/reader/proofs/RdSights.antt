-- What is seen from a place on is one thing, and it is the token that stands there.
use Rattle.std.proofs.Common.{◌≡◌, ℕ, ◌≤◌, List, length, drop, sym, ap, subst}
use Rattle.text.specs.declared.fault.Fault.{Fault}
use Rattle.text.specs.declared.fault.Fault.TheVariants.{BadText, LongNumber}
use Rattle.text.specs.declared.language.Language.{Language}
use Rattle.text.specs.declared.language.Language.TheVariants.{Json, Graphql}
use Rattle.text.specs.declared.number.NumberKind.{NumberKind}
use Rattle.text.specs.NumberGrammar.{Number}
use Rattle.text.specs.TokenGrammar.{Lexical, a_number, Numeral, Skips, Ignored, TokenOf, json_number, graphql_number}
use Rattle.text.specs.TokenFound.{Stops, Skipped, LongAt, NoToken, TokenRefused}
use Rattle.text.proofs.LexBase.{same_place}
use Rattle.text.proofs.LexJson.{json_long}
use Rattle.text.proofs.LexGraphql.{graphql_long}
use Rattle.reader.specs.Tokens.{Sight, sees, blind, TokenIs, Seen, Sights}

-- what is ignored leads to one place
one_start : (language : Language) (text : List ℕ) (i a s : ℕ) → Skipped language text i a → s ≤ length text → Skips (Ignored language) (drop i text) (drop s text) → Stops language (drop s text) → a ≡ s
one_start language text i a s h w k t = same_place text a s h.within w (h.only (drop s text) k t)

one_skip : (language : Language) (text : List ℕ) (i a s : ℕ) → Skipped language text i a → Skipped language text i s → a ≡ s
one_skip language text i a s h g = one_start language text i a s h g.within g.leads g.stops

-- where a long number begins, no token stands
long_token : (language : Language) (text : List ℕ) (i : ℕ) (x : Lexical) (r : List ℕ) → TokenOf language (drop i text) x r → LongAt text i → ⊥
long_token Json text i x r q l = json_long text i x r q l
long_token Graphql text i x r q l = graphql_long text i x r q l

-- a token that stands after i stands where what is ignored ends
moved : (language : Language) (text : List ℕ) (i a s e : ℕ) (x : Lexical) → Skipped language text i a → TokenIs language text i s e x → TokenOf language (drop a text) x (drop e text)
moved language text i a s e x h t =
    subst (λ n. TokenOf language (drop n text) x (drop e text)) (sym (one_start language text i a s h t.begins t.skips t.stops)) t.reads

seen_sure : (language : Language) (text : List ℕ) (i a b s e : ℕ) (y x : Lexical) → Seen language text i a b y → TokenIs language text i s e x → sees a b y ≡ sees s e x
seen_sure language text i a b s e y x h t =
    let p = one_start language text i a s h.skipped t.begins t.skips t.stops in
    let o = h.only x (drop e text) (moved language text i a s e x h.skipped t) in
    let q = same_place text b e h.within t.within o.1 in
    let r = o.0 in
    cc (p, q, r)

refused_not : (language : Language) (text : List ℕ) (i s e : ℕ) (x : Lexical) (f : Fault) → TokenRefused language text i f → TokenIs language text i s e x → ⊥
refused_not language text i s e x (BadText k) h t = h.1.none x (drop e text) (moved language text i k s e x h.0 t)
refused_not language text i s e x (LongNumber k) h t = long_token language text k x (drop e text) (moved language text i k s e x h.0 t) h.1
refused_not language text i s e x _ h t = h

-- a token that stands there is what is seen
pub sure : (language : Language) (text : List ℕ) (i s e : ℕ) (x : Lexical) (v : Sight) → Sights language text i v → TokenIs language text i s e x → v ≡ sees s e x
sure language text i s e x (sees a b y) h t = seen_sure language text i a b s e y x h t
sure language text i s e x (blind f) h t = absurd (refused_not language text i s e x f h t)

-- and what is seen stands there
pub seen_is : {language : Language} {text : List ℕ} {i s e : ℕ} {x : Lexical} → Seen language text i s e x → TokenIs language text i s e x
seen_is h = record { begins = h.skipped.within; within = h.within; skips = h.skipped.leads; stops = h.skipped.stops; reads = h.reads }

not_both : (language : Language) (text : List ℕ) (i j k : ℕ) → Skipped language text i j → NoToken language text j → Skipped language text i k → LongAt text k → ⊥
not_both language text i j k s n t l = n.not_long (subst (LongAt text) (one_skip language text i k j t s) l)

one_fault : (language : Language) (text : List ℕ) (i : ℕ) (f g : Fault) → TokenRefused language text i f → TokenRefused language text i g → f ≡ g
one_fault language text i (BadText j) (BadText k) s t = ap BadText (one_skip language text i j k s.0 t.0)
one_fault language text i (BadText j) (LongNumber k) s t = absurd (not_both language text i j k s.0 s.1 t.0 t.1)
one_fault language text i (BadText j) _ s t = absurd t
one_fault language text i (LongNumber j) (BadText k) s t = absurd (not_both language text i k j t.0 t.1 s.0 s.1)
one_fault language text i (LongNumber j) (LongNumber k) s t = ap LongNumber (one_skip language text i j k s.0 t.0)
one_fault language text i (LongNumber j) _ s t = absurd t
one_fault language text i _ g s t = absurd s

pub one_sight : (language : Language) (text : List ℕ) (i : ℕ) (v w : Sight) → Sights language text i v → Sights language text i w → v ≡ w
one_sight language text i (sees s e x) (sees a b y) h g = seen_sure language text i s e a b x y h (seen_is g)
one_sight language text i (sees s e x) (blind f) h g = absurd (refused_not language text i s e x f g (seen_is h))
one_sight language text i (blind f) (sees s e x) h g = absurd (refused_not language text i s e x f h (seen_is g))
one_sight language text i (blind f) (blind g) s t = ap blind (one_fault language text i f g s t)

-- a number token is a number within the limits
pub token_numeral : (language : Language) (xs r ds : List ℕ) (k : NumberKind) → TokenOf language xs (a_number k ds) r → Numeral ds k
token_numeral Json xs r ds k (json_number n e a) = n
token_numeral Graphql xs r ds k (graphql_number n e a) = n

pub sights_number : (language : Language) (text : List ℕ) (i s e : ℕ) (k : NumberKind) (ds : List ℕ) → Sights language text i (sees s e (a_number k ds)) → Number ds k
sights_number language text i s e k ds h = (token_numeral language (drop s text) (drop e text) ds k h.reads).number
