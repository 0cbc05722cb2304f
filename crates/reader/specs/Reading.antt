-- What reading a text from a place on comes to: a value and where it ends, or the fault that comes first.
use Rattle.std.specs.Prelude.{◌≡◌, ℕ, suc, ◌-◌, ◌<◌, ◌≤◌, Bool, true, false, cond, List, [], ◌∷◌, ◌++◌, length, ◌==◌}
use Rattle.std.proofs.Math.Option.{none, some}
use Rattle.model.specs.Values.{Name, Raw, Raws, Mems, null, scalar, variable, list, object, nil, cons, end, mem, has}
use Rattle.model.specs.Back.{Distinct}
use Rattle.model.specs.Limits.{mem_names}
use Rattle.text.specs.declared.fault.Fault.{Fault}
use Rattle.text.specs.declared.fault.Fault.TheVariants.{BadText, TooDeep, RepeatedName}
use Rattle.text.specs.declared.language.Language.{Language}
use Rattle.text.specs.declared.language.Language.TheVariants.{Json, Graphql}
use Rattle.text.specs.TokenGrammar.{Mark, bang, dollar, ampersand, open_paren, close_paren, spread, colon, equals, at_sign, open_bracket, close_bracket, open_brace, pipe, close_brace, comma, Lexical, a_mark, a_name, a_number, a_string, the_end}
use Rattle.reader.specs.Tokens.{Sight, sees, blind}
use Rattle.reader.specs.Grammar.{Leaf, name_of}

-- an X that ends at a place, or a fault
pub data Out (X : Type 0) : Type 0 where
  got : ℕ → X → Out X
  fails : Fault → Out X

-- the value that begins with a token, as far as the token tells
pub data Starts (s : ℕ) : Lexical → Raw → Type 0 where
  starts_leaf : {x : Lexical} {t : Raw} → Leaf s x t → Starts s x t
  starts_list : Starts s (a_mark open_bracket) (list s nil)
  starts_object : Starts s (a_mark open_brace) (object s end)
  starts_variable : Starts s (a_mark dollar) (variable s [])

abbrev pub mark_number : Mark → ℕ
mark_number bang = 0
mark_number dollar = 1
mark_number ampersand = 2
mark_number open_paren = 3
mark_number close_paren = 4
mark_number spread = 5
mark_number colon = 6
mark_number equals = 7
mark_number at_sign = 8
mark_number open_bracket = 9
mark_number close_bracket = 10
mark_number open_brace = 11
mark_number pipe = 12
mark_number close_brace = 13
mark_number comma = 14

-- whether a token is a mark
abbrev pub is_mark : Mark → Lexical → Bool
is_mark m (a_mark k) = mark_number m == mark_number k
is_mark m (a_name w) = false
is_mark m (a_number k ds) = false
is_mark m (a_string cs) = false
is_mark m the_end = false

abbrev pub sees_mark : Mark → Sight → Bool
sees_mark m (sees s e x) = is_mark m x
sees_mark m (blind f) = false

-- how it goes on after a value inside a list or an object
pub data Turn : Type 0 where
  done : ℕ → Turn
  again : ℕ → Turn
  halts : Fault → Turn

-- by what is seen after the value, which ends at j: the closing mark; in JSON else a comma; in GraphQL else the next value
abbrev pub turn : Language → Mark → ℕ → Sight → Turn
turn Json close j (sees s e x) = cond (is_mark close x) (done e) (cond (is_mark comma x) (again e) (halts (BadText s)))
turn Json close j (blind f) = halts f
turn Graphql close j (sees s e x) = cond (is_mark close x) (done e) (again j)
turn Graphql close j (blind f) = halts f

abbrev pub as_list : ℕ → Out Raws → Out Raw
as_list s (got j xs) = got j (list s xs)
as_list s (fails f) = fails f

abbrev pub as_object : ℕ → Out Mems → Out Raw
as_object s (got j ms) = got j (object s ms)
as_object s (fails f) = fails f

abbrev pub ahead : Raw → Out Raws → Out Raws
ahead t (got j ts) = got j (cons t ts)
ahead t (fails f) = fails f

abbrev pub ahead_member : Name → Raw → Out Mems → Out Mems
ahead_member n t (got j ts) = got j (mem n t ts)
ahead_member n t (fails f) = fails f

-- a name after a dollar sign
abbrev pub as_variable : ℕ → Sight → Out Raw
as_variable s (sees b e (a_mark m)) = fails (BadText b)
as_variable s (sees b e (a_name w)) = got e (variable s w)
as_variable s (sees b e (a_number k ds)) = fails (BadText b)
as_variable s (sees b e (a_string cs)) = fails (BadText b)
as_variable s (sees b e the_end) = fails (BadText b)
as_variable s (blind f) = fails f

-- a colon after a name
abbrev pub colon_after : Name → Sight → Out Name
colon_after n (sees b e x) = cond (is_mark colon x) (got e n) (fails (BadText b))
colon_after n (blind f) = fails f

-- whether a name is refused because an earlier member has it
abbrev pub repeats : Bool → List Name → Name → Bool
repeats true ns n = has ns n
repeats false ns n = false

-- the name of a member and the colon after it; ns are the names before it in the object
pub data NameAt (N : ℕ → Sight → Type 0) (language : Language) (distinct : Bool) : List Name → ℕ → Out Name → Type 0 where
  na_blind : {ns : List Name} {i : ℕ} {f : Fault} → N i (blind f) → NameAt N language distinct ns i (fails f)
  na_none : {ns : List Name} {i s e : ℕ} {x : Lexical} → N i (sees s e x) → name_of language x ≡ none → NameAt N language distinct ns i (fails (BadText s))
  na_long : {ns : List Name} {i s e : ℕ} {x : Lexical} {n : Name} → N i (sees s e x) → name_of language x ≡ some n → 127 < length n → NameAt N language distinct ns i (fails (BadText s))
  na_repeated : {ns : List Name} {i s e : ℕ} {x : Lexical} {n : Name} → N i (sees s e x) → name_of language x ≡ some n → length n ≤ 127 → repeats distinct ns n ≡ true → NameAt N language distinct ns i (fails (RepeatedName s))
  na_name : {ns : List Name} {i s e : ℕ} {x : Lexical} {n : Name} {v : Sight} {o : Out Name} → N i (sees s e x) → name_of language x ≡ some n → length n ≤ 127 → repeats distinct ns n ≡ false → N e v → colon_after n v ≡ o → NameAt N language distinct ns i o

mutual
  -- the value at i, with d levels left for it and what is inside it; N says what is seen from a place on
  pub data Reads (N : ℕ → Sight → Type 0) (language : Language) (distinct : Bool) : ℕ → ℕ → Out Raw → Type 0 where
    r_blind : {d i : ℕ} {f : Fault} → N i (blind f) → Reads N language distinct d i (fails f)
    r_none : {d i s e : ℕ} {x : Lexical} → N i (sees s e x) → ((t : Raw) → Starts s x t → ⊥) → Reads N language distinct d i (fails (BadText s))
    r_deep : {d i s e : ℕ} {x : Lexical} {t : Raw} → N i (sees s e x) → Starts s x t → d ≡ 0 → Reads N language distinct d i (fails (TooDeep s))
    r_leaf : {d i s e : ℕ} {x : Lexical} {t : Raw} → N i (sees s e x) → 0 < d → Leaf s x t → Reads N language distinct d i (got e t)
    r_variable : {d i s e : ℕ} {v : Sight} {o : Out Raw} → N i (sees s e (a_mark dollar)) → 0 < d → N e v → as_variable s v ≡ o → Reads N language distinct d i o
    r_list : {d i s e : ℕ} {q : Out Raws} {o : Out Raw} → N i (sees s e (a_mark open_bracket)) → 0 < d → ReadsList N language distinct (d - 1) e q → as_list s q ≡ o → Reads N language distinct d i o
    r_object : {d i s e : ℕ} {q : Out Mems} {o : Out Raw} → N i (sees s e (a_mark open_brace)) → 0 < d → ReadsObject N language distinct (d - 1) e q → as_object s q ≡ o → Reads N language distinct d i o

  -- what follows the opening of a list
  pub data ReadsList (N : ℕ → Sight → Type 0) (language : Language) (distinct : Bool) : ℕ → ℕ → Out Raws → Type 0 where
    rl_nil : {d i s e : ℕ} → N i (sees s e (a_mark close_bracket)) → ReadsList N language distinct d i (got e nil)
    rl_items : {d i : ℕ} {v : Sight} {o : Out Raws} → N i v → sees_mark close_bracket v ≡ false → ReadsItems N language distinct d i o → ReadsList N language distinct d i o

  -- the items from i on
  pub data ReadsItems (N : ℕ → Sight → Type 0) (language : Language) (distinct : Bool) : ℕ → ℕ → Out Raws → Type 0 where
    ri_fails : {d i : ℕ} {f : Fault} → Reads N language distinct d i (fails f) → ReadsItems N language distinct d i (fails f)
    ri_halts : {d i j : ℕ} {t : Raw} {v : Sight} {f : Fault} → Reads N language distinct d i (got j t) → N j v → turn language close_bracket j v ≡ halts f → ReadsItems N language distinct d i (fails f)
    ri_last : {d i j e : ℕ} {t : Raw} {v : Sight} → Reads N language distinct d i (got j t) → N j v → turn language close_bracket j v ≡ done e → ReadsItems N language distinct d i (got e (cons t nil))
    ri_more : {d i j k : ℕ} {t : Raw} {v : Sight} {q o : Out Raws} → Reads N language distinct d i (got j t) → N j v → turn language close_bracket j v ≡ again k → ReadsItems N language distinct d k q → ahead t q ≡ o → ReadsItems N language distinct d i o

  -- what follows the opening of an object
  pub data ReadsObject (N : ℕ → Sight → Type 0) (language : Language) (distinct : Bool) : ℕ → ℕ → Out Mems → Type 0 where
    ro_end : {d i s e : ℕ} → N i (sees s e (a_mark close_brace)) → ReadsObject N language distinct d i (got e end)
    ro_members : {d i : ℕ} {v : Sight} {o : Out Mems} → N i v → sees_mark close_brace v ≡ false → ReadsMembers N language distinct d [] i o → ReadsObject N language distinct d i o

  -- the members from i on, after members with the names ns
  pub data ReadsMembers (N : ℕ → Sight → Type 0) (language : Language) (distinct : Bool) : ℕ → List Name → ℕ → Out Mems → Type 0 where
    rm_unnamed : {d i : ℕ} {ns : List Name} {f : Fault} → NameAt N language distinct ns i (fails f) → ReadsMembers N language distinct d ns i (fails f)
    rm_fails : {d i c : ℕ} {ns : List Name} {n : Name} {f : Fault} → NameAt N language distinct ns i (got c n) → Reads N language distinct d c (fails f) → ReadsMembers N language distinct d ns i (fails f)
    rm_halts : {d i c j : ℕ} {ns : List Name} {n : Name} {t : Raw} {v : Sight} {f : Fault} → NameAt N language distinct ns i (got c n) → Reads N language distinct d c (got j t) → N j v → turn language close_brace j v ≡ halts f → ReadsMembers N language distinct d ns i (fails f)
    rm_last : {d i c j e : ℕ} {ns : List Name} {n : Name} {t : Raw} {v : Sight} → NameAt N language distinct ns i (got c n) → Reads N language distinct d c (got j t) → N j v → turn language close_brace j v ≡ done e → ReadsMembers N language distinct d ns i (got e (mem n t end))
    rm_more : {d i c j k : ℕ} {ns : List Name} {n : Name} {t : Raw} {v : Sight} {q o : Out Mems} → NameAt N language distinct ns i (got c n) → Reads N language distinct d c (got j t) → N j v → turn language close_brace j v ≡ again k → ReadsMembers N language distinct d (ns ++ n ∷ []) k q → ahead_member n t q ≡ o → ReadsMembers N language distinct d ns i o

-- what the whole text comes to: one value, and nothing after it
abbrev pub after_all : Raw → Sight → Out Raw
after_all t (sees s e (a_mark m)) = fails (BadText s)
after_all t (sees s e (a_name w)) = fails (BadText s)
after_all t (sees s e (a_number k ds)) = fails (BadText s)
after_all t (sees s e (a_string cs)) = fails (BadText s)
after_all t (sees s e the_end) = got e t
after_all t (blind f) = fails f

pub data ReadsAll (N : ℕ → Sight → Type 0) (language : Language) (distinct : Bool) (d : ℕ) : Out Raw → Type 0 where
  all_fails : {f : Fault} → Reads N language distinct d 0 (fails f) → ReadsAll N language distinct d (fails f)
  all_read : {j : ℕ} {t : Raw} {v : Sight} {o : Out Raw} → Reads N language distinct d 0 (got j t) → N j v → after_all t v ≡ o → ReadsAll N language distinct d o

-- no name twice, where that is asked
abbrev pub Unrepeated : Bool → List Name → Type 0
Unrepeated true ns = Distinct ns
Unrepeated false ns = Unit {0}

-- a value at depth k: none past depth 32, names of at most 127 bytes, no name twice where that is asked
abbrev mutual
  pub Bounded : Bool → ℕ → Raw → Type 0
  Bounded distinct k (null at) = k ≤ 32
  Bounded distinct k (scalar at s) = k ≤ 32
  Bounded distinct k (variable at n) = k ≤ 32
  Bounded distinct k (list at xs) = (k ≤ 32) × BoundedAll distinct (suc k) xs
  Bounded distinct k (object at ms) = (k ≤ 32) × Unrepeated distinct (mem_names ms) × BoundedMems distinct (suc k) ms

  pub BoundedAll : Bool → ℕ → Raws → Type 0
  BoundedAll distinct k nil = Unit {0}
  BoundedAll distinct k (cons x xs) = Bounded distinct k x × BoundedAll distinct k xs

  pub BoundedMems : Bool → ℕ → Mems → Type 0
  BoundedMems distinct k end = Unit {0}
  BoundedMems distinct k (mem n x ms) = (length n ≤ 127) × Bounded distinct k x × BoundedMems distinct k ms
