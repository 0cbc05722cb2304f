-- Types (section 2.11), and how the program keeps them.
use Rattle.std.specs.Prelude.{◌≡◌, ℕ, zero, suc, ◌-◌, ◌<◌, Bool, true, false, not, List, get_or}
use Rattle.model.specs.Values.{Name, Ty, named, list_of}
use Rattle.text.specs.declared.fault.Fault.{Fault}
use Rattle.text.specs.declared.fault.Fault.TheVariants.{BadText, TooDeep}
use Rattle.text.specs.TokenGrammar.{bang, open_bracket, close_bracket, Lexical, a_mark, a_name, a_number, a_string, the_end}
use Rattle.reader.specs.Tokens.{Sight, sees, blind}
use Rattle.reader.specs.Reading.{Out, fails, is_mark}
use Rattle.schema.specs.Documents.{Typed}
use Rattle.schema.specs.Outcomes.{Goes, Gives, Takes, the_mark, IfMark}

-- the same type, at which null may not stand
abbrev pub required : Ty → Ty
required (named b w) = named false w
required (list_of b t) = list_of false t

abbrev pub required_at : Typed → Typed
required_at t = record { ty = required t.ty; place = t.place }

abbrev pub name_at : Name → ℕ → Typed
name_at w s = record { ty = named true w; place = s }

abbrev pub list_at : Typed → Typed
list_at t = record { ty = list_of true t.ty; place = t.place }

abbrev pub is_list_type : Ty → Bool
is_list_type (named b w) = false
is_list_type (list_of b t) = true

-- the type of a list's items; of a type that is no list, the type itself
abbrev pub item_of : Ty → Ty
item_of (named b w) = named b w
item_of (list_of b t) = t

-- how many lists stand around the name
abbrev pub levels_of : Ty → ℕ
levels_of (named b w) = 0
levels_of (list_of b t) = suc (levels_of t)

-- THE GRAMMAR

mutual
  -- NamedType and ListType
  pub data NullableAt (T : ℕ → ℕ → ℕ → Lexical → Type 0) : ℕ → ℕ → Typed → Type 0 where
    named_type : {i s e : ℕ} {w : Name} → T i s e (a_name w) → NullableAt T i e (name_at w s)
    list_type : {i s e j b c : ℕ} {t : Typed} → T i s e (a_mark open_bracket) → TypeAt T e j t → T j b c (a_mark close_bracket) → NullableAt T i c (list_at t)

  -- Type: NamedType, ListType or NonNullType
  pub data TypeAt (T : ℕ → ℕ → ℕ → Lexical → Type 0) : ℕ → ℕ → Typed → Type 0 where
    nullable_type : {i j : ℕ} {t : Typed} → NullableAt T i j t → TypeAt T i j t
    non_null_type : {i j s e : ℕ} {t : Typed} → NullableAt T i j t → T j s e (a_mark bang) → TypeAt T i e (required_at t)

-- READING

-- the `!` after a type that is read, if it comes next
abbrev pub ReadsMark : (ℕ → Sight → Type 0) → Typed → ℕ → Out Typed → Type 0
ReadsMark N t = IfMark N bang (λ s. Gives (required_at t)) (Gives t)

-- the `]` after the type of a list's items, and the `!` after it
abbrev pub ReadsEnd : (ℕ → Sight → Type 0) → Typed → ℕ → Out Typed → Type 0
ReadsEnd N t i o = (q : Out ℕ) × Takes N (the_mark close_bracket) i q × Goes (λ s. ReadsMark N (list_at t)) q o

-- whether a type can begin with a token
abbrev pub begins_type : Lexical → Bool
begins_type (a_mark m) = is_mark open_bracket (a_mark m)
begins_type (a_name w) = true
begins_type (a_number k ds) = false
begins_type (a_string cs) = false
begins_type the_end = false

-- a type, with d list levels left
pub data ReadsType (N : ℕ → Sight → Type 0) : ℕ → ℕ → Out Typed → Type 0 where
  t_blind : {d i : ℕ} {f : Fault} → N i (blind f) → ReadsType N d i (fails f)
  t_bad : {d i s e : ℕ} {x : Lexical} → N i (sees s e x) → begins_type x ≡ false → ReadsType N d i (fails (BadText s))
  t_deep : {d i s e : ℕ} → N i (sees s e (a_mark open_bracket)) → d ≡ 0 → ReadsType N d i (fails (TooDeep s))
  t_named : {d i s e : ℕ} {w : Name} {o : Out Typed} → N i (sees s e (a_name w)) → ReadsMark N (name_at w s) e o → ReadsType N d i o
  t_list : {d i s e : ℕ} {q o : Out Typed} → N i (sees s e (a_mark open_bracket)) → 0 < d → ReadsType N (d - 1) e q → Goes (ReadsEnd N) q o → ReadsType N d i o

-- IN THE PROGRAM

-- the type with so many list levels; the marks say of the name and of each level, from the inside, whether a `!` stands there
abbrev pub ty_from : List Bool → Name → ℕ → Ty
ty_from marks w zero = named (not (get_or marks 0 false)) w
ty_from marks w (suc k) = list_of (not (get_or marks (suc k) false)) (ty_from marks w k)
