-- The laws, each stated once; small public functions have them as contracts.
use Rattle.std.specs.Prelude.{◌≡◌, ℕ, suc, ◌+◌, ◌^◌, ◌<◌, ◌≤◌, ◌⊎◌, List, [], ◌∷◌, length, take, drop}
use Rattle.std.proofs.Math.Option.{Option, none, some}
use Rattle.text.specs.NormalForm.{WholeForm}
use Rattle.model.specs.Values.{Form, json, Dec, Scalar, Raw, Mems, object, Ty, Def, Schema, Variable, Plain, Rec, Rmems, fields_of, field_names}
use Rattle.model.specs.Numbers.{decimal_of, NormalDec, SameDec}
use Rattle.model.specs.Records.{encode, encode_mems, size, size_mems, Fits, FitsMems, Decodes, DecodesSheet}
use Rattle.model.specs.Refusals.{too_deep, no_space, Refusal, Out, ok, refused, Here}
use Rattle.model.specs.Scalars.{scalar_at, TakesScalar}
use Rattle.model.specs.Coercion.{Rule, Slots, coerce_at, variable_at, variables_at}
use Rattle.model.specs.Walk.{walk_at}
use Rattle.model.specs.Taking.{Takes}
use Rattle.model.specs.Conforming.{Conforms}
use Rattle.model.specs.Back.{Shows, ShowsMems, Proper, Distinct}
use Rattle.model.specs.Bounds.{Within, Settles}
use Rattle.model.specs.Likeness.{whole_dec, Alike, Normal, NormalSchema}
use Rattle.model.specs.Limits.{RawLimits, RecLimits, Shallow, SchemaLimits, VariableLimits}
use Rattle.model.specs.Calls.{Given, Standing, Sheet, State, Call, load, supply, withdraw, bytes_of, slot_bytes, Extent, extents_of, answer, run}
use Rattle.model.specs.Twins.{Twin, TwinMems, SameOut, TwinCall, TwinCalls, slots_given, slots_kept}

-- NUMBERS

-- a whole number's decimal is in normal form and worth the same
abbrev pub WholeAsDecimal : Type 0
WholeAsDecimal = (s : List ℕ) → WholeForm s → NormalDec (decimal_of s) × SameDec (whole_dec s) (decimal_of s)

-- decimals in normal form are the same exactly when they are worth the same, and so are whole numbers
abbrev pub SameNumber : Type 0
SameNumber =
    ((d e : Dec) → NormalDec d → NormalDec e → SameDec d e → d ≡ e)
    × ((s t : List ℕ) → WholeForm s → WholeForm t → SameDec (whole_dec s) (whole_dec t) → s ≡ t)
    × ((d : Dec) → SameDec d d)

-- COERCION

-- the function on scalars says what the relation says
abbrev pub ScalarsExactly : Type 0
ScalarsExactly = (p : Form) (D : Def) (s : Scalar) (x : Plain) → (scalar_at p D s ≡ some x → TakesScalar p D s x) × (TakesScalar p D s x → scalar_at p D s ≡ some x)

-- an outcome stays as the bound grows
abbrev pub OutcomeStays : Type 0
OutcomeStays = (k : ℕ) (S : Schema) (R : Rule) (p : Form) (h : Here) (v : Raw) (t : Ty) → Within (coerce_at k S R p h v t) → coerce_at (suc k) S R p h v t ≡ coerce_at k S R p h v t

-- where the defaults settle, every value does
abbrev pub AllSettle : Type 0
AllSettle = (k : ℕ) (S : Schema) (R : Rule) → Settles S R k → (p : Form) (h : Here) (v : Raw) (t : Ty) → Within (coerce_at (suc k) S R p h v t)

-- where the defaults settle, the function accepts what the relation has, and nothing else
abbrev pub AcceptsExactly : Type 0
AcceptsExactly = (k : ℕ) (S : Schema) (R : Rule) → Settles S R k → (p : Form) (h : Here) (v : Raw) (t : Ty) (r : Rec)
    → (coerce_at (suc k) S R p h v t ≡ ok r → Takes S R p t v r) × (Takes S R p t v r → coerce_at (suc k) S R p h v t ≡ ok r)

-- a value comes to one record at most
abbrev pub TakesOnce : Type 0
TakesOnce = (S : Schema) (R : Rule) (p : Form) (t : Ty) (v : Raw) (r s : Rec) → Takes S R p t v r → Takes S R p t v s → r ≡ s

-- THE WALK

-- the refusal is one of a limit
abbrev pub Limited : {X : Type 0} → Out X → Type 0
Limited {X} o = (f : Refusal) × (o ≡ refused f) × ((f.cause ≡ too_deep) ⊎ (f.cause ≡ no_space))

-- unless a limit refuses, the walk and coercion without limits have the same outcome
abbrev pub WalkAgrees : Type 0
WalkAgrees = (k : ℕ) (S : Schema) (R : Rule) (cap : ℕ) (p : Form) (h : Here) (v : Raw) (t : Ty) (depth used lead : ℕ)
    → Limited (walk_at k S R cap p h v t depth used lead) ⊎ (walk_at k S R cap p h v t depth used lead ≡ coerce_at k S R p h v t)

-- what fits the limits is not refused by them, and what the walk accepts fits them
abbrev pub WalkFits : Type 0
WalkFits = (k : ℕ) (S : Schema) (R : Rule) (cap : ℕ) (p : Form) (h : Here) (v : Raw) (t : Ty) (depth used lead : ℕ) (r : Rec)
    → (coerce_at k S R p h v t ≡ ok r → Shallow depth r → used + (lead + size r) ≤ cap → walk_at k S R cap p h v t depth used lead ≡ ok r)
    × (walk_at k S R cap p h v t depth used lead ≡ ok r → (coerce_at k S R p h v t ≡ ok r) × Shallow depth r × (used + (lead + size r) ≤ cap))

-- BYTES

-- the bytes of records and of sheets are told apart
abbrev pub EncodeInjective : Type 0
EncodeInjective =
    ((r s : Rec) → Fits r → Fits s → length (encode r) < 2 ^ 32 → length (encode s) < 2 ^ 32 → encode r ≡ encode s → r ≡ s)
    × ((ms ns : Rmems) → FitsMems ms → FitsMems ns → length (encode_mems ms) < 2 ^ 32 → length (encode_mems ns) < 2 ^ 32 → encode_mems ms ≡ encode_mems ns → ms ≡ ns)

-- a record's size is the number of its bytes
abbrev pub SizeIsLength : Type 0
SizeIsLength = ((r : Rec) → length (encode r) ≡ size r) × ((ms : Rmems) → length (encode_mems ms) ≡ size_mems ms)

-- what was encoded is decoded, to one thing only
abbrev pub DecodesOnce : Type 0
DecodesOnce =
    ((r : Rec) → Fits r → Decodes (encode r) r)
    × ((bytes : List ℕ) (r s : Rec) → length bytes < 2 ^ 32 → Decodes bytes r → Decodes bytes s → r ≡ s)
    × ((ms : Rmems) → FitsMems ms → DecodesSheet (encode_mems ms) ms)
    × ((bytes : List ℕ) (ms ns : Rmems) → length bytes < 2 ^ 32 → DecodesSheet bytes ms → DecodesSheet bytes ns → ms ≡ ns)

-- CONFORMING, COMING BACK, ALIKE

-- whatever is accepted conforms to its type
abbrev pub AcceptsConforming : Type 0
AcceptsConforming = (k : ℕ) (S : Schema) (R : Rule) (p : Form) (h : Here) (v : Raw) (t : Ty) (r : Rec) → coerce_at k S R p h v t ≡ ok r → Conforms S R t r

-- and what the walk accepts of a source is within every limit of a source
abbrev pub AcceptsWithin : Type 0
AcceptsWithin = (k : ℕ) (S : Schema) (R : Rule) → SchemaLimits S → (cap : ℕ) (p : Form) (h : Here) (v : Raw) (t : Ty) (depth used lead : ℕ) (r : Rec)
    → RawLimits depth v → walk_at k S R cap p h v t depth used lead ≡ ok r → RecLimits depth r × (used + (lead + size r) ≤ cap)

-- a conforming record, taken as a raw value in JSON form, coerces to itself
abbrev pub ComesBack : Type 0
ComesBack = (k : ℕ) (S : Schema) (R : Rule) → Proper S → (h : Here) (t : Ty) (r : Rec) (v : Raw) → Conforms S R t r → Shows r v → coerce_at k S R json h v t ≡ ok r

-- two accepted values, of either form, give the same record exactly when they are alike
abbrev pub SameWhenAlike : Type 0
SameWhenAlike = (k l : ℕ) (S : Schema) (R : Rule) → Proper S → NormalSchema S → (p q : Form) (h i : Here) (v w : Raw) (t : Ty) (r s : Rec) → Normal v → Normal w
    → coerce_at k S R p h v t ≡ ok r → coerce_at l S R q i w t ≡ ok s → (r ≡ s → Alike S t v w) × (Alike S t v w → r ≡ s)

-- RUNS

-- each variable's slot is what its standing comes to, coerced without limits
abbrev pub Coerced : ℕ → Schema → Rule → List Variable → Standing → Slots → Type 0
Coerced k S R [] [] [] = Unit {0}
Coerced k S R [] [] (o ∷ os) = ⊥
Coerced k S R [] (g ∷ gs) os = ⊥
Coerced k S R (v ∷ vs) [] os = ⊥
Coerced k S R (v ∷ vs) (g ∷ gs) [] = ⊥
Coerced k S R (v ∷ vs) (none ∷ gs) (o ∷ os) = (variable_at k S R v json none ≡ ok o) × Coerced k S R vs gs os
Coerced k S R (v ∷ vs) (some g ∷ gs) (o ∷ os) = (variable_at k S R v g.form (some g.raw) ≡ ok o) × Coerced k S R vs gs os

-- after any list of calls, accepted or refused, the sheet's slots are those of what stands, and its bytes fit the capacity
abbrev pub RunsStand : Type 0
RunsStand = (k : ℕ) (S : Schema) (R : Rule) (cap : ℕ) (vs : List Variable) → Distinct (field_names (fields_of vs)) → (cs : List Call) (s : Sheet)
    → run k S R cap vs cs ≡ some s → Coerced k S R vs s.standing s.slots × (length (bytes_of vs s.slots) ≤ cap)

-- an accepted load leaves what CoerceVariableValues gives, without limits
abbrev pub LoadCoerces : Type 0
LoadCoerces = (k : ℕ) (S : Schema) (R : Rule) (cap : ℕ) (vs : List Variable) → Distinct (field_names (fields_of vs)) → (st : State) (p : Form) (at : ℕ) (ms : Mems) (s : Sheet)
    → answer k S R cap vs st (load p (object at ms)) ≡ ok s → variables_at k S R p ms vs ≡ ok s.slots

-- what stands for a variable: the given value, else its default
abbrev pub stood : Variable → Option Given → Option Raw
stood v (some g) = some g.raw
stood v none = v.field.dflt

abbrev pub AlikeStood : Schema → Ty → Option Raw → Option Raw → Type 0
AlikeStood S t none none = Unit {0}
AlikeStood S t none (some y) = ⊥
AlikeStood S t (some x) none = ⊥
AlikeStood S t (some x) (some y) = Alike S t x y

-- variable by variable, what stands is alike
abbrev pub AlikeStanding : Schema → List Variable → Standing → Standing → Type 0
AlikeStanding S [] gs hs = Unit {0}
AlikeStanding S (v ∷ vs) [] [] = Unit {0}
AlikeStanding S (v ∷ vs) [] (h ∷ hs) = ⊥
AlikeStanding S (v ∷ vs) (g ∷ gs) [] = ⊥
AlikeStanding S (v ∷ vs) (g ∷ gs) (h ∷ hs) = AlikeStood S v.field.ty (stood v g) (stood v h) × AlikeStanding S vs gs hs

-- each variable's extent cuts its name and record out of the sheet's bytes
abbrev pub Cut : List ℕ → List Variable → Slots → List Extent → Type 0
Cut bytes [] os es = es ≡ []
Cut bytes (v ∷ vs) [] es = es ≡ []
Cut bytes (v ∷ vs) (o ∷ os) [] = ⊥
Cut bytes (v ∷ vs) (o ∷ os) (e ∷ es) = (take e.size (drop e.start bytes) ≡ slot_bytes v.field.name o) × Cut bytes vs os es

abbrev pub ExtentsCut : Type 0
ExtentsCut = (vs : List Variable) (os : Slots) → Cut (bytes_of vs os) vs os (extents_of vs os)

-- all that the calls give is within the limits of a source
abbrev pub Sourced : Call → Type 0
Sourced (load p x) = RawLimits 0 x
Sourced (supply n p x) = RawLimits 1 x
Sourced (withdraw n) = Unit {0}

abbrev pub AllSourced : List Call → Type 0
AllSourced [] = Unit {0}
AllSourced (c ∷ cs) = Sourced c × AllSourced cs

-- two runs under one schema, operation and rule leave equal bytes exactly when, variable by variable, what stands is alike
abbrev pub EqualBytesWhenAlike : Type 0
EqualBytesWhenAlike = (k : ℕ) (S : Schema) (R : Rule) → SchemaLimits S → (vs : List Variable) → VariableLimits vs
    → (cap dap : ℕ) → cap ≤ 65536 → dap ≤ 65536 → (cs ds : List Call) → AllSourced cs → AllSourced ds → (s u : Sheet)
    → run k S R cap vs cs ≡ some s → run k S R dap vs ds ≡ some u
    → (bytes_of vs s.slots ≡ bytes_of vs u.slots → AlikeStanding S vs s.standing u.standing)
    × (AlikeStanding S vs s.standing u.standing → bytes_of vs s.slots ≡ bytes_of vs u.slots)

-- a run's bytes, decoded and loaded where the capacity is at least their number, are accepted and give equal bytes
abbrev pub LoadsBack : Type 0
LoadsBack = (k : ℕ) (S : Schema) (R : Rule) → SchemaLimits S → (vs : List Variable) → VariableLimits vs
    → (cap dap : ℕ) (cs : List Call) (s : Sheet) (ms : Rmems) (at : ℕ) (xs : Mems)
    → run k S R cap vs cs ≡ some s → DecodesSheet (bytes_of vs s.slots) ms → ShowsMems ms xs → length (bytes_of vs s.slots) ≤ dap → dap ≤ 65536 → AllSourced cs
    → (st : State) → (u : Sheet) × (answer k S R dap vs st (load json (object at xs)) ≡ ok u) × (bytes_of vs u.slots ≡ bytes_of vs s.slots)

-- PLACES

-- being twins, the same but for places, is an equivalence, and whatever shows one record is twins
abbrev pub ShownAreTwins : Type 0
ShownAreTwins =
    ((x : Raw) → Twin x x)
    × ((x y : Raw) → Twin x y → Twin y x)
    × ((x y z : Raw) → Twin x y → Twin y z → Twin x z)
    × ((r : Rec) (x y : Raw) → Shows r x → Shows r y → Twin x y)
    × ((rs : Rmems) (ms ns : Mems) → ShowsMems rs ms → ShowsMems rs ns → TwinMems ms ns)

-- twins of one form have the same outcome, but for the places of refusals:
-- coerced at a type, as the values of all variables, in the walk at one place, given by a call, and over a run of calls
abbrev pub PlacesDoNotMatter : Type 0
PlacesDoNotMatter =
    ((k : ℕ) (S : Schema) (R : Rule) (p : Form) (h : Here) (x y : Raw) → Twin x y → (t : Ty) → SameOut (coerce_at k S R p h x t) (coerce_at k S R p h y t))
    × ((k : ℕ) (S : Schema) (R : Rule) (p : Form) (ms ns : Mems) → TwinMems ms ns → (vs : List Variable) → SameOut (variables_at k S R p ms vs) (variables_at k S R p ns vs))
    × ((k : ℕ) (S : Schema) (R : Rule) (cap : ℕ) (p : Form) (h : Here) (x y : Raw) → Twin x y → (t : Ty) (depth used lead : ℕ)
    → SameOut (walk_at k S R cap p h x t depth used lead) (walk_at k S R cap p h y t depth used lead))
    × ((k : ℕ) (S : Schema) (R : Rule) (cap : ℕ) (vs : List Variable) (st : State) (c e : Call) → TwinCall c e → SameOut (slots_given (answer k S R cap vs st c)) (slots_given (answer k S R cap vs st e)))
    × ((k : ℕ) (S : Schema) (R : Rule) (cap : ℕ) (vs : List Variable) (cs es : List Call) → TwinCalls cs es → slots_kept (run k S R cap vs cs) ≡ slots_kept (run k S R cap vs es))
