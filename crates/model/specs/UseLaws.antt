-- The laws of the check of directive uses, each stated once; small public functions have them as contracts.
use Rattle.std.specs.Prelude.{◌≡◌, ℕ, ◌≤◌, false, List, [], ◌∷◌, ◌++◌, map}
use Rattle.std.proofs.Math.Option.{none, some}
use Rattle.model.specs.Values.{Raw, null, nullable, Field, Location, Directive, Schema, Argument, Use, Variable, has}
use Rattle.model.specs.Back.{Distinct}
use Rattle.model.specs.Checking.{FindingKind, unique_argument, unique_directive, undefined_directive, unsupported_location, required_argument, Finding, In, has_default, check}
use Rattle.model.specs.Twins.{Twin}
use Rattle.model.specs.Rules.{Among}
use Rattle.model.specs.Uses.{use_names, argument_names, directive_named, argument_named, value_given, of_each_after, check_use, check_uses}
use Rattle.model.specs.UseRules.{UseBreaks, UsesBreak}

-- a finding is told of a use, and of the uses at a location, exactly where the rule of its kind is broken
abbrev pub UsesFindTheBroken : Type 0
UsesFindTheBroken = (S : Schema) (vs : List Variable) (l : Location) (f : Finding)
    → ((before : List Use) (u : Use) → (In f (check_use S vs before l u) → UseBreaks S vs before l u f.place f.kind) × (UseBreaks S vs before l u f.place f.kind → In f (check_use S vs before l u)))
    × ((us : List Use) → (In f (check_uses S vs l us) → UsesBreak S vs l us f.place f.kind) × (UsesBreak S vs l us f.place f.kind → In f (check_uses S vs l us)))

-- of a use: repeated arguments come first, then its directive, its location, its arguments one by one, and last the required ones
abbrev pub turn : FindingKind → ℕ
turn unique_argument = 0
turn unique_directive = 1
turn undefined_directive = 1
turn unsupported_location = 2
turn required_argument = 4
turn k = 3

abbrev pub InTurn : ℕ → List Finding → Type 0
InTurn m [] = Unit {0}
InTurn m (f ∷ fs) = (m ≤ turn f.kind) × InTurn (turn f.kind) fs

-- what is found of a use comes in that order, and what is found of later uses comes after it and changes nothing of it
abbrev pub FoundInTurn : Type 0
FoundInTurn = (S : Schema) (vs : List Variable) (l : Location)
    → ((before : List Use) (u : Use) → InTurn 0 (check_use S vs before l u))
    × ((us ws : List Use) → check_uses S vs l (us ++ ws) ≡ check_uses S vs l us ++ of_each_after (λ before u. check_use S vs before l u) us ws)

-- a use without a fault: its directive is declared, may stand there and stands there once unless it is repeatable; each argument is given once, is declared and
-- has a right value; each that is non-null and without a default has a value other than null
pub record FaultlessUse (S : Schema) (vs : List Variable) (before : List Use) (l : Location) (u : Use) : Type 0 where
  pub directive : Directive
  pub declared : directive_named S.directives u.name ≡ some directive
  pub unique : directive.repeatable ≡ false → has (use_names before) u.name ≡ false
  pub located : Among l directive.locations
  pub once : Distinct (argument_names u.arguments)
  pub right : (a : Argument) → Among a u.arguments → (f : Field) × (argument_named directive.arguments a.name ≡ some f) × (check S vs (has_default f) a.place a.value f.ty ≡ [])
  pub required : (f : Field) → Among f directive.arguments → nullable f.ty ≡ false → f.dflt ≡ none → (x : Raw) × (value_given u.arguments f.name ≡ some x) × ((at : ℕ) → x ≡ null at → ⊥)

-- nothing is found of a use exactly where it is without a fault
abbrev pub SilentIsFaultless : Type 0
SilentIsFaultless = (S : Schema) (vs : List Variable) (l : Location)
    → ((before : List Use) (u : Use) → (check_use S vs before l u ≡ [] → FaultlessUse S vs before l u) × (FaultlessUse S vs before l u → check_use S vs before l u ≡ []))
    × ((us : List Use) → (check_uses S vs l us ≡ [] → (before : List Use) (u : Use) (after : List Use) → us ≡ before ++ (u ∷ after) → FaultlessUse S vs before l u)
    × (((before : List Use) (u : Use) (after : List Use) → us ≡ before ++ (u ∷ after) → FaultlessUse S vs before l u) → check_uses S vs l us ≡ []))

-- arguments and uses that are the same but for their places
abbrev pub TwinArguments : List Argument → List Argument → Type 0
TwinArguments [] [] = Unit {0}
TwinArguments [] (b ∷ ys) = ⊥
TwinArguments (a ∷ xs) [] = ⊥
TwinArguments (a ∷ xs) (b ∷ ys) = (a.name ≡ b.name) × Twin a.value b.value × TwinArguments xs ys

abbrev pub TwinUses : List Use → List Use → Type 0
TwinUses [] [] = Unit {0}
TwinUses [] (w ∷ ws) = ⊥
TwinUses (u ∷ us) [] = ⊥
TwinUses (u ∷ us) (w ∷ ws) = (u.name ≡ w.name) × TwinArguments u.arguments w.arguments × TwinUses us ws

-- they have findings of the same kinds
abbrev pub TwinUsesFindAlike : Type 0
TwinUsesFindAlike = (S : Schema) (vs : List Variable) (l : Location) (us ws : List Use) → TwinUses us ws → map (λ f. f.kind) (check_uses S vs l us) ≡ map (λ f. f.kind) (check_uses S vs l ws)
