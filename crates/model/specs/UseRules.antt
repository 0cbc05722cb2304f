-- The rules for uses of directives, each by itself: where a use breaks it (sections 5.4.1, 5.4.2, 5.4.2.1, 5.7.1, 5.7.2 and 5.7.3).
use Rattle.std.specs.Prelude.{◌≡◌, ℕ, true, false, List, ◌∷◌, ◌++◌}
use Rattle.std.proofs.Math.Option.{none, some}
use Rattle.model.specs.Values.{Name, null, nullable, Field, Location, Directive, Schema, Argument, Use, Variable, has}
use Rattle.model.specs.Checking.{FindingKind, unique_argument, unique_directive, undefined_directive, unsupported_location, undefined_argument, required_argument, has_default}
use Rattle.model.specs.Rules.{Among, Broken}
use Rattle.model.specs.Uses.{use_names, argument_names, directive_named, argument_named}

-- an argument of a name is not given, or the first that is given is null
pub data Withheld (n : Name) (xs : List Argument) : Type 0 where
  not_given : has (argument_names xs) n ≡ false → Withheld n xs
  given_as_null : (a : Argument) (earlier later : List Argument) (at : ℕ) → xs ≡ earlier ++ (a ∷ later) → has (argument_names earlier) n ≡ false → a.name ≡ n → a.value ≡ null at → Withheld n xs

-- a use, after those before it at the location, breaks the rule of a kind; p is the place told of it
pub data UseBreaks (S : Schema) (vs : List Variable) (before : List Use) (l : Location) (u : Use) (p : ℕ) : FindingKind → Type 0 where
  -- 5.4.1: each argument is one that the directive defines
  argument_is_defined : (D : Directive) (a : Argument) → directive_named S.directives u.name ≡ some D → Among a u.arguments → argument_named D.arguments a.name ≡ none → a.place ≡ p → UseBreaks S vs before l u p undefined_argument
  -- 5.4.2: there is one argument of a name; each after the first is told
  argument_is_unique : (a : Argument) (earlier later : List Argument) → u.arguments ≡ earlier ++ (a ∷ later) → has (argument_names earlier) a.name ≡ true → a.place ≡ p → UseBreaks S vs before l u p unique_argument
  -- 5.4.2.1: an argument that is non-null and without a default is given, and not as null
  required_argument_is_given : (D : Directive) (f : Field) → directive_named S.directives u.name ≡ some D → Among f D.arguments → nullable f.ty ≡ false → f.dflt ≡ none → Withheld f.name u.arguments → u.place ≡ p → UseBreaks S vs before l u p required_argument
  -- 5.7.1: the directive is defined
  directive_is_defined : directive_named S.directives u.name ≡ none → u.place ≡ p → UseBreaks S vs before l u p undefined_directive
  -- 5.7.2: the location is one of the directive's
  directive_is_in_valid_location : (D : Directive) → directive_named S.directives u.name ≡ some D → (Among l D.locations → ⊥) → u.place ≡ p → UseBreaks S vs before l u p unsupported_location
  -- 5.7.3: a directive that is not repeatable is used once at a location; each use after the first is told
  directive_is_unique_per_location : (D : Directive) → directive_named S.directives u.name ≡ some D → D.repeatable ≡ false → has (use_names before) u.name ≡ true → u.place ≡ p → UseBreaks S vs before l u p unique_directive
  -- 5.6 and 5.8: the value of an argument breaks no rule for literals
  value_is_right : {k : FindingKind} (D : Directive) (a : Argument) (f : Field) → directive_named S.directives u.name ≡ some D → Among a u.arguments → argument_named D.arguments a.name ≡ some f → Broken S vs k p (has_default f) a.place a.value f.ty
      → UseBreaks S vs before l u p k

-- one of the uses, after those before it, breaks the rule of a kind
pub data UsesBreak (S : Schema) (vs : List Variable) (l : Location) (us : List Use) (p : ℕ) (k : FindingKind) : Type 0 where
  by_use : (before : List Use) (u : Use) (after : List Use) → us ≡ before ++ (u ∷ after) → UseBreaks S vs before l u p k → UsesBreak S vs l us p k
