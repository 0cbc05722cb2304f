-- Each default of an operation that is read, in which no member's name repeats, is within the limits of a source.
use Rattle.std.proofs.Common.{◌≡◌, ℕ, ⊎_elim, Bool, List, [], ◌∷◌, ◌++◌, None, subst}
use Rattle.std.proofs.Math.Option.{some}
use Rattle.model.specs.Values.{Raw, Argument, Use, place_of}
use Rattle.model.specs.Cycles.{Among, first, later}
use Rattle.text.specs.declared.language.Language.TheVariants.{Graphql}
use Rattle.text.specs.TokenGrammar.{dollar, open_paren, colon, at_sign, Lexical}
use Rattle.reader.specs.Tokens.{Sight, Sights}
use Rattle.reader.specs.Reading.{Out, got, fails, is_mark}
use Rattle.schema.specs.Documents.{VariableDefinition, OperationDocument}
use Rattle.schema.specs.Outcomes.{Gives, Takes, the_mark, any_name, Items, i_shut, i_fails, i_more, before}
use Rattle.schema.specs.Declarations.{ReadsDeclared, ReadsLiteral}
use Rattle.schema.specs.HoldsOperation.{arguments_in}
use Rattle.schema.specs.SchemaReading.{next, ReadsNew}
use Rattle.schema.specs.OperationReading.{a_kind, ReadsName, ReadsAfterDollar, ReadsVariable, ReadsVariableList, ReadsVariables, unchanged, argument_of, ReadsArgumentValue, ReadsArgument, ReadsArgumentList, ReadsUseArguments, ReadsAfterAt, ReadsUse, ReadsUses, ReadsOperationFrom, ReadsOperation, operation_read}
use Rattle.validation.specs.Making.{FirstFault, RepeatedInOperationAt, default_again, VariablesSourced}
use Rattle.validation.proofs.Rereading.{literal_again}
use Rattle.validation.proofs.Sourcing.{DefaultRead, value_is, then_read, token_read, declared_read, within, given}

module _ (N : ℕ → Sight → Type 0) where
  abbrev VariableIsRead : VariableDefinition → Type 0
  VariableIsRead v = DefaultRead N v.declared.dflt

  abbrev AllRead : List VariableDefinition → Type 0
  AllRead [] = Unit {0}
  AllRead (v ∷ vs) = VariableIsRead v × AllRead vs

  pub among_all : {v : VariableDefinition} (vs : List VariableDefinition) → Among v vs → AllRead vs → VariableIsRead v
  among_all [] a h = elim a [ ]
  among_all (v ∷ vs) first h = h.0
  among_all (v ∷ vs) (later a) h = among_all vs a h.1

  variable_read : (n i k : ℕ) (v : VariableDefinition) → ReadsVariable N n i (got k v) → VariableIsRead v
  variable_read n i k v h =
      then_read N (Takes N (the_mark dollar)) (ReadsAfterDollar N n) VariableIsRead i k v h (λ j s r g.
      then_read N (ReadsNew N 64 n any_name) _ VariableIsRead j k v g (λ m l r g.
      then_read N (ReadsDeclared N l) _ VariableIsRead m k v g (λ p d r z. value_is N VariableIsRead z (declared_read N l m p d r))))

  abbrev ListRead : Out (List VariableDefinition) → Type 0
  ListRead (got j vs) = AllRead vs
  ListRead (fails f) = Unit {0}

  list_more : (v : VariableDefinition) (q o : Out (List VariableDefinition)) → VariableIsRead v → ListRead q → before v q ≡ o → ListRead o
  list_more v (got j vs) o h g z = subst ListRead z (h, g)
  list_more v (fails f) o h g z = subst ListRead z tt

  list_read : {closes : Lexical → Bool} {may : Bool} {n i : ℕ} {o : Out (List VariableDefinition)} → Items N closes next (ReadsVariable N) may n i o → ListRead o
  list_read (i_shut n h) = tt
  list_read (i_fails n h r) = tt
  list_read {n = n} {i = i} {o = o} (i_more {j = j} {x = v} {q = q} w h r k z) = list_more v q o (variable_read n i j v r) (list_read k) z

  variables_read : (i k : ℕ) (vs : List VariableDefinition) → ReadsVariables N i (got k vs) → AllRead vs
  variables_read i k vs h = token_read N (is_mark open_paren) (λ s. ReadsVariableList N) (Gives []) i k vs h (λ s e g. list_read g) (λ g. value_is N AllRead g tt)

  -- the value of an argument of a use was read somewhere
  abbrev pub ValueRead : Argument → Type 0
  ValueRead a = DefaultRead N (some a.value)

  abbrev ValuesRead : List Argument → Type 0
  ValuesRead [] = Unit {0}
  ValuesRead (a ∷ xs) = ValueRead a × ValuesRead xs

  values_append : (xs ys : List Argument) → ValuesRead xs → ValuesRead ys → ValuesRead (xs ++ ys)
  values_append [] ys h g = g
  values_append (a ∷ xs) ys h g = (h.0, values_append xs ys h.1 g)

  pub among_values : {a : Argument} (xs : List Argument) → Among a xs → ValuesRead xs → ValueRead a
  among_values [] i h = elim i [ ]
  among_values (a ∷ xs) first h = h.0
  among_values (a ∷ xs) (later i) h = among_values xs i h.1

  argument_read : (i k : ℕ) (a : Argument) → ReadsArgument N i (got k a) → ValueRead a
  argument_read i k a h =
      then_read N (Takes N any_name) (ReadsArgumentValue N) ValueRead i k a h (λ j l r g.
      then_read N (Takes N (the_mark colon)) _ ValueRead j k a g (λ m c r g.
      then_read N (ReadsLiteral N) (λ t. Gives (argument_of l t)) ValueRead m k a g (λ n t r z. value_is N ValueRead z (m, n, r))))

  abbrev ArgumentsRead : Out (List Argument) → Type 0
  ArgumentsRead (got j xs) = ValuesRead xs
  ArgumentsRead (fails f) = Unit {0}

  arguments_more : (a : Argument) (q o : Out (List Argument)) → ValueRead a → ArgumentsRead q → before a q ≡ o → ArgumentsRead o
  arguments_more a (got j xs) o h g z = subst ArgumentsRead z (h, g)
  arguments_more a (fails f) o h g z = subst ArgumentsRead z tt

  arguments_read : {closes : Lexical → Bool} {may : Bool} {s : Unit {0}} {i : ℕ} {o : Out (List Argument)} → Items N closes unchanged (λ u. ReadsArgument N) may s i o → ArgumentsRead o
  arguments_read (i_shut n h) = tt
  arguments_read (i_fails n h r) = tt
  arguments_read {i = i} {o = o} (i_more {j = j} {x = a} {q = q} w h r k z) = arguments_more a q o (argument_read i j a r) (arguments_read k) z

  abbrev UseRead : Use → Type 0
  UseRead u = ValuesRead u.arguments

  use_read : (i k : ℕ) (u : Use) → ReadsUse N i (got k u) → UseRead u
  use_read i k u h =
      then_read N (Takes N (the_mark at_sign)) (ReadsAfterAt N) UseRead i k u h (λ j s r g.
      then_read N (Takes N any_name) _ UseRead j k u g (λ m l r g.
      then_read N (ReadsUseArguments N) _ UseRead m k u g (λ n xs r z. value_is N UseRead z
      (token_read N (is_mark open_paren) (λ s. ReadsArgumentList N) (Gives []) m n xs r (λ s e g. arguments_read g) (λ g. value_is N ValuesRead g tt)))))

  abbrev UsesRead : Out (List Use) → Type 0
  UsesRead (got j us) = ValuesRead (arguments_in us)
  UsesRead (fails f) = Unit {0}

  uses_more : (u : Use) (q o : Out (List Use)) → UseRead u → UsesRead q → before u q ≡ o → UsesRead o
  uses_more u (got j us) o h g z = subst UsesRead z (values_append u.arguments (arguments_in us) h g)
  uses_more u (fails f) o h g z = subst UsesRead z tt

  uses_read : {closes : Lexical → Bool} {may : Bool} {s : Unit {0}} {i : ℕ} {o : Out (List Use)} → Items N closes unchanged (λ u. ReadsUse N) may s i o → UsesRead o
  uses_read (i_shut n h) = tt
  uses_read (i_fails n h r) = tt
  uses_read {i = i} {o = o} (i_more {j = j} {x = u} {q = q} w h r k z) = uses_more u q o (use_read i j u r) (uses_read k) z

  abbrev OperationIsRead : OperationDocument → Type 0
  OperationIsRead D = AllRead D.variables × ValuesRead (arguments_in D.uses)

  pub whole_read : (i k : ℕ) (D : OperationDocument) → ReadsOperationFrom N i (got k D) → OperationIsRead D
  whole_read i k D h =
      then_read N (Takes N a_kind) _ OperationIsRead i k D h (λ j c r g.
      then_read N (ReadsName N) _ OperationIsRead j k D g (λ m u r g.
      then_read N (ReadsVariables N) _ OperationIsRead m k D g (λ n vs a g.
      then_read N (ReadsUses N) _ OperationIsRead n k D g (λ p us r z. value_is N OperationIsRead z (variables_read m n vs a, uses_read r)))))

module _ (text : List ℕ) where
  abbrev M : ℕ → Sight → Type 0
  M = Sights Graphql text

  read_in : {e : ℕ} {D : OperationDocument} → ReadsOperation text (got e D) → OperationIsRead M D
  read_in {e} {D} (operation_read h r) = whole_read M 0 e D r

  -- a default, and the value of an argument, of what was read
  pub default_of : {e : ℕ} {D : OperationDocument} {v : VariableDefinition} {x : Raw} → ReadsOperation text (got e D) → Among v D.variables → v.declared.dflt ≡ some x → DefaultRead M (some x)
  default_of {D = D} {v = v} {x = x} r a z = given text v.declared.dflt x z (among_all M D.variables a (read_in r).0)

  pub value_of : {e : ℕ} {D : OperationDocument} {a : Argument} → ReadsOperation text (got e D) → Among a (arguments_in D.uses) → DefaultRead M (some a.value)
  value_of {D = D} r i = among_values M (arguments_in D.uses) i (read_in r).1

  pub operation_sourced : {e : ℕ} {D : OperationDocument} → ReadsOperation text (got e D) → FirstFault (RepeatedInOperationAt text D) None → VariablesSourced D
  operation_sourced {e} {D} r h v a x z =
      let g = default_of r a z in
      let l = literal_again text g.2 in
      ⊎_elim
      (λ b. within text (place_of x) g.1 x b)
      (λ b. absurd (h b.0 (default_again a z (l.0, b.1))))
      l.1
