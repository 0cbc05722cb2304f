-- What is read of declarations and operations is what the grammar has, within the limits.
use Rattle.std.proofs.Common.{◌≡◌, ℕ, suc, ◌+◌, ◌<◌, ◌≤◌, ◌&&◌, Bool, true, false, cond, List, [], length, nat_lt, codes, sym, refl, ap, ◌∙◌, subst, true≢false, arith}
use Rattle.std.proofs.Math.Option.{Option, some, none}
use Rattle.std.proofs.lemmas.Bool.Decides.{nat_tests}
use Rattle.model.specs.Values.{Name, Raw, Argument, Use, same}
use Rattle.model.proofs.CoNames.{same_true}
use Rattle.text.specs.declared.fault.Fault.{Fault}
use Rattle.text.specs.declared.fault.Fault.TheVariants.{NoSpace}
use Rattle.text.specs.declared.language.Language.TheVariants.{Graphql}
use Rattle.text.specs.TokenGrammar.{Mark, dollar, open_paren, close_paren, colon, equals, at_sign, Lexical, a_mark, a_name, a_number, a_string, the_end}
use Rattle.reader.specs.Tokens.{Sight, sees, blind}
use Rattle.reader.specs.Grammar.{Value}
use Rattle.reader.specs.Reading.{Out, got, fails, is_mark, Bounded}
use Rattle.reader.proofs.RdSound.{mark_is, sound}
use Rattle.schema.specs.Declarations.{ReadsLiteral, ReadsDefault, ReadsDeclared, DefaultAt, no_default, a_default, DeclaredAt, input_value}
use Rattle.schema.specs.Documents.{Label, Declared, Kind, a_query, a_mutation, a_subscription, VariableDefinition, OperationDocument}
use Rattle.schema.specs.OperationGrammar.{KindAt, query_at, mutation_at, subscription_at, NameAt, no_name, a_name_at, VariableAt, variable_definition, VariablesAt, no_variables, variable_definitions, ArgumentAt, an_argument, ArgumentsAt, no_arguments, arguments, UseAt, directive, OperationAt, operation_definition}
use Rattle.schema.specs.OperationReading.{a_kind, kinds, is_name, ReadsName, ReadsAfterDollar, ReadsVariable, ReadsVariableList, ReadsVariables, unchanged, argument_of, ReadsArgumentValue, ReadsArgument, ReadsArgumentList, ReadsUseArguments, ReadsAfterAt, ReadsUse, ReadsUses, ReadsOperationFrom}
use Rattle.schema.specs.Locations.{in_table}
use Rattle.schema.specs.Outcomes.{Then, Gives, Maps, Takes, accepted, the_mark, any_name, Chosen, IfMark, Room, before, Items, i_shut, i_fails, i_more, ItemsAt, at_shut, at_more}
use Rattle.schema.specs.ReadingLaws.{AllOf, DefaultWithin, DeclaredWithin, ArgumentWithin, UseWithin, VariableWithin, OperationWithin}
use Rattle.schema.specs.SchemaGrammar.{ends}
use Rattle.schema.specs.SchemaReading.{next, ReadsNew}
use Rattle.schema.specs.Types.{ReadsType}
use Rattle.schema.proofs.Entering.{not_got}
use Rattle.schema.proofs.Seeing.{accepted_is, name_seen}
use Rattle.schema.proofs.TypeLaws.{type_stands}

-- what a reading is made of, where it got something
pub then_got : {X Y : Type 0} (A : ℕ → Out X → Type 0) (B : X → ℕ → Out Y → Type 0) (i j : ℕ) (y : Y) → Then A B i (got j y) → (k : ℕ) × (x : X) × A i (got k x) × B x k (got j y)
then_got A B i j y (got k x, a, g) = (k, x, a, g)
then_got A B i j y (fails f, a, g) = not_got g

pub maps_got : {X Y : Type 0} (f : X → Y) (A : ℕ → Out X → Type 0) (i j : ℕ) (y : Y) → Maps f A i (got j y) → (x : X) × A i (got j x) × (f x ≡ y)
maps_got f A i j y (got k x, a, g) = let p : k ≡ j = cc in (x, subst (λ k. A i (got k x)) p a, cc)
maps_got f A i j y (fails e, a, g) = not_got g

mark_by : (m : Mark) (s e j p : ℕ) (x : Lexical) (c : Bool) → c ≡ is_mark m x → accepted s e (cond c (some s) none) ≡ got j p → (s ≡ p) × (e ≡ j) × (x ≡ a_mark m)
mark_by m s e j p x true h g = (cc, cc, mark_is m x (sym h))
mark_by m s e j p x false h g = cc

-- what a row of a table of kinds says of a name, or the rest of the table
row_cases : (R : Type 0) (c : Bool) (r k : Kind) (rest : Option Kind) → cond c (some r) rest ≡ some k → (c ≡ true → r ≡ k → R) → (rest ≡ some k → R) → R
row_cases R true r k rest h f g = f refl cc
row_cases R false r k rest h f g = g h

no_kind : {R : Type 0} (k : Kind) → none ≡ some k → R
no_kind k h = cc

room_by : (c : Bool) (k j : ℕ) (u : Unit {0}) (f : Fault) → cond c (got k tt) (fails f) ≡ got j u → (c ≡ true) × (k ≡ j)
room_by true k j u f h = (refl, cc)
room_by false k j u f h = not_got h

below : (n most : ℕ) → nat_lt n most ≡ true → n < most
below n most h = grind (arith, nat_tests)

a_name_is : (x : Lexical) → is_name x ≡ true → (w : Name) × (x ≡ a_name w)
a_name_is (a_name w) h = (w, refl)
a_name_is (a_mark m) h = absurd (true≢false (sym h))
a_name_is (a_number k ds) h = absurd (true≢false (sym h))
a_name_is (a_string cs) h = absurd (true≢false (sym h))
a_name_is the_end h = absurd (true≢false (sym h))

abbrev place_in : Out (Unit {0}) → ℕ
place_in (got j u) = j
place_in (fails f) = 0

same_end : (e j : ℕ) → Gives {X = Unit {0}} tt e (got j tt) → e ≡ j
same_end e j h = ap place_in h

both_true : (a b : Bool) → a && b ≡ true → (a ≡ true) × (b ≡ true)
both_true true b h = (refl, h)
both_true false b h = absurd (true≢false (sym h))

chosen_cases : (R : Type 0) (c : Bool) (P Q : Type 0) → ((c ≡ true) → P → R) → (Q → R) → Chosen c P Q → R
chosen_cases R true P Q f g h = f refl h
chosen_cases R false P Q f g h = g h

-- OPERATIONS

module _ (N : ℕ → Sight → Type 0) (T : ℕ → ℕ → ℕ → Lexical → Type 0) (seen : (i s e : ℕ) (x : Lexical) → N i (sees s e x) → T i s e x) where
  mark_at : (m : Mark) (i j p : ℕ) → Takes N (the_mark m) i (got j p) → T i p j (a_mark m)
  mark_at m i j p (sees s e x, n, h) =
      let k = mark_by m s e j p x (is_mark m x) refl h in
      subst (λ s. T i s j (a_mark m)) k.0 (subst (λ e. T i s e (a_mark m)) k.1 (subst (T i s e) k.2 (seen i s e x n)))
  mark_at m i j p (blind f, n, h) = cc

  name_at : (i j : ℕ) (l : Label) → Takes N any_name i (got j l) → T i l.place j (a_name l.name)
  name_at i j l h = seen i l.place j (a_name l.name) (name_seen N i j l h)

  -- by whether the mark stands there
  if_got : {X : Type 0} (R : Type 0) (m : Mark) (B : ℕ → ℕ → Out X → Type 0) (C : ℕ → Out X → Type 0) (i j : ℕ) (y : X) → ((s e : ℕ) → T i s e (a_mark m) → B s e (got j y) → R) → (C i (got j y) → R) → IfMark N m B C i (got j y) → R
  if_got R m B C i j y f g (sees s e x, n, h) = chosen_cases R (is_mark m x) (B s e (got j y)) (C i (got j y)) (λ c b. f s e (subst (T i s e) (mark_is m x c) (seen i s e x n)) b) g h
  if_got R m B C i j y f g (blind e, n, h) = not_got h

  literal_stands : (i j : ℕ) (t : Raw) → ReadsLiteral N i (got j t) → Value T Graphql i j t × Bounded false 1 t
  literal_stands i j t r = sound N T seen Graphql false r 1 refl

  default_stands : (i j : ℕ) (v : Option Raw) → ReadsDefault N i (got j v) → DefaultAt T i j v × DefaultWithin v
  default_stands i j v r = if_got (DefaultAt T i j v × DefaultWithin v) equals (λ s. Maps some (ReadsLiteral N)) (Gives none) i j v
      (λ s e t h. let m = maps_got some (ReadsLiteral N) e j v h in let l = literal_stands e j m.0 m.1 in subst (λ v. DefaultAt T i j v × DefaultWithin v) m.2 (a_default t l.0, l.1))
      (λ h. let p : i ≡ j = cc in let q : none ≡ v = cc in subst (λ v. DefaultAt T i j v × DefaultWithin v) q (subst (λ j. DefaultAt T i j none) p no_default, tt))
      r

  pub declared_stands : (i e j : ℕ) (l : Label) (d : Declared) → T i l.place e (a_name l.name) → ReadsDeclared N l e (got j d) → DeclaredAt T i j d × DeclaredWithin d
  declared_stands i e j l d t r =
      let a = then_got (Takes N (the_mark colon)) (λ s. Then (ReadsType N 8) (λ t. Maps (λ v. record { label = l; typed = t; dflt = v }) (ReadsDefault N))) e j d r in
      let b = then_got (ReadsType N 8) (λ t. Maps (λ v. record { label = l; typed = t; dflt = v }) (ReadsDefault N)) a.0 j d a.3 in
      let c = maps_got (λ v. record { label = l; typed = b.1; dflt = v }) (ReadsDefault N) b.0 j d b.3 in
      let y = type_stands N T seen 8 a.0 b.0 b.1 b.2 in
      let z = default_stands b.0 j c.0 c.1 in
      subst (λ d. DeclaredAt T i j d × DeclaredWithin d) c.2 (input_value t (mark_at colon e a.0 a.1 a.2) y.0 z.0, (y.1, z.1))

  module _ {S X : Type 0} (closes : Lexical → Bool) (step : S → X → S) (A : S → ℕ → Out X → Type 0) (P : ℕ → ℕ → X → Type 0) (W : X → Type 0) (stands : (s : S) (i j : ℕ) (x : X) → A s i (got j x) → P i j x × W x) where
    abbrev Found : Bool → ℕ → Out (List X) → Type 0
    Found may i (got j xs) = ItemsAt T closes P may i j xs × AllOf W xs
    Found may i (fails f) = Unit {0}

    more_found : (may : Bool) (i j : ℕ) (x : X) (q : Out (List X)) → P i j x × W x → Found true j q → Found may i (before x q)
    more_found may i j x (got k xs) h g = (at_more h.0 g.0, (h.1, g.1))
    more_found may i j x (fails f) h g = tt

    found : {may : Bool} {s : S} {i : ℕ} {o : Out (List X)} → Items N closes step A may s i o → Found may i o
    found {may} {i = i} (i_shut {b = b} {e = e} {x = x} n h) = let k = both_true may (closes x) h in (subst (λ m. ItemsAt T closes P m i e []) (sym k.0) (at_shut (seen i b e x n) k.1), tt)
    found (i_fails n h r) = tt
    found {may} {s} {i} {o} (i_more {j = j} {x = x} {q = q} n h r k e) = subst (Found may i) e (more_found may i j x q (stands s i j x r) (found k))

    pub items_stand : (may : Bool) (s : S) (i j : ℕ) (xs : List X) → Items N closes step A may s i (got j xs) → ItemsAt T closes P may i j xs × AllOf W xs
    items_stand may s i j xs r = found r

  -- of items that are counted there are not too many
  module _ {X : Type 0} (closes : Lexical → Bool) (A : ℕ → ℕ → Out X → Type 0) (most : ℕ) (room : (s i j : ℕ) (x : X) → A s i (got j x) → s < most) where
    abbrev Counted : ℕ → Out (List X) → Type 0
    Counted s (got j xs) = s ≤ most → s + length xs ≤ most
    Counted s (fails f) = Unit {0}

    more_counted : (s : ℕ) (x : X) (q : Out (List X)) → s < most → Counted (suc s) q → Counted s (before x q)
    more_counted s x (got k xs) h g = λ l. let m = g (omega (arith, h)) in omega (arith, m)
    more_counted s x (fails f) h g = tt

    counted : {may : Bool} {s i : ℕ} {o : Out (List X)} → Items N closes next A may s i o → Counted s o
    counted (i_shut n h) = λ l. omega (arith, l)
    counted (i_fails n h r) = tt
    counted {s = s} {i = i} (i_more {j = j} {x = x} {q = q} n h r k e) = subst (Counted s) e (more_counted s x q (room s i j x r) (counted k))

    pub items_counted : (may : Bool) (i j : ℕ) (xs : List X) → Items N closes next A may 0 i (got j xs) → length xs ≤ most
    items_counted may i j xs r = omega (arith, counted r (omega arith))

  -- VARIABLES

  new_got : (n i j : ℕ) (l : Label) → ReadsNew N 64 n any_name i (got j l) → Takes N any_name i (got j l) × (n < 64)
  new_got n i j l r =
      let a = then_got (Takes N any_name) (λ l. Then (Room n 64 l.place) (λ u. Gives l)) i j l r in
      let b = then_got (Room n 64 a.1.place) (λ u. Gives a.1) a.0 j l a.3 in
      let k = room_by (nat_lt n 64) a.0 b.0 b.1 (NoSpace a.1.place) b.2 in
      let p : b.0 ≡ j = cc in
      let q : a.1 ≡ l = cc in
      (subst (λ k. Takes N any_name i (got k l)) (k.1 ∙ p) (subst (λ l. Takes N any_name i (got a.0 l)) q a.2), below n 64 k.0)

  variable_stands : (n i j : ℕ) (v : VariableDefinition) → ReadsVariable N n i (got j v) → VariableAt T i j v × VariableWithin v
  variable_stands n i j v r =
      let a = then_got (Takes N (the_mark dollar)) (ReadsAfterDollar N n) i j v r in
      let b = then_got (ReadsNew N 64 n any_name) (λ l. Maps (λ d. record { place = a.1; declared = d }) (ReadsDeclared N l)) a.0 j v a.3 in
      let c = maps_got (λ d. record { place = a.1; declared = d }) (ReadsDeclared N b.1) b.0 j v b.3 in
      let d = declared_stands a.0 b.0 j b.1 c.0 (name_at a.0 b.0 b.1 (new_got n a.0 b.0 b.1 b.2).0) c.1 in
      subst (λ v. VariableAt T i j v × VariableWithin v) c.2 (variable_definition (mark_at dollar i a.0 a.1 a.2) d.0, d.1)

  variable_room : (n i j : ℕ) (v : VariableDefinition) → ReadsVariable N n i (got j v) → n < 64
  variable_room n i j v r =
      let a = then_got (Takes N (the_mark dollar)) (ReadsAfterDollar N n) i j v r in
      let b = then_got (ReadsNew N 64 n any_name) (λ l. Maps (λ d. record { place = a.1; declared = d }) (ReadsDeclared N l)) a.0 j v a.3 in
      (new_got n a.0 b.0 b.1 b.2).1

  abbrev VariablesFound : ℕ → ℕ → List VariableDefinition → Type 0
  VariablesFound i j vs = VariablesAt T i j vs × AllOf VariableWithin vs × (length vs ≤ 64)

  variables_stand : (i j : ℕ) (vs : List VariableDefinition) → ReadsVariables N i (got j vs) → VariablesFound i j vs
  variables_stand i j vs r = if_got (VariablesFound i j vs) open_paren (λ s. ReadsVariableList N) (Gives []) i j vs
      (λ s e t h. let m = items_stand (is_mark close_paren) next (ReadsVariable N) (VariableAt T) VariableWithin variable_stands false 0 e j vs h in
      (variable_definitions t m.0, m.1, items_counted (is_mark close_paren) (ReadsVariable N) 64 variable_room false e j vs h))
      (λ h. let p : i ≡ j = cc in let q : [] ≡ vs = cc in subst (VariablesFound i j) q (subst (λ j. VariablesAt T i j []) p no_variables, tt, omega arith))
      r

  -- USES

  argument_stands : (s : Unit {0}) (i j : ℕ) (x : Argument) → ReadsArgument N i (got j x) → ArgumentAt T i j x × ArgumentWithin x
  argument_stands s i j x r =
      let a = then_got (Takes N any_name) (ReadsArgumentValue N) i j x r in
      let b = then_got (Takes N (the_mark colon)) (λ s. Maps (argument_of a.1) (ReadsLiteral N)) a.0 j x a.3 in
      let c = maps_got (argument_of a.1) (ReadsLiteral N) b.0 j x b.3 in
      let l = literal_stands b.0 j c.0 c.1 in
      subst (λ x. ArgumentAt T i j x × ArgumentWithin x) c.2 (an_argument (name_at i a.0 a.1 a.2) (mark_at colon a.0 b.0 b.1 b.2) l.0, l.1)

  abbrev ArgumentsFound : ℕ → ℕ → List Argument → Type 0
  ArgumentsFound i j xs = ArgumentsAt T i j xs × AllOf ArgumentWithin xs

  arguments_stand : (i j : ℕ) (xs : List Argument) → ReadsUseArguments N i (got j xs) → ArgumentsFound i j xs
  arguments_stand i j xs r = if_got (ArgumentsFound i j xs) open_paren (λ s. ReadsArgumentList N) (Gives []) i j xs
      (λ s e t h. let m = items_stand (is_mark close_paren) unchanged (λ u. ReadsArgument N) (ArgumentAt T) ArgumentWithin argument_stands false tt e j xs h in (arguments t m.0, m.1))
      (λ h. let p : i ≡ j = cc in let q : [] ≡ xs = cc in subst (ArgumentsFound i j) q (subst (λ j. ArgumentsAt T i j []) p no_arguments, tt))
      r

  use_stands : (s : Unit {0}) (i j : ℕ) (u : Use) → ReadsUse N i (got j u) → UseAt T i j u × UseWithin u
  use_stands s i j u r =
      let a = then_got (Takes N (the_mark at_sign)) (ReadsAfterAt N) i j u r in
      let b = then_got (Takes N any_name) (λ l. Maps (λ xs. record { name = l.name; place = a.1; arguments = xs }) (ReadsUseArguments N)) a.0 j u a.3 in
      let c = maps_got (λ xs. record { name = b.1.name; place = a.1; arguments = xs }) (ReadsUseArguments N) b.0 j u b.3 in
      let m = arguments_stand b.0 j c.0 c.1 in
      subst (λ u. UseAt T i j u × UseWithin u) c.2 (directive (mark_at at_sign i a.0 a.1 a.2) (name_at a.0 b.0 b.1 b.2) m.0, m.1)

  -- THE WHOLE

  kind_at : (i s e : ℕ) (w : Name) (k : Kind) → T i s e (a_name w) → in_table kinds w ≡ some k → KindAt T i e k
  kind_at i s e w k t h = row_cases (KindAt T i e k) (same (codes "query") w) a_query k (cond (same (codes "mutation") w) (some a_mutation) (cond (same (codes "subscription") w) (some a_subscription) none)) h
      (λ c q. subst (KindAt T i e) q (query_at (subst (λ w. T i s e (a_name w)) (sym (same_true (codes "query") w c)) t)))
      (λ h. row_cases (KindAt T i e k) (same (codes "mutation") w) a_mutation k (cond (same (codes "subscription") w) (some a_subscription) none) h
      (λ c q. subst (KindAt T i e) q (mutation_at (subst (λ w. T i s e (a_name w)) (sym (same_true (codes "mutation") w c)) t)))
      (λ h. row_cases (KindAt T i e k) (same (codes "subscription") w) a_subscription k none h
      (λ c q. subst (KindAt T i e) q (subscription_at (subst (λ w. T i s e (a_name w)) (sym (same_true (codes "subscription") w c)) t)))
      (λ h. no_kind k h)))

  kind_by : (i s e j : ℕ) (x : Lexical) (k : Kind) → T i s e x → e ≡ j → a_kind s x ≡ some k → KindAt T i j k
  kind_by i s e j (a_name w) k t p h = subst (λ j. KindAt T i j k) p (kind_at i s e w k t h)
  kind_by i s e j (a_mark m) k t p h = no_kind k h
  kind_by i s e j (a_number n ds) k t p h = no_kind k h
  kind_by i s e j (a_string cs) k t p h = no_kind k h
  kind_by i s e j the_end k t p h = no_kind k h

  kind_stands : (i j : ℕ) (k : Kind) → Takes N a_kind i (got j k) → KindAt T i j k
  kind_stands i j k (sees s e x, n, h) = let a = accepted_is s e j (a_kind s x) k h in kind_by i s e j x k (seen i s e x n) a.0 a.1
  kind_stands i j k (blind f, n, h) = not_got h

  name_stands : (i j : ℕ) → ReadsName N i (got j tt) → NameAt T i j
  name_stands i j (sees s e x, n, h) = chosen_cases (NameAt T i j) (is_name x) (Gives {X = Unit {0}} tt e (got j tt)) (Gives {X = Unit {0}} tt i (got j tt))
      (λ c g. let p : e ≡ j = same_end e j g in let w = a_name_is x c in subst (NameAt T i) p (a_name_at (subst (T i s e) w.1 (seen i s e x n))))
      (λ g. subst (NameAt T i) (same_end i j g) no_name)
      h
  name_stands i j (blind f, n, h) = not_got h

  pub operation_stands : (e : ℕ) (D : OperationDocument) → ReadsOperationFrom N 0 (got e D) → OperationAt T e D × OperationWithin D
  operation_stands e D r =
      let a = then_got (Takes N a_kind) (λ k. Then (ReadsName N) (λ u. Then (ReadsVariables N) (λ vs. Maps (λ us. record { kind = k; variables = vs; uses = us }) (ReadsUses N)))) 0 e D r in
      let b = then_got (ReadsName N) (λ u. Then (ReadsVariables N) (λ vs. Maps (λ us. record { kind = a.1; variables = vs; uses = us }) (ReadsUses N))) a.0 e D a.3 in
      let c = then_got (ReadsVariables N) (λ vs. Maps (λ us. record { kind = a.1; variables = vs; uses = us }) (ReadsUses N)) b.0 e D b.3 in
      let d = maps_got (λ us. record { kind = a.1; variables = c.1; uses = us }) (ReadsUses N) c.0 e D c.3 in
      let v = variables_stand b.0 c.0 c.1 c.2 in
      let u = items_stand ends unchanged (λ u. ReadsUse N) (UseAt T) UseWithin use_stands true tt c.0 e d.0 d.1 in
      subst (λ D. OperationAt T e D × OperationWithin D) d.2 (operation_definition (kind_stands 0 a.0 a.1 a.2) (name_stands a.0 b.0 b.2) v.0 u.0, record { count = v.2; variables = v.1; uses = u.1 })
