-- What the grammar says of declarations and operations, within the limits, is what is read.
use Rattle.std.proofs.Common.{◌≡◌, ℕ, suc, ◌+◌, ◌<◌, ◌≤◌, ◌&&◌, Bool, true, false, List, [], ◌∷◌, length, nat_lt, codes, sym, refl, ap, ◌∙◌, subst, arith}
use Rattle.std.proofs.Math.Option.{Option, some, none}
use Rattle.std.proofs.lemmas.Bool.{cond-true}
use Rattle.std.proofs.lemmas.Bool.Decides.{nat_tests}
use Rattle.model.specs.Values.{Name, Raw, Argument, Use}
use Rattle.text.specs.NumberGrammar.{Number}
use Rattle.text.specs.declared.fault.Fault.TheVariants.{NoSpace}
use Rattle.text.specs.declared.language.Language.TheVariants.{Graphql}
use Rattle.text.specs.declared.number.NumberKind.{NumberKind}
use Rattle.text.specs.TokenGrammar.{Mark, bang, dollar, open_paren, close_paren, colon, equals, at_sign, Lexical, a_mark, a_name, a_number, a_string, the_end}
use Rattle.reader.specs.Tokens.{Sight, sees, Sights, TokenIs}
use Rattle.reader.specs.Grammar.{Value}
use Rattle.reader.specs.Reading.{Out, got, fails, is_mark, Bounded}
use Rattle.reader.proofs.RdAgree.{agree}
use Rattle.reader.proofs.RdSound.{mark_is, is_mark_lem}
use Rattle.schema.specs.Declarations.{ReadsLiteral, ReadsDefault, ReadsDeclared, DefaultAt, no_default, a_default, DeclaredAt, input_value}
use Rattle.schema.specs.Documents.{Label, Declared, Kind, VariableDefinition, OperationDocument}
use Rattle.schema.specs.OperationGrammar.{KindAt, query_at, mutation_at, subscription_at, NameAt, no_name, a_name_at, VariableAt, variable_definition, VariablesAt, no_variables, variable_definitions, ArgumentAt, an_argument, ArgumentsAt, no_arguments, arguments, UseAt, directive, OperationAt, operation_definition}
use Rattle.schema.specs.OperationReading.{a_kind, is_name, ReadsName, ReadsAfterDollar, ReadsVariable, ReadsVariableList, ReadsVariables, unchanged, argument_of, ReadsArgumentValue, ReadsArgument, ReadsArgumentList, ReadsUseArguments, ReadsAfterAt, ReadsUse, ReadsUses, ReadsOperationFrom, ReadsOperation, operation_long, operation_read}
use Rattle.schema.specs.Outcomes.{Goes, Then, Gives, Maps, Takes, taken, any_name, Chosen, Chooses, IfMark, Room, shuts, before, Items, i_shut, i_fails, i_more, ItemsAt, at_shut, at_more}
use Rattle.schema.specs.ReadingLaws.{AsWritten, Unlike, AllOf, DefaultWithin, DeclaredWithin, ArgumentWithin, UseWithin, VariableWithin, OperationWithin}
use Rattle.schema.specs.SchemaGrammar.{ends}
use Rattle.schema.specs.SchemaReading.{next, ReadsNew}
use Rattle.schema.specs.Types.{ReadsType}
use Rattle.schema.proofs.OperationLaws.{once_variable, once_argument, once_use}
use Rattle.schema.proofs.Readings.{One, view, AfterItem, ItemsOn}
use Rattle.schema.proofs.TypeLaws.{type_stands, agree_type, takes_mark}
use Rattle.schema.proofs.WrittenLaws.{declared_stands, operation_stands}
use Rattle.reader.proofs.RdSights.{one_sight, sure, seen_is, sights_number}

and_false : (b : Bool) → b && false ≡ false
and_false true = refl
and_false false = refl

room_there : (n : ℕ) → n < 64 → nat_lt n 64 ≡ true
room_there n h = grind (arith, nat_tests)

ends_is : (x : Lexical) → ends x ≡ true → x ≡ the_end
ends_is the_end h = refl
ends_is (a_mark m) h = cc
ends_is (a_name w) h = cc
ends_is (a_number k ds) h = cc
ends_is (a_string cs) h = cc

sight_in : {S X : Type 0} {N : ℕ → Sight → Type 0} {closes : Lexical → Bool} {step : S → X → S} {A : S → ℕ → Out X → Type 0} {may : Bool} {s : S} {i : ℕ} {o : Out (List X)} → Items N closes step A may s i o → (v : Sight) × N i v
sight_in (i_shut {b = b} {e = e} {x = x} n h) = (sees b e x, n)
sight_in (i_fails {v = v} n h r) = (v, n)
sight_in (i_more {v = v} n h r k e) = (v, n)

-- a token stands next that is no name
record Unnamed (T : ℕ → ℕ → ℕ → Lexical → Type 0) (j : ℕ) : Type 0 where
  start : ℕ
  end : ℕ
  token : Lexical
  stands : T j start end token
  other : is_name token ≡ false

module _ (N : ℕ → Sight → Type 0) (T : ℕ → ℕ → ℕ → Lexical → Type 0) (one : (i : ℕ) (v w : Sight) → N i v → N i w → v ≡ w)
    (sure : (i s e : ℕ) (x : Lexical) (v : Sight) → N i v → T i s e x → v ≡ sees s e x)
    (num : (i s e : ℕ) (k : NumberKind) (ds : List ℕ) → N i (sees s e (a_number k ds)) → Number ds k) where
  pub takes_name : (i s e : ℕ) (w : Name) (q : Out Label) → T i s e (a_name w) → Takes N any_name i q → q ≡ got e (record { name = w; place = s })
  takes_name i s e w q t (v, n, h) = sym h ∙ ap (taken any_name) (sure i s e (a_name w) v n t)

  pub if_yes : {X : Type 0} (m : Mark) (B : ℕ → ℕ → Out X → Type 0) (C : ℕ → Out X → Type 0) (i s e : ℕ) (o : Out X) → T i s e (a_mark m) → IfMark N m B C i o → B s e o
  if_yes m B C i s e o t (v, n, h) =
      subst (λ c. Chosen c (B s e o) (C i o)) (is_mark_lem m) (subst (λ v. Chooses (is_mark m) B C v i o) (sure i s e (a_mark m) v n t) h)

  pub if_no : {X : Type 0} (m : Mark) (B : ℕ → ℕ → Out X → Type 0) (C : ℕ → Out X → Type 0) (i : ℕ) (o : Out X) → Unlike T m i → IfMark N m B C i o → C i o
  if_no m B C i o u (v, n, h) =
      subst (λ c. Chosen c (B u.start u.end o) (C i o)) u.other (subst (λ v. Chooses (is_mark m) B C v i o) (sure i u.start u.end u.token v n u.stands) h)

  agree_default : (j k : ℕ) (v : Option Raw) (q : Out (Option Raw)) → DefaultAt T j k v → DefaultWithin v → Unlike T equals k → ReadsDefault N j q → q ≡ got k v
  agree_default j k v q no_default w u r = sym (if_no equals (λ s. Maps some (ReadsLiteral N)) (Gives none) j q u r)
  agree_default j k v q (a_default {s = s} {e = e} {t = t} a x) w u r =
      let m = if_yes equals (λ s. Maps some (ReadsLiteral N)) (Gives none) j s e q a r in
      sym (subst (λ p. Goes (λ t. Gives (some t)) p q) (agree N T sure num Graphql false m.1 x 1 refl w) m.2)

  bang_after : (j k : ℕ) (v : Option Raw) → DefaultAt T j k v → Unlike T bang k → Unlike T bang j
  bang_after j k v no_default u = u
  bang_after j k v (a_default {s = s} {e = e} a x) u = record { start = s; end = e; token = a_mark equals; stands = a; other = refl }

  pub agree_declared : (i k : ℕ) (d : Declared) → DeclaredAt T i k d → DeclaredWithin d → Unlike T bang k → Unlike T equals k → (e : ℕ) × T i d.label.place e (a_name d.label.name) × ((q : Out Declared) → ReadsDeclared N d.label e q → q ≡ got k d)
  agree_declared i k d (input_value {s = s} {e = e} {b = b} {c = c} {j = j} {w = w} {t = t} {v = v} a x y z) h u p = (
    e,
    a,
    λ q r.
        let g1 = subst (λ q1. Goes (λ x0. Then (ReadsType N 8) (λ t. Maps (λ v. record { label = record { name = w; place = s }; typed = t; dflt = v }) (ReadsDefault N))) q1 q) (takes_mark N T one sure colon e b c r.0 x r.1) r.2 in
        let g2 = subst (λ q2. Goes (λ t. Maps (λ v. record { label = record { name = w; place = s }; typed = t; dflt = v }) (ReadsDefault N)) q2 q) (agree_type N T one sure y h.0 (bang_after j k v z u) g1.1) g1.2 in
        sym (subst (λ q3. Goes (λ v. Gives (record { label = record { name = w; place = s }; typed = t; dflt = v })) q3 q) (agree_default j k v g2.0 z h.1 p g2.1) g2.2),
  )

  -- ITEMS

  module _ {S X : Type 0} (closes : Lexical → Bool) (step : S → X → S) (A : S → ℕ → Out X → Type 0) (a : (s : S) → One (A s)) (P : ℕ → ℕ → X → Type 0) (W : S → X → Type 0) (F : ℕ → Type 0)
      (closed : (j b e : ℕ) (y : Lexical) → T j b e y → closes y ≡ true → F j)
      (opens : (i j : ℕ) (x : X) → P i j x → (b : ℕ) × (e : ℕ) × (y : Lexical) × T i b e y × (closes y ≡ false))
      (starts : (i j : ℕ) (x : X) → P i j x → F i)
      (agrees : (s : S) (i j : ℕ) (x : X) (q : Out X) → P i j x → F j → W s x → A s i q → q ≡ got j x) where
    abbrev pub WithinFrom : S → List X → Type 0
    WithinFrom s [] = Unit {0}
    WithinFrom s (x ∷ xs) = W s x × WithinFrom (step s x) xs

    pub follows : {j k : ℕ} {xs : List X} {may : Bool} → ItemsAt T closes P may j k xs → F j
    follows {j} (at_shut {b = b} {e = e} {x = x} t c) = closed j b e x t c
    follows {j} (at_more {j = k} {x = x} p r) = starts j k x p

    after_is : (s : S) (j k : ℕ) (x : X) (xs : List X) (o : Out (List X)) (q : Out X) → q ≡ got j x → ((p : Out (List X)) → Items N closes step A true (step s x) j p → p ≡ got k xs) → AfterItem N one closes step A a s o q → o ≡ got k (x ∷ xs)
    after_is s j k x xs o q e ih g =
        let h = subst (AfterItem N one closes step A a s o) e g in
        sym h.2 ∙ ap (before x) (ih h.0 h.1)

    pub agree_items : {may : Bool} {i e : ℕ} {xs : List X} {s : S} {o : Out (List X)} → ItemsAt T closes P may i e xs → WithinFrom s xs → Items N closes step A may s i o → o ≡ got e xs
    agree_items {i = i} {s = s} {o = o} (at_shut {b = b} {e = e} {x = x} t c) w r =
        let v = sight_in r in
        let z = subst (λ y. ItemsOn N one closes step A a s i o y (shuts true closes y)) (sure i b e x v.0 v.1 t) (view N one closes step A a r v.0 v.1) in
        sym (subst (ItemsOn N one closes step A a s i o (sees b e x)) c z)
    agree_items {may} {i} {e} {s = s} {o = o} (at_more {j = j} {x = x} {xs = xs} p rest) w r =
        let u = opens i j x p in
        let v = sight_in r in
        let z = subst (λ y. ItemsOn N one closes step A a s i o y (shuts may closes y)) (sure i u.0 u.1 u.2 v.0 v.1 u.3) (view N one closes step A a r v.0 v.1) in
        let f : may && closes u.2 ≡ false = ap (λ c. may && c) u.4 ∙ and_false may in
        let g = subst (ItemsOn N one closes step A a s i o (sees u.0 u.1 u.2)) f z in
        after_is s j e x xs o g.0 (agrees s i j x g.0 p (follows rest) w.0 g.1) (λ p t. agree_items rest w.1 t) g.2

  -- VARIABLES

  abbrev AfterVariable : ℕ → Type 0
  AfterVariable j = Unlike T bang j × Unlike T equals j

  variable_closed : (j b e : ℕ) (y : Lexical) → T j b e y → is_mark close_paren y ≡ true → AfterVariable j
  variable_closed j b e y t c =
      let q = mark_is close_paren y c in
      (record { start = b; end = e; token = y; stands = t; other = ap (is_mark bang) q }, record { start = b; end = e; token = y; stands = t; other = ap (is_mark equals) q })

  variable_opens : (i j : ℕ) (x : VariableDefinition) → VariableAt T i j x → (b : ℕ) × (e : ℕ) × (y : Lexical) × T i b e y × (is_mark close_paren y ≡ false)
  variable_opens i j x (variable_definition {s = s} {e = e} t d) = (s, e, a_mark dollar, t, refl)

  variable_starts : (i j : ℕ) (x : VariableDefinition) → VariableAt T i j x → AfterVariable i
  variable_starts i j x (variable_definition {s = s} {e = e} t d) = (record { start = s; end = e; token = a_mark dollar; stands = t; other = refl }, record { start = s; end = e; token = a_mark dollar; stands = t; other = refl })

  abbrev VariableFits : ℕ → VariableDefinition → Type 0
  VariableFits n v = (n < 64) × VariableWithin v

  new_read : (n i e : ℕ) (l : Label) (q : Out Label) → n < 64 → T i l.place e (a_name l.name) → ReadsNew N 64 n any_name i q → q ≡ got e l
  new_read n i e l q h t r =
      let g = subst (λ p. Goes (λ l. Then (Room n 64 l.place) (λ u. Gives l)) p q) (takes_name i l.place e l.name r.0 t r.1) r.2 in
      let m = sym g.1 ∙ cond-true (nat_lt n 64) (got e tt) (fails (NoSpace l.place)) (room_there n h) in
      sym (subst (λ p. Goes (λ u. Gives l) p q) m g.2)

  variable_agrees : (n i j : ℕ) (x : VariableDefinition) (q : Out VariableDefinition) → VariableAt T i j x → AfterVariable j → VariableFits n x → ReadsVariable N n i q → q ≡ got j x
  variable_agrees n i j x q (variable_definition {s = s} {e = e} {d = d} t y) f w r =
      let z = agree_declared e j d y w.1 f.0 f.1 in
      let g1 = subst (λ p. Goes (ReadsAfterDollar N n) p q) (takes_mark N T one sure dollar i s e r.0 t r.1) r.2 in
      let g2 = subst (λ p. Goes (λ l. Maps (λ d. record { place = s; declared = d }) (ReadsDeclared N l)) p q) (new_read n e z.0 d.label g1.0 w.0 z.1 g1.1) g1.2 in
      sym (subst (λ p. Goes (λ d. Gives (record { place = s; declared = d })) p q) (z.2 g2.0 g2.1) g2.2)

  variables_fit : (n : ℕ) (vs : List VariableDefinition) → n + length vs ≤ 64 → AllOf VariableWithin vs → WithinFrom (is_mark close_paren) next (ReadsVariable N) (once_variable N one num) (VariableAt T) VariableFits AfterVariable variable_closed variable_opens variable_starts variable_agrees n vs
  variables_fit n [] h w = tt
  variables_fit n (v ∷ vs) h w = ((omega (arith, h), w.0), variables_fit (suc n) vs (omega (arith, h)) w.1)

  agree_variables : (i j : ℕ) (vs : List VariableDefinition) (q : Out (List VariableDefinition)) → VariablesAt T i j vs → length vs ≤ 64 → AllOf VariableWithin vs → Unlike T open_paren j → ReadsVariables N i q → q ≡ got j vs
  agree_variables i j vs q no_variables l w u r = sym (if_no open_paren (λ s. ReadsVariableList N) (Gives []) i q u r)
  agree_variables i j vs q (variable_definitions {s = s} {e = e} t x) l w u r =
      agree_items (is_mark close_paren) next (ReadsVariable N) (once_variable N one num) (VariableAt T) VariableFits AfterVariable variable_closed variable_opens variable_starts variable_agrees x (variables_fit 0 vs (omega (arith, l)) w)
      (if_yes open_paren (λ s. ReadsVariableList N) (Gives []) i s e q t r)

  -- USES

  agree_literal : (i j : ℕ) (t : Raw) (q : Out Raw) → Value T Graphql i j t → Bounded false 1 t → ReadsLiteral N i q → q ≡ got j t
  agree_literal i j t q v w r = agree N T sure num Graphql false r v 1 refl w

  argument_closed : (j b e : ℕ) (y : Lexical) → T j b e y → is_mark close_paren y ≡ true → Unit {0}
  argument_closed j b e y t c = tt

  argument_opens : (i j : ℕ) (x : Argument) → ArgumentAt T i j x → (b : ℕ) × (e : ℕ) × (y : Lexical) × T i b e y × (is_mark close_paren y ≡ false)
  argument_opens i j x (an_argument {s = s} {e = e} {w = w} t c v) = (s, e, a_name w, t, refl)

  argument_starts : (i j : ℕ) (x : Argument) → ArgumentAt T i j x → Unit {0}
  argument_starts i j x p = tt

  argument_agrees : (s : Unit {0}) (i j : ℕ) (x : Argument) (q : Out Argument) → ArgumentAt T i j x → Unit {0} → ArgumentWithin x → ReadsArgument N i q → q ≡ got j x
  argument_agrees u i j x q (an_argument {s = s} {e = e} {b = b} {c = c} {w = w} {t = t} k y v) f h r =
      let l : Label = record { name = w; place = s } in
      let g1 = subst (λ p. Goes (ReadsArgumentValue N) p q) (takes_name i s e w r.0 k r.1) r.2 in
      let g2 = subst (λ p. Goes (λ x0. Maps (argument_of l) (ReadsLiteral N)) p q) (takes_mark N T one sure colon e b c g1.0 y g1.1) g1.2 in
      sym (subst (λ p. Goes (λ t. Gives (argument_of l t)) p q) (agree_literal c j t g2.0 v h g2.1) g2.2)

  arguments_fit : (xs : List Argument) → AllOf ArgumentWithin xs → WithinFrom (is_mark close_paren) unchanged (λ u. ReadsArgument N) (λ u. once_argument N one num) (ArgumentAt T) (λ u. ArgumentWithin) (λ j. Unit {0}) argument_closed argument_opens argument_starts argument_agrees tt xs
  arguments_fit [] w = tt
  arguments_fit (x ∷ xs) w = (w.0, arguments_fit xs w.1)

  agree_arguments : (i j : ℕ) (xs : List Argument) (q : Out (List Argument)) → ArgumentsAt T i j xs → AllOf ArgumentWithin xs → Unlike T open_paren j → ReadsUseArguments N i q → q ≡ got j xs
  agree_arguments i j xs q no_arguments w u r = sym (if_no open_paren (λ s. ReadsArgumentList N) (Gives []) i q u r)
  agree_arguments i j xs q (arguments {s = s} {e = e} t x) w u r =
      agree_items (is_mark close_paren) unchanged (λ u. ReadsArgument N) (λ u. once_argument N one num) (ArgumentAt T) (λ u. ArgumentWithin) (λ j. Unit {0}) argument_closed argument_opens argument_starts argument_agrees x (arguments_fit xs w)
      (if_yes open_paren (λ s. ReadsArgumentList N) (Gives []) i s e q t r)

  -- what follows a use, or what stands before the first
  abbrev AfterUse : ℕ → Type 0
  AfterUse j = Unlike T open_paren j × Unnamed T j

  use_closed : (j b e : ℕ) (y : Lexical) → T j b e y → ends y ≡ true → AfterUse j
  use_closed j b e y t c =
      let q = ends_is y c in
      (record { start = b; end = e; token = y; stands = t; other = ap (is_mark open_paren) q }, record { start = b; end = e; token = y; stands = t; other = ap is_name q })

  use_opens : (i j : ℕ) (x : Use) → UseAt T i j x → (b : ℕ) × (e : ℕ) × (y : Lexical) × T i b e y × (ends y ≡ false)
  use_opens i j x (directive {s = s} {e = e} t n d) = (s, e, a_mark at_sign, t, refl)

  use_starts : (i j : ℕ) (x : Use) → UseAt T i j x → AfterUse i
  use_starts i j x (directive {s = s} {e = e} t n d) = (record { start = s; end = e; token = a_mark at_sign; stands = t; other = refl }, record { start = s; end = e; token = a_mark at_sign; stands = t; other = refl })

  use_agrees : (s : Unit {0}) (i j : ℕ) (x : Use) (q : Out Use) → UseAt T i j x → AfterUse j → UseWithin x → ReadsUse N i q → q ≡ got j x
  use_agrees u i j x q (directive {s = s} {e = e} {b = b} {c = c} {w = w} {xs = xs} t n d) f h r =
      let g1 = subst (λ p. Goes (ReadsAfterAt N) p q) (takes_mark N T one sure at_sign i s e r.0 t r.1) r.2 in
      let g2 = subst (λ p. Goes (λ l. Maps (λ xs. record { name = l.name; place = s; arguments = xs }) (ReadsUseArguments N)) p q) (takes_name e b c w g1.0 n g1.1) g1.2 in
      sym (subst (λ p. Goes (λ xs. Gives (record { name = w; place = s; arguments = xs })) p q) (agree_arguments c j xs g2.0 d h f.0 g2.1) g2.2)

  uses_fit : (us : List Use) → AllOf UseWithin us → WithinFrom ends unchanged (λ u. ReadsUse N) (λ u. once_use N one num) (UseAt T) (λ u. UseWithin) AfterUse use_closed use_opens use_starts use_agrees tt us
  uses_fit [] w = tt
  uses_fit (u ∷ us) w = (w.0, uses_fit us w.1)

  agree_uses : (i e : ℕ) (us : List Use) (q : Out (List Use)) → ItemsAt T ends (UseAt T) true i e us → AllOf UseWithin us → ReadsUses N i q → q ≡ got e us
  agree_uses i e us q x w r = agree_items ends unchanged (λ u. ReadsUse N) (λ u. once_use N one num) (UseAt T) (λ u. UseWithin) AfterUse use_closed use_opens use_starts use_agrees x (uses_fit us w) r

  before_uses : (j e : ℕ) (us : List Use) → ItemsAt T ends (UseAt T) true j e us → AfterUse j
  before_uses j e us x = follows ends unchanged (λ u. ReadsUse N) (λ u. once_use N one num) (UseAt T) (λ u. UseWithin) AfterUse use_closed use_opens use_starts use_agrees x

  -- THE WHOLE

  agree_kind : (i j : ℕ) (k : Kind) (q : Out Kind) → KindAt T i j k → Takes N a_kind i q → q ≡ got j k
  agree_kind i j k q (query_at {s = s} {e = e} t) (v, n, h) = sym h ∙ ap (taken a_kind) (sure i s e (a_name (codes "query")) v n t)
  agree_kind i j k q (mutation_at {s = s} {e = e} t) (v, n, h) = sym h ∙ ap (taken a_kind) (sure i s e (a_name (codes "mutation")) v n t)
  agree_kind i j k q (subscription_at {s = s} {e = e} t) (v, n, h) = sym h ∙ ap (taken a_kind) (sure i s e (a_name (codes "subscription")) v n t)

  agree_name : (i j : ℕ) (q : Out (Unit {0})) → NameAt T i j → Unnamed T j → ReadsName N i q → q ≡ got j tt
  agree_name i j q no_name u (v, n, h) =
      sym (subst (λ c. Chosen c (Gives tt u.end q) (Gives tt i q)) u.other (subst (λ v. Chooses is_name (λ s. Gives tt) (Gives tt) v i q) (sure i u.start u.end u.token v n u.stands) h))
  agree_name i j q (a_name_at {s = s} {e = e} {w = w} t) u (v, n, h) = sym (subst (λ v. Chooses is_name (λ s. Gives tt) (Gives tt) v i q) (sure i s e (a_name w) v n t) h)

  before_variables : (i j : ℕ) (vs : List VariableDefinition) → VariablesAt T i j vs → Unnamed T j → Unnamed T i
  before_variables i j vs no_variables u = u
  before_variables i j vs (variable_definitions {s = s} {e = e} t x) u = record { start = s; end = e; token = a_mark open_paren; stands = t; other = refl }

  pub agree_operation : (e : ℕ) (D : OperationDocument) (q : Out OperationDocument) → OperationAt T e D → OperationWithin D → ReadsOperationFrom N 0 q → q ≡ got e D
  agree_operation e D q (operation_definition {i = i} {j = j} {m = m} {k = k} {vs = vs} {us = us} a b c d) w r =
      let f = before_uses m e us d in
      let g1 = subst (λ p. Goes (λ k. Then (ReadsName N) (λ u. Then (ReadsVariables N) (λ vs. Maps (λ us. record { kind = k; variables = vs; uses = us }) (ReadsUses N)))) p q) (agree_kind 0 i k r.0 a r.1) r.2 in
      let g2 = subst (λ p. Goes (λ u. Then (ReadsVariables N) (λ vs. Maps (λ us. record { kind = k; variables = vs; uses = us }) (ReadsUses N))) p q) (agree_name i j g1.0 b (before_variables j m vs c f.1) g1.1) g1.2 in
      let g3 = subst (λ p. Goes (λ vs. Maps (λ us. record { kind = k; variables = vs; uses = us }) (ReadsUses N)) p q) (agree_variables j m vs g2.0 c w.count w.variables f.0 g2.1) g2.2 in
      sym (subst (λ p. Goes (λ us. Gives (record { kind = k; variables = vs; uses = us })) p q) (agree_uses m e us g3.0 d w.uses g3.1) g3.2)

operation_is : (text : List ℕ) (e : ℕ) (D : OperationDocument) → ReadsOperation text (got e D) → (length text ≤ 65535) × OperationAt (TokenIs Graphql text) e D × OperationWithin D
operation_is text e D (operation_read l r) = let w = operation_stands (Sights Graphql text) (TokenIs Graphql text) (λ i s e x n. seen_is n) e D r in (l, w.0, w.1)

operation_got : (text : List ℕ) (e : ℕ) (D : OperationDocument) (o : Out OperationDocument) → length text ≤ 65535 → OperationAt (TokenIs Graphql text) e D → OperationWithin D → ReadsOperation text o → o ≡ got e D
operation_got text e D o l a w (operation_long m) = absurd (omega arith)
operation_got text e D o l a w (operation_read m r) = agree_operation (Sights Graphql text) (TokenIs Graphql text) (one_sight Graphql text) (sure Graphql text) (sights_number Graphql text) e D o a w r

pub as_written : AsWritten
as_written = record { operation_read = operation_got; declared = λ text i e j l d t r. declared_stands (Sights Graphql text) (TokenIs Graphql text) (λ i s e x n. seen_is n) i e j l d t r; operation = operation_is; type_read = λ text d i j t o a l u r. agree_type (Sights Graphql text) (TokenIs Graphql text) (one_sight Graphql text) (sure Graphql text) a l u r; type = λ text d i j t r. type_stands (Sights Graphql text) (TokenIs Graphql text) (λ i s e x n. seen_is n) d i j t r }
