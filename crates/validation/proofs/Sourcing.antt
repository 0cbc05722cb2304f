-- Each default of a schema that is read, in which no member's name repeats, is within the limits of a source.
use Rattle.std.proofs.Common.{◌≡◌, ℕ, suc, ⊎_elim, Bool, true, false, List, [], ◌∷◌, ◌++◌, None, subst, refl, arith}
use Rattle.std.proofs.Math.Option.{Option, none, some}
use Rattle.model.specs.Values.{Raw, Raws, Mems, null, scalar, variable, list, object, nil, cons, end, mem, place_of}
use Rattle.model.specs.Limits.{RawLimits, RawLimitsAll, RawLimitsMems}
use Rattle.model.specs.Cycles.{Among, first, later}
use Rattle.text.specs.declared.language.Language.TheVariants.{Graphql}
use Rattle.text.specs.TokenGrammar.{at_sign, open_brace, close_brace, open_paren, close_paren, colon, equals, Lexical}
use Rattle.reader.specs.Tokens.{Sight, sees, blind, Sights, TokenIs}
use Rattle.reader.specs.Reading.{Out, got, fails, is_mark, Reads}
use Rattle.reader.proofs.RdSights.{seen_is}
use Rattle.reader.proofs.RdSound.{sound}
use Rattle.reader.proofs.RdLimits.{limits_of}
use Rattle.schema.specs.Documents.{Label, Declared, Definition, an_enum, an_input, a_directive, Document}
use Rattle.schema.specs.Outcomes.{Then, Gives, Maps, Takes, any_name, the_mark, Chosen, IfToken, Items, i_shut, i_fails, i_more, before}
use Rattle.schema.specs.Types.{ReadsType}
use Rattle.schema.specs.Declarations.{ReadsLiteral, ReadsDefault, ReadsDeclared}
use Rattle.schema.specs.SchemaGrammar.{ends}
use Rattle.schema.specs.SchemaReading.{inputs_of, arguments_of, inputs_in, arguments_in, Counts, counted, Sort, s_scalar, s_enum, s_input, s_output, Keyword, k_type, k_directive, a_keyword, next, ReadsField, ReadsFieldList, ReadsFields, ReadsArguments, ReadsManner, ReadsAllLocations, ReadsDirective, ReadsContents, ReadsAfter, ReadsDefinition, ReadsNew, ReadsValues, ReadsSchema, schema_read}
use Rattle.schema.proofs.Entering.{not_got}
use Rattle.validation.specs.Making.{FirstFault, Input, RepeatedNameAt, member_again, Sourced}
use Rattle.validation.proofs.Least.{among_none}
use Rattle.validation.proofs.Rereading.{literal_again}

module _ (N : ℕ → Sight → Type 0) where
  -- the default, if there is one, was read somewhere
  abbrev pub DefaultRead : Option Raw → Type 0
  DefaultRead none = Unit {0}
  DefaultRead (some x) = (i : ℕ) × (j : ℕ) × ReadsLiteral N i (got j x)

  abbrev AllRead : List Declared → Type 0
  AllRead [] = Unit {0}
  AllRead (d ∷ ds) = DefaultRead d.dflt × AllRead ds

  all_append : (ds es : List Declared) → AllRead ds → AllRead es → AllRead (ds ++ es)
  all_append [] es h g = g
  all_append (d ∷ ds) es h g = (h.0, all_append ds es h.1 g)

  pub among_read : {d : Declared} (ds : List Declared) → Among d ds → AllRead ds → DefaultRead d.dflt
  among_read [] a h = absurd (among_none a)
  among_read (d ∷ ds) first h = h.0
  among_read (d ∷ ds) (later a) h = among_read ds a h.1

  pub value_is : {X : Type 0} (P : X → Type 0) {i j : ℕ} {x y : X} → ◌≡◌ {A = Out X} (got i x) (got j y) → P x → P y
  value_is {X} P {i} {j} {x} {y} e p = let q : x ≡ y = cc in subst P q p

  -- what holds of all that A gives holds of what is made of it
  pub then_read : {X Y : Type 0} (A : ℕ → Out X → Type 0) (B : X → ℕ → Out Y → Type 0) (Q : Y → Type 0) (i k : ℕ) (y : Y) → Then A B i (got k y) → ((j : ℕ) (x : X) → A i (got j x) → B x j (got k y) → Q y) → Q y
  then_read A B Q i k y (got j x, a, g) f = f j x a g
  then_read A B Q i k y (fails e, a, g) f = not_got g

  chosen_read : {X : Type 0} (P Q : Type 0) (b : Bool) → Chosen b P Q → (P → X) → (Q → X) → X
  chosen_read P Q true c f g = f c
  chosen_read P Q false c f g = g c

  pub token_read : {X Y : Type 0} (test : Lexical → Bool) (B : ℕ → ℕ → Out X → Type 0) (C : ℕ → Out X → Type 0) (i k : ℕ) (y : X) → IfToken N test B C i (got k y) → ((s e : ℕ) → B s e (got k y) → Y) → (C i (got k y) → Y) → Y
  token_read test B C i k y (blind f, n, h) g c = not_got h
  token_read test B C i k y (sees s e x, n, h) g c = chosen_read (B s e (got k y)) (C i (got k y)) (test x) h (g s e) c

  default_read : (i k : ℕ) (v : Option Raw) → ReadsDefault N i (got k v) → DefaultRead v
  default_read i k v h = token_read (is_mark equals) (λ s. Maps some (ReadsLiteral N)) (Gives none) i k v h
      (λ s e g. then_read (ReadsLiteral N) (λ x. Gives (some x)) DefaultRead e k v g (λ j x r z. value_is DefaultRead z (e, j, r)))
      (λ g. value_is DefaultRead g tt)

  pub declared_read : (l : Label) (i k : ℕ) (d : Declared) → ReadsDeclared N l i (got k d) → DefaultRead d.dflt
  declared_read l i k d h =
      then_read (Takes N (the_mark colon)) (λ s. Then (ReadsType N 8) (λ t. Maps (λ v. record { label = l; typed = t; dflt = v }) (ReadsDefault N))) (λ (d : Declared). DefaultRead d.dflt) i k d h (λ j c r g.
      then_read (ReadsType N 8) (λ t. Maps (λ v. record { label = l; typed = t; dflt = v }) (ReadsDefault N)) (λ (d : Declared). DefaultRead d.dflt) j k d g (λ m t r g.
      then_read (ReadsDefault N) (λ v. Gives (record { label = l; typed = t; dflt = v })) (λ (d : Declared). DefaultRead d.dflt) m k d g (λ n v r z.
      value_is (λ (d : Declared). DefaultRead d.dflt) z (default_read m n v r))))

  field_read : (most n i k : ℕ) (d : Declared) → ReadsField N most n i (got k d) → DefaultRead d.dflt
  field_read most n i k d h = then_read (ReadsNew N most n any_name) (ReadsDeclared N) (λ (d : Declared). DefaultRead d.dflt) i k d h (λ j l r g. declared_read l j k d g)

  abbrev ListRead : Out (List Declared) → Type 0
  ListRead (got j ds) = AllRead ds
  ListRead (fails f) = Unit {0}

  list_more : (d : Declared) (q o : Out (List Declared)) → DefaultRead d.dflt → ListRead q → before d q ≡ o → ListRead o
  list_more d (got j ds) o h g z = subst ListRead z (h, g)
  list_more d (fails f) o h g z = subst ListRead z tt

  list_read : (closes : Lexical → Bool) (most : ℕ) {may : Bool} {n i : ℕ} {o : Out (List Declared)} → Items N closes next (ReadsField N most) may n i o → ListRead o
  list_read closes most (i_shut n h) = tt
  list_read closes most (i_fails n h r) = tt
  list_read closes most {n = n} {i = i} {o = o} (i_more {j = j} {x = d} {q = q} v h r k z) = list_more d q o (field_read most n i j d r) (list_read closes most k) z

  fields_read : (n i k : ℕ) (ds : List Declared) → ReadsFields N n i (got k ds) → AllRead ds
  fields_read n i k ds h = then_read (Takes N (the_mark open_brace)) (λ s. ReadsFieldList N (is_mark close_brace) 1024 n) AllRead i k ds h (λ j s r g. list_read (is_mark close_brace) 1024 g)

  arguments_read : (n i k : ℕ) (ds : List Declared) → ReadsArguments N n i (got k ds) → AllRead ds
  arguments_read n i k ds h = token_read (is_mark open_paren) (λ s. ReadsFieldList N (is_mark close_paren) 256 n) (Gives []) i k ds h (λ s e g. list_read (is_mark close_paren) 256 g) (λ g. value_is AllRead g tt)

  -- all defaults of a definition were read
  abbrev DefinitionRead : Definition → Type 0
  DefinitionRead d = AllRead (inputs_of d) × AllRead (arguments_of d)

  contents_read : (c : Counts) (l : Label) (k : Sort) (i m : ℕ) (d : Definition) → ReadsContents N c l k i (got m d) → DefinitionRead d
  contents_read c l s_scalar i m d h = value_is DefinitionRead h (tt, tt)
  contents_read c l s_enum i m d h = then_read (ReadsValues N c.values) (λ vs. Gives (an_enum l vs)) DefinitionRead i m d h (λ j vs r z. value_is DefinitionRead z (tt, tt))
  contents_read c l s_input i m d h = then_read (ReadsFields N c.inputs) (λ ds. Gives (an_input l ds)) DefinitionRead i m d h (λ j ds r z. value_is DefinitionRead z (fields_read c.inputs i j ds r, tt))
  contents_read c l s_output i m d h = value_is DefinitionRead h (tt, tt)

  directive_read : (c : Counts) (i m : ℕ) (d : Definition) → ReadsDirective N c i (got m d) → DefinitionRead d
  directive_read c i m d h =
      then_read (Takes N (the_mark at_sign)) (λ s. Then (ReadsNew N 64 c.directives any_name) (λ l. Then (ReadsArguments N c.arguments) (λ ds. Then (ReadsManner N) (λ r. Maps (a_directive l ds r) (ReadsAllLocations N))))) DefinitionRead i m d h (λ j s r g.
      then_read (ReadsNew N 64 c.directives any_name) (λ l. Then (ReadsArguments N c.arguments) (λ ds. Then (ReadsManner N) (λ r. Maps (a_directive l ds r) (ReadsAllLocations N)))) DefinitionRead j m d g (λ k l r g.
      then_read (ReadsArguments N c.arguments) (λ ds. Then (ReadsManner N) (λ r. Maps (a_directive l ds r) (ReadsAllLocations N))) DefinitionRead k m d g (λ n ds a g.
      then_read (ReadsManner N) (λ r. Maps (a_directive l ds r) (ReadsAllLocations N)) DefinitionRead n m d g (λ o r q g.
      then_read (ReadsAllLocations N) (λ ls. Gives (a_directive l ds r ls)) DefinitionRead o m d g (λ p ls q z. value_is DefinitionRead z (tt, arguments_read c.arguments k n ds a))))))

  after_read : (c : Counts) (k : Keyword) (i m : ℕ) (d : Definition) → ReadsAfter N c k i (got m d) → DefinitionRead d
  after_read c (k_type k) i m d h = then_read (ReadsNew N 256 c.types any_name) (λ l. ReadsContents N c l k) DefinitionRead i m d h (λ j l r g. contents_read c l k j m d g)
  after_read c k_directive i m d h = directive_read c i m d h

  definition_read : (c : Counts) (i m : ℕ) (d : Definition) → ReadsDefinition N c i (got m d) → DefinitionRead d
  definition_read c i m d h = then_read (Takes N a_keyword) (ReadsAfter N c) DefinitionRead i m d h (λ j k r g. after_read c k j m d g)

  abbrev DocumentRead : Out Document → Type 0
  DocumentRead (got j D) = AllRead (inputs_in D) × AllRead (arguments_in D)
  DocumentRead (fails f) = Unit {0}

  document_more : (d : Definition) (q o : Out Document) → DefinitionRead d → DocumentRead q → before d q ≡ o → DocumentRead o
  document_more d (got j D) o h g z = subst DocumentRead z (all_append (inputs_of d) (inputs_in D) h.0 g.0, all_append (arguments_of d) (arguments_in D) h.1 g.1)
  document_more d (fails f) o h g z = subst DocumentRead z tt

  pub document_read : {may : Bool} {c : Counts} {i : ℕ} {o : Out Document} → Items N ends counted (ReadsDefinition N) may c i o → DocumentRead o
  document_read (i_shut n h) = (tt, tt)
  document_read (i_fails n h r) = tt
  document_read {c = c} {i = i} {o = o} (i_more {j = j} {x = d} {q = q} v h r k z) = document_more d q o (definition_read c i j d r) (document_read k) z

-- what is within the limits at a depth is within them where it is less deep
mutual
  less : (k : ℕ) (x : Raw) → RawLimits (suc k) x → RawLimits k x
  less k (null p) h = omega (arith, h)
  less k (scalar p s) h = (omega (arith, h.0), h.1)
  less k (variable p n) h = (omega (arith, h.0), h.1)
  less k (list p xs) h = (omega (arith, h.0), less_all (suc k) xs h.1)
  less k (object p ms) h = (omega (arith, h.0), h.1, less_mems (suc k) ms h.2)

  less_all : (k : ℕ) (xs : Raws) → RawLimitsAll (suc k) xs → RawLimitsAll k xs
  less_all k nil h = tt
  less_all k (cons x xs) h = (less k x h.0, less_all k xs h.1)

  less_mems : (k : ℕ) (ms : Mems) → RawLimitsMems (suc k) ms → RawLimitsMems k ms
  less_mems k end h = tt
  less_mems k (mem n x ms) h = (h.0, less k x h.1, less_mems k ms h.2)

module _ (text : List ℕ) where
  abbrev M : ℕ → Sight → Type 0
  M = Sights Graphql text

  abbrev T : ℕ → ℕ → ℕ → Lexical → Type 0
  T = TokenIs Graphql text

  pub within : (i j : ℕ) (x : Raw) → Reads M Graphql true 32 i (got j x) → RawLimits 0 x
  within i j x r =
      let s = sound M T (λ i s e x n. seen_is n) Graphql true r 1 refl in
      less 0 x (limits_of s.0 1 s.1)

  read_in : {e : ℕ} {D : Document} → ReadsSchema text (got e D) → DocumentRead M (got e D)
  read_in (schema_read h r) = document_read M r

  pub given : (o : Option Raw) (x : Raw) → o ≡ some x → DefaultRead M o → DefaultRead M (some x)
  given o x e h = subst (DefaultRead M) e h

  -- a default of what was read
  pub input_read : {e : ℕ} {D : Document} {d : Declared} {x : Raw} → ReadsSchema text (got e D) → Input D d → d.dflt ≡ some x → DefaultRead M (some x)
  input_read {D = D} {d = d} {x = x} r i z =
      let w = read_in r in
      given d.dflt x z (⊎_elim (λ a. among_read M (inputs_in D) a w.0) (λ a. among_read M (arguments_in D) a w.1) i)

  pub sourced : {e : ℕ} {D : Document} → ReadsSchema text (got e D) → FirstFault (RepeatedNameAt text D) None → Sourced D
  sourced {e} {D} r h d i x z =
      let g = input_read r i z in
      let l = literal_again text g.2 in
      ⊎_elim
      (λ a. within (place_of x) g.1 x a)
      (λ b. absurd (h b.0 (member_again i z (l.0, b.1))))
      l.1
