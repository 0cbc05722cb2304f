-- What is read of a schema is what the grammar has.
use Rattle.std.proofs.Common.{◌≡◌, ℕ, Bool, true, false, cond, codes, List, [], ◌∷◌, sym, refl, ap, ◌∙◌, subst, ⊎_elim, true≢false, nat_lt, arith}
use Rattle.std.proofs.Math.Option.{Option, some, none}
use Rattle.std.proofs.lemmas.Bool.{cases_Bool, cond-true, cond-false}
use Rattle.model.specs.Values.{Name, same, Location}
use Rattle.model.proofs.CoNames.{same_true}
use Rattle.text.specs.declared.fault.Fault.{Fault}
use Rattle.text.specs.declared.language.Language.TheVariants.{Graphql}
use Rattle.text.specs.TokenGrammar.{at_sign, open_paren, close_paren, open_brace, close_brace, pipe, Mark, Lexical, a_mark, a_name, a_number, a_string, the_end}
use Rattle.reader.specs.Tokens.{Sight, sees, blind, Sights, TokenIs}
use Rattle.reader.specs.Grammar.{name_of_null, name_of_true, name_of_false}
use Rattle.reader.specs.Reading.{Out, got, fails, is_mark}
use Rattle.reader.proofs.RdSights.{seen_is}
use Rattle.reader.proofs.RdSound.{mark_is}
use Rattle.schema.specs.Documents.{Label, Declared, Definition, Document, an_enum, an_input, a_directive}
use Rattle.schema.specs.Outcomes.{Then, Gives, Maps, Takes, accepted, the_mark, any_name, Chosen, IfToken, Room, before, ItemsAt}
use Rattle.schema.specs.Declarations.{ReadsDeclared, DeclaredAt}
use Rattle.schema.specs.Locations.{in_table, location_called}
use Rattle.schema.specs.SchemaGrammar.{ends, LabelAt, a_label, EnumValueAt, enum_value, EnumValuesAt, enum_values, InputFieldsAt, input_fields, ArgumentsAt, no_arguments, some_arguments, RepeatableAt, not_repeatable, is_repeatable, LocationAt, LocationsAt, last_location, more_locations, AllLocationsAt, locations, piped_locations, OutputWord, type_word, interface_word, union_word, DefinitionAt, scalar_at, enum_at, input_at, output_at, directive_at, DocumentAt}
use Rattle.schema.specs.SchemaGrammar as G
use Rattle.schema.specs.SchemaReading.{Counts, Sort, s_scalar, s_enum, s_input, s_output, Keyword, k_type, k_directive, keywords, next, nothing, counted, reserved, value_name, is_word, the_word, a_location, a_keyword, ReadsNew, ReadsValueList, ReadsValues, ReadsField, ReadsFieldList, ReadsFields, ReadsArguments, ReadsRepeatable, ReadsManner, ReadsLocations, rs_fails, rs_blind, rs_last, rs_more, ReadsAllLocations, ReadsDirective, ReadsContents, ReadsTypeDefinition, ReadsAfter, ReadsDefinition, ReadsOn, ReadsSchema, schema_read}
use Rattle.schema.specs.ReadingLaws.{AllOf, DeclaredWithin}
use Rattle.schema.specs.SchemaLaws.{DefinitionWithin, SchemaStands}
use Rattle.schema.proofs.WrittenLaws.{declared_stands, items_stand}
use Rattle.schema.proofs.Entering.{not_got}
use Rattle.schema.proofs.Seeing.{name_seen, accepted_is}
use Rattle.schema.proofs.TypeLaws.{mark_stands}

-- PARTS

pub record Parts {X Y : Type 0} (A : ℕ → Out X → Type 0) (B : X → ℕ → Out Y → Type 0) (i k : ℕ) (y : Y) : Type 0 where
  pub at : ℕ
  pub first : X
  pub reads : A i (got at first)
  pub rest : B first at (got k y)

pub parts : {X Y : Type 0} (A : ℕ → Out X → Type 0) (B : X → ℕ → Out Y → Type 0) (i k : ℕ) (y : Y) → Then A B i (got k y) → Parts A B i k y
parts A B i k y (got j x, a, g) = record { at = j; first = x; reads = a; rest = g }
parts A B i k y (fails f, a, g) = not_got g

pub got_at : {X : Type 0} {i j : ℕ} {x y : X} → ◌≡◌ {A = Out X} (got i x) (got j y) → i ≡ j
got_at e = cc

pub got_is : {X : Type 0} {i j : ℕ} {x y : X} → ◌≡◌ {A = Out X} (got i x) (got j y) → x ≡ y
got_is e = cc

pub record Mapped {X Y : Type 0} (f : X → Y) (A : ℕ → Out X → Type 0) (i k : ℕ) (y : Y) : Type 0 where
  pub value : X
  pub reads : A i (got k value)
  pub is : f value ≡ y

pub mapped : {X Y : Type 0} (f : X → Y) (A : ℕ → Out X → Type 0) (i k : ℕ) (y : Y) → Maps f A i (got k y) → Mapped f A i k y
mapped f A i k y h =
    let p = parts A (λ x. Gives (f x)) i k y h in
    record { value = p.first; reads = subst (λ j. A i (got j p.first)) (got_at p.rest) p.reads; is = got_is p.rest }

pub room_at : (b : Bool) (i k : ℕ) (f : Fault) (u : Unit {0}) → cond b (got i tt) (fails f) ≡ got k u → i ≡ k
room_at true i k f u h = got_at h
room_at false i k f u h = not_got h

not_reserved : (w v : Name) → reserved w ≡ false → reserved v ≡ true → w ≡ v → ⊥
not_reserved w v h g e = true≢false (sym g ∙ sym (ap reserved e) ∙ h)

-- what a name is in a table is that of one of its rows
abbrev Rows : {X : Type 0} → Type 0 → List (Name × X) → Name → X → Type 0
Rows G [] w k = Unit {0}
Rows G (r ∷ rs) w k = (r.0 ≡ w → r.1 ≡ k → G) × Rows G rs w k

by_rows : {X : Type 0} (G : Type 0) (rs : List (Name × X)) (w : Name) (k : X) → in_table rs w ≡ some k → Rows G rs w k → G
by_rows G [] w k e h = let z : ◌≡◌ {A = ℕ} 0 1 = cc in absurd (omega arith)
by_rows G (r ∷ rs) w k e h = ⊎_elim
    (λ q. h.0 (same_true r.0 w q) (let p : some r.1 ≡ some k = sym (cond-true (same r.0 w) (some r.1) (in_table rs w) q) ∙ e in cc))
    (λ q. by_rows G rs w k (sym (cond-false (same r.0 w) (some r.1) (in_table rs w) q) ∙ e) h.1)
    (cases_Bool (same r.0 w))

module _ (N : ℕ → Sight → Type 0) (T : ℕ → ℕ → ℕ → Lexical → Type 0) (seen : (i s e : ℕ) (x : Lexical) → N i (sees s e x) → T i s e x) where
  by_chosen : {X G : Type 0} (test : Lexical → Bool) (B : ℕ → ℕ → Out X → Type 0) (C : ℕ → Out X → Type 0) (i s e k : ℕ) (x : Lexical) (y : X) (b : Bool) → test x ≡ b → T i s e x → Chosen b (B s e (got k y)) (C i (got k y))
      → ((s e : ℕ) (x : Lexical) → T i s e x → test x ≡ true → B s e (got k y) → G) → (C i (got k y) → G) → G
  by_chosen test B C i s e k x y true q t c f g = f s e x t q c
  by_chosen test B C i s e k x y false q t c f g = g c

  -- by whether a token came
  by_token : {X G : Type 0} (test : Lexical → Bool) (B : ℕ → ℕ → Out X → Type 0) (C : ℕ → Out X → Type 0) (i k : ℕ) (y : X) → IfToken N test B C i (got k y)
      → ((s e : ℕ) (x : Lexical) → T i s e x → test x ≡ true → B s e (got k y) → G) → (C i (got k y) → G) → G
  by_token test B C i k y (blind f, n, h) f' g = not_got h
  by_token test B C i k y (sees s e x, n, h) f g = by_chosen test B C i s e k x y (test x) refl (seen i s e x n) h f g

  mark_at : (m : Mark) (i s e : ℕ) (x : Lexical) → T i s e x → is_mark m x ≡ true → T i s e (a_mark m)
  mark_at m i s e x t h = subst (T i s e) (mark_is m x h) t

  word_is : (w : Name) (x : Lexical) → is_word w x ≡ true → x ≡ a_name w
  word_is w (a_name n) h = ap a_name (sym (same_true w n h))
  word_is w (a_mark m) h = let z : ◌≡◌ {A = ℕ} 0 1 = cc in absurd (omega arith)
  word_is w (a_number k ds) h = let z : ◌≡◌ {A = ℕ} 0 1 = cc in absurd (omega arith)
  word_is w (a_string cs) h = let z : ◌≡◌ {A = ℕ} 0 1 = cc in absurd (omega arith)
  word_is w the_end h = let z : ◌≡◌ {A = ℕ} 0 1 = cc in absurd (omega arith)

  word_by : (w : Name) (s e j p : ℕ) (x : Lexical) (b : Bool) → is_word w x ≡ b → accepted s e (cond b (some s) none) ≡ got j p → (e ≡ j) × (x ≡ a_name w)
  word_by w s e j p x true h g = (got_at g, word_is w x h)
  word_by w s e j p x false h g = not_got g

  word_stands : (w : Name) (i j p : ℕ) → Takes N (the_word w) i (got j p) → (s : ℕ) × T i s j (a_name w)
  word_stands w i j p (sees s e x, n, h) = let k = word_by w s e j p x (is_word w x) refl h in (s, subst (λ e. T i s e (a_name w)) k.0 (subst (T i s e) k.1 (seen i s e x n)))
  word_stands w i j p (blind f, n, h) = not_got h

  name_stands : (i j : ℕ) (l : Label) → Takes N any_name i (got j l) → T i l.place j (a_name l.name)
  name_stands i j l h = seen i l.place j (a_name l.name) (name_seen N i j l h)

  label_stands : (i j : ℕ) (l : Label) → Takes N any_name i (got j l) → LabelAt T i j l
  label_stands i j l h = a_label (name_stands i j l h)

  new_reads : (most n : ℕ) (of : ℕ → Lexical → Option Label) (i j : ℕ) (l : Label) → ReadsNew N most n of i (got j l) → Takes N of i (got j l)
  new_reads most n of i j l h =
      let p = parts (Takes N of) (λ l. Then (Room n most l.place) (λ u. Gives l)) i j l h in
      let r = parts (Room n most p.first.place) (λ u. Gives p.first) p.at j l p.rest in
      subst (λ k. Takes N of i (got k l)) (room_at (nat_lt n most) p.at r.at _ r.first r.reads ∙ got_at r.rest) (subst (λ x. Takes N of i (got p.at x)) (got_is r.rest) p.reads)

  -- NAMED THINGS

  value_by : (i s e j : ℕ) (w : Name) (l : Label) (b : Bool) → reserved w ≡ b → T i s e (a_name w) → accepted s e (cond b none (some (record { name = w; place = s }))) ≡ got j l → EnumValueAt T i j l
  value_by i s e j w l true h t g = not_got g
  value_by i s e j w l false h t g =
      subst (λ k. EnumValueAt T i k l) (got_at g) (subst (EnumValueAt T i e) (got_is g) (enum_value (a_label t) (not_reserved w name_of_true h refl) (not_reserved w name_of_false h refl) (not_reserved w name_of_null h refl)))

  value_stands : (i j : ℕ) (l : Label) → Takes N value_name i (got j l) → EnumValueAt T i j l
  value_stands i j l (sees s e (a_name w), n, h) = value_by i s e j w l (reserved w) refl (seen i s e (a_name w) n) h
  value_stands i j l (sees s e (a_mark m), n, h) = not_got h
  value_stands i j l (sees s e (a_number k ds), n, h) = not_got h
  value_stands i j l (sees s e (a_string cs), n, h) = not_got h
  value_stands i j l (sees s e the_end, n, h) = not_got h
  value_stands i j l (blind f, n, h) = not_got h

  -- INPUT VALUES

  field_stands : (most n i j : ℕ) (d : Declared) → ReadsField N most n i (got j d) → DeclaredAt T i j d × DeclaredWithin d
  field_stands most n i j d r =
      let p = parts (ReadsNew N most n any_name) (ReadsDeclared N) i j d r in
      declared_stands N T seen i p.at j p.first d (name_stands i p.at p.first (new_reads most n any_name i p.at p.first p.reads)) p.rest

  field_list_stands : (close : Lexical → Bool) (most n i j : ℕ) (ds : List Declared) → ReadsFieldList N close most n i (got j ds) → ItemsAt T close (DeclaredAt T) false i j ds × AllOf DeclaredWithin ds
  field_list_stands close most n i j ds r = items_stand N T seen close next (ReadsField N most) (DeclaredAt T) DeclaredWithin (λ k. field_stands most k) false n i j ds r

  fields_stand : (n i j : ℕ) (ds : List Declared) → ReadsFields N n i (got j ds) → InputFieldsAt T i j ds × AllOf DeclaredWithin ds
  fields_stand n i j ds r =
      let p = parts (Takes N (the_mark open_brace)) (λ s. ReadsFieldList N (is_mark close_brace) 1024 n) i j ds r in
      let q = field_list_stands (is_mark close_brace) 1024 n p.at j ds p.rest in
      (input_fields (mark_stands N T seen open_brace i p.at p.first p.reads).1 q.0, q.1)

  values_stand : (n i j : ℕ) (vs : List Label) → ReadsValues N n i (got j vs) → EnumValuesAt T i j vs
  values_stand n i j vs r =
      let p = parts (Takes N (the_mark open_brace)) (λ s. ReadsValueList N n) i j vs r in
      enum_values (mark_stands N T seen open_brace i p.at p.first p.reads).1
      (items_stand N T seen (is_mark close_brace) next (λ k. ReadsNew N 1024 k value_name) (EnumValueAt T) (λ l. Unit {0}) (λ k b e l h. (value_stands b e l (new_reads 1024 k value_name b e l h), tt)) false n p.at j vs p.rest).0

  arguments_stand : (n i j : ℕ) (ds : List Declared) → ReadsArguments N n i (got j ds) → ArgumentsAt T i j ds × AllOf DeclaredWithin ds
  arguments_stand n i j ds r = by_token (is_mark open_paren) (λ s. ReadsFieldList N (is_mark close_paren) 256 n) (Gives []) i j ds r
      (λ s e x t q h. let f = field_list_stands (is_mark close_paren) 256 n e j ds h in (some_arguments (mark_at open_paren i s e x t q) f.0, f.1))
      (λ h. subst (λ k. ArgumentsAt T i k ds × AllOf DeclaredWithin ds) (got_at h) (subst (λ x. ArgumentsAt T i i x × AllOf DeclaredWithin x) (got_is h) (no_arguments, tt)))

  -- DIRECTIVES

  repeatable_stands : (i j : ℕ) (r : Bool) → ReadsRepeatable N i (got j r) → RepeatableAt T i j r
  repeatable_stands i j r h = by_token (is_word (codes "repeatable")) (λ s. Gives true) (Gives false) i j r h
      (λ s e x t q g. subst (λ k. RepeatableAt T i k r) (got_at g) (subst (RepeatableAt T i e) (got_is g) (is_repeatable (subst (T i s e) (word_is (codes "repeatable") x q) t))))
      (λ g. subst (λ k. RepeatableAt T i k r) (got_at g) (subst (RepeatableAt T i i) (got_is g) not_repeatable))

  location_stands : (i j : ℕ) (l : Location) → Takes N a_location i (got j l) → LocationAt T i j l
  location_stands i j l (sees s e (a_name w), n, h) = let k = accepted_is s e j (location_called w) l h in subst (λ e. LocationAt T i e l) k.0 (G.a_location (seen i s e (a_name w) n) k.1)
  location_stands i j l (sees s e (a_mark m), n, h) = not_got h
  location_stands i j l (sees s e (a_number k ds), n, h) = not_got h
  location_stands i j l (sees s e (a_string cs), n, h) = not_got h
  location_stands i j l (sees s e the_end, n, h) = not_got h
  location_stands i j l (blind f, n, h) = not_got h

  abbrev LocationsStanding : ℕ → Out (List Location) → Type 0
  LocationsStanding i (got e ls) = LocationsAt T i e ls
  LocationsStanding i (fails f) = Unit {0}

  more_standing : (i j s e : ℕ) (l : Location) (q o : Out (List Location)) → LocationAt T i j l → T j s e (a_mark pipe) → LocationsStanding e q → before l q ≡ o → LocationsStanding i o
  more_standing i j s e l (got k ls) o a t r z = subst (LocationsStanding i) z (more_locations a t r)
  more_standing i j s e l (fails f) o a t r z = subst (LocationsStanding i) z tt

  locations_standing : {i : ℕ} {o : Out (List Location)} → ReadsLocations N i o → LocationsStanding i o
  locations_standing (rs_fails t) = tt
  locations_standing (rs_blind t n) = tt
  locations_standing {i = i} (rs_last {j = j} {l = l} t n h) = last_location (location_stands i j l t)
  locations_standing {i = i} {o = o} (rs_more {j = j} {s = s} {e = e} {l = l} {x = x} {q = q} t n h r z) = more_standing i j s e l q o (location_stands i j l t) (mark_at pipe j s e x (seen j s e x n) h) (locations_standing r) z

  all_locations_stand : (i j : ℕ) (ls : List Location) → ReadsAllLocations N i (got j ls) → AllLocationsAt T i j ls
  all_locations_stand i j ls r = by_token (is_mark pipe) (λ s. ReadsLocations N) (ReadsLocations N) i j ls r (λ s e x t q h. piped_locations (mark_at pipe i s e x t q) (locations_standing h)) (λ h. locations (locations_standing h))

  abbrev Found : ℕ → ℕ → Definition → Type 0
  Found i m d = DefinitionAt T i m d × DefinitionWithin d

  directive_stands : (c : Counts) (i s e m : ℕ) (d : Definition) → T i s e (a_name (codes "directive")) → ReadsDirective N c e (got m d) → Found i m d
  directive_stands c i s e m d t r =
      let a = parts (Takes N (the_mark at_sign)) (λ s. Then (ReadsNew N 64 c.directives any_name) (λ l. Then (ReadsArguments N c.arguments) (λ ds. Then (ReadsManner N) (λ r. Maps (a_directive l ds r) (ReadsAllLocations N))))) e m d r in
      let b = parts (ReadsNew N 64 c.directives any_name) (λ l. Then (ReadsArguments N c.arguments) (λ ds. Then (ReadsManner N) (λ r. Maps (a_directive l ds r) (ReadsAllLocations N)))) a.at m d a.rest in
      let g = parts (ReadsArguments N c.arguments) (λ ds. Then (ReadsManner N) (λ r. Maps (a_directive b.first ds r) (ReadsAllLocations N))) b.at m d b.rest in
      let h = parts (ReadsManner N) (λ r. Maps (a_directive b.first g.first r) (ReadsAllLocations N)) g.at m d g.rest in
      let k = mapped (a_directive b.first g.first h.first) (ReadsAllLocations N) h.at m d h.rest in
      let p = parts (ReadsRepeatable N) (λ r. Maps (λ s. r) (Takes N (the_word (codes "on")))) g.at h.at h.first h.reads in
      let q = mapped (λ s. p.first) (Takes N (the_word (codes "on"))) p.at h.at h.first p.rest in
      let ar = arguments_stand c.arguments b.at g.at g.first g.reads in
      subst (Found i m) k.is (
        directive_at t (mark_stands N T seen at_sign e a.at a.first a.reads).1 (label_stands a.at b.at b.first (new_reads 64 c.directives any_name a.at b.at b.first b.reads)) ar.0
            (subst (RepeatableAt T g.at p.at) q.is (repeatable_stands g.at p.at p.first p.reads)) (word_stands (codes "on") p.at h.at q.value q.reads).1 (all_locations_stand h.at m k.value k.reads),
        (tt, ar.1),
      )

  -- TYPES

  named_type : (c : Counts) (k : Sort) (e m : ℕ) (d : Definition) → ReadsTypeDefinition N c k e (got m d) → (l : Label) × (j : ℕ) × LabelAt T e j l × ReadsContents N c l k j (got m d)
  named_type c k e m d r =
      let p = parts (ReadsNew N 256 c.types any_name) (λ l. ReadsContents N c l k) e m d r in
      (p.first, p.at, label_stands e p.at p.first (new_reads 256 c.types any_name e p.at p.first p.reads), p.rest)

  scalar_stands : (c : Counts) (i s e m : ℕ) (d : Definition) → T i s e (a_name (codes "scalar")) → ReadsTypeDefinition N c s_scalar e (got m d) → Found i m d
  scalar_stands c i s e m d t r = let p = named_type c s_scalar e m d r in subst (λ k. Found i k d) (got_at p.3) (subst (Found i p.1) (got_is p.3) (scalar_at t p.2, (tt, tt)))

  output_stands : (c : Counts) (i s e m : ℕ) (w : Name) (d : Definition) → OutputWord w → T i s e (a_name w) → ReadsTypeDefinition N c s_output e (got m d) → Found i m d
  output_stands c i s e m w d o t r = let p = named_type c s_output e m d r in subst (λ k. Found i k d) (got_at p.3) (subst (Found i p.1) (got_is p.3) (output_at o t p.2, (tt, tt)))

  enum_stands : (c : Counts) (i s e m : ℕ) (d : Definition) → T i s e (a_name (codes "enum")) → ReadsTypeDefinition N c s_enum e (got m d) → Found i m d
  enum_stands c i s e m d t r =
      let p = named_type c s_enum e m d r in
      let q = mapped (an_enum p.0) (ReadsValues N c.values) p.1 m d p.3 in
      subst (Found i m) q.is (enum_at t p.2 (values_stand c.values p.1 m q.value q.reads), (tt, tt))

  input_stands : (c : Counts) (i s e m : ℕ) (d : Definition) → T i s e (a_name (codes "input")) → ReadsTypeDefinition N c s_input e (got m d) → Found i m d
  input_stands c i s e m d t r =
      let p = named_type c s_input e m d r in
      let q = mapped (an_input p.0) (ReadsFields N c.inputs) p.1 m d p.3 in
      let f = fields_stand c.inputs p.1 m q.value q.reads in
      subst (Found i m) q.is (input_at t p.2 f.0, (f.1, tt))

  -- DEFINITIONS

  keyword_stands : (i j : ℕ) (k : Keyword) → Takes N a_keyword i (got j k) → (s : ℕ) × (w : Name) × T i s j (a_name w) × (in_table keywords w ≡ some k)
  keyword_stands i j k (sees s e (a_name w), n, h) = let a = accepted_is s e j (in_table keywords w) k h in (s, w, subst (λ e. T i s e (a_name w)) a.0 (seen i s e (a_name w) n), a.1)
  keyword_stands i j k (sees s e (a_mark m), n, h) = not_got h
  keyword_stands i j k (sees s e (a_number l ds), n, h) = not_got h
  keyword_stands i j k (sees s e (a_string cs), n, h) = not_got h
  keyword_stands i j k (sees s e the_end, n, h) = not_got h
  keyword_stands i j k (blind f, n, h) = not_got h

  definition_stands : (c : Counts) (i m : ℕ) (d : Definition) → ReadsDefinition N c i (got m d) → Found i m d
  definition_stands c i m d r =
      let p = parts (Takes N a_keyword) (ReadsAfter N c) i m d r in
      let k = keyword_stands i p.at p.first p.reads in
      let t = λ (w : Name) (e : w ≡ k.1). subst (λ v. T i k.0 p.at (a_name v)) (sym e) k.2 in
      let a = λ (x : Keyword) (e : x ≡ p.first). subst (λ y. ReadsAfter N c y p.at (got m d)) (sym e) p.rest in
      let rows : Rows (Found i m d) keywords k.1 p.first = (
        λ e f. directive_stands c i k.0 p.at m d (t _ e) (a k_directive f),
        (
          λ e f. scalar_stands c i k.0 p.at m d (t _ e) (a (k_type s_scalar) f),
          (
            λ e f. enum_stands c i k.0 p.at m d (t _ e) (a (k_type s_enum) f),
            (
              λ e f. input_stands c i k.0 p.at m d (t _ e) (a (k_type s_input) f),
              (
                λ e f. output_stands c i k.0 p.at m (codes "type") d type_word (t _ e) (a (k_type s_output) f),
                (
                  λ e f. output_stands c i k.0 p.at m (codes "interface") d interface_word (t _ e) (a (k_type s_output) f),
                  (λ e f. output_stands c i k.0 p.at m (codes "union") d union_word (t _ e) (a (k_type s_output) f), tt),
                ),
              ),
            ),
          ),
        ),
      ) in
      by_rows (Found i m d) keywords k.1 p.first k.3 rows

  pub document_stands : (e : ℕ) (D : Document) → ReadsOn N nothing 0 (got e D) → DocumentAt T e D × AllOf DefinitionWithin D
  document_stands e D r = items_stand N T seen ends counted (ReadsDefinition N) (DefinitionAt T) DefinitionWithin definition_stands true nothing 0 e D r

stands_in : (text : List ℕ) (e : ℕ) (D : Document) → ReadsSchema text (got e D) → DocumentAt (TokenIs Graphql text) e D × AllOf DefinitionWithin D
stands_in text e D (schema_read h r) = document_stands (Sights Graphql text) (TokenIs Graphql text) (λ i s e x n. seen_is n) e D r

pub schema_stands : SchemaStands
schema_stands = record { stands = stands_in }
