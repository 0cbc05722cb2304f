-- What is read of a schema is within the limits of its counts.
use Rattle.std.proofs.Common.{◌≡◌, ℕ, suc, ◌+◌, ◌<◌, ◌≤◌, Bool, true, false, cond, nat_lt, List, [], ◌∷◌, length, refl, ap, ◌∙◌, subst, arith}
use Rattle.std.proofs.Math.Option.{Option}
use Rattle.std.proofs.lemmas.Bool.Decides.{nat_tests}
use Rattle.std.proofs.lemmas.List.{length-append}
use Rattle.text.specs.declared.fault.Fault.{Fault}
use Rattle.text.specs.declared.language.Language.TheVariants.{Graphql}
use Rattle.text.specs.TokenGrammar.{at_sign, open_paren, close_paren, open_brace, close_brace, Lexical}
use Rattle.reader.specs.Tokens.{Sight, sees, blind, Sights}
use Rattle.reader.specs.Reading.{Out, got, fails, is_mark}
use Rattle.schema.specs.Documents.{Label, Declared, Definition, Document, an_enum, an_input, a_directive, type_of, directive_of, types_in, directives_in}
use Rattle.schema.specs.Outcomes.{Then, Gives, Maps, Takes, the_mark, any_name, Chosen, Room, Items, i_shut, i_fails, i_more, before}
use Rattle.schema.specs.Declarations.{ReadsDeclared}
use Rattle.schema.specs.SchemaGrammar.{ends}
use Rattle.schema.specs.SchemaReading.{Counts, Sort, s_scalar, s_enum, s_input, s_output, Keyword, k_type, k_directive, next, nothing, counted, values_of, inputs_of, arguments_of, values_in, inputs_in, arguments_in, value_name, a_keyword, ReadsNew, ReadsValueList, ReadsValues, ReadsField, ReadsFieldList, ReadsFields, ReadsArguments, ReadsManner, ReadsAllLocations, ReadsContents, ReadsAfter, ReadsDefinition, ReadsOn, ReadsSchema, schema_read}
use Rattle.schema.specs.SchemaLaws.{Within, SchemaWithin}
use Rattle.schema.proofs.Entering.{not_got}
use Rattle.schema.proofs.SchemaStanding.{parts, mapped, got_is}

room_of : (b : Bool) (i k : ℕ) (f : Fault) (u : Unit {0}) → cond b (got i tt) (fails f) ≡ got k u → b ≡ true
room_of true i k f u h = refl
room_of false i k f u h = not_got h

below : (n most : ℕ) → nat_lt n most ≡ true → n < most
below n most h = grind (arith, nat_tests)

-- the state after some items
abbrev steps : {S X : Type 0} → (S → X → S) → S → List X → S
steps step s [] = s
steps step s (x ∷ xs) = steps step (step s x) xs

counted_on : {X : Type 0} (n : ℕ) (xs : List X) → steps next n xs ≡ n + length xs
counted_on n [] = omega arith
counted_on n (x ∷ xs) = counted_on (suc n) xs ∙ omega arith

module _ (N : ℕ → Sight → Type 0) where
  new_below : (most n : ℕ) (of : ℕ → Lexical → Option Label) (i j : ℕ) (l : Label) → ReadsNew N most n of i (got j l) → n < most
  new_below most n of i j l h =
      let p = parts (Takes N of) (λ l. Then (Room n most l.place) (λ u. Gives l)) i j l h in
      let r = parts (Room n most p.first.place) (λ u. Gives p.first) p.at j l p.rest in
      below n most (room_of (nat_lt n most) p.at r.at _ r.first r.reads)

  -- what each item keeps, all keep
  module _ {S X : Type 0} (closes : Lexical → Bool) (step : S → X → S) (A : S → ℕ → Out X → Type 0) (F : S → Type 0) (keep : (s : S) (i j : ℕ) (x : X) → A s i (got j x) → F s → F (step s x)) where
    abbrev Kept : S → Out (List X) → Type 0
    Kept s (got e xs) = F (steps step s xs)
    Kept s (fails f) = Unit {0}

    more_kept : (s : S) (x : X) (q o : Out (List X)) → Kept (step s x) q → before x q ≡ o → Kept s o
    more_kept s x (got e xs) o k z = subst (Kept s) z k
    more_kept s x (fails f) o k z = subst (Kept s) z tt

    kept : {may : Bool} {s : S} {i : ℕ} {o : Out (List X)} → Items N closes step A may s i o → F s → Kept s o
    kept (i_shut n h) f = f
    kept (i_fails n h r) f = tt
    kept {s = s} {i = i} {o = o} (i_more {j = j} {x = x} {q = q} n h a r z) f = more_kept s x q o (kept r (keep s i j x a f)) z

    items_kept : (may : Bool) (s : S) (i e : ℕ) (xs : List X) → Items N closes step A may s i (got e xs) → F s → F (steps step s xs)
    items_kept may s i e xs r f = kept r f

  values_room : (n i j : ℕ) (vs : List Label) → ReadsValues N n i (got j vs) → n ≤ 1024 → n + length vs ≤ 1024
  values_room n i j vs r h =
      let p = parts (Takes N (the_mark open_brace)) (λ s. ReadsValueList N n) i j vs r in
      subst (λ k. k ≤ 1024) (counted_on n vs) (items_kept (is_mark close_brace) next (λ k. ReadsNew N 1024 k value_name) (λ k. k ≤ 1024) (λ k b e l a f. new_below 1024 k value_name b e l a) false n p.at j vs p.rest h)

  list_room : (close : Lexical → Bool) (most n i j : ℕ) (ds : List Declared) → ReadsFieldList N close most n i (got j ds) → n ≤ most → n + length ds ≤ most
  list_room close most n i j ds r h =
      subst (λ k. k ≤ most) (counted_on n ds) (items_kept close next (ReadsField N most) (λ k. k ≤ most) (λ k b e d a f. let p = parts (ReadsNew N most k any_name) (ReadsDeclared N) b e d a in new_below most k any_name b p.at p.first p.reads) false n i j ds r h)

  fields_room : (n i j : ℕ) (ds : List Declared) → ReadsFields N n i (got j ds) → n ≤ 1024 → n + length ds ≤ 1024
  fields_room n i j ds r h = let p = parts (Takes N (the_mark open_brace)) (λ s. ReadsFieldList N (is_mark close_brace) 1024 n) i j ds r in list_room (is_mark close_brace) 1024 n p.at j ds p.rest h

  arguments_by : (n i s e j : ℕ) (ds : List Declared) (b : Bool) → Chosen b (ReadsFieldList N (is_mark close_paren) 256 n e (got j ds)) (Gives [] i (got j ds)) → n ≤ 256 → n + length ds ≤ 256
  arguments_by n i s e j ds true r h = list_room (is_mark close_paren) 256 n e j ds r h
  arguments_by n i s e j ds false r h = omega (arith, ap length (got_is r), h)

  arguments_room : (n i j : ℕ) (ds : List Declared) → ReadsArguments N n i (got j ds) → n ≤ 256 → n + length ds ≤ 256
  arguments_room n i j ds (sees s e x, m, r) h = arguments_by n i s e j ds (is_mark open_paren x) r h
  arguments_room n i j ds (blind f, m, r) h = not_got r

  abbrev Fits : Counts → Type 0
  Fits c = (c.types ≤ 256) × (c.values ≤ 1024) × (c.inputs ≤ 1024) × (c.directives ≤ 64) × (c.arguments ≤ 256)

  contents_fit : (c : Counts) (l : Label) (k : Sort) (i m : ℕ) (d : Definition) → c.types < 256 → Fits c → ReadsContents N c l k i (got m d) → Fits (counted c d)
  contents_fit c l s_scalar i m d t f r = subst (λ d. Fits (counted c d)) (got_is r) (omega (arith, t), omega (arith, f.1), omega (arith, f.2), omega (arith, f.3), omega (arith, f.4))
  contents_fit c l s_output i m d t f r = subst (λ d. Fits (counted c d)) (got_is r) (omega (arith, t), omega (arith, f.1), omega (arith, f.2), omega (arith, f.3), omega (arith, f.4))
  contents_fit c l s_enum i m d t f r = let q = mapped (an_enum l) (ReadsValues N c.values) i m d r in subst (λ d. Fits (counted c d)) q.is (omega (arith, t), values_room c.values i m q.value q.reads f.1, omega (arith, f.2), omega (arith, f.3), omega (arith, f.4))
  contents_fit c l s_input i m d t f r = let q = mapped (an_input l) (ReadsFields N c.inputs) i m d r in subst (λ d. Fits (counted c d)) q.is (omega (arith, t), omega (arith, f.1), fields_room c.inputs i m q.value q.reads f.2, omega (arith, f.3), omega (arith, f.4))

  after_fits : (c : Counts) (k : Keyword) (i m : ℕ) (d : Definition) → Fits c → ReadsAfter N c k i (got m d) → Fits (counted c d)
  after_fits c (k_type k) i m d f r = let p = parts (ReadsNew N 256 c.types any_name) (λ l. ReadsContents N c l k) i m d r in contents_fit c p.first k p.at m d (new_below 256 c.types any_name i p.at p.first p.reads) f p.rest
  after_fits c k_directive i m d f r =
      let a = parts (Takes N (the_mark at_sign)) (λ s. Then (ReadsNew N 64 c.directives any_name) (λ l. Then (ReadsArguments N c.arguments) (λ ds. Then (ReadsManner N) (λ r. Maps (a_directive l ds r) (ReadsAllLocations N))))) i m d r in
      let b = parts (ReadsNew N 64 c.directives any_name) (λ l. Then (ReadsArguments N c.arguments) (λ ds. Then (ReadsManner N) (λ r. Maps (a_directive l ds r) (ReadsAllLocations N)))) a.at m d a.rest in
      let g = parts (ReadsArguments N c.arguments) (λ ds. Then (ReadsManner N) (λ r. Maps (a_directive b.first ds r) (ReadsAllLocations N))) b.at m d b.rest in
      let h = parts (ReadsManner N) (λ r. Maps (a_directive b.first g.first r) (ReadsAllLocations N)) g.at m d g.rest in
      let k = mapped (a_directive b.first g.first h.first) (ReadsAllLocations N) h.at m d h.rest in
      let n = new_below 64 c.directives any_name a.at b.at b.first b.reads in
      subst (λ d. Fits (counted c d)) k.is (omega (arith, f.0), omega (arith, f.1), omega (arith, f.2), omega (arith, n), arguments_room c.arguments b.at g.at g.first g.reads f.4)

  pub on_fits : (e : ℕ) (D : Document) → ReadsOn N nothing 0 (got e D) → Fits (steps counted nothing D)
  on_fits e D r = items_kept ends counted (ReadsDefinition N) Fits (λ c i j d a f. let p = parts (Takes N a_keyword) (ReadsAfter N c) i j d a in after_fits c p.first p.at j d f p.rest) true nothing 0 e D r (omega arith, omega arith, omega arith, omega arith, omega arith)

types_total : (c : Counts) (D : Document) → (steps counted c D).types ≡ c.types + length (types_in D)
types_total c [] = omega arith
types_total c (d ∷ D) = types_total (counted c d) D ∙ omega (arith, length-append (type_of d) (types_in D))

values_total : (c : Counts) (D : Document) → (steps counted c D).values ≡ c.values + length (values_in D)
values_total c [] = omega arith
values_total c (d ∷ D) = values_total (counted c d) D ∙ omega (arith, length-append (values_of d) (values_in D))

inputs_total : (c : Counts) (D : Document) → (steps counted c D).inputs ≡ c.inputs + length (inputs_in D)
inputs_total c [] = omega arith
inputs_total c (d ∷ D) = inputs_total (counted c d) D ∙ omega (arith, length-append (inputs_of d) (inputs_in D))

directives_total : (c : Counts) (D : Document) → (steps counted c D).directives ≡ c.directives + length (directives_in D)
directives_total c [] = omega arith
directives_total c (d ∷ D) = directives_total (counted c d) D ∙ omega (arith, length-append (directive_of d) (directives_in D))

arguments_total : (c : Counts) (D : Document) → (steps counted c D).arguments ≡ c.arguments + length (arguments_in D)
arguments_total c [] = omega arith
arguments_total c (d ∷ D) = arguments_total (counted c d) D ∙ omega (arith, length-append (arguments_of d) (arguments_in D))

within_in : (text : List ℕ) (e : ℕ) (D : Document) → ReadsSchema text (got e D) → Within D
within_in text e D (schema_read h r) =
    let f = on_fits (Sights Graphql text) e D r in
    record {
      types = omega (arith, f.0, types_total nothing D);
      values = omega (arith, f.1, values_total nothing D);
      inputs = omega (arith, f.2, inputs_total nothing D);
      directives = omega (arith, f.3, directives_total nothing D);
      arguments = omega (arith, f.4, arguments_total nothing D);
    }

pub schema_within : SchemaWithin
schema_within = record { within = within_in }
