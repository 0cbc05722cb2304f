-- Reading a schema has one outcome.
use Rattle.std.proofs.Common.{◌≡◌, ℕ, Bool, true, false, codes, List, [], ◌∷◌, sym, refl, ap, ◌∙◌, subst, arith}
use Rattle.model.specs.Values.{Location}
use Rattle.text.specs.declared.language.Language.TheVariants.{Graphql}
use Rattle.text.specs.declared.number.NumberKind.{NumberKind}
use Rattle.text.specs.NumberGrammar.{Number}
use Rattle.text.specs.TokenGrammar.{at_sign, open_paren, close_paren, open_brace, close_brace, pipe, Lexical, a_number}
use Rattle.reader.specs.Tokens.{Sight, sees, blind, Sights}
use Rattle.reader.specs.Reading.{Out, got, fails, is_mark}
use Rattle.reader.proofs.RdSights.{one_sight, sights_number}
use Rattle.schema.specs.Documents.{Label, Document, a_scalar, an_enum, an_input, an_output, a_directive}
use Rattle.schema.specs.Outcomes.{Then, Gives, Maps, Takes, the_mark, any_name, Room, before}
use Rattle.schema.specs.Declarations.{ReadsDeclared}
use Rattle.schema.specs.SchemaGrammar.{ends}
use Rattle.schema.specs.SchemaLaws.{OneSchema}
use Rattle.schema.specs.SchemaReading.{Counts, Sort, s_scalar, s_enum, s_input, s_output, Keyword, k_type, k_directive, next, nothing, counted, value_name, is_word, the_word, a_location, a_keyword, ReadsNew, ReadsValueList, ReadsValues, ReadsField, ReadsFieldList, ReadsFields, ReadsArguments, ReadsRepeatable, ReadsManner, ReadsLocations, rs_fails, rs_blind, rs_last, rs_more, ReadsAllLocations, ReadsDirective, ReadsContents, ReadsAfter, ReadsDefinition, ReadsOn, ReadsSchema, schema_long, schema_read}
use Rattle.schema.proofs.OperationLaws.{once_declared}
use Rattle.schema.proofs.Readings.{One, once_then, once_gives, once_maps, once_room, once_takes, once_if, once_items}

module _ (N : ℕ → Sight → Type 0) (one : (i : ℕ) (v w : Sight) → N i v → N i w → v ≡ w) (num : (i s e : ℕ) (k : NumberKind) (ds : List ℕ) → N i (sees s e (a_number k ds)) → Number ds k) where
  once_new : (most n : ℕ) (of : ℕ → Lexical → mathlib.Core.Option.Option Label) → One (ReadsNew N most n of)
  once_new most n of = once_then (Takes N of) (λ l. Then (Room n most l.place) (λ u. Gives l)) (once_takes N one of) (λ l. once_then (Room n most l.place) (λ u. Gives l) (once_room n most l.place) (λ u. once_gives l))

  once_values : (n : ℕ) → One (ReadsValues N n)
  once_values n = once_then (Takes N (the_mark open_brace)) (λ s. ReadsValueList N n) (once_takes N one (the_mark open_brace)) (λ s. once_items N one (is_mark close_brace) next (λ k. ReadsNew N 1024 k value_name) (λ k. once_new 1024 k value_name) false n)

  once_field : (most n : ℕ) → One (ReadsField N most n)
  once_field most n = once_then (ReadsNew N most n any_name) (ReadsDeclared N) (once_new most n any_name) (once_declared N one num)

  once_field_list : (close : Lexical → Bool) (most n : ℕ) → One (ReadsFieldList N close most n)
  once_field_list close most n = once_items N one close next (ReadsField N most) (once_field most) false n

  once_fields : (n : ℕ) → One (ReadsFields N n)
  once_fields n = once_then (Takes N (the_mark open_brace)) (λ s. ReadsFieldList N (is_mark close_brace) 1024 n) (once_takes N one (the_mark open_brace)) (λ s. once_field_list (is_mark close_brace) 1024 n)

  once_arguments : (n : ℕ) → One (ReadsArguments N n)
  once_arguments n = once_if N one (is_mark open_paren) (λ s. ReadsFieldList N (is_mark close_paren) 256 n) (Gives []) (λ s. once_field_list (is_mark close_paren) 256 n) (once_gives [])

  once_manner : One (ReadsManner N)
  once_manner = once_then (ReadsRepeatable N) (λ r. Maps (λ s. r) (Takes N (the_word (codes "on"))))
      (once_if N one (is_word (codes "repeatable")) (λ s. Gives true) (Gives false) (λ s. once_gives true) (once_gives false))
      (λ r. once_maps (λ s. r) (Takes N (the_word (codes "on"))) (once_takes N one (the_word (codes "on"))))

  -- what an outcome is, by what is seen after a location
  abbrev Follows : Out (List Location) → ℕ → Location → Sight → Bool → Type 0
  Follows p j l (sees s e x) true = (q : Out (List Location)) × ReadsLocations N e q × (before l q ≡ p)
  Follows p j l (sees s e x) false = got j (l ∷ []) ≡ p
  Follows p j l (blind f) b = fails f ≡ p

  abbrev piped : Sight → Bool
  piped (sees s e x) = is_mark pipe x
  piped (blind f) = false

  abbrev LocationView : Out (List Location) → Out Location → Type 0
  LocationView p (got j l) = (v : Sight) × N j v × Follows p j l v (piped v)
  LocationView p (fails f) = fails f ≡ p

  location_view : {i : ℕ} {p : Out (List Location)} → ReadsLocations N i p → (o : Out Location) × Takes N a_location i o × LocationView p o
  location_view (rs_fails {f = f} t) = (fails f, t, refl)
  location_view (rs_blind {j = j} {l = l} {f = f} t n) = (got j l, t, (blind f, n, refl))
  location_view {p = p} (rs_last {j = j} {s = s} {e = e} {l = l} {x = x} t n h) = (got j l, t, (sees s e x, n, subst (Follows p j l (sees s e x)) (sym h) refl))
  location_view {p = p} (rs_more {j = j} {s = s} {e = e} {l = l} {x = x} {q = q} t n h r z) = (got j l, t, (sees s e x, n, subst (Follows p j l (sees s e x)) (sym h) (q, r, z)))

  -- after that location, and what is seen there
  seen_after : {i j : ℕ} {l : Location} {p : Out (List Location)} → Takes N a_location i (got j l) → (v : Sight) → N j v → ReadsLocations N i p → Follows p j l v (piped v)
  seen_after {i} {j} {l} {p} t v n q =
      let w = location_view q in
      let u : LocationView p (got j l) = subst (LocationView p) (sym (once_takes N one a_location i (got j l) w.0 t w.1)) w.2 in
      subst (λ x. Follows p j l x (piped x)) (sym (one j v u.0 n u.1)) u.2

  same_locations : {i : ℕ} {o p : Out (List Location)} → ReadsLocations N i o → ReadsLocations N i p → o ≡ p
  same_locations {i} {p = p} (rs_fails {f = f} t) q = let w = location_view q in subst (LocationView p) (sym (once_takes N one a_location i (fails f) w.0 t w.1)) w.2
  same_locations (rs_blind {f = f} t n) q = seen_after t (blind f) n q
  same_locations {p = p} (rs_last {j = j} {s = s} {e = e} {l = l} {x = x} t n h) q = subst (Follows p j l (sees s e x)) h (seen_after t (sees s e x) n q)
  same_locations {p = p} (rs_more {j = j} {s = s} {e = e} {l = l} {x = x} t n h r z) q =
      let u = subst (Follows p j l (sees s e x)) h (seen_after t (sees s e x) n q) in
      sym z ∙ ap (before l) (same_locations r u.1) ∙ u.2

  once_locations : One (ReadsAllLocations N)
  once_locations = once_if N one (is_mark pipe) (λ s. ReadsLocations N) (ReadsLocations N) (λ s i o p h g. same_locations h g) (λ i o p h g. same_locations h g)

  once_directive : (c : Counts) → One (ReadsDirective N c)
  once_directive c =
      once_then (Takes N (the_mark at_sign)) (λ s. Then (ReadsNew N 64 c.directives any_name) (λ l. Then (ReadsArguments N c.arguments) (λ ds. Then (ReadsManner N) (λ r. Maps (a_directive l ds r) (ReadsAllLocations N))))) (once_takes N one (the_mark at_sign))
      (λ s. once_then (ReadsNew N 64 c.directives any_name) (λ l. Then (ReadsArguments N c.arguments) (λ ds. Then (ReadsManner N) (λ r. Maps (a_directive l ds r) (ReadsAllLocations N)))) (once_new 64 c.directives any_name)
      (λ l. once_then (ReadsArguments N c.arguments) (λ ds. Then (ReadsManner N) (λ r. Maps (a_directive l ds r) (ReadsAllLocations N))) (once_arguments c.arguments)
      (λ ds. once_then (ReadsManner N) (λ r. Maps (a_directive l ds r) (ReadsAllLocations N)) once_manner
      (λ r. once_maps (a_directive l ds r) (ReadsAllLocations N) once_locations))))

  once_contents : (c : Counts) (l : Label) (k : Sort) → One (ReadsContents N c l k)
  once_contents c l s_scalar = once_gives (a_scalar l)
  once_contents c l s_enum = once_maps (an_enum l) (ReadsValues N c.values) (once_values c.values)
  once_contents c l s_input = once_maps (an_input l) (ReadsFields N c.inputs) (once_fields c.inputs)
  once_contents c l s_output = once_gives (an_output l)

  once_after : (c : Counts) (k : Keyword) → One (ReadsAfter N c k)
  once_after c (k_type k) = once_then (ReadsNew N 256 c.types any_name) (λ l. ReadsContents N c l k) (once_new 256 c.types any_name) (λ l. once_contents c l k)
  once_after c k_directive = once_directive c

  pub once_on : (c : Counts) → One (ReadsOn N c)
  once_on c = once_items N one ends counted (ReadsDefinition N) (λ b. once_then (Takes N a_keyword) (ReadsAfter N b) (once_takes N one a_keyword) (once_after b)) true c

same_outcome : (text : List ℕ) (o p : Out Document) → ReadsSchema text o → ReadsSchema text p → o ≡ p
same_outcome text o p (schema_long h) (schema_long g) = refl
same_outcome text o p (schema_long h) (schema_read g r) = absurd (omega (arith, h, g))
same_outcome text o p (schema_read h q) (schema_long g) = absurd (omega (arith, h, g))
same_outcome text o p (schema_read h q) (schema_read g r) = once_on (Sights Graphql text) (one_sight Graphql text) (sights_number Graphql text) nothing 0 o p q r

pub one_schema : OneSchema
one_schema = record { outcome = same_outcome }
