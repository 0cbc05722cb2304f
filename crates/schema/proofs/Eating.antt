-- Tokens that may come.
use Rattle.std.proofs.Common.{◌≡◌, ℕ, Bool, true, false, List, [], ◌∷◌, ◌++◌, Some, None, Option, is_some, refl, ap, subst, arith}
use mathlib.Core.Option.{none, some}
use Rattle.model.specs.Values.{Location}
use Rattle.text.specs.declared.fault.Fault.{Fault}
use Rattle.text.specs.declared.fault.Fault.TheVariants.{BadText}
use Rattle.text.specs.TokenGrammar.{pipe, Lexical, a_mark, a_name, a_number, a_string, the_end}
use Rattle.reader.specs.Tokens.{Sight, sees, blind}
use Rattle.reader.specs.Reading.{Out, got, fails, is_mark}
use Rattle.schema.specs.Documents.{Label}
use Rattle.schema.specs.Outcomes.{Takes, any_name, taken, accepted, Chosen, IfToken, before}
use Rattle.schema.specs.Locations.{location_called}
use Rattle.schema.specs.SchemaReading.{a_location, ReadsLocations, rs_fails, rs_blind, rs_last, rs_more, ReadsAllLocations}
use Rattle.schema.specs.Told.{TokenIfAny}
use Rattle.schema.proofs.Entering.{not_got, not_fails}
use Rattle.schema.proofs.Seeing.{name_seen, eaten_seen, eating_fails, after_eaten, after_left}
use Rattle.schema.proofs.Listing.{prefixed, prefixed_none, prefixed_more}

module _ (N : ℕ → Sight → Type 0) (test : Lexical → Bool) where
  -- something else is there
  pub record Left (i : ℕ) : Type 0 where
    pub start : ℕ
    pub end : ℕ
    pub token : Lexical
    pub seen : N i (sees start end token)
    pub other : test token ≡ false

  left_by : (i s e j : ℕ) (x : Lexical) (b : Bool) → test x ≡ b → N i (sees s e x) → Chosen b (◌≡◌ {A = Out (Option ℕ)} (got e (Some s)) (got j None)) (◌≡◌ {A = Out (Option ℕ)} (got i None) (got j None)) → Left i × (i ≡ j)
  left_by i s e j x true h n c = let z : ◌≡◌ {A = ℕ} 0 1 = cc in absurd (omega arith)
  left_by i s e j x false h n c = let q : i ≡ j = cc in (record { start = s; end = e; token = x; seen = n; other = h }, q)

  pub left : (i j : ℕ) → TokenIfAny N test i (got j None) → Left i × (i ≡ j)
  left i j (sees s e x, n, c) = left_by i s e j x (test x) refl n c
  left i j (blind f, n, c) = not_got c

-- either way the same
pub if_either : {X : Type 0} (N : ℕ → Sight → Type 0) (test : Lexical → Bool) (R : ℕ → Out X → Type 0) (i j : ℕ) (s : Option ℕ) (o : Out X) → TokenIfAny N test i (got j s) → R j o → IfToken N test (λ s. R) R i o
if_either N test R i j (Some s) o h r = after_eaten N test (λ s. R) R o i j s h r
if_either N test R i j None o h r = after_left N test (λ s. R) R o i j h r

-- LOCATIONS

-- a fault is the same of whatever
fault_of : {X : Type 0} {f g : Fault} → ◌≡◌ {A = Out X} (fails f) (fails g) → f ≡ g
fault_of e = cc

pub failed : {X Y : Type 0} {f g : Fault} → ◌≡◌ {A = Out X} (fails f) (fails g) → ◌≡◌ {A = Out Y} (fails f) (fails g)
failed e = ap fails (fault_of e)

no_location : (v : Sight) (f : Fault) → taken any_name v ≡ fails f → taken a_location v ≡ fails f
no_location (sees s c (a_name w)) f h = not_fails h
no_location (sees s c (a_mark m)) f h = failed h
no_location (sees s c (a_number k ds)) f h = failed h
no_location (sees s c (a_string cs)) f h = failed h
no_location (sees s c the_end) f h = failed h
no_location (blind g) f h = failed h

module _ (N : ℕ → Sight → Type 0) where
  pub location_fails : (i : ℕ) (f : Fault) → Takes N any_name i (fails f) → Takes N a_location i (fails f)
  location_fails i f h = (h.0, h.1, no_location h.0 f h.2)

  location_is : (i e : ℕ) (l : Label) (o : Out Location) → Takes N any_name i (got e l) → accepted l.place e (location_called l.name) ≡ o → Takes N a_location i o
  location_is i e l o h z = (sees l.place e (a_name l.name), name_seen N i e l h, z)

  pub location_taken : (i e : ℕ) (l : Label) (k : Location) → Takes N any_name i (got e l) → location_called l.name ≡ some k → Takes N a_location i (got e k)
  location_taken i e l k h r = location_is i e l (got e k) h (ap (accepted l.place e) r)

  pub location_refused : (i e : ℕ) (l : Label) → Takes N any_name i (got e l) → location_called l.name ≡ none → Takes N a_location i (fails (BadText l.place))
  location_refused i e l h r = location_is i e l (fails (BadText l.place)) h (ap (accepted l.place e) r)

  -- the locations ls were read, and what the rest comes to from here, the whole comes to with them
  pub record LocationsSofar (i here : ℕ) (ls : List Location) : Type 0 where
    pub goes : (q : Out (List Location)) → ReadsLocations N here q → ReadsAllLocations N i (prefixed ls q)

  pub locations_start : (i j : ℕ) (s : Option ℕ) → TokenIfAny N (is_mark pipe) i (got j s) → LocationsSofar i j []
  locations_start i j s h = record { goes = λ q r. subst (ReadsAllLocations N i) (prefixed_none q) (if_either N (is_mark pipe) (ReadsLocations N) i j s q h r) }

  module _ {i here : ℕ} {ls : List Location} (a : LocationsSofar i here ls) where
    pub locations_fail : (f : Fault) → Takes N a_location here (fails f) → ReadsAllLocations N i (fails f)
    locations_fail f h = a.goes (fails f) (rs_fails h)

    module _ (j : ℕ) (l : Location) (t : Takes N a_location here (got j l)) where
      pub locations_step : (k s : ℕ) → TokenIfAny N (is_mark pipe) j (got k (Some s)) → LocationsSofar i k (ls ++ l ∷ [])
      locations_step k s h =
          record { goes = λ q r. subst (ReadsAllLocations N i) (prefixed_more ls l q) (a.goes (before l q) (rs_more t (eaten_seen N pipe j k s h) refl r refl)) }

      pub locations_end : (k : ℕ) → TokenIfAny N (is_mark pipe) j (got k None) → ReadsAllLocations N i (got k (ls ++ l ∷ []))
      locations_end k h =
          let c = left N (is_mark pipe) j k h in
          subst (λ e. ReadsAllLocations N i (got e (ls ++ l ∷ []))) c.1 (a.goes (got j (l ∷ [])) (rs_last t c.0.seen c.0.other))

      pub locations_unseen : (f : Fault) → TokenIfAny N (is_mark pipe) j (fails f) → ReadsAllLocations N i (fails f)
      locations_unseen f h = a.goes (fails f) (rs_blind t (eating_fails N pipe j f h))

pub none_of : {X : Type 0} (o : Option X) → is_some o ≡ false → o ≡ None
none_of None h = refl
none_of (Some x) h = let z : ◌≡◌ {A = ℕ} 0 1 = cc in absurd (omega arith)

pub some_of : {X : Type 0} (o : Option X) → is_some o ≡ true → (x : X) × (o ≡ Some x)
some_of None h = let z : ◌≡◌ {A = ℕ} 0 1 = cc in absurd (omega arith)
some_of (Some x) h = (x, refl)
