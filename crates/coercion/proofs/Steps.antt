-- From one state of a walk to the next.
use Rattle.std.proofs.Common.{◌≡◌, ℕ, zero, suc, ◌+◌, ◌-◌, ◌≤◌, ◌<◌, Bool, true, false, cond, leb, List, [], ◌∷◌, ◌++◌, length, take, drop, refl, sym, ap, ◌∙◌, subst, append_assoc, append-nil, length-append, arith}
use Rattle.std.proofs.lemmas.Bool.{le-leb, lt-leb}
use mathlib.Core.Option.{Option, none, some}
use Rattle.model.specs.Values.{Name, Form, Scalar, Raw, Raws, Mems, null, scalar, variable, list, object, nil, cons, end, mem, place_of, Ty, named, list_of, nullable, Field, Def, int_d, float_d, string_d, boolean_d, id_d, enum_d, input_d, custom_d, output_d, Schema, find, Plain, field_names, Rec, Recs, Rmems, r_nil, r_cons, r_end, r_mem}
use Rattle.model.specs.Records.{le32, framed, encode, encode_all, encode_mems, size}
use Rattle.model.specs.Refusals.{Cause, too_deep, no_space, missing_field, scalar_refused, Out, ok, refused, beyond, and_then, Here, refuse, in_field}
use Rattle.model.specs.Scalars.{scalar_at}
use Rattle.model.specs.Coercion.{Rule, first_undeclared, member}
use Rattle.model.specs.Walk.{opening}
use Rattle.model.proofs.ByteLaws.{size-is_length}
use Rattle.record.specs.Records.{patched}
use Rattle.coercion.specs.Levels.{Setting, Rest, items, kept, members, fields, Level, Coming, join, join_mems, lead_of, lead_bytes, called, ask, rest_at, record_at, with_one, after, resume, coming_at, Opens, whole, holds, fails, opens_kept, opens_plain, opens_declared, opens_scalar, opens_list, opens_object, opens_null, opens, opened_at, Follows, nothing, next, missing, too_far, follows_default, follows_field, follows_fields, follows, taken_in, followed_at, begun, written_at, Starts}
use Rattle.coercion.specs.States.{Opened, opened_size, Takes, Chained, Going, Turned, Pending, delivered, Passed, level_of, going_on}
use Rattle.coercion.proofs.Opened.{then_ok, then_same, value_opened}
use Rattle.coercion.proofs.Followed.{rest_follows}

-- BYTES

lead_length : (n : Option Name) → length (lead_bytes n) ≡ lead_of n
lead_length none = refl
lead_length (some n) = omega arith

record_length : (n : Option Name) (r : Rec) → length (lead_bytes n ++ encode r) ≡ lead_of n + size r
record_length n r = omega (arith, length-append (lead_bytes n) (encode r), lead_length n, size-is_length.0 r)

one_more : (rs : Recs) (r : Rec) → encode_all (join rs (r_cons r r_nil)) ≡ encode_all rs ++ encode r
one_more r_nil r = append-nil (encode r)
one_more (r_cons q rs) r = ap (λ l. encode q ++ l) (one_more rs r) ∙ sym (append_assoc (encode q) (encode_all rs) (encode r))

member_more : (rs : Rmems) (n : Name) (r : Rec) → encode_mems (join_mems rs (r_mem n r r_end)) ≡ encode_mems rs ++ (framed 8 n ++ encode r)
member_more r_end n r = ap (λ l. framed 8 n ++ l) (append-nil (encode r))
member_more (r_mem m q rs) n r =
    ap (λ l. framed 8 m ++ (encode q ++ l)) (member_more rs n r)
    ∙ ap (λ l. framed 8 m ++ l) (sym (append_assoc (encode q) (encode_mems rs) (framed 8 n ++ encode r)))
    ∙ sym (append_assoc (framed 8 m) (encode q ++ encode_mems rs) (framed 8 n ++ encode r))

begun_more : (n : Option Name) (r : Rec) (x : Rest) → Takes n x → begun (with_one (called n) r x) ≡ begun x ++ (lead_bytes n ++ encode r)
begun_more none r (items rs t xs) h = ap (λ l. le32 0 ++ (6 ∷ 0 ∷ l)) (one_more rs r)
begun_more none r (kept rs xs) h = ap (λ l. le32 0 ++ (6 ∷ 0 ∷ l)) (one_more rs r)
begun_more none r (members rs ms) h = absurd h
begun_more none r (fields rs ms fs) h = absurd h
begun_more (some n) r (items rs t xs) h = absurd h
begun_more (some n) r (kept rs xs) h = absurd h
begun_more (some n) r (members rs ms) h = ap (λ l. le32 0 ++ (7 ∷ 0 ∷ l)) (member_more rs n r)
begun_more (some n) r (fields rs ms fs) h = ap (λ l. le32 0 ++ (7 ∷ 0 ∷ l)) (member_more rs n r)

-- THE RULE

passed_ask : (R : Rule) (h : Here) (at : ℕ) (a : Option Name) (r : Rec) → Passed R a r → ask R h at a r ≡ ok r
passed_ask R h at none r p = refl
passed_ask R h at (some n) r p = ap (λ b. cond b (ok r) (refuse h scalar_refused at)) p

refused_ask : (R : Rule) (h : Here) (at : ℕ) (n : Name) (r : Rec) → R n (encode r) ≡ false → ask R h at (some n) r ≡ refuse h scalar_refused at
refused_ask R h at n r p = ap (λ b. cond b (ok r) (refuse h scalar_refused at)) p

-- THE TESTS OF DEPTH AND ROOM

module _ (h : Here) (at cap depth used n : ℕ) where
  open_fits : depth ≤ 32 → used + n ≤ cap → opening h at cap depth used n ≡ ok tt
  open_fits d s = ap (λ b. cond b (cond (leb (used + n) cap) (ok tt) (refuse h no_space at)) (refuse h too_deep at)) (le-leb depth 32 d) ∙ ap (λ b. cond b (ok tt) (refuse h no_space at)) (le-leb (used + n) cap s)

  open_full : depth ≤ 32 → cap < used + n → opening h at cap depth used n ≡ refuse h no_space at
  open_full d s = ap (λ b. cond b (cond (leb (used + n) cap) (ok tt) (refuse h no_space at)) (refuse h too_deep at)) (le-leb depth 32 d) ∙ ap (λ b. cond b (ok tt) (refuse h no_space at)) (lt-leb (used + n) cap s)

  open_deep : 32 < depth → opening h at cap depth used n ≡ refuse h too_deep at
  open_deep d = ap (λ b. cond b (cond (leb (used + n) cap) (ok tt) (refuse h no_space at)) (refuse h too_deep at)) (lt-leb depth 32 d)

-- only what has taken in nothing is opened
abbrev pub Fresh : Opens → Type 0
Fresh (whole r a) = Unit {0}
Fresh (holds x a) = length (begun x) ≡ 6
Fresh (fails c at) = Unit {0}

fresh_kept : (a : Option Name) (x : Raw) → Fresh (opens_kept a x)
fresh_kept a (null at) = tt
fresh_kept a (scalar at s) = tt
fresh_kept a (variable at n) = tt
fresh_kept a (list at xs) = refl
fresh_kept a (object at ms) = refl

fresh_plain : (at : ℕ) (o : Option Plain) → Fresh (opens_plain at o)
fresh_plain at none = tt
fresh_plain at (some x) = tt

fresh_declared : (ms : Mems) (fs : List Field) (o : Option ℕ) → Fresh (opens_declared ms fs o)
fresh_declared ms fs none = refl
fresh_declared ms fs (some at) = tt

fresh_scalar : (p : Form) (at : ℕ) (s : Scalar) (n : Name) (D : Def) → Fresh (opens_scalar p at s n D)
fresh_scalar p at s n int_d = fresh_plain at (scalar_at p int_d s)
fresh_scalar p at s n float_d = fresh_plain at (scalar_at p float_d s)
fresh_scalar p at s n string_d = fresh_plain at (scalar_at p string_d s)
fresh_scalar p at s n boolean_d = fresh_plain at (scalar_at p boolean_d s)
fresh_scalar p at s n id_d = fresh_plain at (scalar_at p id_d s)
fresh_scalar p at s n (enum_d ns) = fresh_plain at (scalar_at p (enum_d ns) s)
fresh_scalar p at s n (input_d fs) = tt
fresh_scalar p at s n custom_d = tt
fresh_scalar p at s n output_d = tt

fresh_list : (at : ℕ) (xs : Raws) (n : Name) (D : Def) → Fresh (opens_list at xs n D)
fresh_list at xs n int_d = tt
fresh_list at xs n float_d = tt
fresh_list at xs n string_d = tt
fresh_list at xs n boolean_d = tt
fresh_list at xs n id_d = tt
fresh_list at xs n (enum_d ns) = tt
fresh_list at xs n (input_d fs) = tt
fresh_list at xs n custom_d = refl
fresh_list at xs n output_d = tt

fresh_object : (at : ℕ) (ms : Mems) (n : Name) (D : Def) → Fresh (opens_object at ms n D)
fresh_object at ms n int_d = tt
fresh_object at ms n float_d = tt
fresh_object at ms n string_d = tt
fresh_object at ms n boolean_d = tt
fresh_object at ms n id_d = tt
fresh_object at ms n (enum_d ns) = tt
fresh_object at ms n (input_d fs) = fresh_declared ms fs (first_undeclared (field_names fs) ms)
fresh_object at ms n custom_d = refl
fresh_object at ms n output_d = tt

fresh_null : (at : ℕ) (b : Bool) → Fresh (opens_null at b)
fresh_null at true = tt
fresh_null at false = tt

fresh : (S : Schema) (p : Form) (x : Raw) (t : Option Ty) → Fresh (opens S p x t)
fresh S p x none = fresh_kept none x
fresh S p (null at) (some t) = fresh_null at (nullable t)
fresh S p (scalar at s) (some (named b n)) = fresh_scalar p at s n (find S n)
fresh S p (scalar at s) (some (list_of b t)) = refl
fresh S p (variable at n) (some t) = tt
fresh S p (list at xs) (some (named b n)) = fresh_list at xs n (find S n)
fresh S p (list at xs) (some (list_of b t)) = refl
fresh S p (object at ms) (some (named b n)) = fresh_object at ms n (find S n)
fresh S p (object at ms) (some (list_of b t)) = refl

plus_plus : (a b c : ℕ) → a + b + c ≡ a + (b + c)
plus_plus a b c = omega arith

-- what follows leaves what is in a record, and the record takes it
abbrev Goes : Rest → Follows → Type 0
Goes x nothing = Unit {0}
Goes x (next c y) = (begun y ≡ begun x) × Takes c.name y
Goes x (missing n) = Unit {0}
Goes x too_far = Unit {0}

default_goes : (k : ℕ) (h : Here) (rs : Rmems) (ms : Mems) (fs : List Field) (f : Field) (x : Raw) (gs : List Field) → Goes (fields rs ms gs) (follows_default k h rs ms fs f x)
default_goes zero h rs ms fs f x gs = tt
default_goes (suc k) h rs ms fs f x gs = (refl, tt)

goes_cond : (x : Rest) (b : Bool) (o : Follows) (n : Name) → Goes x o → Goes x (cond b o (missing n))
goes_cond x true o n g = g
goes_cond x false o n g = tt

field_goes : (k : ℕ) (p : Form) (h : Here) (rs : Rmems) (ms : Mems) (fs : List Field) (f : Field) (m d : Option Raw) (o : Follows) (gs : List Field) → Goes (fields rs ms gs) o → Goes (fields rs ms gs) (follows_field k p h rs ms fs f m d o)
field_goes k p h rs ms fs f (some x) d o gs g = (refl, tt)
field_goes k p h rs ms fs f none (some x) o gs g = default_goes k h rs ms fs f x gs
field_goes k p h rs ms fs f none none o gs g = goes_cond (fields rs ms gs) (nullable f.ty) o f.name g

fields_go : (k : ℕ) (p : Form) (h : Here) (rs : Rmems) (ms : Mems) (fs gs : List Field) → Goes (fields rs ms gs) (follows_fields k p h rs ms fs)
fields_go k p h rs ms [] gs = tt
fields_go k p h rs ms (f ∷ fs) gs = field_goes k p h rs ms fs f (member ms f.name) f.dflt (follows_fields k p h rs ms fs) gs (fields_go k p h rs ms fs gs)

follows_goes : (k : ℕ) (p : Form) (h : Here) (x : Rest) → Goes x (follows k p h x)
follows_goes k p h (items rs t nil) = tt
follows_goes k p h (items rs t (cons x xs)) = (refl, tt)
follows_goes k p h (kept rs nil) = tt
follows_goes k p h (kept rs (cons x xs)) = (refl, tt)
follows_goes k p h (members rs end) = tt
follows_goes k p h (members rs (mem n x ms)) = (refl, tt)
follows_goes k p h (fields rs ms fs) = fields_go k p h rs ms fs fs

pull : {X Y Z V : Type 0} (o : Out X) (f : X → Out Y) (g : Y → Out Z) (h : Z → Out V) → and_then (and_then (and_then o f) g) h ≡ and_then o (λ x. and_then (and_then (f x) g) h)
pull (ok x) f g h = refl
pull (refused r) f g h = refl
pull beyond f g h = refl

-- THE SIZE OF A RECORD THAT IS WHOLE

take_to : (a x : List ℕ) → take (length a) (a ++ x) ≡ a
take_to [] x = refl
take_to (y ∷ a) x = ap (λ l. y ∷ l) (take_to a x)

none_more : (k : ℕ) → 0 + k ≡ k
none_more k = omega arith

one_past : (a k : ℕ) → suc a + k ≡ suc (a + k)
one_past a k = omega arith

drop_past : (a x : List ℕ) (k : ℕ) → drop (length a + k) (a ++ x) ≡ drop k x
drop_past [] x k = ap (λ n. drop n x) (none_more k)
drop_past (y ∷ a) x k = ap (λ n. drop n (y ∷ (a ++ x))) (one_past (length a) k) ∙ drop_past a x k

sized : (a body : List ℕ) (k n : ℕ) → n ≡ length a → patched n (a ++ (le32 0 ++ (k ∷ 0 ∷ body))) ≡ a ++ framed k body
sized a body k n e =
    let x : List ℕ = le32 0 ++ (k ∷ 0 ∷ body) in
    let l : length (a ++ x) - (n + 6) ≡ length body = omega (arith, length-append a x, e) in
    ap (λ m. take m (a ++ x) ++ (le32 (length (a ++ x) - (n + 6)) ++ drop (n + 4) (a ++ x))) e
    ∙ ap (λ t. t ++ (le32 (length (a ++ x) - (n + 6)) ++ drop (n + 4) (a ++ x))) (take_to a x)
    ∙ ap (λ z. a ++ (le32 z ++ drop (n + 4) (a ++ x))) l
    ∙ ap (λ z. a ++ (le32 (length body) ++ drop (z + 4) (a ++ x))) e
    ∙ ap (λ z. a ++ (le32 (length body) ++ z)) (drop_past a x 4)

whole_record : (a : List ℕ) (n : ℕ) (x : Rest) → n ≡ length a → patched n (a ++ begun x) ≡ a ++ encode (taken_in x)
whole_record a n (items rs t xs) e = sized a (encode_all rs) 6 n e
whole_record a n (kept rs xs) e = sized a (encode_all rs) 6 n e
whole_record a n (members rs ms) e = sized a (encode_mems rs) 7 n e
whole_record a n (fields rs ms fs) e = sized a (encode_mems rs) 7 n e

-- FROM STATE TO STATE

module _ (W : Setting) (base : List ℕ) (name : Option Name) (answer : Out Rec) where
  -- a record is whole
  deliver : (n : Option Name) (r : Rec) (ms : List Level) (out : List ℕ) → out ≡ written_at base ms ++ (lead_bytes n ++ encode r) → Starts base ms → Chained name n ms
      → after W n ms r (length out) ≡ answer → Turned W base name answer (delivered n r ms) out
  deliver n r [] out b s c e = record { answer = r; result = sym e; bytes = b ∙ ap (λ k. base ++ (lead_bytes k ++ encode r)) c }
  deliver n r (m ∷ ms) out b s c e = record {
    result = e;
    bytes = b
        ∙ append_assoc (written_at base ms) (lead_bytes m.name ++ begun m.rest) (lead_bytes n ++ encode r)
        ∙ ap (λ l. written_at base ms ++ l) (append_assoc (lead_bytes m.name) (begun m.rest) (lead_bytes n ++ encode r) ∙ ap (λ l. lead_bytes m.name ++ l) (sym (begun_more n r m.rest c.0)));
    starts = s;
    chained = c.1;
  }

  module _ (c : Coming) (ms : List Level) (out : List ℕ) (P : Pending W base name answer c ms out) where
    -- what the pending value comes to, by its opening
    abbrev then_after : Out Rec → Out Rec
    then_after o = and_then o (λ r. after W c.name ms r (length out + (lead_of c.name + size r)))

    comes : (o : Opens) → opens W.schema c.form c.raw c.ty ≡ o → then_after (opened_at W c.bound c.form c.here (place_of c.raw) (suc (length ms)) (length out) (lead_of c.name) o) ≡ answer
    comes o e = ap (λ q. then_after (opened_at W c.bound c.form c.here (place_of c.raw) (suc (length ms)) (length out) (lead_of c.name) q)) (sym e)
        ∙ ap then_after (sym (value_opened W c.bound c.form c.here c.raw c.ty (suc (length ms)) (length out) (lead_of c.name))) ∙ P.result

    -- its tests refuse it
    pub failed : (u : Cause) (at : ℕ) → opens W.schema c.form c.raw c.ty ≡ fails u at → answer ≡ refuse c.here u at
    failed u at e = sym (comes (fails u at) e)

    -- it is too deep, or there is no room for it
    pub deep : (o : Opens) → opens W.schema c.form c.raw c.ty ≡ o → Opened o → 32 ≤ length ms → answer ≡ refuse c.here too_deep (place_of c.raw)
    deep (whole r a) e n d = sym (comes (whole r a) e) ∙ ap (λ o. then_after (and_then (and_then o (λ u. ok r)) (λ q. ask W.rule c.here (place_of c.raw) a q))) (open_deep c.here (place_of c.raw) W.cap (suc (length ms)) (length out) (lead_of c.name + size r) (omega arith))
    deep (holds x a) e n d = sym (comes (holds x a) e) ∙ ap (λ o. then_after (and_then o (λ u. and_then (rest_at W c.bound c.form c.here (place_of c.raw) (suc (suc (length ms))) (length out + (lead_of c.name + 6)) x) (λ q. ask W.rule c.here (place_of c.raw) a q)))) (open_deep c.here (place_of c.raw) W.cap (suc (length ms)) (length out) (lead_of c.name + 6) (omega arith))
    deep (fails u at) e n d = absurd n

    pub full : (o : Opens) → opens W.schema c.form c.raw c.ty ≡ o → Opened o → length ms < 32 → W.cap < length out + (lead_of c.name + opened_size o) → answer ≡ refuse c.here no_space (place_of c.raw)
    full (whole r a) e n d f = sym (comes (whole r a) e) ∙ ap (λ o. then_after (and_then (and_then o (λ u. ok r)) (λ q. ask W.rule c.here (place_of c.raw) a q))) (open_full c.here (place_of c.raw) W.cap (suc (length ms)) (length out) (lead_of c.name + size r) (omega arith) f)
    full (holds x a) e n d f = sym (comes (holds x a) e) ∙ ap (λ o. then_after (and_then o (λ u. and_then (rest_at W c.bound c.form c.here (place_of c.raw) (suc (suc (length ms))) (length out + (lead_of c.name + 6)) x) (λ q. ask W.rule c.here (place_of c.raw) a q)))) (open_full c.here (place_of c.raw) W.cap (suc (length ms)) (length out) (lead_of c.name + 6) (omega arith) f)
    full (fails u at) e n d f = absurd n

    -- a record that holds no other is opened, and the rule is asked
    leaf_asked : (r : Rec) (a : Option Name) → opens W.schema c.form c.raw c.ty ≡ whole r a → length ms < 32 → length out + (lead_of c.name + size r) ≤ W.cap → then_after (ask W.rule c.here (place_of c.raw) a r) ≡ answer
    leaf_asked r a e d f =
        sym (ap (λ o. then_after (and_then (and_then o (λ u. ok r)) (λ q. ask W.rule c.here (place_of c.raw) a q))) (open_fits c.here (place_of c.raw) W.cap (suc (length ms)) (length out) (lead_of c.name + size r) (omega arith) f))
        ∙ comes (whole r a) e

    pub leaf_refused : (r : Rec) (n : Name) → opens W.schema c.form c.raw c.ty ≡ whole r (some n) → length ms < 32 → length out + (lead_of c.name + size r) ≤ W.cap
        → W.rule n (encode r) ≡ false → answer ≡ refuse c.here scalar_refused (place_of c.raw)
    leaf_refused r n e d f g = sym (leaf_asked r (some n) e d f) ∙ ap then_after (refused_ask W.rule c.here (place_of c.raw) n r g)

    pub leaf_written : (r : Rec) (a : Option Name) → opens W.schema c.form c.raw c.ty ≡ whole r a → length ms < 32 → length out + (lead_of c.name + size r) ≤ W.cap
        → Passed W.rule a r → Turned W base name answer (delivered c.name r ms) (out ++ (lead_bytes c.name ++ encode r))
    leaf_written r a e d f g = deliver c.name r ms (out ++ (lead_bytes c.name ++ encode r)) (ap (λ l. l ++ (lead_bytes c.name ++ encode r)) P.bytes) P.starts P.chained
        (ap (λ u. after W c.name ms r u) (length-append out (lead_bytes c.name ++ encode r) ∙ ap (λ u. length out + u) (record_length c.name r))
        ∙ sym (ap then_after (passed_ask W.rule c.here (place_of c.raw) a r g)) ∙ leaf_asked r a e d f)

    -- a record that takes in others is opened
    pub opened : (x : Rest) (a : Option Name) → opens W.schema c.form c.raw c.ty ≡ holds x a → length ms < 32 → length out + (lead_of c.name + 6) ≤ W.cap
        → Going W base name answer (level_of c (length out) a x) ms (out ++ (lead_bytes c.name ++ begun x))
    opened x a e d f =
        let g : length (begun x) ≡ 6 = subst Fresh e (fresh W.schema c.form c.raw c.ty) in
        let l : length (out ++ (lead_bytes c.name ++ begun x)) ≡ length out + (lead_of c.name + 6) = omega (arith, length-append out (lead_bytes c.name ++ begun x), length-append (lead_bytes c.name) (begun x), lead_length c.name) in
        record {
          result = ap (λ u. resume W (level_of c (length out) a x) ms u) l
              ∙ then_same (record_at W (level_of c (length out) a x) (suc (suc (length ms))) (length out + (lead_of c.name + 6))) _ _ (λ q. ap (λ u. after W c.name ms q u) (plus_plus (length out) (lead_of c.name) (size q)))
              ∙ sym (ap (λ o. then_after (and_then o (λ u. record_at W (level_of c (length out) a x) (suc (suc (length ms))) (length out + (lead_of c.name + 6))))) (open_fits c.here (place_of c.raw) W.cap (suc (length ms)) (length out) (lead_of c.name + 6) (omega arith) f))
              ∙ comes (holds x a) e;
          bytes = ap (λ k. k ++ (lead_bytes c.name ++ begun x)) P.bytes;
          starts = (ap (λ k. length k + lead_of c.name) P.bytes, P.starts);
          chained = P.chained;
        }

  module _ (m : Level) (ms : List Level) (out : List ℕ) (G : Going W base name answer m ms out) where
    abbrev go_on : Out Rec → Out Rec
    go_on o = and_then (and_then o (λ r. ask W.rule m.here m.at m.asks r)) (λ q. after W m.name ms q (m.start + size q))

    goes : (f : Follows) → follows m.bound m.form m.here m.rest ≡ f → go_on (followed_at W m.bound m.form m.here m.at (suc (suc (length ms))) (length out) m.rest f) ≡ answer
    goes f e = ap (λ q. go_on (followed_at W m.bound m.form m.here m.at (suc (suc (length ms))) (length out) m.rest q)) (sym e)
        ∙ ap go_on (sym (rest_follows W m.form m.here m.at (suc (suc (length ms))) m.bound (length out) m.rest)) ∙ G.result

    -- a field is missing
    pub field_missing : (n : Name) → follows m.bound m.form m.here m.rest ≡ missing n → answer ≡ refuse (in_field n m.here) missing_field m.at
    field_missing n e = sym (goes (missing n) e)

    -- defaults lead too far for the bound
    pub leads_too_far : follows m.bound m.form m.here m.rest ≡ too_far → answer ≡ beyond
    leads_too_far e = sym (goes too_far e)

    -- a value comes, after which the record has this to take
    pub pending : (c : Coming) (y : Rest) → follows m.bound m.form m.here m.rest ≡ next c y → Pending W base name answer c (going_on m y ∷ ms) out
    pending c y e = let g : Goes m.rest (next c y) = subst (Goes m.rest) e (follows_goes m.bound m.form m.here m.rest) in record {
      result = sym (pull (coming_at W c (suc (suc (length ms))) (length out)) (λ r. rest_at W m.bound m.form m.here m.at (suc (suc (length ms))) (length out + (lead_of c.name + size r)) (with_one (called c.name) r y))
          (λ r. ask W.rule m.here m.at m.asks r) (λ q. after W m.name ms q (m.start + size q))) ∙ goes (next c y) e;
      bytes = G.bytes ∙ ap (λ l. written_at base ms ++ (lead_bytes m.name ++ l)) (sym g.0);
      starts = G.starts;
      chained = (g.1, G.chained);
    }

    -- nothing is left to take, and the rule is asked
    closed_bytes : patched m.start out ≡ written_at base ms ++ (lead_bytes m.name ++ encode (taken_in m.rest))
    closed_bytes =
        ap (patched m.start) (G.bytes ∙ sym (append_assoc (written_at base ms) (lead_bytes m.name) (begun m.rest)))
        ∙ whole_record (written_at base ms ++ lead_bytes m.name) m.start m.rest (G.starts.0 ∙ ap (λ k. length (written_at base ms) + k) (sym (lead_length m.name)) ∙ sym (length-append (written_at base ms) (lead_bytes m.name)))
        ∙ append_assoc (written_at base ms) (lead_bytes m.name) (encode (taken_in m.rest))

    closed_used : length (patched m.start out) ≡ m.start + size (taken_in m.rest)
    closed_used = omega (arith, ap length closed_bytes, length-append (written_at base ms) (lead_bytes m.name ++ encode (taken_in m.rest)), record_length m.name (taken_in m.rest), G.starts.0)

    pub closed : follows m.bound m.form m.here m.rest ≡ nothing → Passed W.rule m.asks (taken_in m.rest) → Turned W base name answer (delivered m.name (taken_in m.rest) ms) (patched m.start out)
    closed e p = deliver m.name (taken_in m.rest) ms (patched m.start out) closed_bytes G.starts.1 G.chained
        (ap (λ u. after W m.name ms (taken_in m.rest) u) closed_used
        ∙ sym (ap (λ o. and_then o (λ q. after W m.name ms q (m.start + size q))) (passed_ask W.rule m.here m.at m.asks (taken_in m.rest) p)) ∙ goes nothing e)

    pub closing_refused : (n : Name) → m.asks ≡ some n → follows m.bound m.form m.here m.rest ≡ nothing → W.rule n (encode (taken_in m.rest)) ≡ false → answer ≡ refuse m.here scalar_refused m.at
    closing_refused n a e p =
        sym (goes nothing e) ∙ ap (λ k. and_then (ask W.rule m.here m.at k (taken_in m.rest)) (λ q. after W m.name ms q (m.start + size q))) a
        ∙ ap (λ o. and_then o (λ q. after W m.name ms q (m.start + size q))) (refused_ask W.rule m.here m.at n (taken_in m.rest) p)

-- THE BEGINNING

pub start : (W : Setting) (base : List ℕ) (c : Coming) → Pending W base c.name (coming_at W c 1 (length base)) c [] base
start W base c = record {
  result = then_ok (coming_at W c 1 (length base));
  bytes = refl;
  starts = tt;
  chained = refl;
}
