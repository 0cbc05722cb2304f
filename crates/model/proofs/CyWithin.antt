-- Coercion has an outcome where the defaults that it meets have one
use Rattle.std.proofs.Common.{◌≡◌, ℕ, List, [], ◌∷◌, Bool, true, false, cond, refl}
use mathlib.Core.Option.{Option, none, some}
use Rattle.model.specs.Values.{Name, Form, Raw, Raws, Mems, null, scalar, variable, list, object, nil, cons, end, mem, Ty, named, list_of, nullable, Field, Def, int_d, float_d, string_d, boolean_d, id_d, enum_d, input_d, custom_d, output_d, Schema, find, Rec, r_object, same, field_names}
use Rattle.model.specs.Refusals.{Cause, missing_field, Out, ok, and_then, Here, refuse, in_field, as_default}
use Rattle.model.specs.Coercion.{Rule, keep_mems, scalar_named, one, ones, if_declared, first_undeclared, Defaults, absent, field_at, Looks, fields_at, object_named, coerce, coerce_all, coerce_mem, member}
use Rattle.model.specs.Bounds.{Within, OfDefault}
use Rattle.model.specs.Cycles.{Among, first, later, Lacks, LacksIn, l_here, l_member, l_items, l_first, l_later}
use Rattle.model.proofs.CoBound.{within_then, within_cond, keep_mems-within, ruled-within, scalar_within, null_within, named_within}

-- a default has an outcome
abbrev pub Answers : Defaults → Raw → Ty → Type 0
Answers d x t = (h : Here) → Within (d h x t)

-- each default that is met does
abbrev pub Answered : Schema → Defaults → Raw → Ty → Type 0
Answered S d x t = (n : Name) (f : Field) (y : Raw) → Lacks S x t n f → f.dflt ≡ some y → Answers d y f.ty

abbrev AnsweredIn : Schema → Defaults → Raws → Ty → Type 0
AnsweredIn S d xs t = (n : Name) (f : Field) (y : Raw) → LacksIn S xs t n f → f.dflt ≡ some y → Answers d y f.ty

-- the type's name, under its list levels
abbrev bare : Ty → Name
bare (named b n) = n
bare (list_of b t) = bare t

ones-within : (base : Name → Out Rec) (t : Ty) → Within (base (bare t)) → Within (ones base t)
ones-within base (named b n) w = w
ones-within base (list_of b t) w = within_then (ones base t) one (ones-within base t w) (λ r. tt)

any_null : {S : Schema} {at : ℕ} {ms : Mems} {b : Bool} {n m : Name} {f : Field} (c : Bool) → Lacks S (object at ms) (named b n) m f → Lacks S (object at ms) (named c n) m f
any_null c (l_here e i m d) = l_here e i m d
any_null c (l_member e i m l) = l_member e i m l

bare_lacks : {S : Schema} {at : ℕ} {ms : Mems} {m : Name} {f : Field} (t : Ty) → Lacks S (object at ms) (named true (bare t)) m f → Lacks S (object at ms) t m f
bare_lacks (named b n) l = any_null b l
bare_lacks (list_of b t) l = l_items (l_first (bare_lacks t l))

-- a member and what came of it; an outcome, if the defaults that it meets have one
abbrev Met : Schema → Defaults → Ty → Option Raw → Option (Out Rec) → Type 0
Met S d t none none = Unit {0}
Met S d t none (some o) = ⊥
Met S d t (some x) none = ⊥
Met S d t (some x) (some o) = Answered S d x t → Within o

-- a field's member or its default has an outcome
abbrev Fine : Defaults → Field → Option (Out Rec) → Type 0
Fine d f none = OfDefault (Answers d) f.ty f.dflt
Fine d f (some o) = Within o

some_within : (o : Out Rec) → Within o → Within (and_then o (λ r. ok (some r)))
some_within o w = within_then o (λ r. ok (some r)) w (λ r. tt)

absent_within : (d : Defaults) (h : Here) (c : Cause) (at : ℕ) (t : Ty) (x : Option Raw) → OfDefault (Answers d) t x → Within (absent d h (refuse h c at) t x)
absent_within d h c at t none w = within_cond (nullable t) (ok none) _ tt tt
absent_within d h c at t (some x) w = some_within (d (as_default h) x t) (w (as_default h))

field_within : (d : Defaults) (h : Here) (c : Cause) (at : ℕ) (f : Field) (o : Option (Out Rec)) → Fine d f o → Within (field_at d h (refuse h c at) f o)
field_within d h c at f none w = absent_within d h c at f.ty f.dflt w
field_within d h c at f (some o) w = some_within o w

fields_within : (d : Defaults) (h : Here) (at : ℕ) (g : Looks) (fs : List Field) → ((f : Field) → Among f fs → Fine d f (g f.name f.ty)) → Within (fields_at d h at g fs)
fields_within d h at g [] w = tt
fields_within d h at g (f ∷ fs) w =
    within_then (field_at d (in_field f.name h) (refuse (in_field f.name h) missing_field at) f (g f.name f.ty)) _
    (field_within d (in_field f.name h) missing_field at f (g f.name f.ty) (w f first))
    (λ o. within_then (fields_at d h at g fs) _ (fields_within d h at g fs (λ k i. w k (later i))) (λ ms. tt))

declared_within : (h : Here) (u : Option ℕ) (o : Out Rec) → Within o → Within (if_declared h u o)
declared_within h none o w = w
declared_within h (some at) o w = tt

default_fine : (d : Defaults) (f : Field) (z : Option Raw) → ((y : Raw) → z ≡ some y → Answers d y f.ty) → OfDefault (Answers d) f.ty z
default_fine d f none w = tt
default_fine d f (some y) w = w y refl

fine : (S : Schema) (d : Defaults) (at : ℕ) (ms : Mems) (n : Name) (fs : List Field) → find S n ≡ input_d fs → Answered S d (object at ms) (named true n) → (f : Field) → Among f fs → (m : Option Raw) (o : Option (Out Rec)) → member ms f.name ≡ m → Met S d f.ty m o → Fine d f o
fine S d at ms n fs e w f i none none q k = default_fine d f f.dflt (λ y z. w n f y (l_here e i q z) z)
fine S d at ms n fs e w f i none (some o) q k = absurd k
fine S d at ms n fs e w f i (some x) none q k = absurd k
fine S d at ms n fs e w f i (some x) (some o) q k = k (λ m g y l z. w m g y (l_member e i q l) z)

object_within : (S : Schema) (d : Defaults) (R : Rule) (h : Here) (at : ℕ) (g : Looks) (ms : Mems) (n : Name) → ((m : Name) (t : Ty) → Met S d t (member ms m) (g m t)) → Answered S d (object at ms) (named true n) → (D : Def) → find S n ≡ D → Within (object_named d R h at g (keep_mems h ms) ms n D)
object_within S d R h at g ms n k w int_d e = tt
object_within S d R h at g ms n k w float_d e = tt
object_within S d R h at g ms n k w string_d e = tt
object_within S d R h at g ms n k w boolean_d e = tt
object_within S d R h at g ms n k w id_d e = tt
object_within S d R h at g ms n k w (enum_d ns) e = tt
object_within S d R h at g ms n k w (input_d fs) e = declared_within h (first_undeclared (field_names fs) ms) _
    (within_then (fields_at d h at g fs) _ (fields_within d h at g fs (λ f i. fine S d at ms n fs e w f i (member ms f.name) (g f.name f.ty) refl (k f.name f.ty))) (λ rs. tt))
object_within S d R h at g ms n k w custom_d e = within_then (keep_mems h ms) _ (keep_mems-within h ms) (λ rs. ruled-within R h at n custom_d (r_object rs))
object_within S d R h at g ms n k w output_d e = tt

mem_met : (S : Schema) (d : Defaults) (t : Ty) (b : Bool) (x : Raw) (o : Out Rec) (m : Option Raw) (q : Option (Out Rec)) → (Answered S d x t → Within o) → Met S d t m q → Met S d t (cond b (some x) m) (cond b (some o) q)
mem_met S d t true x o m q h k = h
mem_met S d t false x o m q h k = k

mutual
  pub lacks-within : (S : Schema) (R : Rule) (d : Defaults) (p : Form) (h : Here) (v : Raw) (t : Ty) → Answered S d v t → Within (coerce d S R p h v t)
  lacks-within S R d p h (null at) t w = null_within h at (nullable t)
  lacks-within S R d p h (scalar at s) t w = ones-within (λ n. scalar_named R h p at s n (find S n)) t (scalar_within R h p at s (bare t) (find S (bare t)))
  lacks-within S R d p h (variable at n) t w = tt
  lacks-within S R d p h (list at xs) (named b n) w = named_within R h at n xs (find S n)
  lacks-within S R d p h (list at xs) (list_of b t) w = within_then (coerce_all d S R p h xs t) _ (all-within S R d p h xs t (λ n f y l z. w n f y (l_items l) z)) (λ rs. tt)
  lacks-within S R d p h (object at ms) t w = ones-within _ t
      (object_within S d R h at (coerce_mem d S R p h ms) ms (bare t) (mem_within S R d p h ms) (λ n f y l z. w n f y (bare_lacks t l) z) (find S (bare t)) refl)

  all-within : (S : Schema) (R : Rule) (d : Defaults) (p : Form) (h : Here) (xs : Raws) (t : Ty) → AnsweredIn S d xs t → Within (coerce_all d S R p h xs t)
  all-within S R d p h nil t w = tt
  all-within S R d p h (cons x xs) t w = within_then (coerce d S R p h x t) _ (lacks-within S R d p h x t (λ n f y l z. w n f y (l_first l) z))
      (λ r. within_then (coerce_all d S R p h xs t) _ (all-within S R d p h xs t (λ n f y l z. w n f y (l_later l) z)) (λ rs. tt))

  mem_within : (S : Schema) (R : Rule) (d : Defaults) (p : Form) (h : Here) (ms : Mems) (n : Name) (t : Ty) → Met S d t (member ms n) (coerce_mem d S R p h ms n t)
  mem_within S R d p h end n t = tt
  mem_within S R d p h (mem m x ms) n t = mem_met S d t (same m n) x (coerce d S R p (in_field n h) x t) (member ms n) (coerce_mem d S R p h ms n t) (lacks-within S R d p (in_field n h) x t) (mem_within S R d p h ms n t)
