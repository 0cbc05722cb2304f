-- What a value comes to is what its opening says.
use Rattle.std.proofs.Common.{◌≡◌, ℕ, zero, suc, ◌+◌, Bool, true, false, List, refl, sym, ◌∙◌}
use mathlib.Core.Option.{Option, none, some}
use Rattle.model.specs.Values.{Name, Form, Scalar, Raw, Raws, Mems, null, scalar, variable, list, object, place_of, Ty, named, list_of, nullable, Field, Def, int_d, float_d, string_d, boolean_d, id_d, enum_d, input_d, custom_d, output_d, find, Plain, Rec, r_null, r_plain, r_list, r_object, r_nil, r_cons, field_names}
use Rattle.model.specs.Refusals.{Out, ok, refused, beyond, and_then, Here}
use Rattle.model.specs.Scalars.{scalar_at}
use Rattle.model.specs.Coercion.{or_wrong, one, first_undeclared, if_declared}
use Rattle.model.specs.Walk.{opening, leaf, walk_keep, walk_null, walk_scalar, walk_list_named, walk_object_named, WalkDefaults, walk_fields, walk, walk_mem, walk_at}
use Rattle.coercion.specs.Levels.{Setting, ask, defaults_at, value_at, opens_kept, opens_plain, opens_declared, opens_scalar, opens_list, opens_object, opens_null, opens_at, opens, opened_at}

-- outcomes, one after the other
pub then_then : {X Y Z : Type 0} (o : Out X) (f : X → Out Y) (g : Y → Out Z) → and_then (and_then o f) g ≡ and_then o (λ x. and_then (f x) g)
then_then (ok x) f g = refl
then_then (refused r) f g = refl
then_then beyond f g = refl

pub then_ok : {X : Type 0} (o : Out X) → and_then o (λ x. ok x) ≡ o
then_ok (ok x) = refl
then_ok (refused r) = refl
then_ok beyond = refl

pub then_same : {X Y : Type 0} (o : Out X) (f g : X → Out Y) → ((x : X) → f x ≡ g x) → and_then o f ≡ and_then o g
then_same (ok x) f g h = h x
then_same (refused r) f g h = refl
then_same beyond f g h = refl

-- the walk under a bound is the walk with the defaults of that bound
pub walk_is : (k : ℕ) (W : Setting) (p : Form) (h : Here) (x : Raw) (t : Ty) (depth used lead : ℕ)
    → walk_at k W.schema W.rule W.cap p h x t depth used lead ≡ walk (defaults_at k W.schema W.rule W.cap) W.schema W.rule W.cap p h x t depth used lead
walk_is zero W p h x t depth used lead = refl
walk_is (suc k) W p h x t depth used lead = refl

-- a list of one
one_item : (o : Out Rec) → and_then o one ≡ and_then (and_then o (λ r. and_then (ok r_nil) (λ rs. ok (r_cons r rs)))) (λ qs. ok (r_list qs))
one_item (ok x) = refl
one_item (refused r) = refl
one_item beyond = refl

module _ (W : Setting) (k : ℕ) (p : Form) (h : Here) where
  abbrev defaults : WalkDefaults
  defaults = defaults_at k W.schema W.rule W.cap

  held : (at depth used lead : ℕ) (o : Out Rec) → and_then (opening h at W.cap depth used (lead + 6)) (λ u. o) ≡ and_then (opening h at W.cap depth used (lead + 6)) (λ u. and_then o (λ q. ok q))
  held at depth used lead o = then_same (opening h at W.cap depth used (lead + 6)) (λ u. o) (λ u. and_then o (λ q. ok q)) (λ u. sym (then_ok o))

  null_opened : (at depth used lead : ℕ) (b : Bool) → walk_null h at W.cap depth used lead b ≡ opened_at W k p h at depth used lead (opens_null at b)
  null_opened at depth used lead true = sym (then_ok (leaf h at W.cap depth used lead r_null))
  null_opened at depth used lead false = refl

  plain_opened : (at depth used lead : ℕ) (o : Option Plain)
      → and_then (or_wrong h at o) (λ x. and_then (leaf h at W.cap depth used lead (r_plain x)) (λ r. ok r)) ≡ opened_at W k p h at depth used lead (opens_plain at o)
  plain_opened at depth used lead none = refl
  plain_opened at depth used lead (some x) = refl

  scalar_opened : (at : ℕ) (s : Scalar) (n : Name) (D : Def) (depth used lead : ℕ) → walk_scalar W.rule h W.cap p at s n D depth used lead ≡ opened_at W k p h at depth used lead (opens_scalar p at s n D)
  scalar_opened at s n int_d depth used lead = plain_opened at depth used lead (scalar_at p int_d s)
  scalar_opened at s n float_d depth used lead = plain_opened at depth used lead (scalar_at p float_d s)
  scalar_opened at s n string_d depth used lead = plain_opened at depth used lead (scalar_at p string_d s)
  scalar_opened at s n boolean_d depth used lead = plain_opened at depth used lead (scalar_at p boolean_d s)
  scalar_opened at s n id_d depth used lead = plain_opened at depth used lead (scalar_at p id_d s)
  scalar_opened at s n (enum_d ns) depth used lead = plain_opened at depth used lead (scalar_at p (enum_d ns) s)
  scalar_opened at s n (input_d fs) depth used lead = refl
  scalar_opened at s n custom_d depth used lead = refl
  scalar_opened at s n output_d depth used lead = refl

  -- custom contents, kept and then asked about
  contents_opened : (depth used lead : ℕ) (a : Option Name) (x : Raw)
      → and_then (walk_keep h W.cap depth used lead x) (λ r. ask W.rule h (place_of x) a r) ≡ opened_at W k p h (place_of x) depth used lead (opens_kept a x)
  contents_opened depth used lead a (null at) = refl
  contents_opened depth used lead a (scalar at s) = refl
  contents_opened depth used lead a (variable at n) = refl
  contents_opened depth used lead a (list at xs) = then_then (opening h at W.cap depth used (lead + 6)) _ _
  contents_opened depth used lead a (object at ms) = then_then (opening h at W.cap depth used (lead + 6)) _ _

  list_opened : (at : ℕ) (xs : Raws) (n : Name) (D : Def) (depth used lead : ℕ)
      → walk_list_named W.rule h at n (walk_keep h W.cap depth used lead (list at xs)) D ≡ opened_at W k p h at depth used lead (opens_list at xs n D)
  list_opened at xs n int_d depth used lead = refl
  list_opened at xs n float_d depth used lead = refl
  list_opened at xs n string_d depth used lead = refl
  list_opened at xs n boolean_d depth used lead = refl
  list_opened at xs n id_d depth used lead = refl
  list_opened at xs n (enum_d ns) depth used lead = refl
  list_opened at xs n (input_d fs) depth used lead = refl
  list_opened at xs n custom_d depth used lead = contents_opened depth used lead (some n) (list at xs)
  list_opened at xs n output_d depth used lead = refl

  declared_opened : (at : ℕ) (ms : Mems) (fs : List Field) (depth used lead : ℕ) (o : Option ℕ)
      → if_declared h o (and_then (opening h at W.cap depth used (lead + 6)) (λ u. and_then (walk_fields defaults h at (walk_mem defaults W.schema W.rule W.cap p h ms) fs (suc depth) (used + (lead + 6))) (λ rs. ok (r_object rs))))
      ≡ opened_at W k p h at depth used lead (opens_declared ms fs o)
  declared_opened at ms fs depth used lead none = held at depth used lead _
  declared_opened at ms fs depth used lead (some q) = refl

  object_opened : (at : ℕ) (ms : Mems) (n : Name) (D : Def) (depth used lead : ℕ)
      → walk_object_named defaults W.rule h W.cap at (walk_mem defaults W.schema W.rule W.cap p h ms) (λ e u l. walk_keep h W.cap e u l (object at ms)) ms n D depth used lead ≡ opened_at W k p h at depth used lead (opens_object at ms n D)
  object_opened at ms n int_d depth used lead = refl
  object_opened at ms n float_d depth used lead = refl
  object_opened at ms n string_d depth used lead = refl
  object_opened at ms n boolean_d depth used lead = refl
  object_opened at ms n id_d depth used lead = refl
  object_opened at ms n (enum_d ns) depth used lead = refl
  object_opened at ms n (input_d fs) depth used lead = declared_opened at ms fs depth used lead (first_undeclared (field_names fs) ms)
  object_opened at ms n custom_d depth used lead = contents_opened depth used lead (some n) (object at ms)
  object_opened at ms n output_d depth used lead = refl

  one_opened : (at depth used lead : ℕ) (o : Out Rec)
      → and_then (opening h at W.cap depth used (lead + 6)) (λ u. and_then o one) ≡ and_then (opening h at W.cap depth used (lead + 6)) (λ u. and_then (and_then (and_then o (λ r. and_then (ok r_nil) (λ rs. ok (r_cons r rs)))) (λ qs. ok (r_list qs))) (λ q. ok q))
  one_opened at depth used lead o = then_same (opening h at W.cap depth used (lead + 6)) _ _ (λ u. one_item o ∙ sym (then_ok (and_then (and_then o (λ r. and_then (ok r_nil) (λ rs. ok (r_cons r rs)))) (λ qs. ok (r_list qs)))))

  typed_opened : (x : Raw) (t : Ty) (depth used lead : ℕ) → walk defaults W.schema W.rule W.cap p h x t depth used lead ≡ opened_at W k p h (place_of x) depth used lead (opens_at W.schema p x t)
  typed_opened (null at) t depth used lead = null_opened at depth used lead (nullable t)
  typed_opened (scalar at s) (named b n) depth used lead = scalar_opened at s n (find W.schema n) depth used lead
  typed_opened (scalar at s) (list_of b t) depth used lead = one_opened at depth used lead (walk defaults W.schema W.rule W.cap p h (scalar at s) t (suc depth) (used + (lead + 6)) 0)
  typed_opened (variable at n) t depth used lead = refl
  typed_opened (list at xs) (named b n) depth used lead = list_opened at xs n (find W.schema n) depth used lead
  typed_opened (list at xs) (list_of b t) depth used lead = held at depth used lead _
  typed_opened (object at ms) (named b n) depth used lead = object_opened at ms n (find W.schema n) depth used lead
  typed_opened (object at ms) (list_of b t) depth used lead = one_opened at depth used lead (walk defaults W.schema W.rule W.cap p h (object at ms) t (suc depth) (used + (lead + 6)) 0)

  pub value_opened : (x : Raw) (t : Option Ty) (depth used lead : ℕ) → value_at W k p h x t depth used lead ≡ opened_at W k p h (place_of x) depth used lead (opens W.schema p x t)
  value_opened x none depth used lead = sym (then_ok (walk_keep h W.cap depth used lead x)) ∙ contents_opened depth used lead none x
  value_opened x (some t) depth used lead = typed_opened x t depth used lead
