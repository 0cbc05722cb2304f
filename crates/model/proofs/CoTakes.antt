-- what is accepted is taken
use Rattle.std.proofs.Common.{◌≡◌, ℕ, zero, suc, Bool, true, false, cond, List, [], ◌∷◌, sym, refl, subst}
use mathlib.Core.Option.{Option, none, some}
use Rattle.model.specs.Values.{Name, Form, literal, Scalar, Raw, Raws, Mems, null, scalar, variable, list, object, nil, cons, end, mem, Ty, named, list_of, nullable, Field, Def, int_d, float_d, string_d, boolean_d, id_d, enum_d, input_d, custom_d, output_d, Schema, find, Plain, Rec, Rmems, r_plain, r_list, r_object, r_nil, r_cons, same, field_names}
use Rattle.model.specs.Refusals.{Cause, missing_field, Out, ok, refused, beyond, and_then, Here, refuse, in_field, as_default}
use Rattle.model.specs.Scalars.{TakesScalar, scalar_at}
use Rattle.model.specs.Coercion.{Rule, keep, keep_all, keep_mems, passes, ruled, or_wrong, scalar_named, null_at, one, ones, list_named, first_undeclared, if_declared, Defaults, absent, field_at, put, Looks, fields_at, object_named, coerce, coerce_all, coerce_mem, coerce_at, member}
use Rattle.model.specs.Taking.{Keeps, KeepsAll, KeepsMems, k_null, k_scalar, k_list, k_object, k_nil, k_cons, k_end, k_mem, Present, items, or_else, standing, form_of, Takes, TakesAll, TakesFields, t_null, t_scalar, t_list, t_input, t_any_list, t_any_object, t_nil, t_cons, t_end, t_some, t_none}
use Rattle.model.proofs.CoGood.{Good, good_then, good_cond, good_of}
use Rattle.model.proofs.CoScalars.{There, scalar_there}

mutual
  keeps : (h : Here) (x : Raw) → Good (Keeps x) (keep h x)
  keeps h (null at) = k_null
  keeps h (scalar at s) = k_scalar refl
  keeps h (variable at n) = tt
  keeps h (list at xs) = good_then (KeepsAll xs) (Keeps (list at xs)) (keep_all h xs) _ (keeps_all h xs) (λ rs a. k_list a)
  keeps h (object at ms) = good_then (KeepsMems ms) (Keeps (object at ms)) (keep_mems h ms) _ (keeps_mems h ms) (λ rs a. k_object a)

  pub keeps_all : (h : Here) (xs : Raws) → Good (KeepsAll xs) (keep_all h xs)
  keeps_all h nil = k_nil
  keeps_all h (cons x xs) = good_then (Keeps x) (KeepsAll (cons x xs)) (keep h x) _ (keeps h x)
      (λ r a. good_then (KeepsAll xs) (KeepsAll (cons x xs)) (keep_all h xs) _ (keeps_all h xs) (λ rs c. k_cons a c))

  pub keeps_mems : (h : Here) (ms : Mems) → Good (KeepsMems ms) (keep_mems h ms)
  keeps_mems h end = k_end
  keeps_mems h (mem n x ms) = good_then (Keeps x) (KeepsMems (mem n x ms)) (keep h x) _ (keeps h x)
      (λ r a. good_then (KeepsMems ms) (KeepsMems (mem n x ms)) (keep_mems h ms) _ (keeps_mems h ms) (λ rs c. k_mem a c))

good_ruled : (P : Rec → Type 0) (R : Rule) (h : Here) (at : ℕ) (n : Name) (D : Def) (r : Rec) → (passes R n D r ≡ true → P r) → Good P (ruled R h at n D r)
good_ruled P R h at n D r k = good_cond P (passes R n D r) (ok r) _ k (λ e. tt)

good_or : (P : Plain → Type 0) (h : Here) (at : ℕ) (o : Option Plain) → There P o → Good P (or_wrong h at o)
good_or P h at none k = tt
good_or P h at (some x) k = k

scalar_takes : (S : Schema) (R : Rule) (h : Here) (p : Form) (at : ℕ) (s : Scalar) (b : Bool) (n : Name) → Good (Takes S R p (named b n) (scalar at s)) (scalar_named R h p at s n (find S n))
scalar_takes S R h p at s b n = good_then (TakesScalar p (find S n) s) (Takes S R p (named b n) (scalar at s)) (or_wrong h at (scalar_at p (find S n) s)) _
    (good_or (TakesScalar p (find S n) s) h at (scalar_at p (find S n) s) (scalar_there p (find S n) s))
    (λ x a. good_ruled (Takes S R p (named b n) (scalar at s)) R h at n (find S n) (r_plain x) (λ e. t_scalar a e))

ones-take : (S : Schema) (R : Rule) (p : Form) (v : Raw) → Present v → items v ≡ cons v nil → (base : Name → Out Rec) → ((b : Bool) (n : Name) → Good (Takes S R p (named b n) v) (base n)) → (t : Ty) → Good (Takes S R p t v) (ones base t)
ones-take S R p v here one-item base k (named b n) = k b n
ones-take S R p v here one-item base k (list_of b t) = good_then (Takes S R p t v) (Takes S R p (list_of b t) v) (ones base t) one (ones-take S R p v here one-item base k t)
    (λ r c. t_list here (subst (λ xs. TakesAll S R p t xs (r_cons r r_nil)) (sym one-item) (t_cons c t_nil)))

null_takes : (S : Schema) (R : Rule) (p : Form) (h : Here) (at : ℕ) (t : Ty) (b : Bool) → nullable t ≡ b → Good (Takes S R p t (null at)) (null_at h at b)
null_takes S R p h at t true e = t_null e
null_takes S R p h at t false e = tt

list_takes : (S : Schema) (R : Rule) (p : Form) (h : Here) (at : ℕ) (b : Bool) (n : Name) (xs : Raws) (D : Def) → find S n ≡ D → Good (Takes S R p (named b n) (list at xs)) (list_named R h at n (keep_all h xs) D)
list_takes S R p h at b n xs int_d e = tt
list_takes S R p h at b n xs float_d e = tt
list_takes S R p h at b n xs string_d e = tt
list_takes S R p h at b n xs boolean_d e = tt
list_takes S R p h at b n xs id_d e = tt
list_takes S R p h at b n xs (enum_d ns) e = tt
list_takes S R p h at b n xs (input_d fs) e = tt
list_takes S R p h at b n xs custom_d e = good_then (KeepsAll xs) (Takes S R p (named b n) (list at xs)) (keep_all h xs) _ (keeps_all h xs)
    (λ rs a. good_ruled (Takes S R p (named b n) (list at xs)) R h at n custom_d (r_list rs) (λ u. t_any_list e a u))
list_takes S R p h at b n xs output_d e = tt

-- whatever a default comes to is taken
abbrev Default : Schema → Rule → Defaults → Type 0
Default S R d = (h : Here) (x : Raw) (t : Ty) → Good (Takes S R literal t x) (d h x t)

-- a raw value or none, and what came of it
abbrev Paired : Schema → Rule → Form → Ty → Option Raw → Option (Out Rec) → Type 0
Paired S R p t none none = Unit {0}
Paired S R p t none (some o) = ⊥
Paired S R p t (some x) none = ⊥
Paired S R p t (some x) (some o) = Good (Takes S R p t x) o

-- what stands for a field, and what the field has
abbrev pub Settled : Schema → Rule → Form → Ty → Option Raw → Option Rec → Type 0
Settled S R p t none none = nullable t ≡ true
Settled S R p t none (some r) = ⊥
Settled S R p t (some x) none = ⊥
Settled S R p t (some x) (some r) = Takes S R p t x r

some_takes : (S : Schema) (R : Rule) (p : Form) (t : Ty) (x : Raw) (o : Out Rec) → Good (Takes S R p t x) o → Good (Settled S R p t (some x)) (and_then o (λ r. ok (some r)))
some_takes S R p t x (ok r) k = k
some_takes S R p t x (refused f) k = tt
some_takes S R p t x beyond k = tt

absent_takes : (S : Schema) (R : Rule) (d : Defaults) → Default S R d → (h : Here) (c : Cause) (at : ℕ) (t : Ty) (o : Option Raw) → Good (Settled S R literal t o) (absent d h (refuse h c at) t o)
absent_takes S R d l h c at t (some x) = some_takes S R literal t x (d (as_default h) x t) (l (as_default h) x t)
absent_takes S R d l h c at t none = good_cond (Settled S R literal t none) (nullable t) (ok none) _ (λ e. e) (λ e. tt)

field_takes : (S : Schema) (R : Rule) (p : Form) (d : Defaults) → Default S R d → (h : Here) (c : Cause) (at : ℕ) (f : Field) (m : Option Raw) (o : Option (Out Rec)) → Paired S R p f.ty m o → Good (Settled S R (form_of p m) f.ty (or_else m f.dflt)) (field_at d h (refuse h c at) f o)
field_takes S R p d l h c at f none none g = absent_takes S R d l h c at f.ty f.dflt
field_takes S R p d l h c at f none (some o) g = absurd g
field_takes S R p d l h c at f (some x) none g = absurd g
field_takes S R p d l h c at f (some x) (some o) g = some_takes S R p f.ty x o g

put_takes : (S : Schema) (R : Rule) (p : Form) (f : Field) (fs : List Field) (ms : Mems) (rs : Rmems) (q : Option Raw) (o : Option Rec) → standing ms f ≡ q → Settled S R (form_of p (member ms f.name)) f.ty q o → TakesFields S R p fs ms rs → TakesFields S R p (f ∷ fs) ms (put f.name o rs)
put_takes S R p f fs ms rs none none e k g = t_none e k g
put_takes S R p f fs ms rs none (some r) e k g = absurd k
put_takes S R p f fs ms rs (some x) none e k g = absurd k
put_takes S R p f fs ms rs (some x) (some r) e k g = t_some refl e k g

abbrev Looked : Schema → Rule → Form → Mems → Looks → Type 0
Looked S R p ms g = (n : Name) (t : Ty) → Paired S R p t (member ms n) (g n t)

fields_take : (S : Schema) (R : Rule) (p : Form) (d : Defaults) → Default S R d → (h : Here) (at : ℕ) (ms : Mems) (g : Looks) → Looked S R p ms g → (fs : List Field) → Good (TakesFields S R p fs ms) (fields_at d h at g fs)
fields_take S R p d l h at ms g k [] = t_end
fields_take S R p d l h at ms g k (f ∷ fs) =
    good_then (Settled S R (form_of p (member ms f.name)) f.ty (standing ms f)) (TakesFields S R p (f ∷ fs) ms) (field_at d (in_field f.name h) (refuse (in_field f.name h) missing_field at) f (g f.name f.ty)) _
    (field_takes S R p d l (in_field f.name h) missing_field at f (member ms f.name) (g f.name f.ty) (k f.name f.ty))
    (λ o u. good_then (TakesFields S R p fs ms) (TakesFields S R p (f ∷ fs) ms) (fields_at d h at g fs) _ (fields_take S R p d l h at ms g k fs) (λ rs q. put_takes S R p f fs ms rs (standing ms f) o refl u q))

declared_good : (P : Rec → Type 0) (h : Here) (u : Option ℕ) (o : Out Rec) → (u ≡ none → Good P o) → Good P (if_declared h u o)
declared_good P h none o k = k refl
declared_good P h (some at) o k = tt

object_takes : (S : Schema) (R : Rule) (p : Form) (d : Defaults) → Default S R d → (h : Here) (at : ℕ) (ms : Mems) (g : Looks) → Looked S R p ms g → (b : Bool) (n : Name) (D : Def) → find S n ≡ D → Good (Takes S R p (named b n) (object at ms)) (object_named d R h at g (keep_mems h ms) ms n D)
object_takes S R p d l h at ms g k b n int_d e = tt
object_takes S R p d l h at ms g k b n float_d e = tt
object_takes S R p d l h at ms g k b n string_d e = tt
object_takes S R p d l h at ms g k b n boolean_d e = tt
object_takes S R p d l h at ms g k b n id_d e = tt
object_takes S R p d l h at ms g k b n (enum_d ns) e = tt
object_takes S R p d l h at ms g k b n (input_d fs) e = declared_good (Takes S R p (named b n) (object at ms)) h (first_undeclared (field_names fs) ms) _
    (λ u. good_then (TakesFields S R p fs ms) (Takes S R p (named b n) (object at ms)) (fields_at d h at g fs) _ (fields_take S R p d l h at ms g k fs) (λ rs q. t_input e u q))
object_takes S R p d l h at ms g k b n custom_d e = good_then (KeepsMems ms) (Takes S R p (named b n) (object at ms)) (keep_mems h ms) _ (keeps_mems h ms)
    (λ rs a. good_ruled (Takes S R p (named b n) (object at ms)) R h at n custom_d (r_object rs) (λ u. t_any_object e a u))
object_takes S R p d l h at ms g k b n output_d e = tt

mem_takes : (S : Schema) (R : Rule) (p : Form) (t : Ty) (b : Bool) (x : Raw) (o : Out Rec) (m : Option Raw) (q : Option (Out Rec)) → Good (Takes S R p t x) o → Paired S R p t m q → Paired S R p t (cond b (some x) m) (cond b (some o) q)
mem_takes S R p t true x o m q h k = h
mem_takes S R p t false x o m q h k = k

mutual
  takes : (S : Schema) (R : Rule) (d : Defaults) → Default S R d → (p : Form) (h : Here) (v : Raw) (t : Ty) → Good (Takes S R p t v) (coerce d S R p h v t)
  takes S R d l p h (null at) t = null_takes S R p h at t (nullable t) refl
  takes S R d l p h (scalar at s) t = ones-take S R p (scalar at s) tt refl _ (scalar_takes S R h p at s) t
  takes S R d l p h (variable at n) t = tt
  takes S R d l p h (list at xs) (named b n) = list_takes S R p h at b n xs (find S n) refl
  takes S R d l p h (list at xs) (list_of b t) = good_then (TakesAll S R p t xs) (Takes S R p (list_of b t) (list at xs)) (coerce_all d S R p h xs t) _ (takes_all S R d l p h xs t) (λ rs c. t_list tt c)
  takes S R d l p h (object at ms) t = ones-take S R p (object at ms) tt refl _ (λ b n. object_takes S R p d l h at ms (coerce_mem d S R p h ms) (takes_mem S R d l p h ms) b n (find S n) refl) t

  takes_all : (S : Schema) (R : Rule) (d : Defaults) → Default S R d → (p : Form) (h : Here) (xs : Raws) (t : Ty) → Good (TakesAll S R p t xs) (coerce_all d S R p h xs t)
  takes_all S R d l p h nil t = t_nil
  takes_all S R d l p h (cons x xs) t = good_then (Takes S R p t x) (TakesAll S R p t (cons x xs)) (coerce d S R p h x t) _ (takes S R d l p h x t)
      (λ r c. good_then (TakesAll S R p t xs) (TakesAll S R p t (cons x xs)) (coerce_all d S R p h xs t) _ (takes_all S R d l p h xs t) (λ rs q. t_cons c q))

  takes_mem : (S : Schema) (R : Rule) (d : Defaults) → Default S R d → (p : Form) (h : Here) (ms : Mems) (n : Name) (t : Ty) → Paired S R p t (member ms n) (coerce_mem d S R p h ms n t)
  takes_mem S R d l p h end n t = tt
  takes_mem S R d l p h (mem m x ms) n t = mem_takes S R p t (same m n) x (coerce d S R p (in_field n h) x t) (member ms n) (coerce_mem d S R p h ms n t) (takes S R d l p (in_field n h) x t) (takes_mem S R d l p h ms n t)

pub takes_at : (k : ℕ) (S : Schema) (R : Rule) (p : Form) (h : Here) (v : Raw) (t : Ty) → Good (Takes S R p t v) (coerce_at k S R p h v t)
takes_at zero S R p h v t = takes S R (λ i x u. beyond) (λ i x u. tt) p h v t
takes_at (suc k) S R p h v t = takes S R (coerce_at k S R literal) (λ i x u. takes_at k S R literal i x u) p h v t

pub taken : (k : ℕ) (S : Schema) (R : Rule) (p : Form) (h : Here) (v : Raw) (t : Ty) (r : Rec) → coerce_at k S R p h v t ≡ ok r → Takes S R p t v r
taken k S R p h v t r e = good_of (Takes S R p t v) (coerce_at k S R p h v t) r (takes_at k S R p h v t) e
