-- Without a cycle the defaults settle: each default on the way takes one from the fields that are left
use Rattle.std.proofs.Common.{◌≡◌, ℕ, zero, suc, ◌≤◌, List, [], ◌∷◌, ◌++◌, length, Bool, true, false, cond, codes, sym, refl, ap, subst, arith}
use mathlib.Core.Option.{Option, none, some}
use Rattle.model.specs.Values.{Name, literal, Raw, Raws, Ty, Field, Def, int_d, float_d, string_d, boolean_d, id_d, enum_d, input_d, custom_d, output_d, TypeDef, Schema, declared, find, same}
use Rattle.model.specs.Refusals.{beyond, Here}
use Rattle.model.specs.Coercion.{Rule, coerce_at}
use Rattle.model.specs.Back.{OfDef, OfTypes}
use Rattle.model.specs.Bounds.{Within, OfDefault, EachDefault}
use Rattle.model.specs.Paths.{step, on}
use Rattle.model.specs.Cycles.{InputField, Among, first, later, Lacks, LacksIn, l_here, l_member, l_items, l_first, l_later, Leads, leads, LeadsOn, Acyclic, owned, of_def, of_types, input_fields, if_default, with_default}
use Rattle.model.specs.CycleLaws.{AcyclicSettles}
use Rattle.model.proofs.CoNames.{same_true}
use Rattle.model.proofs.CyWithin.{lacks-within}

-- LISTS

-- the others of a list
pub without : {A : Type 0} {x : A} {xs : List A} → Among x xs → List A
without (first {xs = xs}) = xs
without (later {y = y} i) = y ∷ without i

fewer : {A : Type 0} {x : A} {xs : List A} (i : Among x xs) → suc (length (without i)) ≡ length xs
unfolding without
fewer first = refl
fewer (later i) = ap suc (fewer i)

other : {A : Type 0} {x z : A} {xs : List A} → Among z xs → (i : Among x xs) → (x ≡ z → ⊥) → Among z (without i)
unfolding without
other first first h = absurd (h refl)
other first (later i) h = first
other (later a) first h = a
other (later a) (later i) h = later (other a i h)

pub among_left : {A : Type 0} {x : A} {xs : List A} (ys : List A) → Among x xs → Among x (xs ++ ys)
among_left ys first = first
among_left ys (later i) = later (among_left ys i)

pub among_right : {A : Type 0} {x : A} (xs ys : List A) → Among x ys → Among x (xs ++ ys)
among_right [] ys i = i
among_right (x ∷ xs) ys i = later (among_right xs ys i)

none_left : {A : Type 0} {x : A} {xs : List A} → Among x xs → length xs ≤ 0 → ⊥
none_left first h = omega arith
none_left (later i) h = omega arith

-- WHAT IS MET IS A FIELD OF THE SCHEMA

-- which definition is found
input_else : (b : Bool) (D E : Def) (fs : List Field) → (D ≡ input_d fs → ⊥) → cond b D E ≡ input_d fs → E ≡ input_d fs
input_else true D E fs h e = absurd (h e)
input_else false D E fs h e = e

abbrev is_input : Def → ℕ
is_input int_d = 0
is_input float_d = 0
is_input string_d = 0
is_input boolean_d = 0
is_input id_d = 0
is_input (enum_d ns) = 0
is_input (input_d fs) = 1
is_input custom_d = 0
is_input output_d = 0

not_input : (D : Def) (fs : List Field) → is_input D ≡ 0 → D ≡ input_d fs → ⊥
not_input D fs z e = let o : is_input D ≡ 1 = ap is_input e in omega arith

pub find_declared : (S : Schema) (n : Name) (fs : List Field) → find S n ≡ input_d fs → declared S.types n ≡ input_d fs
find_declared S n fs e =
    input_else (same (codes "ID") n) id_d _ fs (not_input id_d fs refl)
    (input_else (same (codes "Boolean") n) boolean_d _ fs (not_input boolean_d fs refl)
    (input_else (same (codes "String") n) string_d _ fs (not_input string_d fs refl)
    (input_else (same (codes "Float") n) float_d _ fs (not_input float_d fs refl)
    (input_else (same (codes "Int") n) int_d _ fs (not_input int_d fs refl) e))))

owned_among : (n : Name) {f : Field} {fs : List Field} → Among f fs → Among (record { owner = n; field = f }) (owned n fs)
owned_among n first = first
owned_among n (later i) = later (owned_among n i)

def_among : (n : Name) (D : Def) (fs : List Field) (f : Field) → D ≡ input_d fs → Among f fs → Among (record { owner = n; field = f }) (of_def n D)
def_among n D fs f e i = subst (λ (E : Def). Among (record { owner = n; field = f }) (of_def n E)) (sym e) (owned_among n i)

either_def : (b : Bool) (D E : Def) (fs : List Field) (P : Type 0) → (b ≡ true → D ≡ input_d fs → P) → (E ≡ input_d fs → P) → cond b D E ≡ input_d fs → P
either_def true D E fs P h k e = h refl e
either_def false D E fs P h k e = k e

declared_among : (ds : List TypeDef) (n : Name) (fs : List Field) (f : Field) → declared ds n ≡ input_d fs → Among f fs → Among (record { owner = n; field = f }) (of_types ds)
declared_among [] n fs f e i = absurd (not_input output_d fs refl e)
declared_among (d ∷ ds) n fs f e i = either_def (same d.name n) d.def (declared ds n) fs (Among (record { owner = n; field = f }) (of_types (d ∷ ds)))
    (λ s u. among_left (of_types ds) (subst (λ (m : Name). Among (record { owner = n; field = f }) (of_def m d.def)) (sym (same_true d.name n s)) (def_among n d.def fs f u i)))
    (λ u. among_right (of_def d.name d.def) (of_types ds) (declared_among ds n fs f u i)) e

pub found_among : (S : Schema) (n : Name) (fs : List Field) (f : Field) → find S n ≡ input_d fs → Among f fs → Among (record { owner = n; field = f }) (input_fields S)
found_among S n fs f e i = declared_among S.types n fs f (find_declared S n fs e) i

-- it is a field of the input type that is found, and has a default
abbrev pub Found : Schema → Name → Field → Type 0
Found S n f = (fs : List Field) × (find S n ≡ input_d fs) × Among f fs × (y : Raw) × (f.dflt ≡ some y)

mutual
  pub lacks-found : {S : Schema} {x : Raw} {t : Ty} {n : Name} {f : Field} → Lacks S x t n f → Found S n f
  lacks-found (l_here {fs = fs} {y = y} e i m d) = (fs, e, i, y, d)
  lacks-found (l_member e i m l) = lacks-found l
  lacks-found (l_items l) = lacks_in-found l

  lacks_in-found : {S : Schema} {xs : Raws} {t : Ty} {n : Name} {f : Field} → LacksIn S xs t n f → Found S n f
  lacks_in-found (l_first l) = lacks-found l
  lacks_in-found (l_later l) = lacks_in-found l

pub lacks-among : {S : Schema} {x : Raw} {t : Ty} {n : Name} {f : Field} → Lacks S x t n f → Among (record { owner = n; field = f }) (input_fields S)
lacks-among {S} {n = n} {f = f} l = let k = lacks-found l in found_among S n k.0 f k.1 k.2

default_among : {F : InputField} {Fs : List InputField} (y : Raw) → Among F Fs → F.field.dflt ≡ some y → Among F (with_default Fs)
default_among {F} y (first {xs = Fs}) e = subst (λ (o : Option Raw). Among F (if_default F o (with_default Fs))) (sym e) first
default_among {F} y (later {y = G} {xs = Fs} i) e = kept G.field.dflt (default_among y i e)
  where
    kept : (o : Option Raw) → Among F (with_default Fs) → Among F (if_default G o (with_default Fs))
    kept none a = a
    kept (some x) a = later a

leads-among : {S : Schema} {F G : InputField} → Leads S F G → Among G (with_default (input_fields S))
leads-among (leads e l) = let k = lacks-found l in default_among k.3 (lacks-among l) k.4

pub leads_on-among : {S : Schema} {F G : InputField} → LeadsOn S F G → Among G (with_default (input_fields S))
leads_on-among (step e) = leads-among e
leads_on-among (on e p) = leads_on-among p

-- THE BOUND

-- a default settles at a bound that is at least the number of the fields that are left, if it leads on to those alone
settles : (S : Schema) (R : Rule) → Acyclic S → (k : ℕ) (left : List InputField) → length left ≤ k → (F : InputField) (x : Raw) → F.field.dflt ≡ some x → ((G : InputField) → LeadsOn S F G → Among G left) → (h : Here) → Within (coerce_at k S R literal h x F.field.ty)
settles S R a zero left b F x e r h = lacks-within S R (λ i y u. beyond) literal h x F.field.ty (λ n f y l d. absurd (none_left (r (record { owner = n; field = f }) (step (leads e l))) b))
settles S R a (suc k) left b F x e r h = lacks-within S R (coerce_at k S R literal) literal h x F.field.ty (λ n f y l d.
    let G : InputField = record { owner = n; field = f } in
    let i = r G (step (leads e l)) in
    let m = fewer i in
    settles S R a k (without i) (omega arith) G y d (λ H p. other (r H (on (leads e l) p)) i (λ s. a G (subst (λ (K : InputField). LeadsOn S G K) (sym s) p))))

each_settles : (P : Raw → Ty → Type 0) (fs : List Field) → ((f : Field) (x : Raw) → f.dflt ≡ some x → P x f.ty) → EachDefault P fs
each_settles P [] w = tt
each_settles P (f ∷ fs) w = (one-settles f.dflt (w f), each_settles P fs w)
  where
    one-settles : (o : Option Raw) → ((x : Raw) → o ≡ some x → P x f.ty) → OfDefault P f.ty o
    one-settles none v = tt
    one-settles (some x) v = v x refl

of_each : (P : List Field → Type 0) → ((fs : List Field) → P fs) → (ds : List TypeDef) → OfTypes P ds
of_each P w [] = tt
of_each P w (d ∷ ds) = (of_one d.def, of_each P w ds)
  where
    of_one : (D : Def) → OfDef P D
    of_one int_d = tt
    of_one float_d = tt
    of_one string_d = tt
    of_one boolean_d = tt
    of_one id_d = tt
    of_one (enum_d ns) = tt
    of_one (input_d fs) = w fs
    of_one custom_d = tt
    of_one output_d = tt

pub acyclic_settles : AcyclicSettles
acyclic_settles S a k b R = of_each _ (λ fs. each_settles _ fs (λ f x e. settles S R a k (with_default (input_fields S)) b (record { owner = []; field = f }) x e (λ G p. leads_on-among p))) S.types
