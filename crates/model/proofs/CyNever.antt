-- What is on a cycle comes to no record
use Rattle.std.proofs.Common.{◌≡◌, ℕ, true, List, length, inl, inr, sym, refl, subst, arith, ◌∙◌, ap}
use mathlib.Core.Option.{Option, none, some}
use Rattle.model.specs.Values.{Name, Form, literal, Raw, Raws, Mems, Ty, Field, Def, input_d, custom_d, Schema, Rec, Recs, Rmems}
use Rattle.model.specs.Refusals.{Refusal, Out, ok, refused, beyond, Here}
use Rattle.model.specs.Coercion.{Rule, coerce_at, member}
use Rattle.model.specs.Taking.{or_else, standing, Takes, TakesAll, TakesFields, t_null, t_scalar, t_list, t_input, t_any_list, t_any_object, t_nil, t_cons, t_end, t_some, t_none}
use Rattle.model.specs.Bounds.{Within, OfDefault, EachDefault}
use Rattle.model.specs.Paths.{step, on}
use Rattle.model.specs.Cycles.{InputField, Among, first, later, Lacks, LacksIn, l_first, l_later, leads, LeadsOn, OnCycle, input_fields, with_default}
use Rattle.model.specs.CycleLaws.{CyclesNeverSettle, AcyclicExactly}
use Rattle.model.proofs.CoNames.{of_input}
use Rattle.model.proofs.CoTakes.{taken}
use Rattle.model.proofs.CyPaths.{steps_then}
use Rattle.model.proofs.CySettle.{Found, lacks-found, acyclic_settles}
use Rattle.model.proofs.CyMeets.{lacks_items, none_in_nil, null_lacks, scalar_lacks, list_lacks, FieldLacks, object_lacks}
use Rattle.model.proofs.CyNumbers.{one_some, none_some}

pub one_input : {D : Def} {fs gs : List Field} → D ≡ input_d fs → D ≡ input_d gs → fs ≡ gs
one_input p q = cc

custom_input : {D : Def} {fs : List Field} → D ≡ custom_d → D ≡ input_d fs → ⊥
custom_input p q = let z : ◌≡◌ {A = ℕ} 0 1 = cc in omega arith

stands_default : (ms : Mems) (f : Field) (x y : Raw) → member ms f.name ≡ none → f.dflt ≡ some y → standing ms f ≡ some x → y ≡ x
stands_default ms f x y m d s = let e : standing ms f ≡ f.dflt = ap (λ (o : Option Raw). or_else o f.dflt) m in one_some (e ∙ d) s

stands_member : (ms : Mems) (f : Field) (x y : Raw) → member ms f.name ≡ some y → standing ms f ≡ some x → y ≡ x
stands_member ms f x y m s = one_some (ap (λ (o : Option Raw). or_else o f.dflt) m) s

stands_not : (ms : Mems) (f : Field) (y : Raw) → standing ms f ≡ none → standing ms f ≡ some y → ⊥
stands_not ms f y p q = none_some (sym p ∙ q)

-- on from a field on a cycle, by one of its steps
abbrev Cycling : Schema → Name → Field → Type 0
Cycling S n f = LeadsOn S (record { owner = n; field = f }) (record { owner = n; field = f })

-- a field on a cycle leads to one on a cycle
abbrev Onward : Schema → Field → Type 0
Onward S f = (x : Raw) × (f.dflt ≡ some x) × (m : Name) × (g : Field) × Lacks S x f.ty m g × Cycling S m g

onward : {S : Schema} {n : Name} {f : Field} → Cycling S n f → Onward S f
onward {S} {n = n} {f = f} (step (leads {x = x} e l)) = (x, e, n, f, l, step (leads e l))
onward (on {b = G} (leads {x = x} e l) r) = (x, e, G.owner, G.field, l, steps_then r (step (leads e l)))

mutual
  never : {S : Schema} {R : Rule} {p : Form} {t : Ty} {x : Raw} {r : Rec} {m : Name} {f : Field} → Takes S R p t x r → Lacks S x t m f → Cycling S m f → ⊥
  never (t_null {t = t} e) l c = null_lacks t l
  never (t_scalar a e) l c = scalar_lacks _ l
  never (t_list here a) l c = never_all a (lacks_items l) c
  never (t_input e u q) l c = let o = object_lacks l in never_fields q (subst (λ (gs : List Field). Among o.2 gs) (one_input o.1 e) o.3) o.4 c
  never (t_any_list e k u) l c = list_lacks l
  never (t_any_object e k u) l c = let o = object_lacks l in custom_input e o.1

  never_all : {S : Schema} {R : Rule} {p : Form} {t : Ty} {xs : Raws} {rs : Recs} {m : Name} {f : Field} → TakesAll S R p t xs rs → LacksIn S xs t m f → Cycling S m f → ⊥
  never_all t_nil l c = none_in_nil l
  never_all (t_cons a b) (l_first l) c = never a l c
  never_all (t_cons a b) (l_later l) c = never_all b l c

  never_fields : {S : Schema} {R : Rule} {p : Form} {fs : List Field} {ms : Mems} {rs : Rmems} {n : Name} {g : Field} {m : Name} {f : Field} → TakesFields S R p fs ms rs → Among g fs → FieldLacks S n ms g m f → Cycling S m f → ⊥
  never_fields t_end i k c = elim i [ ]
  never_fields {S} {ms = ms} (t_some {f = g} {x = x} e s a q) first (inl k) c =
      let w = subst (λ (h : Field). Onward S h) (sym k.4) (onward c) in
      never a (subst (λ (v : Raw). Lacks S v g.ty w.2 w.3) (stands_default ms g x w.0 k.0 w.1 s) w.4) w.5
  never_fields {S} {ms = ms} {m = m} {f = f} (t_some {f = g} {x = x} e s a q) first (inr k) c = never a (subst (λ (v : Raw). Lacks S v g.ty m f) (stands_member ms g x k.0 k.1 s) k.2) c
  never_fields (t_some e s a q) (later i) k c = never_fields q i k c
  never_fields {ms = ms} (t_none {f = g} s z q) first (inl k) c = stands_not ms g k.1 s (ap (λ (o : Option Raw). or_else o g.dflt) k.0 ∙ k.2)
  never_fields {ms = ms} (t_none {f = g} s z q) first (inr k) c = stands_not ms g k.0 s (ap (λ (o : Option Raw). or_else o g.dflt) k.1)
  never_fields (t_none s z q) (later i) k c = never_fields q i k c

pub never_taken : {S : Schema} {R : Rule} {F : InputField} {x : Raw} {r : Rec} → OnCycle S F → F.field.dflt ≡ some x → Takes S R literal F.field.ty x r → ⊥
never_taken {S} {F = F} c d a =
    let w = onward c in
    never a (subst (λ (v : Raw). Lacks S v F.field.ty w.2 w.3) (one_some w.1 d) w.4) w.5

-- an outcome that is neither is beyond
else_beyond : (o : Out Rec) → ((r : Rec) → o ≡ ok r → ⊥) → ((f : Refusal) → o ≡ refused f → ⊥) → o ≡ beyond
else_beyond (ok r) h k = absurd (h r refl)
else_beyond (refused f) h k = absurd (k f refl)
else_beyond beyond h k = refl

pub cycles_never_settle : CyclesNeverSettle
cycles_never_settle S R F x c d = (
  λ r a. never_taken c d a,
  λ k h n. else_beyond (coerce_at k S R literal h x F.field.ty) (λ r e. never_taken c d (taken k S R literal h x F.field.ty r e)) n,
)

-- P of the default of one of the fields
pub each_default : (P : Raw → Ty → Type 0) {f : Field} {fs : List Field} (x : Raw) → EachDefault P fs → Among f fs → f.dflt ≡ some x → P x f.ty
each_default P {f} x w first d = subst (λ (o : Option Raw). OfDefault P f.ty o) d w.0
each_default P x w (later i) d = each_default P x w.1 i d

beyond_not : (o : Out Rec) → Within o → o ≡ beyond → ⊥
beyond_not o w e = subst Within e w

-- a field on a cycle is met
pub cycle_found : {S : Schema} {F G : InputField} → LeadsOn S F G → Found S G.owner G.field
cycle_found (step (leads e l)) = lacks-found l
cycle_found (on e r) = cycle_found r

here : Here
here = record { variable = none; field = none; in_default = true }

pub acyclic_exactly : AcyclicExactly
acyclic_exactly S R n = (
  λ a. (length (with_default (input_fields S)), acyclic_settles S a (length (with_default (input_fields S))) (omega arith) R),
  λ s F c.
      let w = cycle_found c in
      let settled = each_default _ w.3 (of_input _ S s.1 F.owner w.0 w.1) w.2 w.4 here in
      let right = each_default _ w.3 (of_input _ S n F.owner w.0 w.1) w.2 w.4 s.0 here in
      beyond_not (coerce_at s.0 S R literal here w.3 F.field.ty) settled ((cycles_never_settle S R F w.3 c w.4).1 s.0 here right),
)
