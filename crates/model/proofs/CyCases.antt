-- The cases of default cycles
use Rattle.std.proofs.Common.{◌≡◌, ℕ, true, List, [], ◌∷◌, inl, inr, refl, sym, subst, ap, ◌∙◌, arith}
use mathlib.Core.Option.{none, some}
use Rattle.model.specs.Values.{Name, literal, Raw, end, Ty, Field, Schema, Rec}
use Rattle.model.specs.Refusals.{Out, ok, refused, beyond, Here}
use Rattle.model.specs.Coercion.{coerce_at}
use Rattle.model.specs.Cases.{accept_all}
use Rattle.model.specs.Back.{OfInputs}
use Rattle.model.specs.Bounds.{EachDefault}
use Rattle.model.specs.Paths.{step, on}
use Rattle.model.specs.Cycles.{InputField, Among, first, later, Lacks, l_here, l_member, l_items, l_first, l_later, leads, LeadsOn, OnCycle, Acyclic}
use Rattle.model.specs.CycleCases.{CycleCases, type_a, type_b, a_b, empty, to_b, to_itself, two_types}
use Rattle.model.proofs.CoNames.{of_input}
use Rattle.model.proofs.CoTakes.{taken}
use Rattle.model.proofs.CyNever.{one_input, never_taken, cycle_found, each_default}
use Rattle.model.proofs.CyMeets.{FieldLacks, object_lacks}
use Rattle.model.proofs.CyNumbers.{one_some, none_some}

here : Here
here = record { variable = none; field = none; in_default = true }

-- accepted, as it computes
abbrev Accepted : Out Rec → Type 0
Accepted (ok r) = Unit {0}
Accepted (refused f) = ⊥
Accepted beyond = ⊥

record_of : (o : Out Rec) → Accepted o → (r : Rec) × (o ≡ ok r)
record_of (ok r) a = (r, refl)
record_of (refused f) a = absurd a
record_of beyond a = absurd a

-- where each default is accepted within three defaults there is no cycle
all_accepted : (S : Schema) → OfInputs (EachDefault (λ x t. Accepted (coerce_at 3 S accept_all literal here x t))) S → Acyclic S
all_accepted S w F c =
    let k = cycle_found c in
    let a = each_default _ k.3 (of_input _ S w F.owner k.0 k.1) k.2 k.4 in
    let r = record_of (coerce_at 3 S accept_all literal here k.3 F.field.ty) a in
    never_taken c k.4 (taken 3 S accept_all literal here k.3 F.field.ty r.0 r.1)

-- the field of B leads to itself alone
among_one : {A : Type 0} {x y : A} → Among x (y ∷ []) → x ≡ y
among_one first = refl
among_one (later i) = elim i [ ]

abbrev both : Schema
both = two_types to_b to_b

field_only : {m : Name} {g f : Field} → g ≡ to_b → FieldLacks both type_b end g m f → (type_b ≡ m) × (to_b ≡ f)
field_only q (inl k) = (k.3, sym q ∙ k.4)
field_only q (inr k) = absurd (none_some k.1)

only : {m : Name} {f : Field} → Lacks both empty a_b m f → (type_b ≡ m) × (to_b ≡ f)
only l =
    let o = object_lacks l in
    field_only (among_one (subst (λ (gs : List Field). Among o.2 gs) (sym (one_input {fs = to_b ∷ []} {gs = o.0} refl o.1)) o.3)) o.4

onto : (F : Field) → F ≡ to_b → {x : Raw} {m : Name} {f : Field} → F.dflt ≡ some x → Lacks both x F.ty m f → (type_b ≡ m) × (to_b ≡ f)
onto F q {x} {m} {f} e l = only (subst (λ (v : Raw). Lacks both v a_b m f) (one_some e (ap (λ (g : Field). g.dflt) q)) (subst (λ (t : Ty). Lacks both x t m f) (ap (λ (g : Field). g.ty) q) l))

led_to : {F G : InputField} → F.field ≡ to_b → LeadsOn both F G → type_b ≡ G.owner
led_to {F} q (step (leads e l)) = (onto F.field q e l).0
led_to {F} q (on (leads e l) r) = led_to (sym (onto F.field q e l).1) r

beside : OnCycle both (record { owner = type_a; field = to_b }) → ⊥
beside c = let e = led_to refl c in let z : ◌≡◌ {A = ℕ} 66 65 = cc in omega arith

pub cycle_cases : CycleCases
cycle_cases = (
  step (leads refl (l_here refl first refl refl)),
  on {b = record { owner = type_b; field = to_itself }} (leads refl (l_here refl first refl refl)) (step (leads refl (l_here refl first refl refl))),
  on {b = record { owner = type_a; field = to_b }} (leads refl (l_here refl first refl refl)) (step (leads refl (l_here refl first refl refl))),
  step (leads refl (l_items (l_first (l_items (l_first (l_here refl first refl refl)))))),
  step (leads refl (l_items (l_later (l_first (l_here refl first refl refl))))),
  step (leads refl (l_member refl first refl (l_here refl first refl refl))),
  all_accepted _ ((tt, tt), tt),
  all_accepted _ ((tt, tt), ((tt, tt), tt)),
  all_accepted _ ((tt, tt), ((tt, tt), tt)),
  all_accepted _ (tt, ((tt, tt), tt)),
  beside,
  step (leads refl (l_here refl first refl refl)),
)
