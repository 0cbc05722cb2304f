-- Where every default is right, there is no cycle exactly when every default comes to a record
use Rattle.std.proofs.Common.{◌≡◌, ℕ, true, false, List, [], ◌∷◌, length, refl, arith}
use mathlib.Core.Option.{Option, none, some}
use Rattle.model.specs.Values.{literal, Raw, Ty, Field, Def, int_d, float_d, string_d, boolean_d, id_d, enum_d, input_d, custom_d, output_d, TypeDef, place_of, Rec}
use Rattle.model.specs.Refusals.{Out, ok, refused, beyond, Here}
use Rattle.model.specs.Coercion.{coerce_at}
use Rattle.model.specs.Taking.{Takes}
use Rattle.model.specs.Back.{OfDef, OfTypes}
use Rattle.model.specs.Bounds.{Within, OfDefault, EachDefault}
use Rattle.model.specs.Checking.{RightDefault}
use Rattle.model.specs.Cycles.{input_fields, with_default}
use Rattle.model.specs.CycleLaws.{AcyclicWhenTaken}
use Rattle.model.proofs.ChCoerces.{Unrefused, on_at}
use Rattle.model.proofs.CoNames.{of_input}
use Rattle.model.proofs.CoTakes.{taken}
use Rattle.model.proofs.CySettle.{acyclic_settles}
use Rattle.model.proofs.CyNever.{never_taken, cycle_found, each_default}

-- P and Q of each default are U of each default, if they are so of one
both_defaults : (P Q U : Raw → Ty → Type 0) → ((x : Raw) (t : Ty) → P x t → Q x t → U x t) → (fs : List Field) → EachDefault P fs → EachDefault Q fs → EachDefault U fs
both_defaults P Q U h [] p q = tt
both_defaults P Q U h (f ∷ fs) p q = (both f.dflt p.0 q.0, both_defaults P Q U h fs p.1 q.1)
  where
    both : (o : Option Raw) → OfDefault P f.ty o → OfDefault Q f.ty o → OfDefault U f.ty o
    both none a b = tt
    both (some x) a b = h x f.ty a b

both_types : (P Q U : List Field → Type 0) → ((fs : List Field) → P fs → Q fs → U fs) → (ds : List TypeDef) → OfTypes P ds → OfTypes Q ds → OfTypes U ds
both_types P Q U h [] p q = tt
both_types P Q U h (d ∷ ds) p q = (both d.def p.0 q.0, both_types P Q U h ds p.1 q.1)
  where
    both : (D : Def) → OfDef P D → OfDef Q D → OfDef U D
    both int_d a b = tt
    both float_d a b = tt
    both string_d a b = tt
    both boolean_d a b = tt
    both id_d a b = tt
    both (enum_d ns) a b = tt
    both (input_d fs) a b = h fs a b
    both custom_d a b = tt
    both output_d a b = tt

here : Here
here = record { variable = none; field = none; in_default = true }

accepted : (o : Out Rec) → Unrefused o → Within o → (r : Rec) × (o ≡ ok r)
accepted (ok r) u w = (r, refl)
accepted (refused f) u w = absurd u
accepted beyond u w = absurd w

pub acyclic_when_taken : AcyclicWhenTaken
acyclic_when_taken S R all right = (
  λ a.
      let k = length (with_default (input_fields S)) in
      let settled = acyclic_settles S a k (omega arith) R in
      both_types _ _ _ (λ fs p q. both_defaults _ _ _ (λ x t u v. takes k x t u (v here)) fs p q) S.types right settled,
  λ t F c.
      let w = cycle_found c in
      let r = each_default _ w.3 (of_input _ S t F.owner w.0 w.1) w.2 w.4 in
      never_taken c w.4 r.1,
)
  where
    takes : (k : ℕ) (x : Raw) (t : Ty) → RightDefault S x t → Within (coerce_at k S R literal here x t) → (r : Rec) × Takes S R literal t x r
    takes k x t u w =
        let o = accepted (coerce_at k S R literal here x t) (on_at k S R all right [] false (place_of x) here x t u.0 u.1) w in
        (o.0, taken k S R literal here x t o.0 o.1)
