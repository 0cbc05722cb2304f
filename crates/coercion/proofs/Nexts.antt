-- What comes next in a frame is what follows in the record.
use Rattle.std.proofs.Common.{◌≡◌, ℕ, List, None, Some, Ok, Option, refl, sym, subst}
use Rattle.std.specs.Borrow.{Bor}
use mathlib.Core.Option.{none, some}
use Rattle.model.specs.Values.{Name, Form, Raw, Raws, Mems, nil, cons, end, mem, Ty}
use Rattle.model.specs.Refusals.{Here}
use Rattle.source.specs.declared.raw.Span.{Span}
use Rattle.source.specs.Standing.{LeadsItems, LeadsMembers}
use Rattle.schema.specs.declared.types.Base.{Base}
use Rattle.schema.specs.declared.types.Shape.{Shape}
use Rattle.schema.specs.declared.definition.Field.{Field as FieldRow}
use Rattle.schema.specs.Documents.{Document}
use Rattle.coercion.specs.declared.frames.Frame.{Frame}
use Rattle.coercion.specs.declared.frames.Rest.{Rest as RestIn}
use Rattle.coercion.specs.declared.frames.Rest.TheVariants.{Single, Items, Members}
use Rattle.coercion.specs.declared.walk.Step.{Step}
use Rattle.coercion.specs.Levels.{Coming, Rest, items, kept, members, follows}
use Rattle.coercion.specs.Openings.{RestIs, single_is, single_taken, items_are, contents_are, members_are}
use Rattle.coercion.specs.Frames.{field_in, default_in}
use Rattle.coercion.specs.Told.{FieldIs, ShapeHeld, StepIs, GoesOn, NextIs}

-- the step to a value in a frame, and the frame with that left
abbrev pub step_of : Frame → Option (Bor (List ℕ)) → ℕ → Step
step_of f n at = record { name = n; at = at; within = f.within }

abbrev pub frame_with : Frame → Option RestIn → Frame
frame_with f q = record { inside = record { rest = q; shape = f.inside.shape; scalar = f.inside.scalar }; start = f.start; at = f.at; within = f.within }

abbrev pub coming_of : ℕ → Form → Here → mathlib.Core.Option.Option Name → Raw → mathlib.Core.Option.Option Ty → Coming
coming_of k p h n x t = record { bound = k; form = p; here = h; name = n; raw = x; ty = t }

module _ (stands : ℕ → Raw → Type 0) (items_in : Span → Raws → Type 0) (members_in : Span → Mems → Type 0) (named : ℕ → List ℕ → Type 0) (rows : List FieldRow) (D : Document) (f : Frame) (k : ℕ) (p : Form) (h : Here)
    (field : FieldIs rows (field_in f.within) h.field) (in_default : default_in f.within ≡ h.in_default) where
  pub single_next : (at : ℕ) (x : Rest) (q : Option RestIn) (s : Option (Shape Base)) (r : Step × Frame) → RestIs stands items_in members_in D q s x → q ≡ Some (Single at) → s ≡ f.inside.shape
      → r.0 ≡ step_of f None at → r.1 ≡ frame_with f None → NextIs stands items_in members_in rows D f (Ok (Some r)) (follows k p h x)
  single_next at x q s r (single_is {at = c} {s = t} {rs} {t = y} {x = z} st sh) e m u v =
      let l : c ≡ at = cc in (
        subst (λ a. StepIs stands rows D a.inside.shape r.0 (coming_of k p h none z (some y))) (sym v)
            (subst (λ a. StepIs stands rows D f.inside.shape a (coming_of k p h none z (some y))) (sym u) (record { name = tt; raw = subst (λ n. stands n z) l st; held = subst (λ g. ShapeHeld D g (some y)) m sh; field = field; in_default = in_default })),
        subst (λ w. GoesOn stands items_in members_in D f w (items rs y nil)) (sym v) (record { rest = subst (λ g. RestIs stands items_in members_in D None g (items rs y nil)) m (single_taken sh); scalar = refl; start = refl; at = refl; within = refl }),
      )
  single_next at x q s r (single_taken sh) e m u v = cc
  single_next at x q s r (items_are i sh) e m u v = cc
  single_next at x q s r (contents_are i) e m u v = cc
  single_next at x q s r (members_are i) e m u v = cc

  -- of a list, the items are all taken
  pub items_taken : (span : Span) (x : Rest) (q : Option RestIn) (s : Option (Shape Base)) → RestIs stands items_in members_in D q s x → q ≡ Some (Items span) → s ≡ f.inside.shape
      → ((xs : Raws) → items_in span xs → LeadsItems stands items_in xs None) → NextIs stands items_in members_in rows D f (Ok None) (follows k p h x)
  items_taken span x q s (single_is st sh) e m l = cc
  items_taken span x q s (single_taken sh) e m l = cc
  items_taken span x q s (items_are {span = i} {xs = nil} st sh) e m l = tt
  items_taken span x q s (items_are {span = i} {xs = cons z zs} st sh) e m l = let w : i ≡ span = cc in absurd (l (cons z zs) (subst (λ n. items_in n (cons z zs)) w st))
  items_taken span x q s (contents_are {span = i} {xs = nil} st) e m l = tt
  items_taken span x q s (contents_are {span = i} {xs = cons z zs} st) e m l = let w : i ≡ span = cc in absurd (l (cons z zs) (subst (λ n. items_in n (cons z zs)) w st))
  items_taken span x q s (members_are st) e m l = cc

  -- or the first of them comes
  pub item_next : (span left : Span) (at : ℕ) (x : Rest) (q : Option RestIn) (s : Option (Shape Base)) (r : Step × Frame) → RestIs stands items_in members_in D q s x → q ≡ Some (Items span) → s ≡ f.inside.shape
      → ((xs : Raws) → items_in span xs → LeadsItems stands items_in xs (Some (at, left))) → r.0 ≡ step_of f None at → r.1 ≡ frame_with f (Some (Items left)) → NextIs stands items_in members_in rows D f (Ok (Some r)) (follows k p h x)
  item_next span left at x q s r (single_is st sh) e m l u v = cc
  item_next span left at x q s r (single_taken sh) e m l u v = cc
  item_next span left at x q s r (items_are {span = i} {xs = nil} st sh) e m l u v = let w : i ≡ span = cc in absurd (l nil (subst (λ n. items_in n nil) w st))
  item_next span left at x q s r (items_are {span = i} {rs = rs} {t = y} {xs = cons z zs} st sh) e m l u v =
      let w : i ≡ span = cc in
      let t = l (cons z zs) (subst (λ n. items_in n (cons z zs)) w st) in (
        subst (λ a. StepIs stands rows D a.inside.shape r.0 (coming_of k p h none z (some y))) (sym v)
            (subst (λ a. StepIs stands rows D f.inside.shape a (coming_of k p h none z (some y))) (sym u) (record { name = tt; raw = t.0; held = subst (λ g. ShapeHeld D g (some y)) m sh; field = field; in_default = in_default })),
        subst (λ a. GoesOn stands items_in members_in D f a (items rs y zs)) (sym v) (record { rest = subst (λ g. RestIs stands items_in members_in D (Some (Items left)) g (items rs y zs)) m (items_are t.1 sh); scalar = refl; start = refl; at = refl; within = refl }),
      )
  item_next span left at x q s r (contents_are {span = i} {xs = nil} st) e m l u v = let w : i ≡ span = cc in absurd (l nil (subst (λ n. items_in n nil) w st))
  item_next span left at x q s r (contents_are {span = i} {rs = rs} {xs = cons z zs} st) e m l u v =
      let w : i ≡ span = cc in
      let t = l (cons z zs) (subst (λ n. items_in n (cons z zs)) w st) in (
        subst (λ a. StepIs stands rows D a.inside.shape r.0 (coming_of k p h none z none)) (sym v)
            (subst (λ a. StepIs stands rows D f.inside.shape a (coming_of k p h none z none)) (sym u) (record { name = tt; raw = t.0; held = subst (λ g. ShapeHeld D g none) m tt; field = field; in_default = in_default })),
        subst (λ a. GoesOn stands items_in members_in D f a (kept rs zs)) (sym v) (record { rest = subst (λ g. RestIs stands items_in members_in D (Some (Items left)) g (kept rs zs)) m (contents_are t.1); scalar = refl; start = refl; at = refl; within = refl }),
      )
  item_next span left at x q s r (members_are st) e m l u v = cc

  -- the same of members
  pub members_taken : (span : Span) (x : Rest) (q : Option RestIn) (s : Option (Shape Base)) → RestIs stands items_in members_in D q s x → q ≡ Some (Members span) → s ≡ f.inside.shape
      → ((ms : Mems) → members_in span ms → LeadsMembers named stands members_in ms None) → NextIs stands items_in members_in rows D f (Ok None) (follows k p h x)
  members_taken span x q s (single_is st sh) e m l = cc
  members_taken span x q s (single_taken sh) e m l = cc
  members_taken span x q s (items_are st sh) e m l = cc
  members_taken span x q s (contents_are st) e m l = cc
  members_taken span x q s (members_are {span = i} {ms = end} st) e m l = tt
  members_taken span x q s (members_are {span = i} {ms = mem n z zs} st) e m l = let w : i ≡ span = cc in absurd (l (mem n z zs) (subst (λ a. members_in a (mem n z zs)) w st))

  pub member_next : (span left : Span) (at : ℕ) (called : Bor (List ℕ)) (x : Rest) (q : Option RestIn) (s : Option (Shape Base)) (r : Step × Frame) → RestIs stands items_in members_in D q s x → q ≡ Some (Members span) → s ≡ f.inside.shape
      → ((ms : Mems) → members_in span ms → LeadsMembers named stands members_in ms (Some (at, left))) → ((n : List ℕ) → named at n → called.now ≡ n)
      → r.0 ≡ step_of f (Some called) at → r.1 ≡ frame_with f (Some (Members left)) → NextIs stands items_in members_in rows D f (Ok (Some r)) (follows k p h x)
  member_next span left at called x q s r (single_is st sh) e m l n u v = cc
  member_next span left at called x q s r (single_taken sh) e m l n u v = cc
  member_next span left at called x q s r (items_are st sh) e m l n u v = cc
  member_next span left at called x q s r (contents_are st) e m l n u v = cc
  member_next span left at called x q s r (members_are {span = i} {ms = end} st) e m l n u v = let w : i ≡ span = cc in absurd (l end (subst (λ a. members_in a end) w st))
  member_next span left at called x q s r (members_are {span = i} {rs = rs} {ms = mem o z zs} st) e m l n u v =
      let w : i ≡ span = cc in
      let t = l (mem o z zs) (subst (λ a. members_in a (mem o z zs)) w st) in (
        subst (λ a. StepIs stands rows D a.inside.shape r.0 (coming_of k p h (some o) z none)) (sym v)
            (subst (λ a. StepIs stands rows D f.inside.shape a (coming_of k p h (some o) z none)) (sym u) (record { name = n o t.0; raw = t.1; held = subst (λ g. ShapeHeld D g none) m tt; field = field; in_default = in_default })),
        subst (λ a. GoesOn stands items_in members_in D f a (members rs zs)) (sym v) (record { rest = subst (λ g. RestIs stands items_in members_in D (Some (Members left)) g (members rs zs)) m (members_are t.2); scalar = refl; start = refl; at = refl; within = refl }),
      )
