-- P of what is accepted
use Rattle.std.proofs.Common.{◌≡◌, Bool, true, false, cond, refl, subst}
use Rattle.model.specs.Refusals.{Out, ok, refused, beyond, and_then}

abbrev pub Good : {X : Type 0} → (X → Type 0) → Out X → Type 0
Good P (ok x) = P x
Good P (refused f) = Unit {0}
Good P beyond = Unit {0}

pub good_then : {X Y : Type 0} (P : X → Type 0) (Q : Y → Type 0) (o : Out X) (f : X → Out Y) → Good P o → ((x : X) → P x → Good Q (f x)) → Good Q (and_then o f)
good_then P Q (ok x) f h k = k x h
good_then P Q (refused n) f h k = tt
good_then P Q beyond f h k = tt

pub good_cond : {X : Type 0} (P : X → Type 0) (b : Bool) (o q : Out X) → (b ≡ true → Good P o) → (b ≡ false → Good P q) → Good P (cond b o q)
good_cond P true o q h k = h refl
good_cond P false o q h k = k refl

pub good_of : {X : Type 0} (P : X → Type 0) (o : Out X) (x : X) → Good P o → o ≡ ok x → P x
good_of P o x h e = subst (Good P) e h

pub good_all : {X Y : Type 0} (Q : Y → Type 0) (o : Out X) (f : X → Out Y) → ((x : X) → Good Q (f x)) → Good Q (and_then o f)
good_all Q (ok x) f k = k x
good_all Q (refused n) f k = tt
good_all Q beyond f k = tt

pub good_each : {X : Type 0} (P : X → Type 0) (o : Out X) → ((x : X) → P x) → Good P o
good_each P (ok x) h = h x
good_each P (refused f) h = tt
good_each P beyond h = tt

pub good_more : {X : Type 0} (P Q : X → Type 0) (o : Out X) → Good P o → ((x : X) → P x → Q x) → Good Q o
good_more P Q (ok x) h k = k x h
good_more P Q (refused f) h k = tt
good_more P Q beyond h k = tt

pub itself : {X : Type 0} (o : Out X) → Good (λ x. o ≡ ok x) o
itself (ok x) = refl
itself (refused f) = tt
itself beyond = tt
