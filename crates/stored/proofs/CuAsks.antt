-- What a value says of itself, by the kind and the body of its record.
use Rattle.std.proofs.Common.{◌≡◌, ℕ, List, [], length, ◌∙◌, Some, None, Option, MatchOption, sym, refl, subst}
use Rattle.model.specs.Values.{p_boolean, p_whole, p_decimal, p_string, Rec, r_null, r_plain, r_list, r_object, Raw}
use Rattle.model.specs.Records.{kind}
use Rattle.source.specs.Heads.{kind_of}
use Rattle.record.specs.Kinds.{number_of}
use Rattle.stored.specs.declared.stored.Target.{Target}
use Rattle.stored.specs.declared.header.Record.{Record}
use Rattle.stored.specs.Frames.{RecordTold}
use Rattle.stored.specs.OneFrame.{one_framed}
use Rattle.stored.specs.Cursors.{shown, Held, Named, Follows, FollowTold, OfRecord, kind_numbered}

-- what holds of each value that the record shows holds of the one at the cursor
pub held_of : (P : Raw → Type 0) {bytes : List ℕ} {at : ℕ} {t : Raw} {h : Target} (x : Held bytes at t) → Follows bytes at h → OfRecord P (number_of h.kind) h.body.now → P t
held_of P x f o = let p = f.points x.place x.from x.value x.leads in subst P x.shows (o x.place x.from x.depth x.value (sym p.kinds) (sym p.bodies) x.within)

-- the same where no record may be found
pub asked : (Q : Raw → Type 0) {bytes : List ℕ} {at : ℕ} {t : Raw} (o : Option Target) (N : Type 0) (P : Target → Type 0) → Held bytes at t → FollowTold bytes at o → MatchOption o N P → ((h : Target) → P h → OfRecord Q (number_of h.kind) h.body.now) → Q t
asked Q None N P x f m g = absurd (f x.place x.from x.value x.leads)
asked Q (Some h) N P x f m g = held_of Q x f (g h m)

pub kind_shown : (p f : ℕ) (r : Rec) → kind_numbered (kind r) ≡ kind_of (shown p f r)
kind_shown p f r_null = refl
kind_shown p f (r_plain (p_boolean t)) = refl
kind_shown p f (r_plain (p_whole s)) = refl
kind_shown p f (r_plain (p_decimal d)) = refl
kind_shown p f (r_plain (p_string s)) = refl
kind_shown p f (r_list rs) = refl
kind_shown p f (r_object ms) = refl

-- the body of the frame at a member's name
pub named_body : {bytes : List ℕ} {at : ℕ} {n xs : List ℕ} (o : Option Record) → RecordTold bytes at (length bytes) o → Named bytes at n → MatchOption o (xs ≡ []) (λ h. xs ≡ h.body.now) → xs ≡ n
named_body None f k m = absurd (f 8 _ k)
named_body (Some h) f k m = m ∙ (one_framed f.framed k).1
