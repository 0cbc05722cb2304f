-- Cursors, and the trees that stand at them.
use Rattle.std.proofs.Common.{◌≡◌, ℕ, ◌+◌, ◌-◌, ◌≤◌, ◌≢◌, List, ◌++◌, length, Some, None, Option, sym, refl, ap, ◌∙◌, subst, arith}
use Rattle.std.proofs.lemmas.List.{append-nil, drop_all}
use Rattle.model.specs.Values.{p_boolean, p_whole, p_decimal, p_string, Rec, r_null, r_plain, r_list, r_object}
use Rattle.model.specs.Records.{kind, body, encode_mems}
use Rattle.record.specs.Kinds.{number_of}
use Rattle.record.specs.declared.kind.RecordKind.{RecordKind}
use Rattle.record.specs.declared.kind.RecordKind.TheVariants.{Null, Boolean, Whole, Decimal, String, List as ListKind, Object}
use Rattle.stored.specs.declared.header.Record.{Record}
use Rattle.stored.specs.declared.stored.Target.{Target}
use Rattle.stored.specs.Frames.{past, Framed, Fills, end_of, RecordAt, Valued, an_item, a_member, Valueless, no_record, bare_name}
use Rattle.stored.specs.Past.{past_at}
use Rattle.stored.specs.Cursors.{Leads, at_root, at_item, at_member, Points, Follows, FollowTold, TargetOf, TargetTold}
use Rattle.stored.specs.OneFrame.{one_framed, inside}
use Rattle.stored.specs.OneTree.{kind_small}
use Rattle.stored.proofs.FrLaws.{ends, ends_inside}
use Rattle.stored.proofs.OutSound.{framed-fills, body_fills}
use Rattle.stored.proofs.PaLaws.{narrow_root, narrow_item, narrow_member}

-- the kind of each record has a number
kind_named : (r : Rec) → (q : RecordKind) × (number_of q ≡ kind r)
kind_named r_null = (Null, refl)
kind_named (r_plain (p_boolean t)) = (Boolean, refl)
kind_named (r_plain (p_whole s)) = (Whole, refl)
kind_named (r_plain (p_decimal d)) = (Decimal, refl)
kind_named (r_plain (p_string s)) = (String, refl)
kind_named (r_list rs) = (ListKind, refl)
kind_named (r_object ms) = (Object, refl)

-- FOLLOWING A CURSOR

-- the cursor's record stands at the place
record Stands (bytes : List ℕ) (at p f : ℕ) (x : Rec) : Type 0 where
  place : p ≡ at
  from : f ≡ at + 6
  framed : Framed bytes at (length bytes) (kind x) (body x)

leads_item : {bytes : List ℕ} {at p f : ℕ} {x : Rec} {h : Record} → at ≢ length bytes → RecordAt bytes at (length bytes) h → h.kind ≢ 8 → Leads bytes at p f x → Stands bytes at p f x
leads_item n a k (at_root q w) = absurd (n q)
leads_item n a k (at_item g) = record { place = refl; from = refl; framed = g }
leads_item n a k (at_member g w z) = absurd (k (one_framed a.framed g).0)

leads_member : {bytes : List ℕ} {at p f : ℕ} {x : Rec} {h : Record} → at ≢ length bytes → RecordAt bytes at (length bytes) h → h.kind ≡ 8 → Leads bytes at p f x → Stands bytes (end_of h) p f x
leads_member n a k (at_root q w) = absurd (n q)
leads_member {x = x} n a k (at_item y) = absurd (let e = (one_framed a.framed y).0 in let s = kind_small x in omega (arith, s.1))
leads_member {bytes} {at} {p} {x = x} {h} n a k (at_member y w z) =
    let same : p ≡ (end_of h) = sym w ∙ ap (past at) (sym (one_framed a.framed y).1) ∙ sym (ends a) in
    record { place = same; from = ap (λ q. q + 6) same; framed = subst (λ q. Framed bytes q (length bytes) (kind x) (body x)) same z }

pub none_leads : {bytes : List ℕ} {at : ℕ} → at ≢ length bytes → Valueless bytes at (length bytes) → (p f : ℕ) (x : Rec) → Leads bytes at p f x → ⊥
none_leads n (no_record u) p f x (at_root q w) = n q
none_leads n (no_record u) p f x (at_item g) = u _ _ g
none_leads n (no_record u) p f x (at_member g w k) = u _ _ g
none_leads n (bare_name a k u) p f x l = u _ _ (leads_member n a k l).framed

points_frame : {bytes : List ℕ} {i p f : ℕ} {x : Rec} {h : Record} {t : Target} → RecordAt bytes i (length bytes) h → TargetOf i h t → Stands bytes i p f x → Points bytes p f x t
points_frame {bytes} {i} {x = x} a o s =
    let e = one_framed a.framed s.framed in
    record {
      place = o.place ∙ sym s.place;
      kinds = o.kinds ∙ e.0;
      from = o.from ∙ a.starts ∙ sym s.from;
      bodies = o.body ∙ e.1;
      there = rw s.from (subst (λ k. Fills bytes (i + 6) k (body x)) (omega arith) (body_fills (framed-fills s.framed refl)));
    }

-- the record that was found at the place is the cursor's
follows_frame : {bytes : List ℕ} {at i : ℕ} {h : Record} (o : Option Target) → RecordAt bytes i (length bytes) h → length h.body.now ≤ past_at bytes at - at - 1 → ((p f : ℕ) (x : Rec) → Leads bytes at p f x → Stands bytes i p f x) → TargetTold i h o → FollowTold bytes at o
follows_frame None a w s t = λ p f x l. let q = kind_named x in t q.0 (q.1 ∙ sym (one_framed a.framed (s p f x l).framed).0)
follows_frame (Some t) a w s o =
    let m = ap length o.body in
    record { lies = omega (arith, o.from, ends_inside a); narrow = omega arith; points = λ p f x l. points_frame a o (s p f x l) }

pub follows_valued : {bytes : List ℕ} {at i : ℕ} {h : Record} (o : Option Target) → at ≢ length bytes → Valued bytes at (length bytes) i h → TargetTold i h o → FollowTold bytes at o
follows_valued o n (an_item a k) t = follows_frame o a (narrow_item a k) (λ p f x l. leads_item n a k l) t
follows_valued o n (a_member a k b) t = follows_frame o b (narrow_member a k b) (λ p f x l. leads_member n a k l) t

points_root : (bytes : List ℕ) (at p f : ℕ) (x : Rec) (h : Target) → at ≡ length bytes → h.place ≡ 0 → h.kind ≡ Object → h.from ≡ 0 → h.body.now ≡ bytes → Leads bytes at p f x → Points bytes p f x h
points_root bytes at p f x h e z k q b (at_root {ms = ms} d w) = record {
  place = z;
  kinds = ap number_of k;
  from = q;
  bodies = b ∙ sym w;
  there = record { there = sym w ∙ sym (append-nil (encode_mems ms)) ∙ ap (λ l. encode_mems ms ++ l) (sym (drop_all (0 + length (encode_mems ms)) bytes (let l = ap length w in omega arith))); ends = refl };
}
points_root bytes at p f x h e z k q b (at_item g) = absurd (let l = inside g in omega arith)
points_root bytes at p f x h e z k q b (at_member g w y) = absurd (let l = inside g in omega arith)

pub follows_root : (bytes : List ℕ) (at : ℕ) (h : Target) → at ≡ length bytes → h.place ≡ 0 → h.kind ≡ Object → h.from ≡ 0 → h.body.now ≡ bytes → Follows bytes at h
follows_root bytes at h e z k q b = record {
  lies = let l = ap length b in omega arith;
  narrow = let l = ap length b in omega (arith, narrow_root bytes at e);
  points = λ p f x l. points_root bytes at p f x h e z k q b l;
}
