-- Items and members in spans.
use Rattle.std.proofs.Common.{◌≡◌, ℕ, ◌+◌, ◌≤◌, ◌≢◌, List, [], ◌++◌, length, drop, Some, None, sym, refl, ap, ◌∙◌, subst, arith, length-append, length-drop}
use Rattle.model.specs.Values.{Name, Rec, Recs, Rmems, r_nil, r_cons, r_end, r_mem, Raws, Mems}
use Rattle.model.specs.Records.{kind, body, encode, encode_all, encode_mems, framed}
use Rattle.model.specs.Limits.{RecLimitsAll, RecLimitsMems}
use Rattle.source.specs.declared.raw.Span.{Span}
use Rattle.source.specs.Standing.{LeadsItems, LeadsMembers}
use Rattle.stored.specs.declared.header.Record.{Record}
use Rattle.stored.specs.Frames.{past, Framed, Unframed, Fills, end_of, RecordAt, Valued, an_item, a_member, Valueless, no_record, bare_name}
use Rattle.stored.specs.Cursors.{shown_all, shown_mems, at_item, at_member, Held, HeldAll, HeldMems, Named}
use Rattle.stored.specs.OneFrame.{one_framed}
use Rattle.stored.specs.OneTree.{kind_small}
use Rattle.stored.proofs.FrLaws.{ends, within}
use Rattle.stored.proofs.OutSound.{fills_split, fills_framed}

-- THE NEXT ITEM

fills_within : {bytes : List ℕ} {i e k : ℕ} {b : List ℕ} → Fills bytes i e (framed k b) → e ≤ length bytes
fills_within {bytes} {i} {e} {k} {b} f =
    let l = ap length f.there in
    let m = length-append b (drop e bytes) in
    let p = f.ends in
    let d = length-drop i bytes in
    let g = length-drop e bytes in
    omega arith

-- a record and where it ends, in a span that starts with it
record First (bytes : List ℕ) (i to : ℕ) (r : Rec) (rest : List ℕ) : Type 0 where
  frame : Framed bytes i to (kind r) (body r)
  whole : Framed bytes i (length bytes) (kind r) (body r)
  others : Fills bytes (i + length (encode r)) to rest

first : {bytes : List ℕ} {i to : ℕ} (r : Rec) (rest : List ℕ) → length bytes ≤ 65536 → Fills bytes i to (encode r ++ rest) → First bytes i to r rest
first r rest n f =
    let s = fills_split (encode r) rest f in
    let p = s.1.ends in
    let w = fills_within s.0 in
    record { frame = fills_framed n s.0 (omega arith); whole = fills_framed n s.0 w; others = s.1 }

ends_with : {bytes : List ℕ} {i to : ℕ} {h : Record} (r : Rec) → RecordAt bytes i to h → Framed bytes i to (kind r) (body r) → end_of h ≡ i + length (encode r)
ends_with r a f = let e = ap length (one_framed a.framed f).1 in let p = ends a in omega arith

none_left : {bytes : List ℕ} {i to : ℕ} {h : Record} → RecordAt bytes i to h → Fills bytes i to [] → ⊥
none_left a f = omega (arith, f.ends, a.starts, within a)

unframed_items : (bytes : List ℕ) (i to : ℕ) (rs : Recs) → Unframed bytes i to → length bytes ≤ 65536 → Fills bytes i to (encode_all rs) → LeadsItems (Held bytes) (HeldAll bytes) (shown_all i rs) None
unframed_items bytes i to r_nil u n f = tt
unframed_items bytes i to (r_cons r rs) u n f = absurd (u _ _ (first r (encode_all rs) n f).frame)

items_none : (bytes : List ℕ) (s : Span) (xs : Raws) → Unframed bytes s.from s.to → HeldAll bytes s xs → LeadsItems (Held bytes) (HeldAll bytes) xs None
items_none bytes s xs u h = subst (λ ys. LeadsItems (Held bytes) (HeldAll bytes) ys None) h.shows (unframed_items bytes s.from s.to h.values u h.short h.fills)

framed-items : (bytes : List ℕ) (i to d : ℕ) (h : Record) (rs : Recs) → RecordAt bytes i to h → length bytes ≤ 65536 → Fills bytes i to (encode_all rs) → RecLimitsAll d rs → LeadsItems (Held bytes) (HeldAll bytes) (shown_all i rs) (Some (i, record { from = end_of h; to = to }))
framed-items bytes i to d h r_nil a n f l = absurd (none_left a f)
framed-items bytes i to d h (r_cons r rs) a n f l =
    let x = first r (encode_all rs) n f in
    let e = ends_with r a x.frame in (
      record { place = i; from = i + 6; value = r; leads = at_item x.whole; shows = refl; depth = d; within = l.0; short = n },
      record { values = rs; fills = subst (λ k. Fills bytes k to (encode_all rs)) (sym e) x.others; shows = ap (λ k. shown_all k rs) e; depth = d; within = l.1; short = n },
    )

items_next : (bytes : List ℕ) (s : Span) (xs : Raws) (h : Record) → RecordAt bytes s.from s.to h → HeldAll bytes s xs → LeadsItems (Held bytes) (HeldAll bytes) xs (Some (s.from, record { from = end_of h; to = s.to }))
items_next bytes s xs h a x =
    subst (λ ys. LeadsItems (Held bytes) (HeldAll bytes) ys (Some (s.from, record { from = end_of h; to = s.to }))) x.shows
    (framed-items bytes s.from s.to x.depth h x.values a x.short x.fills x.within)

named_items : (bytes : List ℕ) (i to : ℕ) (h : Record) (rs : Recs) → RecordAt bytes i to h → h.kind ≡ 8 → length bytes ≤ 65536 → Fills bytes i to (encode_all rs) → ⊥
named_items bytes i to h r_nil a k n f = none_left a f
named_items bytes i to h (r_cons r rs) a k n f = let e = (one_framed a.framed (first r (encode_all rs) n f).frame).0 in let s = kind_small r in omega (arith, s.1)

-- no name stands among items
items_unnamed : (bytes : List ℕ) (s : Span) (xs : Raws) (h : Record) → RecordAt bytes s.from s.to h → h.kind ≡ 8 → HeldAll bytes s xs → ⊥
items_unnamed bytes s xs h a k x = named_items bytes s.from s.to h x.values a k x.short x.fills

-- THE NEXT MEMBER

-- a name and a record in a span that starts with them
record FirstMember (bytes : List ℕ) (i to : ℕ) (m : Name) (r : Rec) (rest : List ℕ) : Type 0 where
  name : Framed bytes i to 8 m
  whole : Framed bytes i (length bytes) 8 m
  value : First bytes (past i m) to r rest

first_member : {bytes : List ℕ} {i to : ℕ} (m : Name) (r : Rec) (rest : List ℕ) → length bytes ≤ 65536 → Fills bytes i to (framed 8 m ++ (encode r ++ rest)) → FirstMember bytes i to m r rest
first_member {bytes} {i} {to} m r rest n f =
    let s = fills_split (framed 8 m) (encode r ++ rest) f in
    let p = s.1.ends in
    let w = fills_within s.0 in
    let c : i + length (framed 8 m) ≡ past i m = omega arith in
    record {
      name = fills_framed n s.0 (omega arith);
      whole = fills_framed n s.0 w;
      value = first r rest n (subst (λ k. Fills bytes k to (encode r ++ rest)) c s.1);
    }

name_ends : {bytes : List ℕ} {i to : ℕ} {h : Record} (m : Name) → RecordAt bytes i to h → Framed bytes i to 8 m → end_of h ≡ past i m
name_ends {i = i} m a f = ends a ∙ ap (past i) (one_framed a.framed f).1

unframed_members : (bytes : List ℕ) (i to : ℕ) (ms : Rmems) → Unframed bytes i to → length bytes ≤ 65536 → Fills bytes i to (encode_mems ms) → LeadsMembers (Named bytes) (Held bytes) (HeldMems bytes) (shown_mems i ms) None
unframed_members bytes i to r_end u n f = tt
unframed_members bytes i to (r_mem m r ms) u n f = absurd (u _ _ (first_member m r (encode_mems ms) n f).name)

members_none : (bytes : List ℕ) (s : Span) (ms : Mems) → Unframed bytes s.from s.to → HeldMems bytes s ms → LeadsMembers (Named bytes) (Held bytes) (HeldMems bytes) ms None
members_none bytes s ms u h = subst (λ ks. LeadsMembers (Named bytes) (Held bytes) (HeldMems bytes) ks None) h.shows (unframed_members bytes s.from s.to h.values u h.short h.fills)

other_members : (bytes : List ℕ) (i to : ℕ) (h : Record) (ms : Rmems) → RecordAt bytes i to h → h.kind ≢ 8 → length bytes ≤ 65536 → Fills bytes i to (encode_mems ms) → ⊥
other_members bytes i to h r_end a k n f = none_left a f
other_members bytes i to h (r_mem m r ms) a k n f = k (one_framed a.framed (first_member m r (encode_mems ms) n f).name).0

-- each member starts with a name, and has a value
members_named : (bytes : List ℕ) (s : Span) (ms : Mems) (h : Record) → RecordAt bytes s.from s.to h → h.kind ≢ 8 → HeldMems bytes s ms → ⊥
members_named bytes s ms h a k x = other_members bytes s.from s.to h x.values a k x.short x.fills

bare_members : (bytes : List ℕ) (i to : ℕ) (h : Record) (ms : Rmems) → RecordAt bytes i to h → Unframed bytes (end_of h) to → length bytes ≤ 65536 → Fills bytes i to (encode_mems ms) → ⊥
bare_members bytes i to h r_end a u n f = none_left a f
bare_members bytes i to h (r_mem m r ms) a u n f =
    let x = first_member m r (encode_mems ms) n f in
    u _ _ (subst (λ k. Framed bytes k to (kind r) (body r)) (sym (name_ends m a x.name)) x.value.frame)

members_valued : (bytes : List ℕ) (s : Span) (ms : Mems) (h : Record) → RecordAt bytes s.from s.to h → Unframed bytes (end_of h) s.to → HeldMems bytes s ms → ⊥
members_valued bytes s ms h a u x = bare_members bytes s.from s.to h x.values a u x.short x.fills

framed-members : (bytes : List ℕ) (i to d : ℕ) (h g : Record) (ms : Rmems) → RecordAt bytes i to h → RecordAt bytes (end_of h) to g → length bytes ≤ 65536 → Fills bytes i to (encode_mems ms) → RecLimitsMems d ms → LeadsMembers (Named bytes) (Held bytes) (HeldMems bytes) (shown_mems i ms) (Some (i, record { from = end_of g; to = to }))
framed-members bytes i to d h g r_end a b n f l = absurd (none_left a f)
framed-members bytes i to d h g (r_mem m r ms) a b n f l =
    let x = first_member m r (encode_mems ms) n f in
    let v = x.value in
    let c = name_ends m a x.name in
    let e : (end_of g) ≡ past i m + length (encode r) = ends_with r b (subst (λ k. Framed bytes k to (kind r) (body r)) (sym c) v.frame) ∙ ap (λ k. k + length (encode r)) c in (
      x.whole,
      record { place = past i m; from = past i m + 6; value = r; leads = at_member x.whole refl v.whole; shows = refl; depth = d; within = l.1; short = n },
      record { values = ms; fills = subst (λ k. Fills bytes k to (encode_mems ms)) (sym e) v.others; shows = ap (λ k. shown_mems k ms) e; depth = d; within = l.2; short = n },
    )

members_next : (bytes : List ℕ) (s : Span) (ms : Mems) (h g : Record) → RecordAt bytes s.from s.to h → RecordAt bytes (end_of h) s.to g → HeldMems bytes s ms → LeadsMembers (Named bytes) (Held bytes) (HeldMems bytes) ms (Some (s.from, record { from = end_of g; to = s.to }))
members_next bytes s ms h g a b x =
    subst (λ ks. LeadsMembers (Named bytes) (Held bytes) (HeldMems bytes) ks (Some (s.from, record { from = end_of g; to = s.to }))) x.shows
    (framed-members bytes s.from s.to x.depth h g x.values a b x.short x.fills x.within)

-- WHAT STARTS THE SPAN

pub items_valueless : (bytes : List ℕ) (s : Span) (xs : Raws) → Valueless bytes s.from s.to → HeldAll bytes s xs → LeadsItems (Held bytes) (HeldAll bytes) xs None
items_valueless bytes s xs (no_record u) h = items_none bytes s xs u h
items_valueless bytes s xs (bare_name {g = g} a k u) h = absurd (items_unnamed bytes s xs g a k h)

pub members_valueless : (bytes : List ℕ) (s : Span) (ms : Mems) → Valueless bytes s.from s.to → HeldMems bytes s ms → LeadsMembers (Named bytes) (Held bytes) (HeldMems bytes) ms None
members_valueless bytes s ms (no_record u) h = members_none bytes s ms u h
members_valueless bytes s ms (bare_name {g = g} a k u) h = absurd (members_valued bytes s ms g a u h)

pub items_first : {i : ℕ} (bytes : List ℕ) (s : Span) (xs : Raws) (h : Record) → Valued bytes s.from s.to i h → HeldAll bytes s xs → LeadsItems (Held bytes) (HeldAll bytes) xs (Some (s.from, record { from = end_of h; to = s.to }))
items_first bytes s xs h (an_item a k) x = items_next bytes s xs h a x
items_first bytes s xs h (a_member {g = g} a k b) x = absurd (items_unnamed bytes s xs g a k x)

pub members_first : {i : ℕ} (bytes : List ℕ) (s : Span) (ms : Mems) (h : Record) → Valued bytes s.from s.to i h → HeldMems bytes s ms → LeadsMembers (Named bytes) (Held bytes) (HeldMems bytes) ms (Some (s.from, record { from = end_of h; to = s.to }))
members_first bytes s ms h (an_item a k) x = absurd (members_named bytes s ms h a k x)
members_first bytes s ms h (a_member {g = g} a k b) x = members_next bytes s ms g h a b x
